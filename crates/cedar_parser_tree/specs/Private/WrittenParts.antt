-- Each part of an expression as written has fewer parts than the whole.
use Rattle.std.specs.Prelude.{◌≤◌, max, List, [], ◌∷◌}
use Rattle.std.proofs.Common.{arith}
use denote.Param.Weighed.{most}
use Rattle.cedar_parser_tree.specs.Written.{parts, link_parts, field_parts}
use Rattle.cedar_parser_tree.specs.declared.written.Link.{Link}
use Rattle.cedar_parser_tree.specs.declared.written.Link.TheVariants.{Operand, Attribute, Method}
use Rattle.cedar_parser_tree.specs.declared.written.Field.{Field}
use Rattle.cedar_parser_tree.specs.declared.written.WrittenKind.{WrittenKind}
use Rattle.cedar_parser_tree.specs.declared.written.WrittenKind.TheVariants.{Chain, Record}
use Rattle.cedar_parser_tree.specs.declared.series.Series.TheDeep.{deep-WrittenKind, deep-Link, deep-Field}
use Rattle.cedar_parser_tree.specs.WrittenKind.{written_of, links_of, fields_of}

-- no link is larger than all of them together
most_links : (ls : List Link) → most deep-Link ls ≤ link_parts (links_of ls)
most_links [] = omega arith
most_links (Operand sign a ∷ ls) = omega (arith, most_links ls)
most_links (Attribute c ∷ ls) = omega (arith, most_links ls)
most_links (Method name ms ∷ ls) = omega (arith, most_links ls)

most_fields : (fs : List Field) → most deep-Field fs ≤ field_parts (fields_of fs)
most_fields [] = omega arith
most_fields (f ∷ fs) = omega (arith, most_fields fs)

pub deep_le-parts : (k : WrittenKind) → max (deep-WrittenKind k) 0 ≤ parts (written_of k)
deep_le-parts (Chain a ls) = omega (arith, most_links ls.items)
deep_le-parts (Record fs) = omega (arith, most_fields fs.items)
deep_le-parts _ = omega arith
