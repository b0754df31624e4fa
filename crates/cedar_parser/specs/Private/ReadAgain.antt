-- Which texts are read a second time.
use Rattle.std.specs.Prelude.{Bool, true, false, Result, Ok, Err}
use Rattle.cedar_ext.specs.declared.language.Language.{Language}
use Rattle.cedar_ext.specs.declared.language.Language.TheVariants.{Profile, Cedar4}
use Rattle.cedar_ast.specs.PolicySetTree.{PolicySetTree}
use Rattle.cedar_parser_tokens.specs.declared.parse_fault.ParseFault.{ParseFault}
use Rattle.cedar_parser_tokens.specs.declared.parse_fault.ParseFault.TheVariants as f

-- whether the normal tokens of a text are read after those that it has, which gave this
abbrev pub is_read_again : Language → Result PolicySetTree ParseFault → Bool
is_read_again Profile r = false
is_read_again Cedar4 (Ok set) = false
is_read_again Cedar4 (Err f.OutOfMemory) = false
is_read_again Cedar4 (Err x) = true
