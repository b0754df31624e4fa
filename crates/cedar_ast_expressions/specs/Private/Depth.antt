-- How deep an expression nests, and lists of expressions and of entries.
use Rattle.std.specs.Prelude.{◌≤◌, ◌+◌, ◌*◌, ℕ, suc, max, List, [], ◌∷◌}
use Rattle.std.proofs.Common.{arith}
use denote.Param.Weighed.{most}
use Rattle.cedar_ast_expressions.specs.Expression.{Expression, literal, variable, and, or, if_else, unary, binary, set_with, record_with, Expressions, no_more, and_then, Entries, no_entries, entry, expressions_of, entries_of}

abbrev mutual
  pub depth : Expression → ℕ
  depth (literal d) = 0
  depth (variable x) = 0
  depth (and a b) = suc (max (depth a) (depth b))
  depth (or a b) = suc (max (depth a) (depth b))
  depth (if_else c a b) = suc (max (depth c) (max (depth a) (depth b)))
  depth (unary op a) = suc (depth a)
  depth (binary op a b) = suc (max (depth a) (depth b))
  depth (set_with es) = suc (all_depth es)
  depth (record_with fs) = suc (entries_depth fs)

  pub all_depth : Expressions → ℕ
  all_depth no_more = 0
  all_depth (and_then e es) = max (suc (depth e)) (all_depth es)

  pub entries_depth : Entries → ℕ
  entries_depth no_entries = 0
  entries_depth (entry k e fs) = max (suc (depth e)) (entries_depth fs)

abbrev pub list_depth : List Expression → ℕ
list_depth es = all_depth (expressions_of es)

abbrev pub pairs_depth : List (List ℕ × Expression) → ℕ
pairs_depth ps = entries_depth (entries_of ps)

pub most_members : (es : List Expression) → most (λ e. depth e + 1) es ≤ list_depth es
most_members [] = omega arith
most_members (e ∷ es) = omega (arith, most_members es)

pub most_entries : (size : List ℕ × Expression → ℕ) → ((p : List ℕ × Expression) → size p ≤ depth p.1 + 1) → (ps : List (List ℕ × Expression)) → most size ps ≤ pairs_depth ps
most_entries size low [] = omega arith
most_entries size low (p ∷ ps) = omega (arith, most_entries size low ps, low p)

pub most_doubled : (size : Expression → ℕ) → ((e : Expression) → size e ≤ 2 * (depth e + 1)) → (es : List Expression) → most size es ≤ 2 * list_depth es
most_doubled size low [] = omega arith
most_doubled size low (e ∷ es) = omega (arith, most_doubled size low es, low e)
