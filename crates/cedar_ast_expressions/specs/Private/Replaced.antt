-- Copies of expressions, with the action replaced by a uid where one is given.
use Rattle.std.specs.Prelude.{◌≡◌, ℕ, List, [], ◌∷◌, Option, Some, None, map, refl}
use Rattle.std.proofs.Common.{ap, Bor}
use Rattle.cedar_value.specs.Datum.{Datum}
use Rattle.cedar_value.specs.declared.uid.Uid.{Uid}
use Rattle.cedar_ast_expressions.specs.declared.operator.UnaryOperator.{UnaryOperator}
use Rattle.cedar_ast_expressions.specs.declared.operator.BinaryOperator.{BinaryOperator}
use Rattle.cedar_ast_expressions.specs.Expression.{Expression, literal, and, or, if_else, unary, binary, set_with, record_with, and_then, entry, expressions_of, entries_of}
use Rattle.cedar_ast_expressions.specs.Keys.{keys_of}
use Rattle.cedar_ast_expressions.specs.Replacement.{replace, replace_all, replace_entries}

abbrev pub replaced_by : Option (Bor Uid) → Expression → Expression
replaced_by None e = e
replaced_by (Some u) e = replace u.now e

abbrev pub replaced_pair : Option (Bor Uid) → List ℕ × Expression → List ℕ × Expression
replaced_pair o p = (p.0, replaced_by o p.1)

pub by_literal : (o : Option (Bor Uid)) (v : Datum) → replaced_by o (literal v) ≡ literal v
by_literal None v = refl
by_literal (Some u) v = refl

pub by_and : (o : Option (Bor Uid)) (a b : Expression) → replaced_by o (and a b) ≡ and (replaced_by o a) (replaced_by o b)
by_and None a b = refl
by_and (Some u) a b = refl

pub by_or : (o : Option (Bor Uid)) (a b : Expression) → replaced_by o (or a b) ≡ or (replaced_by o a) (replaced_by o b)
by_or None a b = refl
by_or (Some u) a b = refl

pub by_if : (o : Option (Bor Uid)) (c a b : Expression) → replaced_by o (if_else c a b) ≡ if_else (replaced_by o c) (replaced_by o a) (replaced_by o b)
by_if None c a b = refl
by_if (Some u) c a b = refl

pub by_unary : (o : Option (Bor Uid)) (op : UnaryOperator) (a : Expression) → replaced_by o (unary op a) ≡ unary op (replaced_by o a)
by_unary None op a = refl
by_unary (Some u) op a = refl

pub by_binary : (o : Option (Bor Uid)) (op : BinaryOperator) (a b : Expression) → replaced_by o (binary op a b) ≡ binary op (replaced_by o a) (replaced_by o b)
by_binary None op a b = refl
by_binary (Some u) op a b = refl

kept : (es : List Expression) → map (replaced_by None) es ≡ es
kept [] = refl
kept (e ∷ es) = ap (λ xs. e ∷ xs) (kept es)

pub kept_pairs : (ps : List (List ℕ × Expression)) → map (replaced_pair None) ps ≡ ps
kept_pairs [] = refl
kept_pairs (p ∷ ps) = ap (λ qs. p ∷ qs) (kept_pairs ps)

replaced_list : (u : Bor Uid) (es : List Expression) → expressions_of (map (replaced_by (Some u)) es) ≡ replace_all u.now (expressions_of es)
replaced_list u [] = refl
replaced_list u (e ∷ es) = ap (and_then (replace u.now e)) (replaced_list u es)

replaced_entries : (u : Bor Uid) (ps : List (List ℕ × Expression)) → entries_of (map (replaced_pair (Some u)) ps) ≡ replace_entries u.now (entries_of ps)
replaced_entries u [] = refl
replaced_entries u (p ∷ ps) = ap (entry p.0 (replace u.now p.1)) (replaced_entries u ps)

pub by_set : (o : Option (Bor Uid)) (es : List Expression) → set_with (expressions_of (map (replaced_by o) es)) ≡ replaced_by o (set_with (expressions_of es))
by_set None es = ap (λ xs. set_with (expressions_of xs)) (kept es)
by_set (Some u) es = ap set_with (replaced_list u es)

pub by_record : (o : Option (Bor Uid)) (ps : List (List ℕ × Expression)) → record_with (entries_of (map (replaced_pair o) ps)) ≡ replaced_by o (record_with (entries_of ps))
by_record None ps = ap (λ qs. record_with (entries_of qs)) (kept_pairs ps)
by_record (Some u) ps = ap record_with (replaced_entries u ps)

pub same_keys : (o : Option (Bor Uid)) (ps : List (List ℕ × Expression)) → keys_of (map (replaced_pair o) ps) ≡ keys_of ps
same_keys o [] = refl
same_keys o (p ∷ ps) = ap (λ ks. p.0 ∷ ks) (same_keys o ps)
