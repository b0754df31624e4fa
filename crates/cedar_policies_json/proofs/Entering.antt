-- Statements are entered one after another.
use Rattle.std.proofs.Common.{◌≡◌, refl, sym, ap, subst, ◌∙◌, ℕ, zero, suc, ◌+◌, ◌<◌, Bool, true, false, cond, eqb, List, [], ◌∷◌, ◌++◌, length, take, get_or, map, Option, Some, None, ◌⊎◌, inl, inr, Result, Ok, Err, append_assoc, length-append, arith}
use Rattle.std.specs.Prelude.{All, Contains, IfErr, slice_get}
use Rattle.std.specs.List.{list_any}
use Rattle.std.specs.Str.{bytes_eq}
use Rattle.std.proofs.lemmas.Bool.{eqb-true, false_from_ne_true}
use Rattle.std.proofs.lemmas.Map.Keys.{IsDistinct-push}
use Rattle.std.proofs.lemmas.Map.Made.{AllPairs-from_IsDistinct, IsDistinct-from_AllPairs}
use Rattle.std.proofs.lemmas.Map.Views.{Contains-from_any}
use Rattle.std.proofs.lemmas.Slice.Eq.{bytes_eq-Decides}
use Rattle.std.proofs.lemmas.List.{map-append}
use Rattle.std.proofs.lemmas.List.Elements.{All-append, All-cons, All-nil}
use Rattle.std.proofs.Math.Seq.{take-append_seam}
use Rattle.cedar_value.specs.Private.Equality.{text_equivalence}
use Rattle.cedar_ext.specs.declared.language.Language.{Language}
use Rattle.cedar_ast.specs.declared.statement.Statement.{Statement as Entry}
use Rattle.cedar_ast.specs.declared.statement.Statement.TheVariants as entry
use Rattle.cedar_ast.specs.PolicySetTree.{PolicySetTree, no_policies, entered, ids_in, id_of}
use Rattle.cedar_ast_expressions.specs.Keys.{AreDistinct}
use Rattle.cedar_parser.proofs.TextLemmas.{entered_old, entered_new, entered_only}
use Rattle.cedar_parser_limits.specs.StatementLimits.{IsWithinLimits, Breaks}
use Rattle.cedar_parser_limits.specs.StatementMeaning.{has_slot, to_policy, to_template, to_statement}
use Rattle.cedar_parser_tokens.specs.declared.parse_fault.ParseFault.{ParseFault}
use Rattle.cedar_parser_tokens.specs.declared.parse_fault.ParseFault.TheVariants as f
use Rattle.cedar_parser_tree.specs.StatementTree.{StatementTree}
use Rattle.cedar_policies_json.specs.declared.named_statement.NamedStatement.{NamedStatement}
use Rattle.cedar_policies_json.specs.PolicyFiles.{ArePolicies, HasStatementFault, entered_all, ids_of}
use Rattle.cedar_policies_json.specs.Private.Entering.{RefusesAdd, RefusesEntry, RefusesSet, RefusesWhere, refusal_at, refusal_for}

-- ---- ids

id_kept : (b : Bool) (id : List ℕ) (s : StatementTree) → id_of (cond b (entry.Template (to_template id s)) (entry.Policy (to_policy id s))) ≡ id
id_kept true id s = refl
id_kept false id s = refl

pub id_of_statement : (id : List ℕ) (s : StatementTree) → id_of (to_statement id s) ≡ id
id_of_statement id s = id_kept (has_slot s.scope) id s

-- the policy or template of a statement
abbrev pub entry_of : NamedStatement → Entry
entry_of n = to_statement n.id n.statement

entered_more : (set : PolicySetTree) (ns : List NamedStatement) (n : NamedStatement) → entered_all set (ns ++ n ∷ []) ≡ entered (entered_all set ns) (entry_of n)
entered_more set [] n = refl
entered_more set (x ∷ ns) n = entered_more (entered set (entry_of x)) ns n

-- an id of the set is one of the statements', and the other way round
from_set : (set : PolicySetTree) (ns : List NamedStatement) (y : List ℕ) → Contains (ids_in (entered_all set ns)) y → Contains (ids_in set) y ⊎ Contains (ids_of ns) y
from_set set [] y c = inl c
from_set set (n ∷ ns) y c =
    elim (from_set (entered set (entry_of n)) ns y c) [
      | inl h ↦ elim (entered_only set (entry_of n) y h) [ inl g ↦ inl g | inr e ↦ inr (0, omega arith, sym (id_of_statement n.id n.statement) ∙ e) ]
      | inr h ↦ inr (suc h.0, omega (arith, h.1), h.2)
    ]

stays : (set : PolicySetTree) (ns : List NamedStatement) (y : List ℕ) → Contains (ids_in set) y → Contains (ids_in (entered_all set ns)) y
stays set [] y c = c
stays set (n ∷ ns) y c = stays (entered set (entry_of n)) ns y (entered_old set (entry_of n) y c)

to_set : (set : PolicySetTree) (ns : List NamedStatement) (y : List ℕ) → Contains (ids_of ns) y → Contains (ids_in (entered_all set ns)) y
to_set set [] y c = absurd (omega (arith, c.1))
to_set set (n ∷ ns) y (zero, lt, e) = stays (entered set (entry_of n)) ns y (entered_new set (entry_of n) y (id_of_statement n.id n.statement ∙ e))
to_set set (n ∷ ns) y (suc i, lt, e) = to_set (entered set (entry_of n)) ns y (i, omega arith, e)

from_statements : (ns : List NamedStatement) (y : List ℕ) → Contains (ids_in (entered_all no_policies ns)) y → Contains (ids_of ns) y
from_statements ns y c = elim (from_set no_policies ns y c) [ inl h ↦ absurd (omega (arith, h.1)) | inr h ↦ h ]

distinct_then : (xs : List (List ℕ)) (y : List ℕ) → AreDistinct xs → (Contains xs y → ⊥) → AreDistinct (xs ++ y ∷ [])
distinct_then xs y d none =
    AllPairs-from_IsDistinct bytes_eq-Decides (xs ++ y ∷ []) (IsDistinct-push text_equivalence xs y (IsDistinct-from_AllPairs bytes_eq-Decides xs d) free)
  where
    free : list_any (bytes_eq y) xs ≡ false
    free = false_from_ne_true _ (λ found. none (Contains-from_any (λ x z. (bytes_eq-Decides x z).0) y xs found))

-- ---- a set with one more

pub none_entered : (l : Language) (set : PolicySetTree) → set ≡ no_policies → ArePolicies l [] set
none_entered l set e = record { limits = All-nil (λ n. IsWithinLimits l n.statement); distinct = λ i j d less within. omega arith; meaning = e }

pub one_entered : (l : Language) (ns : List NamedStatement) (n : NamedStatement) (set more : PolicySetTree) → ArePolicies l ns set → IsWithinLimits l n.statement → (Contains (ids_in set) n.id → ⊥) → more ≡ entered set (entry_of n)
    → ArePolicies l (ns ++ n ∷ []) more
one_entered l ns n set more a w none e =
    let P = λ (n : NamedStatement). IsWithinLimits l n.statement in
    record {
      limits = All-append P ns (n ∷ []) a.limits (All-cons P n [] w (All-nil P));
      distinct = subst AreDistinct (sym (map-append (λ (n : NamedStatement). n.id) ns (n ∷ [])))
          (distinct_then (ids_of ns) n.id a.distinct (λ c. none (subst (λ (s : PolicySetTree). Contains (ids_in s) n.id) (sym a.meaning) (to_set no_policies ns n.id c))));
      meaning = e ∙ ap (λ (s : PolicySetTree). entered s (entry_of n)) a.meaning ∙ sym (entered_more no_policies ns n);
    }

-- ---- a statement that is refused

pub refused_add : (l : Language) (set : PolicySetTree) (n : NamedStatement) (y : Entry) → id_of y ≡ n.id → (x : ParseFault) → RefusesAdd set y x → RefusesEntry l set n x
refused_add l set n y e f.OutOfMemory h = tt
refused_add l set n y e (f.DuplicateId at) h = subst (λ id. Contains (ids_in set) id) e h
refused_add l set n y e _ h = absurd h

pub not_entered : (l : Language) (set : PolicySetTree) (n : NamedStatement) (y : Entry) (r : Result (Unit {0}) ParseFault) → id_of y ≡ n.id → IfErr r (RefusesAdd set y) → IfErr r (RefusesEntry l set n)
not_entered l set n y (Ok u) e h = tt
not_entered l set n y (Err x) e h = refused_add l set n y e x h

refused_by : (P : Type 0) (n : ℕ) (b : Bool) → eqb n 204 ≡ b → (n ≡ 204 → P) → RefusesWhere P (cond b (f.DuplicateId 0) f.OutOfMemory)
refused_by P n true e h = h (eqb-true n 204 e)
refused_by P n false e h = tt

pub refused_where : (P : Type 0) (n : ℕ) → (n ≡ 204 → P) → RefusesWhere P (refusal_for n)
refused_where P n h = refused_by P n (eqb n 204) refl h

-- a statement that is judged to break something is not entered
pub judged : (l : Language) (set : PolicySetTree) (n : NamedStatement) (x : ParseFault) → Breaks l n.statement x → RefusesEntry l set n x
judged l set n f.OutOfMemory h = tt
judged l set n (f.DuplicateId at) h = absurd h
judged l set n _ h = h

seam : (ns : List NamedStatement) (n : NamedStatement) (rest : List NamedStatement) → slice_get (ns ++ n ∷ rest) (length ns) ≡ Some n
seam [] n rest = refl
seam (x ∷ ns) n rest = seam ns n rest

pub refused_at : (l : Language) (ns rest all : List NamedStatement) (n : NamedStatement) (set : PolicySetTree) (position : ℕ) → ns ++ n ∷ rest ≡ all → position ≡ length ns → ArePolicies l ns set → (x : ParseFault) → RefusesEntry l set n x
    → RefusesSet l all (refusal_at position x)
refused_at l ns rest all n set position whole at a x h = go x h
  where
    here : slice_get all position ≡ Some n
    here = ap (slice_get all) at ∙ ap (λ (xs : List NamedStatement). slice_get xs (length ns)) (sym whole) ∙ seam ns n rest

    before : take position all ≡ ns
    before = ap (λ k. take k all) at ∙ ap (λ (xs : List NamedStatement). take (length ns) xs) (sym whole) ∙ take-append_seam ns (n ∷ rest)

    there : (x : ParseFault) → HasStatementFault l ns n x → HasStatementFault l (take position all) n x
    there x h = subst (λ (xs : List NamedStatement). HasStatementFault l xs n x) (sym before) h

    go : (x : ParseFault) → RefusesEntry l set n x → RefusesSet l all (refusal_at position x)
    go f.OutOfMemory h = tt
    go (f.DuplicateId at) h = record { statement = n; at = here; has = there (f.DuplicateId at) (from_statements ns n.id (subst (λ (s : PolicySetTree). Contains (ids_in s) n.id) a.meaning h)) }
    go x h = record { statement = n; at = here; has = there x h }
