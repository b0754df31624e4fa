-- Statement after statement.
use Rattle.std.proofs.Common.{◌≡◌, refl, sym, ap, subst, ◌∙◌, ℕ, zero, suc, ◌+◌, ◌<◌, Bool, true, false, cond, List, [], ◌∷◌, ◌++◌, length, Ok, append_assoc, length-append, ◌⊎◌, inl, inr, arith}
use Rattle.std.specs.Prelude.{All, Contains, map}
use Rattle.std.specs.List.{list_any}
use Rattle.std.specs.Str.{bytes_eq}
use Rattle.std.proofs.lemmas.Bool.{false_from_ne_true}
use Rattle.std.proofs.lemmas.Map.Keys.{IsDistinct-push}
use Rattle.std.proofs.lemmas.Map.Made.{AllPairs-from_IsDistinct, IsDistinct-from_AllPairs}
use Rattle.std.proofs.lemmas.Map.Views.{Contains-from_any}
use Rattle.std.proofs.lemmas.Slice.Eq.{bytes_eq-Decides}
use Rattle.cedar_value.specs.Private.Equality.{text_equivalence}
use Rattle.std.proofs.lemmas.List.Elements.{All-append, All-cons, All-nil, Contains-append_cases}
use Rattle.cedar_ext.specs.declared.language.Language.{Language}
use Rattle.cedar_ast.specs.declared.statement.Statement.{Statement as Entry}
use Rattle.cedar_ast.specs.declared.statement.Statement.TheVariants as entry
use Rattle.cedar_ast.specs.PolicyTree.{PolicyTree}
use Rattle.cedar_ast.specs.PolicyTree.{TemplateTree}
use Rattle.cedar_ast_expressions.specs.Keys.{AreDistinct}
use Rattle.cedar_ast.specs.PolicySetTree.{PolicySetTree, no_policies, entered, ids_in, ids_of, id_of}
use Rattle.cedar_parser_tokens.specs.Marks.{Marks}
use Rattle.cedar_parser_statements.specs.Statements.{Statement, Statements, end, next}
use Rattle.cedar_parser_tree.specs.StatementTree.{StatementTree}
use Rattle.cedar_parser_limits.specs.StatementMeaning.{has_slot, to_policy, to_template, statement_of, id_at, entered_from, ids_from}
use Rattle.cedar_parser_limits.specs.StatementLimits.{IsWithinLimits}
use Rattle.cedar_parser_statements.specs.StatementReading as r
use Rattle.cedar_parser_tokens.proofs.MarkLemmas.{none_left}
use Rattle.cedar_parser_statements.proofs.StatementsSound.{statement_is}
use Rattle.cedar_parser_statements.proofs.StatementsComplete.{statement_same}
use Rattle.cedar_parser.specs.PolicyText.{ArePolicies}

pub All-one : (l : Language) (s : StatementTree) → IsWithinLimits l s → All (IsWithinLimits l) (s ∷ [])
All-one l s w = All-cons (IsWithinLimits l) s [] w (All-nil (IsWithinLimits l))

-- one more statement after others
pub one_behind : (d : ℕ) (ts us vs : Marks) (ss : List StatementTree) (s : StatementTree) → Statements d ts ss us → Statement d us s vs → Statements d ts (ss ++ s ∷ []) vs
one_behind d ts us vs [] s end h = next h end
one_behind d ts us vs (x ∷ ss) s (next i r) h = next i (one_behind d _ us vs ss s r h)

-- ---- ids

contains_one : (y x : List ℕ) → Contains (y ∷ []) x → y ≡ x
contains_one y x (zero, lt, e) = e
contains_one y x (suc k, lt, e) = absurd (omega arith)

contains_first : (y x : List ℕ) (xs : List (List ℕ)) → y ≡ x → Contains (x ∷ xs) y
contains_first y x xs e = (0, omega arith, sym e)

contains_later : (x y : List ℕ) (xs : List (List ℕ)) → Contains xs y → Contains (x ∷ xs) y
contains_later x y xs (k, lt, e) = (suc k, omega arith, e)

distinct_then : (xs : List (List ℕ)) (y : List ℕ) → AreDistinct xs → (Contains xs y → ⊥) → AreDistinct (xs ++ y ∷ [])
distinct_then xs y d none =
    AllPairs-from_IsDistinct bytes_eq-Decides (xs ++ y ∷ []) (IsDistinct-push text_equivalence xs y (IsDistinct-from_AllPairs bytes_eq-Decides xs d) free)
  where
    free : list_any (bytes_eq y) xs ≡ false
    free = false_from_ne_true _ (λ found. none (Contains-from_any (λ x z. (bytes_eq-Decides x z).0) y xs found))

-- ---- what is in a list

pub in_left : (xs ys : List (List ℕ)) (x : List ℕ) → Contains xs x → Contains (xs ++ ys) x
in_left [] ys x c = absurd (omega (arith, c.1))
in_left (y ∷ xs) ys x (zero, lt, e) = (0, omega arith, e)
in_left (y ∷ xs) ys x (suc k, lt, e) = contains_later y x (xs ++ ys) (in_left xs ys x (k, omega arith, e))

pub in_right : (xs ys : List (List ℕ)) (x : List ℕ) → Contains ys x → Contains (xs ++ ys) x
in_right [] ys x c = c
in_right (y ∷ xs) ys x c = contains_later y x (xs ++ ys) (in_right xs ys x c)

pub in_one : (y x : List ℕ) → y ≡ x → Contains (y ∷ []) x
in_one y x e = (0, omega arith, e)

-- ---- a set with one more

ids_of-one : (ps : List PolicyTree) (p : PolicyTree) → ids_of (ps ++ p ∷ []) ≡ ids_of ps ++ p.id ∷ []
ids_of-one [] p = refl
ids_of-one (q ∷ ps) p = ap (λ (xs : List (List ℕ)). q.id ∷ xs) (ids_of-one ps p)

templates-one : (ts : List TemplateTree) (t : TemplateTree) → map (λ (x : TemplateTree). x.id) (ts ++ t ∷ []) ≡ map (λ (x : TemplateTree). x.id) ts ++ t.id ∷ []
templates-one [] t = refl
templates-one (q ∷ ts) t = ap (λ (xs : List (List ℕ)). q.id ∷ xs) (templates-one ts t)

pub entered_old : (s : PolicySetTree) (x : Entry) (y : List ℕ) → Contains (ids_in s) y → Contains (ids_in (entered s x)) y
entered_old s (entry.Policy p) y c =
    let old = ids_of s.policies in
    let templates = map (λ (x : TemplateTree). x.id) s.templates in
    subst (λ (ids : List (List ℕ)). Contains (ids ++ templates) y) (sym (ids_of-one s.policies p))
    (elim (Contains-append_cases old templates y c) [ inl h ↦ in_left (old ++ p.id ∷ []) templates y (in_left old (p.id ∷ []) y h) | inr h ↦ in_right (old ++ p.id ∷ []) templates y h ])
entered_old s (entry.Template t) y c =
    let old = ids_of s.policies in
    let templates = map (λ (x : TemplateTree). x.id) s.templates in
    subst (λ (ids : List (List ℕ)). Contains (old ++ ids) y) (sym (templates-one s.templates t))
    (elim (Contains-append_cases old templates y c) [ inl h ↦ in_left old (templates ++ t.id ∷ []) y h | inr h ↦ in_right old (templates ++ t.id ∷ []) y (in_left templates (t.id ∷ []) y h) ])

pub entered_new : (s : PolicySetTree) (x : Entry) (y : List ℕ) → id_of x ≡ y → Contains (ids_in (entered s x)) y
entered_new s (entry.Policy p) y e =
    let old = ids_of s.policies in
    let templates = map (λ (x : TemplateTree). x.id) s.templates in
    subst (λ (ids : List (List ℕ)). Contains (ids ++ templates) y) (sym (ids_of-one s.policies p)) (in_left (old ++ p.id ∷ []) templates y (in_right old (p.id ∷ []) y (in_one p.id y e)))
entered_new s (entry.Template t) y e =
    let old = ids_of s.policies in
    let templates = map (λ (x : TemplateTree). x.id) s.templates in
    subst (λ (ids : List (List ℕ)). Contains (old ++ ids) y) (sym (templates-one s.templates t)) (in_right old (templates ++ t.id ∷ []) y (in_right templates (t.id ∷ []) y (in_one t.id y e)))

either_one : (old more : List (List ℕ)) (z y : List ℕ) → (Contains old y ⊎ Contains (z ∷ []) y) → (Contains old y → Contains more y) → Contains more y ⊎ (z ≡ y)
either_one old more z y (inl h) f = inl (f h)
either_one old more z y (inr h) f = inr (contains_one z y h)

pub entered_only : (s : PolicySetTree) (x : Entry) (y : List ℕ) → Contains (ids_in (entered s x)) y → Contains (ids_in s) y ⊎ (id_of x ≡ y)
entered_only s (entry.Policy p) y c =
    let old = ids_of s.policies in
    let templates = map (λ (x : TemplateTree). x.id) s.templates in
    let d = subst (λ (ids : List (List ℕ)). Contains (ids ++ templates) y) (ids_of-one s.policies p) c in
    elim (Contains-append_cases (old ++ p.id ∷ []) templates y d) [
      | inl h ↦ either_one old (old ++ templates) p.id y (Contains-append_cases old (p.id ∷ []) y h) (λ g. in_left old templates y g)
      | inr h ↦ inl (in_right old templates y h)
    ]
entered_only s (entry.Template t) y c =
    let old = ids_of s.policies in
    let templates = map (λ (x : TemplateTree). x.id) s.templates in
    let d = subst (λ (ids : List (List ℕ)). Contains (old ++ ids) y) (templates-one s.templates t) c in
    elim (Contains-append_cases old (templates ++ t.id ∷ []) y d) [
      | inl h ↦ inl (in_left old templates y h)
      | inr h ↦ either_one templates (old ++ templates) t.id y (Contains-append_cases templates (t.id ∷ []) y h) (λ g. in_right old templates y g)
    ]

id_kept : (b : Bool) (id : List ℕ) (s : StatementTree) → id_of (cond b (entry.Template (to_template id s)) (entry.Policy (to_policy id s))) ≡ id
id_kept true id s = refl
id_kept false id s = refl

pub id_of_statement : (n : ℕ) (s : StatementTree) → id_of (statement_of n s) ≡ id_at n s
id_of_statement n s = id_kept (has_slot s.scope) (id_at n s) s

-- ---- statements, entered one after another

pub entered_more : (set : PolicySetTree) (n : ℕ) (ss : List StatementTree) (s : StatementTree) → entered_from set n (ss ++ s ∷ []) ≡ entered (entered_from set n ss) (statement_of (n + length ss) s)
entered_more set n [] s = ap (λ m. entered set (statement_of m s)) (let e : n ≡ n + 0 = omega arith in e)
entered_more set n (x ∷ ss) s =
    entered_more (entered set (statement_of n x)) (n + 1) ss s
    ∙ ap (λ m. entered (entered_from (entered set (statement_of n x)) (n + 1) ss) (statement_of m s)) (let e : (n + 1) + length ss ≡ n + length (x ∷ ss) = omega arith in e)

pub ids-append : (n : ℕ) (a b : List StatementTree) → ids_from n (a ++ b) ≡ ids_from n a ++ ids_from (n + length a) b
ids-append n [] b = ap (λ m. ids_from m b) (let e : n ≡ n + 0 = omega arith in e)
ids-append n (x ∷ a) b =
    ap (λ (xs : List (List ℕ)). id_at n x ∷ xs) (ids-append (n + 1) a b ∙ ap (λ m. ids_from (n + 1) a ++ ids_from m b) (let e : (n + 1) + length a ≡ n + length (x ∷ a) = omega arith in e))

-- an id of the set is one of the statements', and the other way round
pub from_set : (set : PolicySetTree) (n : ℕ) (ss : List StatementTree) (y : List ℕ) → Contains (ids_in (entered_from set n ss)) y → Contains (ids_in set) y ⊎ Contains (ids_from n ss) y
from_set set n [] y c = inl c
from_set set n (s ∷ ss) y c =
    elim (from_set (entered set (statement_of n s)) (n + 1) ss y c) [
      | inl h ↦ elim (entered_only set (statement_of n s) y h) [ inl g ↦ inl g | inr e ↦ inr (contains_first y (id_at n s) (ids_from (n + 1) ss) (sym e ∙ id_of_statement n s)) ]
      | inr h ↦ inr (contains_later (id_at n s) y (ids_from (n + 1) ss) h)
    ]

stays : (set : PolicySetTree) (n : ℕ) (ss : List StatementTree) (y : List ℕ) → Contains (ids_in set) y → Contains (ids_in (entered_from set n ss)) y
stays set n [] y c = c
stays set n (s ∷ ss) y c = stays (entered set (statement_of n s)) (n + 1) ss y (entered_old set (statement_of n s) y c)

pub to_set : (set : PolicySetTree) (n : ℕ) (ss : List StatementTree) (y : List ℕ) → Contains (ids_from n ss) y → Contains (ids_in (entered_from set n ss)) y
to_set set n [] y c = absurd (omega (arith, c.1))
to_set set n (s ∷ ss) y (zero, lt, e) = stays (entered set (statement_of n s)) (n + 1) ss y (entered_new set (statement_of n s) y (id_of_statement n s ∙ e))
to_set set n (s ∷ ss) y (suc i, lt, e) = to_set (entered set (statement_of n s)) (n + 1) ss y (i, omega arith, e)

no_ids : (y : List ℕ) → Contains (ids_in no_policies) y → ⊥
no_ids y c = omega (arith, c.1)

pub from_statements : (ss : List StatementTree) (y : List ℕ) → Contains (ids_in (entered_from no_policies 0 ss)) y → Contains (ids_from 0 ss) y
from_statements ss y c = elim (from_set no_policies 0 ss y c) [ inl h ↦ absurd (no_ids y h) | inr h ↦ h ]

-- Each reading of the whole goes on after the statements that were read.
pub record GoesOn (d : ℕ) (us : Marks) (before all : List StatementTree) : Type 0 where
  pub behind : List StatementTree
  pub reading : Statements d us behind []
  pub whole : all ≡ before ++ behind

-- From ts to us there are so many statements, this is the set of them, and each reading of all tokens begins with them.
pub record IsReadSoFar (l : Language) (ts us : Marks) (count : ℕ) (set : PolicySetTree) : Type 0 where
  pub are_policies : ArePolicies l ts us set
  pub all : length are_policies.statements ≡ count
  pub only : (d : ℕ) (ss : List StatementTree) → Statements d ts ss [] → GoesOn d us are_policies.statements ss

pub read_none : (l : Language) (ts : Marks) (set : PolicySetTree) → set ≡ no_policies → IsReadSoFar l ts ts 0 set
read_none l ts set e = record {
  are_policies = record { statements = []; reading = end; limits = All-nil (IsWithinLimits l); meaning = e; distinct = λ i j d less within. omega arith };
  all = refl;
  only = λ d ss h. record { behind = ss; reading = h; whole = refl };
}

-- the statement that comes first after
pub record ComesNext (d : ℕ) (us : Marks) (ss : List StatementTree) : Type 0 where
  pub first : StatementTree
  pub others : List StatementTree
  pub rest : Marks
  pub reading : Statement d us first rest
  pub readings : Statements d rest others []
  pub whole : ss ≡ first ∷ others

pub comes_next : (d : ℕ) (us : Marks) (ss : List StatementTree) → 0 < length us → Statements d us ss [] → ComesNext d us ss
comes_next d us ss some end = absurd (omega arith)
comes_next d us ss some (next {us = vs} {s = s} {ss = others} i h) = record { first = s; others = others; rest = vs; reading = i; readings = h; whole = refl }

pub goes_more : (d : ℕ) (us vs : Marks) (before all : List StatementTree) (s : StatementTree) → 0 < length us → r.statement 101 us ≡ Ok (s, vs) → GoesOn d us before all → GoesOn d vs (before ++ s ∷ []) all
goes_more d us vs before all s some e g =
    let n = comes_next d us g.behind some g.reading in
    let same = statement_same d 101 us n.first s n.rest vs n.reading e in
    record {
      behind = n.others;
      reading = subst (λ (xs : Marks). Statements d xs n.others []) (sym same.1) n.readings;
      whole = g.whole ∙ ap (λ (xs : List StatementTree). before ++ xs) n.whole ∙ ap (λ (x : StatementTree). before ++ x ∷ n.others) (sym same.0) ∙ sym (append_assoc before (s ∷ []) n.others);
    }

pub read_more : (l : Language) (ts us vs : Marks) (n : ℕ) (set more : PolicySetTree) (s : StatementTree) → IsReadSoFar l ts us n set → 0 < length us → r.statement 101 us ≡ Ok (s, vs) → IsWithinLimits l s
    → (Contains (ids_in set) (id_at n s) → ⊥) → more ≡ entered set (statement_of n s) → IsReadSoFar l ts vs (n + 1) more
read_more l ts us vs n set more s so some i w none e =
    let a = so.are_policies in
    let count : n ≡ 0 + length a.statements = omega (arith, so.all) in
    let fresh : Contains (ids_from 0 a.statements) (id_at (0 + length a.statements) s) → ⊥ =
    λ c. none (subst (λ (q : PolicySetTree). Contains (ids_in q) (id_at n s)) (sym a.meaning) (to_set no_policies 0 a.statements (id_at n s) (subst (λ m. Contains (ids_from 0 a.statements) (id_at m s)) (sym count) c))) in
    record {
      are_policies = record {
        statements = a.statements ++ s ∷ [];
        reading = one_behind 101 ts us vs a.statements s a.reading (statement_is 101 us vs s i);
        limits = All-append (IsWithinLimits l) a.statements (s ∷ []) a.limits (All-one l s w);
        meaning = e ∙ ap (λ (q : PolicySetTree). entered q (statement_of n s)) a.meaning ∙ ap (λ m. entered (entered_from no_policies 0 a.statements) (statement_of m s)) count ∙ sym (entered_more no_policies 0 a.statements s);
        distinct = subst AreDistinct (sym (ids-append 0 a.statements (s ∷ []))) (distinct_then (ids_from 0 a.statements) (id_at (0 + length a.statements) s) a.distinct fresh);
      };
      all = omega (arith, so.all, length-append a.statements (s ∷ []));
      only = λ d ss h. goes_more d us vs a.statements ss s some i (so.only d ss h);
    }

-- no token is left
pub read_all : (l : Language) (ts us : Marks) (n : ℕ) (ps : PolicySetTree) → IsReadSoFar l ts us n ps → length us ≡ 0 → ArePolicies l ts [] ps
read_all l ts us n ps so e = subst (λ (xs : Marks). ArePolicies l ts xs ps) (none_left us e) so.are_policies
