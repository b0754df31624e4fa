-- Lists of parts, one by one.
use Rattle.std.specs.Prelude.{IsSome}
use Rattle.std.proofs.Common.{◌≡◌, refl, sym, ap, subst, ◌∙◌, false, ℕ, zero, suc, ◌+◌, ◌<◌, ◌≤◌, min, max, List, [], ◌∷◌, ◌++◌, length, get_or, take, drop, drop-cons, add-one, fold, map, Option, Some, None, arith}
use Rattle.std.proofs.lemmas.List.{take_all}
use Rattle.cedar_value.specs.Datum.{boolean}
use Rattle.cedar_ast_expressions.specs.Keys.{keys_of}
use Rattle.cedar_ext.specs.declared.extension.ExtensionType.{ExtensionType}
use Rattle.cedar_ext.specs.declared.unary_method.UnaryMethod.{UnaryMethod}
use Rattle.cedar_ast_expressions.specs.declared.operator.UnaryOperator.TheVariants as operator
use Rattle.cedar_parser_limits.specs.declared.functions.Method.TheVariants.{IsEmpty, Unary, Binary}
use Rattle.cedar_ast_expressions.specs.declared.operator.BinaryOperator.{BinaryOperator}
use Rattle.cedar_parser_limits.specs.declared.size.Size.{Size}
use Rattle.cedar_parser_limits.specs.Private.Capped.{capped}
use Rattle.cedar_ast.specs.Condition.{entity_literal}
use Rattle.cedar_parser_tokens.specs.declared.content.WrittenUid.{WrittenUid}
use Rattle.cedar_ast_expressions.specs.Expression as e
use Rattle.cedar_ast_expressions.specs.Expression.{Expression, entries_of}
use Rattle.cedar_ext.specs.declared.language.Language.{Language}
use Rattle.cedar_parser_limits.specs.declared.side_condition.SideCondition.{SideCondition}
use Rattle.cedar_parser_limits.specs.declared.side_condition.SideCondition.TheVariants.{Strings}
use Rattle.cedar_parser_tree.specs.declared.written.Field.{Field}
use Rattle.cedar_parser_tree.specs.declared.written.Link.{Link}
use Rattle.cedar_parser_tree.specs.declared.written.Link.TheVariants.{Operand, Attribute, Method}
use Rattle.cedar_parser_tree.specs.Written.{Written, Fields, field, parts, link_parts, member_parts, field_parts, members_of}
use Rattle.cedar_parser_tree.specs.WrittenKind.{links_of, fields_of}
use Rattle.cedar_parser_tokens.specs.Content.{Content, text_of}
use Rattle.cedar_parser_tokens.proofs.MarkLemmas.{take_next}
use Rattle.cedar_parser_tokens.specs.Names.{to_uid}
use Rattle.cedar_parser_limits.specs.Meaning.{to_expression, to_expressions, to_entries, grouped, applied, called}
use Rattle.cedar_parser_limits.specs.Limits.{KeepLinks, KeepMembers, KeepFields, Keeps, count_of, keys_in, nothing, both, leaf, size_of, size_of_all, size_of_entries}
use Rattle.cedar_parser_limits.specs.Private.Parts.{KeepLink, KeepField, behind, pairs_of}

-- how many parts a link has
abbrev pub link_weight : Link → ℕ
link_weight (Operand sign a) = parts a
link_weight (Attribute c) = 0
link_weight (Method name ms) = suc (member_parts (members_of ms))

-- ---- the parts from a place on

pub from_place : {A : Type 0} (xs : List A) (i : ℕ) (x : A) → i < length xs → x ≡ get_or xs i x → drop i xs ≡ x ∷ drop (i + 1) xs
from_place xs i x lt e = drop-cons xs i x lt ∙ ap (λ y. y ∷ drop (suc i) xs) (sym e) ∙ ap (λ n. x ∷ drop n xs) (sym (add-one i))

pub none_left : {A : Type 0} (xs : List A) (i : ℕ) → length xs ≤ i → drop i xs ≡ []
none_left [] zero le = refl
none_left [] (suc i) le = refl
none_left (x ∷ xs) zero le = absurd (omega arith)
none_left (x ∷ xs) (suc i) le = none_left xs i (omega arith)

weight_at : (ls : List Link) (i : ℕ) (d : Link) → i < length ls → suc (link_weight (get_or ls i d)) ≤ link_parts (links_of ls)
weight_at [] i d lt = absurd (omega arith)
weight_at (Operand s a ∷ ls) zero d lt = omega arith
weight_at (Attribute c ∷ ls) zero d lt = omega arith
weight_at (Method n ms ∷ ls) zero d lt = omega arith
weight_at (Operand s a ∷ ls) (suc i) d lt = let h = weight_at ls i d (omega arith) in omega arith
weight_at (Attribute c ∷ ls) (suc i) d lt = let h = weight_at ls i d (omega arith) in omega arith
weight_at (Method n ms ∷ ls) (suc i) d lt = let h = weight_at ls i d (omega arith) in omega arith

-- a link has less parts than the links together
pub link_lighter : (ls : List Link) (i : ℕ) (x : Link) → i < length ls → x ≡ get_or ls i x → suc (link_weight x) ≤ link_parts (links_of ls)
link_lighter ls i x lt e = subst (λ (y : Link). suc (link_weight y) ≤ link_parts (links_of ls)) (sym e) (weight_at ls i x lt)

member_weight_at : (xs : List Written) (i : ℕ) (d : Written) → i < length xs → suc (parts (get_or xs i d)) ≤ member_parts (members_of xs)
member_weight_at [] i d lt = absurd (omega arith)
member_weight_at (x ∷ xs) zero d lt = omega arith
member_weight_at (x ∷ xs) (suc i) d lt = let h = member_weight_at xs i d (omega arith) in omega arith

pub member_lighter : (xs : List Written) (i : ℕ) (x : Written) → i < length xs → x ≡ get_or xs i x → suc (parts x) ≤ member_parts (members_of xs)
member_lighter xs i x lt e = subst (λ (y : Written). suc (parts y) ≤ member_parts (members_of xs)) (sym e) (member_weight_at xs i x lt)

field_weight_at : (xs : List Field) (i : ℕ) (d : Field) → i < length xs → suc (parts (get_or xs i d).value) ≤ field_parts (fields_of xs)
field_weight_at [] i d lt = absurd (omega arith)
field_weight_at (x ∷ xs) zero d lt = omega arith
field_weight_at (x ∷ xs) (suc i) d lt = let h = field_weight_at xs i d (omega arith) in omega arith

pub field_lighter : (xs : List Field) (i : ℕ) (x : Field) → i < length xs → x ≡ get_or xs i x → suc (parts x.value) ≤ field_parts (fields_of xs)
field_lighter xs i x lt e = subst (λ (y : Field). suc (parts y.value) ≤ field_parts (fields_of xs)) (sym e) (field_weight_at xs i x lt)

-- ---- what they keep

links_split : (l : Language) (c : SideCondition) (k : Link) (ls : List Link) → KeepLinks l c (links_of (k ∷ ls)) → KeepLink l c k × KeepLinks l c (links_of ls)
links_split l c (Operand s a) ls h = (h.0, h.1)
links_split l c (Attribute k) ls h = (h.0, h.1)
links_split l c (Method n ms) ls h = (h.0, h.1)

-- what the parts from a place on keep, and the part there with those after
pub links_here : (l : Language) (c : SideCondition) (ls : List Link) (i : ℕ) (x : Link) → i < length ls → x ≡ get_or ls i x → KeepLinks l c (links_of (drop i ls)) → KeepLink l c x × KeepLinks l c (links_of (drop (i + 1) ls))
links_here l c ls i x lt e h = links_split l c x (drop (i + 1) ls) (subst (λ (ys : List Link). KeepLinks l c (links_of ys)) (from_place ls i x lt e) h)

pub members_here : (l : Language) (c : SideCondition) (xs : List Written) (i : ℕ) (x : Written) → i < length xs → x ≡ get_or xs i x → KeepMembers l c (members_of (drop i xs)) → Keeps l c x × KeepMembers l c (members_of (drop (i + 1) xs))
members_here l c xs i x lt e h = subst (λ (ys : List Written). KeepMembers l c (members_of ys)) (from_place xs i x lt e) h

pub fields_here : (l : Language) (c : SideCondition) (xs : List Field) (i : ℕ) (x : Field) → i < length xs → x ≡ get_or xs i x → KeepFields l c (fields_of (drop i xs)) → KeepField l c x × KeepFields l c (fields_of (drop (i + 1) xs))
fields_here l c xs i x lt e h = subst (λ (ys : List Field). KeepFields l c (fields_of ys)) (from_place xs i x lt e) h

-- ---- what they make

step_grouped : (a : Expression) (l : Link) (ls : List Link) → grouped a (links_of (l ∷ ls)) ≡ grouped (behind a l) (links_of ls)
step_grouped a (Operand s b) ls = refl
step_grouped a (Attribute c) ls = refl
step_grouped a (Method n ms) ls = refl

-- links after an expression, one after another
pub grouped-fold : (a : Expression) (ls : List Link) → grouped a (links_of ls) ≡ fold behind a ls
grouped-fold a [] = refl
grouped-fold a (l ∷ ls) = step_grouped a l ls ∙ grouped-fold (behind a l) ls

-- ---- the parts up to a place

pub behind_all : (a : Expression) (ls : List Link) (i : ℕ) → length ls ≤ i → fold behind a (take i ls) ≡ grouped a (links_of ls)
behind_all a ls i le = ap (fold behind a) (take_all i ls le) ∙ sym (grouped-fold a ls)

-- ---- counts and keys

pub count_members : (xs : List Written) → count_of (members_of xs) ≡ length xs
count_members [] = refl
count_members (x ∷ xs) = ap suc (count_members xs)

keys_one : (key : Content) (a : Written) (fs : Fields) → IsSome key → keys_in (field key a fs) ≡ text_of key ∷ keys_in fs
keys_one (Some k) a fs h = refl
keys_one None a fs h = absurd cc

pub keys_of_pairs : (l : Language) (fs : List Field) → KeepFields l Strings (fields_of fs) → keys_of (pairs_of fs) ≡ keys_in (fields_of fs)
keys_of_pairs l [] h = refl
keys_of_pairs l (f ∷ fs) h = ap (λ ks. text_of f.key ∷ ks) (keys_of_pairs l fs h.1) ∙ sym (keys_one f.key f.value (fields_of fs) h.0.0)

pub entries_of_pairs : (fs : List Field) → entries_of (pairs_of fs) ≡ to_entries (fields_of fs)
entries_of_pairs [] = refl
entries_of_pairs (f ∷ fs) = ap (e.entry (text_of f.key) (to_expression f.value)) (entries_of_pairs fs)

expressions_one : (xs : List Expression) (x : Expression) (ys : List Written) (y : Written) → e.expressions_of xs ≡ to_expressions (members_of ys) → x ≡ to_expression y
    → e.expressions_of (xs ++ x ∷ []) ≡ to_expressions (members_of (ys ++ y ∷ []))
expressions_one [] x [] y h q = ap (λ z. e.and_then z e.no_more) q
expressions_one [] x (z ∷ ys) y h q = absurd cc
expressions_one (w ∷ xs) x [] y h q = absurd cc
expressions_one (w ∷ xs) x (z ∷ ys) y h q = λ k. e.and_then (heads h k) (expressions_one xs x ys y (tails h) q k)
  where
    heads : e.and_then w (e.expressions_of xs) ≡ e.and_then (to_expression z) (to_expressions (members_of ys)) → w ≡ to_expression z
    heads h = cc

    tails : e.and_then w (e.expressions_of xs) ≡ e.and_then (to_expression z) (to_expressions (members_of ys)) → e.expressions_of xs ≡ to_expressions (members_of ys)
    tails h = cc

pub expressions_next : (xs : List Expression) (x : Expression) (ys : List Written) (i : ℕ) (y : Written) → i < length ys → y ≡ get_or ys i y → e.expressions_of xs ≡ to_expressions (members_of (take i ys)) → x ≡ to_expression y
    → e.expressions_of (xs ++ x ∷ []) ≡ to_expressions (members_of (take (i + 1) ys))
expressions_next xs x ys i y lt at h q = expressions_one xs x (take i ys) y h q ∙ ap (λ (zs : List Written). to_expressions (members_of zs)) (sym (take_next ys i y lt at))

-- ---- one argument

pub applied_other : (op : BinaryOperator) (a : Expression) (xs : List Written) → (length xs ≡ 1 → ⊥) → applied (Some (Binary op)) a (to_expressions (members_of xs)) ≡ a
applied_other op a [] n = refl
applied_other op a (x ∷ []) n = absurd (n refl)
applied_other op a (x ∷ y ∷ xs) n = refl

pub applied_some : (a : Expression) (xs : List Written) → (length xs ≡ 0 → ⊥) → applied (Some IsEmpty) a (to_expressions (members_of xs)) ≡ a
applied_some a [] n = absurd (n refl)
applied_some a (x ∷ xs) n = refl

pub applied_alone : (m : UnaryMethod) (a : Expression) (xs : List Written) → (length xs ≡ 0 → ⊥) → applied (Some (Unary m)) a (to_expressions (members_of xs)) ≡ a
applied_alone m a [] n = absurd (n refl)
applied_alone m a (x ∷ xs) n = refl

pub called_other : (o : Option ExtensionType) (xs : List Written) → (length xs ≡ 1 → ⊥) → called o (to_expressions (members_of xs)) ≡ e.literal (boolean false)
called_other None xs n = refl
called_other (Some op) [] n = refl
called_other (Some op) (x ∷ []) n = absurd (n refl)
called_other (Some op) (x ∷ y ∷ xs) n = refl

pub empty_all : (a : Expression) (xs : List Expression) → length xs ≡ 0 → applied (Some IsEmpty) a (e.expressions_of xs) ≡ e.unary operator.IsEmpty a
empty_all a [] n = refl
empty_all a (x ∷ xs) n = absurd (omega arith)

pub alone_all : (m : UnaryMethod) (a : Expression) (xs : List Expression) → length xs ≡ 0 → applied (Some (Unary m)) a (e.expressions_of xs) ≡ e.unary (operator.Call m) a
alone_all m a [] n = refl
alone_all m a (x ∷ xs) n = absurd (omega arith)

-- ---- sizes

-- two sizes that are counted alike
pub record IsAlike (a b : Size) : Type 0 where
  pub nodes : min a.nodes 18446744073709551615 ≡ min b.nodes 18446744073709551615
  pub height : min a.height 18446744073709551615 ≡ min b.height 18446744073709551615

pub alike_capped : (a b : Size) → IsAlike a b → capped a ≡ capped b
alike_capped a b h = λ k. record { nodes = h.nodes k; height = h.height k }

both_nodes : (top a b : ℕ) → min (min a top + min b top) top ≡ min (a + b) top
both_nodes top a b = omega arith

both_height : (top a b : ℕ) → min (max (min a top) (min b top)) top ≡ min (max a b) top
both_height top a b = omega arith

pub capped_both : (a b : Size) → capped (both (capped a) (capped b)) ≡ capped (both a b)
capped_both a b = alike_capped (both (capped a) (capped b)) (both a b) (record { nodes = both_nodes 18446744073709551615 a.nodes b.nodes; height = both_height 18446744073709551615 a.height b.height })

add_none : (n : ℕ) → n + 0 ≡ 0 + n
add_none n = omega arith

max_none : (n : ℕ) → max n 0 ≡ max 0 n
max_none n = omega arith

add_three : (a b c : ℕ) → a + (b + c) ≡ (a + b) + c
add_three a b c = omega arith

max_three : (a b c : ℕ) → max a (max b c) ≡ max (max a b) c
max_three a b c = omega arith

both_none : (a : Size) → both a nothing ≡ both nothing a
both_none a = λ k. record { nodes = add_none a.nodes k; height = max_none a.height k }

both_three : (a b c : Size) → both a (both b c) ≡ both (both a b) c
both_three a b c = λ k. record { nodes = add_three a.nodes b.nodes c.nodes k; height = max_three a.height b.height c.height k }

size_all-one : (xs : List Written) (x : Written) → size_of_all (to_expressions (members_of (xs ++ x ∷ []))) ≡ both (size_of_all (to_expressions (members_of xs))) (size_of (to_expression x))
size_all-one [] x = both_none (size_of (to_expression x))
size_all-one (y ∷ xs) x = ap (both (size_of (to_expression y))) (size_all-one xs x) ∙ both_three (size_of (to_expression y)) (size_of_all (to_expressions (members_of xs))) (size_of (to_expression x))

size_fields-one : (xs : List Field) (x : Field) → size_of_entries (to_entries (fields_of (xs ++ x ∷ []))) ≡ both (size_of_entries (to_entries (fields_of xs))) (size_of (to_expression x.value))
size_fields-one [] x = both_none (size_of (to_expression x.value))
size_fields-one (y ∷ xs) x =
    ap (both (size_of (to_expression y.value))) (size_fields-one xs x) ∙ both_three (size_of (to_expression y.value)) (size_of_entries (to_entries (fields_of xs))) (size_of (to_expression x.value))

pub members_step : (xs : List Written) (i : ℕ) (x : Written) (whole s more : Size) → i < length xs → x ≡ get_or xs i x → whole ≡ capped (size_of_all (to_expressions (members_of (take i xs))))
    → s ≡ capped (size_of (to_expression x)) → more ≡ capped (both whole s) → more ≡ capped (size_of_all (to_expressions (members_of (take (i + 1) xs))))
members_step xs i x whole s more lt at w h m =
    m ∙ (λ k. capped (both (w k) (h k))) ∙ capped_both (size_of_all (to_expressions (members_of (take i xs)))) (size_of (to_expression x)) ∙ ap capped (sym (size_all-one (take i xs) x))
    ∙ ap (λ (ys : List Written). capped (size_of_all (to_expressions (members_of ys)))) (sym (take_next xs i x lt at))

pub fields_step : (xs : List Field) (i : ℕ) (x : Field) (whole s more : Size) → i < length xs → x ≡ get_or xs i x → whole ≡ capped (size_of_entries (to_entries (fields_of (take i xs))))
    → s ≡ capped (size_of (to_expression x.value)) → more ≡ capped (both whole s) → more ≡ capped (size_of_entries (to_entries (fields_of (take (i + 1) xs))))
fields_step xs i x whole s more lt at w h m =
    m ∙ (λ k. capped (both (w k) (h k))) ∙ capped_both (size_of_entries (to_entries (fields_of (take i xs)))) (size_of (to_expression x.value)) ∙ ap capped (sym (size_fields-one (take i xs) x))
    ∙ ap (λ (ys : List Field). capped (size_of_entries (to_entries (fields_of ys)))) (sym (take_next xs i x lt at))

uids_one : (us : List WrittenUid) (u : WrittenUid) → size_of_all (e.expressions_of (map entity_literal (map to_uid (us ++ u ∷ [])))) ≡ both (size_of_all (e.expressions_of (map entity_literal (map to_uid us)))) leaf
uids_one [] u = both_none leaf
uids_one (v ∷ us) u = ap (both leaf) (uids_one us u) ∙ both_three leaf (size_of_all (e.expressions_of (map entity_literal (map to_uid us)))) leaf

pub uids_step : (us : List WrittenUid) (i : ℕ) (u : WrittenUid) (whole s more : Size) → i < length us → u ≡ get_or us i u → whole ≡ capped (size_of_all (e.expressions_of (map entity_literal (map to_uid (take i us)))))
    → s ≡ leaf → more ≡ capped (both whole s) → more ≡ capped (size_of_all (e.expressions_of (map entity_literal (map to_uid (take (i + 1) us)))))
uids_step us i u whole s more lt at w h m =
    m ∙ (λ k. capped (both (w k) (h k))) ∙ capped_both (size_of_all (e.expressions_of (map entity_literal (map to_uid (take i us))))) leaf ∙ ap capped (sym (uids_one (take i us) u))
    ∙ ap (λ (vs : List WrittenUid). capped (size_of_all (e.expressions_of (map entity_literal (map to_uid vs))))) (sym (take_next us i u lt at))
