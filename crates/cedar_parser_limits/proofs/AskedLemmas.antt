-- What is asked along a path of attributes, and its size.
use Rattle.std.proofs.Common.{◌≡◌, refl, sym, ap, ◌∙◌, ℕ, suc, ◌+◌, ◌<◌, ◌≤◌, min, max, List, [], ◌∷◌, length, get_or, drop, drop-cons, add-one, arith}
use Rattle.cedar_ast_expressions.specs.Expression as e
use Rattle.cedar_ast_expressions.specs.Expression.{Expression}
use Rattle.cedar_ast_expressions.specs.declared.operator.UnaryOperator.TheVariants.{Has, Get}
use Rattle.cedar_parser_limits.specs.declared.size.Size.{Size}
use Rattle.cedar_parser_limits.specs.Meaning.{asked_from, asked_of}
use Rattle.cedar_parser_limits.specs.Limits.{above, above_both, size_of}
use Rattle.cedar_parser_limits.specs.Private.Capped.{capped}
use Rattle.cedar_parser_limits.specs.Private.AskedSizes.{sizes_from}
use Rattle.cedar_parser_limits.proofs.PartLemmas.{from_place, none_left, alike_capped}

-- one attribute further
pub asked_next : (asked place asked' place' : Expression) (more : List (List ℕ)) (i : ℕ) (name : List ℕ) → i < length more → name ≡ get_or more i name
    → asked' ≡ e.and asked (e.unary (Has name) place) → place' ≡ e.unary (Get name) place → asked_from asked' place' (drop (i + 1) more) ≡ asked_from asked place (drop i more)
asked_next asked place asked' place' more i name lt at h g =
    (λ k. asked_from (h k) (g k) (drop (i + 1) more)) ∙ ap (asked_from asked place) (sym (from_place more i name lt at))

pub asked_end : (asked place : Expression) (more : List (List ℕ)) (i : ℕ) → length more ≤ i → asked_from asked place (drop i more) ≡ asked
asked_end asked place more i le = ap (asked_from asked place) (none_left more i le)

-- ---- sizes

above_nodes : (top a : ℕ) → min (suc (min a top)) top ≡ min (suc a) top
above_nodes top a = omega arith

both_nodes : (top a b : ℕ) → min (suc (min a top + min (suc (min b top)) top)) top ≡ min (suc (a + suc b)) top
both_nodes top a b = omega arith

both_height : (top a b : ℕ) → min (suc (max (min a top) (min (suc (min b top)) top))) top ≡ min (suc (max a (suc b))) top
both_height top a b = omega arith

pub capped_above : (a : Size) → capped (above (capped a)) ≡ capped (above a)
capped_above a = alike_capped (above (capped a)) (above a) (record { nodes = above_nodes 18446744073709551615 a.nodes; height = above_nodes 18446744073709551615 a.height })

capped_asked : (a b : Size) → capped (above_both (capped a) (capped (above (capped b)))) ≡ capped (above_both a (above b))
capped_asked a b =
    alike_capped (above_both (capped a) (capped (above (capped b)))) (above_both a (above b))
    (record { nodes = both_nodes 18446744073709551615 a.nodes b.nodes; height = both_height 18446744073709551615 a.height b.height })

sizes_asked : (asked place : Expression) (more : List (List ℕ)) → sizes_from (capped (size_of asked)) (capped (size_of place)) more ≡ capped (size_of (asked_from asked place more))
sizes_asked asked place [] = refl
sizes_asked asked place (a ∷ more) =
    (λ k. sizes_from (capped_asked (size_of asked) (size_of place) k) (capped_above (size_of place) k) more) ∙ sizes_asked (e.and asked (e.unary (Has a) place)) (e.unary (Get a) place) more

pub sizes_all : (operand : Size) (x : Expression) (first : List ℕ) (more : List (List ℕ)) → operand ≡ capped (size_of x)
    → sizes_from (capped (above operand)) (capped (above operand)) more ≡ capped (size_of (asked_of x first more))
sizes_all operand x first more h =
    (λ k. sizes_from (capped (above (h k))) (capped (above (h k))) more) ∙ (λ k. sizes_from (capped_above (size_of x) k) (capped_above (size_of x) k) more)
    ∙ sizes_asked (e.unary (Has first) x) (e.unary (Get first) x) more

pub sizes_next : (asked place up asked' place' : Size) (more : List (List ℕ)) (i : ℕ) → i < length more → up ≡ capped (above place) → asked' ≡ capped (above_both asked up) → place' ≡ capped (above place) → sizes_from asked' place' (drop (i + 1) more) ≡ sizes_from asked place (drop i more)
sizes_next asked place up asked' place' more i lt u h g =
    (λ k. sizes_from (h k) (g k) (drop (i + 1) more)) ∙ (λ k. sizes_from (capped (above_both asked (u k))) (capped (above place)) (drop (i + 1) more))
    ∙ ap (sizes_from asked place) (sym (drop-cons more i [] lt ∙ ap (λ n. get_or more i [] ∷ drop n more) (sym (add-one i))))

pub sizes_end : (asked place : Size) (more : List (List ℕ)) (i : ℕ) → length more ≤ i → sizes_from asked place (drop i more) ≡ asked
sizes_end asked place more i le = ap (sizes_from asked place) (none_left more i le)
