-- Being in a set of entities: being one of them, or below one of them.
use Rattle.std.proofs.Common.{◌≡◌, Bool, true, false, ◌||◌, List, [], ◌∷◌, Ok, Err, refl, ap, ap₂, ◌∙◌}
use Rattle.std.specs.List.{list_all, list_any}
use Rattle.cedar_value.specs.Datum.{Datum, boolean, long, text, uid, set, record_of, extension, same, members_of}
use Rattle.cedar_value.specs.Private.Lists.{list_of-members_of}
use Rattle.cedar_value.specs.Sets.{has_member}
use Rattle.cedar_value.specs.World.{World, below_datum, below_any}
use Rattle.cedar_value.specs.declared.uid.Uid.{Uid}
use Rattle.cedar_ast_expressions.specs.declared.error.EvaluationError.TheVariants.{«Type»}
use Rattle.cedar_ast_expressions.specs.Answer.{Answer}
use Rattle.cedar_ast_expressions.specs.Operators.{is_uid, is_in, in_of}

is_in-parts : (w : World) (u : Uid) (d : Datum) → is_in w u d ≡ (same (uid u) d || below_datum w u d)
is_in-parts w u (boolean b) = refl
is_in-parts w u (long n) = refl
is_in-parts w u (text s) = refl
is_in-parts w u (uid v) = refl
is_in-parts w u (set ms) = refl
is_in-parts w u (record_of fs) = refl
is_in-parts w u (extension e) = refl

exchange : (a b c d : Bool) → ((a || b) || (c || d)) ≡ ((a || c) || (b || d))
exchange true b c d = refl
exchange false true true d = refl
exchange false true false d = refl
exchange false false c d = refl

any-parts : (w : World) (u : Uid) (ms : List Datum) → list_any (is_in w u) ms ≡ (has_member ms (uid u) || below_any w u ms)
any-parts w u [] = refl
any-parts w u (d ∷ ms) =
    ap₂ (λ (x y : Bool). x || y) (is_in-parts w u d) (any-parts w u ms)
    ∙ exchange (same (uid u) d) (below_datum w u d) (has_member ms (uid u)) (below_any w u ms)

-- what `in` gives for a list of members
abbrev given : World → Uid → Bool → List Datum → Answer Datum
given w u true ms = Ok (boolean (list_any (is_in w u) ms))
given w u false ms = Err «Type»

in_of-given : (w : World) (u : Uid) (ms : List Datum) (all : Bool) → list_all is_uid ms ≡ all → in_of w (uid u) (set (members_of ms)) ≡ given w u all ms
in_of-given w u ms true same = rw (list_of-members_of ms, same) refl
in_of-given w u ms false same = rw (list_of-members_of ms, same) refl

pub in_set-refused : (w : World) (u : Uid) (ms : List Datum) → list_all is_uid ms ≡ false → in_of w (uid u) (set (members_of ms)) ≡ Err «Type»
in_set-refused w u ms none = in_of-given w u ms false none

pub in_set-member : (w : World) (u : Uid) (ms : List Datum) → list_all is_uid ms ≡ true → has_member ms (uid u) ≡ true → in_of w (uid u) (set (members_of ms)) ≡ Ok (boolean true)
in_set-member w u ms all here =
    in_of-given w u ms true all ∙ ap (λ b. Ok (boolean b)) (any-parts w u ms ∙ ap (λ b. b || below_any w u ms) here)

pub in_set-below : (w : World) (u : Uid) (ms : List Datum) → list_all is_uid ms ≡ true → has_member ms (uid u) ≡ false
    → in_of w (uid u) (set (members_of ms)) ≡ Ok (boolean (below_any w u ms))
in_set-below w u ms all none =
    in_of-given w u ms true all ∙ ap (λ b. Ok (boolean b)) (any-parts w u ms ∙ ap (λ b. b || below_any w u ms) none)
