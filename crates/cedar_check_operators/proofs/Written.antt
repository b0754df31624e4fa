-- Uids that members write, from a place on.
use Rattle.std.proofs.Common.{◌≡◌, Bool, true, false, ℕ, ◌<◌, ◌+◌, List, [], Option, Some, None, length, get_or, drop, refl, ap, sym, ◌∙◌}
use Rattle.std.specs.Prelude.{◌||◌, option_map}
use Rattle.std.specs.List.{list_any}
use Rattle.cedar_value.specs.declared.uid.Uid.{Uid}
use Rattle.cedar_ast_expressions.specs.Expression.{Expression, expressions_of}
use Rattle.cedar_check_spec.specs.Typing.{one_uid, joined_uids, all_uids}
use Rattle.cedar_check_operators.proofs.Held.{drop_here}

-- what is found among these, or was found before
abbrev pub found_in : (Uid → Bool) → Bool → Option (List Uid) → Option Bool
found_in f found o = option_map (λ vs. found || list_any f vs) o

pub no_uid : (f : Uid → Bool) (found : Bool) (ms : List Expression) (i : ℕ) (m : Expression) → i < length ms → m ≡ get_or ms i m → one_uid m ≡ None → found_in f found (all_uids (expressions_of (drop i ms))) ≡ None
no_uid f found ms i m lt e n =
    ap (λ l. found_in f found (all_uids (expressions_of l))) (drop_here ms i m lt e)
    ∙ ap (λ o. found_in f found (joined_uids o (all_uids (expressions_of (drop (i + 1) ms))))) n

moved : (a b c : Bool) → ((a || b) || c) ≡ (a || (b || c))
moved true b c = refl
moved false b c = refl

one_more : (f : Uid → Bool) (found : Bool) (u : Uid) (o : Option (List Uid)) → found_in f (found || f u) o ≡ found_in f found (joined_uids (Some u) o)
one_more f found u None = refl
one_more f found u (Some vs) = ap Some (moved found (f u) (list_any f vs))

pub next_uid : (f : Uid → Bool) (found now : Bool) (ms : List Expression) (i : ℕ) (m : Expression) (u : Uid) → i < length ms → m ≡ get_or ms i m → one_uid m ≡ Some u → now ≡ (found || f u) → found_in f now (all_uids (expressions_of (drop (i + 1) ms))) ≡ found_in f found (all_uids (expressions_of (drop i ms)))
next_uid f found now ms i m u lt e n same =
    ap (λ b. found_in f b (all_uids (expressions_of (drop (i + 1) ms)))) same
    ∙ one_more f found u (all_uids (expressions_of (drop (i + 1) ms)))
    ∙ sym (ap (λ l. found_in f found (all_uids (expressions_of l))) (drop_here ms i m lt e)
    ∙ ap (λ o. found_in f found (joined_uids o (all_uids (expressions_of (drop (i + 1) ms))))) n)

pub either : (a b : Bool) → b ≡ true → true ≡ (a || b)
either true b e = refl
either false b e = sym e

pub neither : (a b : Bool) → b ≡ false → a ≡ (a || b)
neither true b e = refl
neither false b e = sym e

pub none_left : (f : Uid → Bool) (found : Bool) → found_in f found (Some []) ≡ Some found
none_left f true = refl
none_left f false = refl
