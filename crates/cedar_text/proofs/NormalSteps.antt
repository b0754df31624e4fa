-- A walk over tokens goes past one of them.
use Rattle.std.proofs.Common.{◌≡◌, sym, ap, ℕ, suc, ◌+◌, ◌<◌, ◌≤◌, Bool, true, false, List, ◌∷◌, ◌++◌, length, length-drop, take, drop, ◌-◌, Option, append_assoc, arith}
use Rattle.std.proofs.Math.ListN.{get_or}
use Rattle.std.proofs.Math.Seq.{drop-cons, take-length}
use Rattle.std.proofs.lemmas.List.{append-nil, drop_all}
use Rattle.cedar_text.specs.declared.normal.Before.{Before}
use Rattle.cedar_text.specs.declared.normal.Walk.{Walk}
use Rattle.cedar_text.specs.declared.token.Token.{Token}
use Rattle.cedar_text.specs.declared.token_kind.TokenKind.{TokenKind}
use Rattle.cedar_text.specs.Lexeme.{Lexeme, Lexemes, lexeme, lexemes}
use Rattle.cedar_text.specs.Normal.{first_kind, is_last_comma, normal_kind, normal_token, after, opened, normal_from}
use Rattle.cedar_text.specs.Private.NormalWalk.{all_normal}

pub last_comma : (front : Lexemes) (b : Before) (lists : List Bool) (t : Lexeme) (next : Option TokenKind) (ts : Lexemes) → first_kind ts ≡ next → is_last_comma b lists t.kind next ≡ true
    → front ++ normal_from b lists ts ≡ front ++ normal_from b lists (t ∷ ts)
unfolding normal_from
last_comma front b lists t next ts e last = cc

pub other_token : (front : Lexemes) (b : Before) (lists : List Bool) (t : Lexeme) (next : Option TokenKind) (ts : Lexemes) → first_kind ts ≡ next → is_last_comma b lists t.kind next ≡ false
    → (front ++ normal_token b t next) ++ normal_from (after b (normal_kind b t.kind next)) (opened b lists t.kind) ts ≡ front ++ normal_from b lists (t ∷ ts)
unfolding normal_from
other_token front b lists t next ts e other =
    let joined = append_assoc front (normal_token b t next) (normal_from (after b (normal_kind b t.kind next)) (opened b lists t.kind) ts) in cc

pub next_left : (ts : List Token) (at : ℕ) (d : Token) → at < length ts → lexemes (drop at ts) ≡ lexeme (get_or ts at d) ∷ lexemes (drop (at + 1) ts)
next_left ts at d lt = let e : at + 1 ≡ suc at = omega arith in rw e (ap lexemes (drop-cons ts at d lt))

pub none_left : (w : Walk) (ts : List Token) (at : ℕ) → length ts ≤ at → lexemes w.found.items ≡ all_normal w (lexemes (drop at ts))
unfolding normal_from
none_left w ts at le = rw (drop_all at ts le) (sym (append-nil (lexemes w.found.items)))

-- the slice from a place on
pub from_place : (ts : List Token) (at : ℕ) → take (length ts - at) (drop at ts) ≡ drop at ts
from_place ts at = rw (sym (length-drop at ts)) (take-length (drop at ts))
