use Rattle.std.proofs.Common.{◌≡◌, ◌++◌, ◌+◌, ◌∷◌, [], ℕ, List, arith, length, map, take, sym, ap, subst, ◌∙◌}
use Rattle.std.specs.Str.{chars}
use Rattle.std.specs.Char.{encode_utf8}
use Rattle.std.proofs.lemmas.List.{append-nil, length_push, take_all}
use Rattle.std.proofs.lemmas.Str.{IsUtf8-had}
use Rattle.std.proofs.lemmas.Iterator.{YieldsList-from_chars}
use Rattle.std.proofs.lemmas.Iterator.Consumers.{YieldsList-turn, YieldsList-end}
use Rattle.base_places.specs.Shown.{shown_as}
use Rattle.base_places.proofs.Characters.{shown_more}
use Rattle.base_places.proofs.shown.push_shown.Goals as goal

pub loop-character-init : goal.loop-character-init
loop-character-init c = sym (append-nil (chars c.args.shown.now.bytes.items))

pub loop-character-preserved : goal.loop-character-preserved
loop-character-preserved c =
    let all = chars c.args.text.now in
    let begun = chars c.args.shown.now.bytes.items in
    let old = c.loop-character.shown in
    let new = c.push.new.self in
    let xs = c.loop-character.yielded in
    let t = YieldsList-turn (YieldsList-from_chars c.args.text.now c.utf8.text cc) xs _ c.loop-character.yielded_by _ _ c.in-Some.character c.in-Some.is c.next.ensures.steps in
    let grown : new.bytes.items ≡ old.bytes.items ++ encode_utf8 c.shown_as.result = c.in_ok-push.ensures.bytes in
    let n : length (xs ++ c.in-Some.character ∷ []) ≡ length xs + 1 = length_push xs c.in-Some.character in
    subst (λ (k : ℕ). chars new.bytes.items ≡ begun ++ map shown_as (take k all)) (sym n)
    (shown_more begun old.bytes.items new.bytes.items all (length xs) c.in-Some.character c.shown_as.result (IsUtf8-had old.bytes.items old.ok) c.shown_as.type_inv.1.1 grown c.shown_as.ensures t.0 t.1 c.loop-character.invariant)

pub returns : goal.returns
returns c =
    let all = chars c.args.text.now in
    let t = YieldsList-end (YieldsList-from_chars c.args.text.now c.utf8.text cc) c.loop-character.yielded _ c.loop-character.yielded_by _ _ c.in-None.is c.next.ensures.steps in
    c.loop-character.invariant ∙ ap (λ (cs : List ℕ). chars c.args.shown.now.bytes.items ++ map shown_as cs) (take_all (length c.loop-character.yielded) all (omega (arith, t.1)))
