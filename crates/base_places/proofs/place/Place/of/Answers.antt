use Rattle.std.proofs.Common.{◌≤◌, ◌+◌, get_or, ap, sym, subst, arith, ◌∙◌}
use Rattle.base_places.specs.declared.place.Place.{Place}
use Rattle.base_places.specs.Places.{next_place}
use Rattle.base_places.proofs.Places.{next_within, place_begins, place_more}
use Rattle.base_places.proofs.place.Place.of.Goals as goal

pub loop-offset-init : goal.loop-offset-init
loop-offset-init c = (sym (place_begins c.args.text.now), omega arith, omega arith)

pub loop-offset-preserved : goal.loop-offset-preserved
loop-offset-preserved c =
    let text = c.args.text.now in
    let i = c.loop-offset.offset in
    let known = c.loop-offset.invariant in
    let within = next_within c.loop-offset.place (get_or text i 0) i known.1 known.2 in (
      c.after-place.ensures ∙ ap (λ (p : Place). next_place p (get_or text i 0)) known.0 ∙ sym (place_more text i (omega arith)),
      subst (λ (p : Place). p.line ≤ i + 1) (sym c.after-place.ensures) within.0,
      subst (λ (p : Place). p.column ≤ i + 1) (sym c.after-place.ensures) within.1,
    )
