use Rattle.std.proofs.Common.{◌⊎◌, Contains, List, Bor, sym, subst}
use Rattle.std.proofs.lemmas.Result.{err_from_is_err_and}
use Rattle.base_reach.specs.Private.Lent.{lent}
use Rattle.cedar_value.specs.World.{World}
use Rattle.cedar_value.specs.declared.uid.Uid.{Uid}
use Rattle.cedar_store.specs.Private.Called.{AreSettledAnew}
use Rattle.cedar_store.specs.Private.Overlaid.{IsNoted, IsSettled, world_over}
use Rattle.cedar_store.specs.Private.Parts.{IsPartAbove, IsSifted}
use Rattle.cedar_store.proofs.Parts.{part_fault, part_has, part_settled}
use Rattle.cedar_store.proofs.Resettled.{known_again}
use Rattle.cedar_store.proofs.settling.settled_anew.Goals as goal

pub returns-clause-settled : goal.returns-clause-settled
returns-clause-settled c =
    let b = c.args.links.now.base.now in
    let cs = c.args.links.now.changes.now in
    let w = world_over b.world cs in
    let part = c.in_ok-part.part.items in
    let begun = c.in_ok-begun.begun in
    let notes_new = c.in_ok-noted_too.noted_too in
    let found = lent c.push_known.new.due.items in
    let due = lent c.sifted.new.due.items in
    let all_due = lent c.push_marked.new.found.items in
    let is : IsPartAbove w all_due part = subst (λ (us : List (Bor Uid)). IsPartAbove w (lent us) part) c.deref-2.ensures.value c.in_ok-part.ensures in
    let all : (p : Uid) → Contains due p → IsSettled part p = λ p m. part_has w all_due part is p (c.in_ok-push_marked.ensures.kept p m) in
    let sifts : (p : Uid) → Contains found p → IsSifted b cs due notes_new p = subst (λ (us : List (Bor Uid)). (p : Uid) → Contains (lent us) p → IsSifted b cs due notes_new p) c.deref.ensures.value c.in_ok-noted_too.ensures.sifted in
    let told : (p : Uid) → IsNoted notes_new p → IsNoted begun p ⊎ Contains found p = subst (λ (us : List (Bor Uid)). (p : Uid) → IsNoted notes_new p → IsNoted begun p ⊎ Contains (lent us) p) c.deref.ensures.value c.in_ok-noted_too.ensures.told in
    subst (λ (x : World). AreSettledAnew b cs c.args.marks.now c.args.old.now.world c.args.noted.now c.args.uids.now x notes_new) (sym c.in_ok-settled.ensures.world) (record {
      settled = part_settled w all_due part is;
      acyclic = c.in_ok-settled.ensures.acyclic;
      known = known_again b cs c.args.old.now.world part begun c.args.noted.now notes_new c.args.uids.now found due all sifts c.in_ok-noted_too.ensures.kept told c.in_ok-begun.ensures;
      below_marked = λ p number marked. part_has w all_due part is p (c.in_ok-push_marked.ensures.marked p number marked);
    })

pub returns-in_err-settled-clause-refused : goal.returns-in_err-settled-clause-refused
returns-in_err-settled-clause-refused c =
    let w = world_over c.args.links.now.base.now.world c.args.links.now.changes.now in
    let part = c.in_ok-part.part.items in
    let is : IsPartAbove w (lent c.push_marked.new.found.items) part = subst (λ (us : List (Bor Uid)). IsPartAbove w (lent us) part) c.deref-2.ensures.value c.in_ok-part.ensures in
    let p = err_from_is_err_and c.from_residual-in_err-settled.result c.from_residual-in_err-settled.ensures.1 in
    rw (p.1, p.2) (part_fault w (lent c.push_marked.new.found.items) part is c.in_err-settled.field-0.0 c.in_err-settled.ensures.refused)
