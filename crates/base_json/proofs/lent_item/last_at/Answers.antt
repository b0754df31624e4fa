use Rattle.std.proofs.Common.{◌≡◌, ◌-◌, ◌++◌, List, [], ◌∷◌, take, sym, ap, ◌∙◌, arith}
use Rattle.std.proofs.Math.Seq.{take-length}
use Rattle.serde_json.specs.Data.{no_members}
use Rattle.serde_json.specs.Find.{get_member}
use Rattle.base_json.specs.LentItems.{put_values}
use Rattle.base_json.specs.declared.lent_item.ItemMember.{ItemMember}
use Rattle.base_json.proofs.LentItems.{last_here, last_before, last_taken}
use Rattle.base_json.proofs.lent_item.last_at.Goals as goal

pub walk-init : goal.walk-init
walk-init c = (omega arith, ap (λ (ms : List ItemMember). get_member c.args.key.now (put_values ms no_members)) (sym (take-length c.args.members.now)))

pub walk-preserved : goal.walk-preserved
walk-preserved c =
    let ms = c.args.members.now in
    let n = c.walk.left - 1 in
    let x = c.index-members-left.result in
    let is = last_taken ms c.walk.left n x (omega arith) c.walk.invariant.0 ∙ ap (λ (m : ItemMember). take n ms ++ m ∷ []) (sym c.index-members-left.is) in
    (omega (arith, c.walk.invariant.0), c.walk.invariant.1 ∙ last_before c.args.key.now (take c.walk.left ms) x (take n ms) is (sym c.eq.ensures ∙ c.if-eq.false))

pub returns-then-eq : goal.returns-then-eq
returns-then-eq c =
    let ms = c.args.members.now in
    let n = c.walk.left - 1 in
    let x = c.index-members-left.result in
    let is = last_taken ms c.walk.left n x (omega arith) c.walk.invariant.0 ∙ ap (λ (m : ItemMember). take n ms ++ m ∷ []) (sym c.index-members-left.is) in
    sym (c.walk.invariant.1 ∙ last_here c.args.key.now (take c.walk.left ms) x (take n ms) is (sym c.eq.ensures ∙ c.if-eq.true))

pub returns : goal.returns
returns c =
    let none : c.walk.left ≡ 0 = omega arith in
    sym (c.walk.invariant.1 ∙ ap (λ n. get_member c.args.key.now (put_values (take n c.args.members.now) no_members)) none)
