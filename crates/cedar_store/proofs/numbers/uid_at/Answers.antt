use Rattle.std.proofs.Common.{◌≡◌, List, Some, get_or, sym, ap, subst, ◌∙◌}
use Rattle.std.proofs.lemmas.Option.{slice_get-get_or}
use Rattle.cedar_value.specs.declared.uid.Uid.{Uid}
use Rattle.cedar_store.proofs.Members.{position_here}
use Rattle.cedar_store.proofs.numbers.uid_at.Goals as goal

pub returns : goal.returns
returns c =
    let keys = c.args.numbers.now.keys in
    let number = c.args.number in
    let uid = c.index-as_slice-number.result in
    let is : uid ≡ get_or keys number uid = subst (λ (us : List Uid). uid ≡ get_or us number uid) c.as_slice.ensures.keys c.index-as_slice-number.is in
    position_here keys number uid c.as_slice.ensures.unique (slice_get-get_or keys number uid c.requires ∙ ap Some (sym is))
