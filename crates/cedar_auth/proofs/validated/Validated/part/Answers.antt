use Rattle.std.proofs.Common.{List, refl, sym, ap, ◌∙◌}
use Rattle.std.specs.List.{slice_get}
use Rattle.std.proofs.lemmas.Bool.{ltb-false}
use Rattle.std.proofs.lemmas.Option.{slice_get_read}
use Rattle.cedar_auth.specs.declared.compiled.Compiled.{Compiled}
use Rattle.cedar_auth.proofs.CompiledBeside.{compiled_beside, lent_some, none_beside}
use Rattle.cedar_auth.proofs.validated.Validated.part.Goals as goal

pub invariant_of-result : goal.invariant_of-result
invariant_of-result c =
    let found = c.in_ok-compiled.ensures.lookup in
    let read = slice_get_read c.deref.result.now _ c.args.position c.in_ok-compiled.compiled.now refl found.3.0 found.1 in
    let at = ap (λ (all : List Compiled). slice_get all c.args.position) (sym c.deref.ensures.value) ∙ read in
    let made = compiled_beside c.self.inside.compiled.items c.self.inside.policies.policies c.args.position c.in_ok-compiled.compiled.now c.in_ok-policy.policy.now c.self.invariant.made at
    (sym c.in_ok-policy.ensures) in
    (made.code, lent_some _ c.as_ref.result _ c.as_ref.ensures.value made.conjunction)

pub returns-in_err-compiled : goal.returns-in_err-compiled
returns-in_err-compiled c =
    let past = ltb-false _ _ (sym c.in_err-compiled.ensures.lookup.0) in
    absurd (none_beside c.self.inside.compiled.items c.self.inside.policies.policies c.args.position c.in_ok-policy.policy.now c.self.invariant.made
    (rw c.deref.ensures.value at past) (sym c.in_ok-policy.ensures))
