use Rattle.std.proofs.Common.{◌≡◌}
use Rattle.cedar_value.specs.Order.{text_cmp}
use Rattle.cedar_auth_candidates.specs.Private.Sifting.{OfResource}
use Rattle.cedar_auth_candidates.proofs.Makings.{IsMaking}
use Rattle.cedar_auth_candidates.proofs.row.by_resource.Given as goal

abbrev pub invariant-loop-ty : goal.invariant-loop-ty
invariant-loop-ty l = (l.cells ≡ l.initial.cells) × IsMaking text_cmp (OfResource l.schema l.policies.policies l.initial.cells l.positions) l.row l.ty-iterator l.resources.keys
