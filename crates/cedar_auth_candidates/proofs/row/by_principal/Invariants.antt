use Rattle.std.proofs.Common.{◌≡◌}
use Rattle.cedar_value.specs.Order.{text_cmp}
use Rattle.cedar_auth_candidates.specs.Private.Sifting.{OfPrincipal}
use Rattle.cedar_auth_candidates.proofs.Makings.{IsMaking}
use Rattle.cedar_auth_candidates.proofs.row.by_principal.Given as goal

abbrev pub invariant-loop-ty : goal.invariant-loop-ty
invariant-loop-ty l = (l.cells ≡ l.initial.cells) × IsMaking text_cmp (OfPrincipal l.schema l.policies.policies l.initial.cells l.positions l.action) l.row l.ty-iterator l.action.principals
