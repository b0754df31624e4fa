use Rattle.std.proofs.Common.{rules, filter, ap, ◌∙◌}
use Rattle.std.proofs.lemmas.Fn.{filter_same}
use Rattle.base_bits.specs.Bits.{has_bit}
use Rattle.cedar_auth_candidates.proofs.selection.Selection.keep.Goals as goal

pub returns : goal.returns
returns c = filter_same _ (has_bit c.args.row.now) _ (λ x b f' k. search rules) _ _ c.retain.ensures.filtered ∙ ap (filter (has_bit c.args.row.now)) c.self.view_is
