use Rattle.std.proofs.Common.{ℕ, ◌+◌, List, [], ◌∷◌, Option, None, length, get_or, ap, ◌∙◌}
use Rattle.std.proofs.lemmas.List.{length-append}
use Rattle.cedar_schema.proofs.Numbered.{none_more}
use Rattle.cedar_schema.proofs.schema.graph.no_places.Goals as goal

pub loop-number-init : goal.loop-number-init
loop-number-init c = record {
  long = ap length c.in_ok-places.ensures.items;
  none = λ n. ap (λ (ps : List (Option ℕ)). get_or ps n None) c.in_ok-places.ensures.items;
}

pub loop-number-preserved : goal.loop-number-preserved
loop-number-preserved c = record {
  long = ap length c.in_ok-push.ensures.items ∙ length-append c.loop-number.places.items (None ∷ []) ∙ ap (λ n. n + 1) c.loop-number.invariant.long;
  none = λ n. ap (λ (ps : List (Option ℕ)). get_or ps n None) c.in_ok-push.ensures.items ∙ none_more c.loop-number.places.items c.loop-number.invariant.none n;
}
