-- The errors that a response names.
use Rattle.std.proofs.Common.{ℕ, List, [], ◌∷◌}
use Rattle.std.specs.Prelude.{Ok, Err}
use Rattle.std.specs.List.{AllByRecursion, filter_map, cons_option}
use Rattle.cedar_value.specs.Datum.{Datum}
use Rattle.cedar_value.specs.World.{World}
use Rattle.cedar_value.specs.declared.request.Request.{Request}
use Rattle.cedar_ast_expressions.specs.Answer.{Answer}
use Rattle.cedar_ast.specs.Response.{ErringTree, erring_of, erring_by, meaning}
use Rattle.cedar_ast.specs.PolicyTree.{PolicyTree}
use Rattle.cedar_schema_spec.specs.SchemaTree.{SchemaTree}
use Rattle.cedar_schema_spec.specs.WellFormed.{AreTypesApart}
use Rattle.cedar_schema_spec.specs.Conformance.{Conforms, Fits}
use Rattle.cedar_check_spec.specs.Acceptance.{IsAcceptedWith}
use Rattle.cedar_check_spec.specs.Soundness.{IsAllowedWith, GoodWith, IsTruth, SoundResponseWith}
use Rattle.cedar_check_law.proofs.Sound.{sound_acceptance}
use Rattle.cedar_check_spec.specs.declared.settings.Settings.{Settings}

erring_more : (settings : Settings) (id : List ℕ) (o : Answer Datum) (rest : List ErringTree) → GoodWith settings IsTruth o → AllByRecursion (λ (x : ErringTree). IsAllowedWith settings x.error) rest → AllByRecursion (λ (x : ErringTree). IsAllowedWith settings x.error) (cons_option (erring_by o id) rest)
erring_more settings id (Ok v) rest h m = m
erring_more settings id (Err e) rest h m = (h, m)

errors : (settings : Settings) (s : SchemaTree) (q : Request) (w : World) → AreTypesApart s → Conforms s w → Fits s q → (ps : List PolicyTree) → AllByRecursion (IsAcceptedWith settings s) ps → AllByRecursion (λ (x : ErringTree). IsAllowedWith settings x.error) (filter_map (erring_of q w) ps)
errors settings s q w apart conforms fits [] h = tt
errors settings s q w apart conforms fits (p ∷ ps) h = erring_more settings p.id (meaning q w p) (filter_map (erring_of q w) ps) (sound_acceptance settings s q w p apart conforms fits h.0) (errors settings s q w apart conforms fits ps h.1)

pub sound_response : (settings : Settings) → SoundResponseWith settings
sound_response settings s q w ps apart conforms fits h = errors settings s q w apart conforms fits ps h
