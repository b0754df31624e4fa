use Rattle.cedar_schema.proofs.ProfileLemmas.{profile_kept}
use Rattle.cedar_schema.proofs.laws.profile_schemas.Goals as goal

pub returns : goal.returns
returns c = profile_kept
