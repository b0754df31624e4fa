use Rattle.cedar_schema_types.proofs.Joined.{join_is_computed}
use Rattle.cedar_schema_types.proofs.JoinedByName.{join_is_by_name}
use Rattle.cedar_schema_types.proofs.laws.join_is_the_relation.Goals as goal

pub returns-clause-relation : goal.returns-clause-relation
returns-clause-relation c = join_is_computed

pub returns-clause-by_name : goal.returns-clause-by_name
returns-clause-by_name c = join_is_by_name
