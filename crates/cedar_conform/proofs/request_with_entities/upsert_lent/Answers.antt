use Rattle.cedar_conform.proofs.WithEntitiesLemmas.{object_refused, string_refused}
use Rattle.serde_json.specs.Data.{no_members}
use Rattle.base_json.specs.LentObjects.{put_all}
use Rattle.cedar_conform.proofs.request_with_entities.upsert_lent.Goals as goal

pub returns-in-String : goal.returns-in-String
returns-in-String c = λ other. rw c.in-String.is (string_refused c.args.schema.now c.args.store.now c.in-String.field-0.now)

pub returns-in-Quoted : goal.returns-in-Quoted
returns-in-Quoted c = λ other. rw c.in-Quoted.is (string_refused c.args.schema.now c.args.store.now c.in-Quoted.field-0)

pub returns-in-Object : goal.returns-in-Object
returns-in-Object c = λ other. rw c.in-Object.is (object_refused c.args.schema.now c.args.store.now (put_all c.in-Object.field-0.members.items no_members))
