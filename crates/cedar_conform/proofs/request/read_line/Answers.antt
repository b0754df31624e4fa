use Rattle.serde_json.specs.Data.{no_members}
use Rattle.base_json.specs.Members.{members_to_come}
use Rattle.cedar_conform.proofs.RequestLemmas.{answer_of_members, no_object}
use Rattle.cedar_conform.proofs.request.read_line.Goals as goal

pub returns-in-Some-clause-answer : goal.returns-in-Some-clause-answer
returns-in-Some-clause-answer c =
    answer_of_members c.args.schema.now c.args.line.now (members_to_come no_members c.in-Some.members) c.request_of_members.result (rw c.in-Some.is at c.in_ok-members.ensures) c.request_of_members.ensures.answer

pub returns-clause-answer : goal.returns-clause-answer
returns-clause-answer c = λ other. no_object c.args.schema.now c.args.line.now c.no_object_fault.result (c.no_object_fault.ensures other)
