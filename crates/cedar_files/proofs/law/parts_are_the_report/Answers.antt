use Rattle.cedar_files.proofs.Parts.{join, whole}
use Rattle.cedar_files.proofs.law.parts_are_the_report.Goals as goal

pub returns-clause-joined : goal.returns-clause-joined
returns-clause-joined c = λ settings s ps from mid to text more h k. join settings s ps from mid to text more h k

pub returns-clause-whole : goal.returns-clause-whole
returns-clause-whole c = λ settings s ps to text h e. whole settings s ps to text h e
