use Rattle.cedar_conform.proofs.uids.lent_uid.Goals as goal

pub returns-in-Object : goal.returns-in-Object
returns-in-Object c = rw c.in-Object.is c.object_uid.ensures
