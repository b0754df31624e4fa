use Rattle.cedar_ext_time.proofs.Midnights.{time_since}
use Rattle.cedar_ext_time.proofs.datetime.Datetime.to_time.Goals as goal

pub returns-clause-since : goal.returns-clause-since
returns-clause-since c = λ m h. time_since _ m _ c.time_of_day.ensures.gives h
