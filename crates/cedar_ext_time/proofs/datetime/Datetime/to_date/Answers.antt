use Rattle.cedar_ext_time.proofs.Midnights.{date_some, date_none}
use Rattle.cedar_ext_time.proofs.datetime.Datetime.to_date.Goals as goal

pub returns-clause-some : goal.returns-clause-some
returns-clause-some c = date_some _ _ c.last_midnight.ensures.gives

pub returns-clause-none : goal.returns-clause-none
returns-clause-none c = date_none _ _ c.last_midnight.ensures.fits c.last_midnight.ensures.gives
