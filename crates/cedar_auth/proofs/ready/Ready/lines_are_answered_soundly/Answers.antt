use Rattle.cedar_auth.proofs.ready.Ready.lines_are_answered_soundly.Goals as goal

pub returns : goal.returns
returns c = λ line q denoted. c.soundness.ensures q (c.denoted_requests_fit.ensures c.args.self.now.schema line q denoted)
