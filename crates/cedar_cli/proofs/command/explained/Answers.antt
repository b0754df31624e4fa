use Rattle.std.proofs.Common.{◌∙◌, ap, ap₂}
use Rattle.clap.specs.Words.{with_rule}
use Rattle.cedar_cli.proofs.command.explained.Goals as goal

pub returns-clause-app : goal.returns-clause-app
returns-clause-app c =
    let one = c.in_ok-arg.ensures.shape c.flag.ensures.local ∙ ap (with_rule _) c.flag.ensures.rule in
    c.in_ok-command.ensures.shape c.option.ensures.local ∙ ap₂ with_rule one c.option.ensures.rule
