use Rattle.std.proofs.Common.{◌∙◌, ap, ap₂}
use Rattle.clap.specs.Words.{with_rule}
use Rattle.cedar_cli.proofs.command.over_request.Goals as goal

pub returns-clause-app : goal.returns-clause-app
returns-clause-app c =
    let one = c.in_ok-arg.ensures.shape c.option.ensures.local ∙ ap (with_rule _) c.option.ensures.rule in
    let two = c.in_ok-arg-2.ensures.shape c.option-2.ensures.local ∙ ap₂ with_rule one c.option-2.ensures.rule in
    let three = c.in_ok-arg-3.ensures.shape c.option-3.ensures.local ∙ ap₂ with_rule two c.option-3.ensures.rule in
    let four = c.in_ok-arg-4.ensures.shape c.file.ensures.local ∙ ap₂ with_rule three c.file.ensures.rule in
    c.in_ok-command.ensures.shape c.option-4.ensures.local ∙ ap₂ with_rule four c.option-4.ensures.rule
