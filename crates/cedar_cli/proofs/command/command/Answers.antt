use Rattle.std.proofs.Common.{◌∙◌, ap, ap₂}
use Rattle.clap.specs.Words.{App, with_subcommand}
use Rattle.cedar_cli.proofs.command.command.Goals as goal

pub returns : goal.returns
returns c =
    let one = c.in_ok-subcommand.ensures.shape c.in_ok-validate.ensures.local ∙ ap₂ with_subcommand c.in_ok-top.ensures (ap (λ (a : App). a.top) c.in_ok-validate.ensures.app) in
    let two = c.in_ok-subcommand-2.ensures.shape c.in_ok-authorize.ensures.local ∙ ap₂ with_subcommand one (ap (λ (a : App). a.top) c.in_ok-authorize.ensures.app) in
    let three = c.in_ok-subcommand-3.ensures.shape c.in_ok-why.ensures.local ∙ ap₂ with_subcommand two (ap (λ (a : App). a.top) c.in_ok-why.ensures.app) in
    let four = c.in_ok-subcommand-4.ensures.shape c.in_ok-ask.ensures.local ∙ ap₂ with_subcommand three (ap (λ (a : App). a.top) c.in_ok-ask.ensures.app) in
    let five = c.in_ok-subcommand-5.ensures.shape c.in_ok-check_parse.ensures.local ∙ ap₂ with_subcommand four (ap (λ (a : App). a.top) c.in_ok-check_parse.ensures.app) in
    c.in_ok-program.ensures.shape c.in_ok-explain.ensures.local ∙ ap₂ with_subcommand five (ap (λ (a : App). a.top) c.in_ok-explain.ensures.app)
