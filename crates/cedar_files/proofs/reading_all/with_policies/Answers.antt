use Rattle.std.proofs.Common.{ap, subst}
use Rattle.std.specs.Prelude.{IfErr}
use Rattle.cedar_check_spec.specs.declared.settings.Settings.{Settings}
use Rattle.cedar_auth_spec.specs.Validation.{ValidatedTree}
use Rattle.cedar_files.specs.Unprepared.{IsUnprepared}
use Rattle.cedar_files.proofs.Unusable.{unaccepted-is}
use Rattle.cedar_files.proofs.reading_all.with_policies.Goals as goal

pub returns-in-Err-clause-unprepared : goal.returns-in-Err-clause-unprepared
returns-in-Err-clause-unprepared g c =
    unaccepted-is _ _ c.args.schema c.args.policies c.in-Err.refused _ c.not_accepted.ensures c.requires.held c.in-Err.ensures.handed_back c.in-Err.ensures.refused

pub returns-in-Ok-clause-unprepared : goal.returns-in-Ok-clause-unprepared
returns-in-Ok-clause-unprepared g c =
    let same = ap (λ (v : ValidatedTree). v.settings) c.in-Ok.ensures.holds in
    subst (λ (x : Settings). IfErr c.with_validated.result (IsUnprepared x (g.F.Files.holds c.args.files.now))) same c.with_validated.ensures.unprepared
