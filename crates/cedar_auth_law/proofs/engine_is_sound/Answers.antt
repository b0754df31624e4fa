use Rattle.cedar_check_spec.specs.Settings.{default_settings}
use Rattle.cedar_auth_law.proofs.Headlines.{engine_is_sound, premises_are_met}
use Rattle.cedar_auth_law.proofs.engine_is_sound.Goals as goal

pub returns : goal.returns
returns c = record {
  sound = engine_is_sound default_settings c.typing_is_sound.ensures.acceptance c.execution_is_evaluation.ensures;
  premises = premises_are_met default_settings c.typing_is_sound.ensures.premises;
  sound_with = λ settings. engine_is_sound settings (c.typing_is_sound.ensures.acceptance_with settings) c.execution_is_evaluation.ensures;
  premises_with = λ settings. premises_are_met settings (c.typing_is_sound.ensures.premises_with settings);
}
