use Rattle.cedar_check_spec.specs.Settings.{default_settings}
use Rattle.cedar_check_law.proofs.Sound.{sound_typing, replaced, sound_acceptance}
use Rattle.cedar_check_law.proofs.Responses.{sound_response}
use Rattle.cedar_check_law.proofs.Premises.{premises_are_met}
use Rattle.cedar_check_law.proofs.typing_is_sound.Goals as goal

pub returns : goal.returns
returns c = record {
  typing = sound_typing default_settings;
  replacement = replaced;
  acceptance = sound_acceptance default_settings;
  response = sound_response default_settings;
  premises = premises_are_met default_settings;
  typing_with = sound_typing;
  acceptance_with = sound_acceptance;
  response_with = sound_response;
  premises_with = premises_are_met;
}
