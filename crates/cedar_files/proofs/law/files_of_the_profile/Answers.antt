use Rattle.cedar_files.proofs.Languages.{files_kept}
use Rattle.cedar_files.proofs.law.files_of_the_profile.Goals as goal

pub returns : goal.returns
returns c = files_kept c.texts_of_each_language.ensures c.texts_begin_with_no_brace.ensures c.profile_schemas.ensures c.validation_in_each_language.ensures.acceptance
