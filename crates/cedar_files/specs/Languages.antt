-- What files hold in the profile, they hold in Cedar 4, and requests have the same answers.
use Rattle.std.specs.Prelude.{◌≡◌, ℕ, List, Option, IfSome}
use Rattle.cedar_ext.specs.declared.language.Language.TheVariants.{Profile, Cedar4}
use Rattle.cedar_check_spec.specs.declared.settings.Settings.{Settings}
use Rattle.cedar_auth_spec.specs.Ready.{ReadyTree}
use Rattle.cedar_schema.specs.Languages.{BytesMeanTheSame}
use Rattle.cedar_files.specs.declared.files.Role.TheVariants.{Schema}
use Rattle.cedar_files.specs.Authorization.{HoldAll}
use Rattle.cedar_files.specs.Roles.{Holdings}

-- The same choices, in the language of Cedar 4 (own).
abbrev pub in_cedar4 : Settings → Settings
in_cedar4 settings = record { any_decimal = settings.any_decimal; language = Cedar4 }

-- The same schema, policies and world under settings in the language of Cedar 4 (own).
abbrev pub ready_in_cedar4 : ReadyTree → ReadyTree
ready_in_cedar4 r = record { schema = r.schema; policies = r.policies; settings = in_cedar4 r.settings; world = r.world }

-- The names of a schema that a file holds mean in Cedar 4 what they mean in the profile: no definition shadows another, and no
-- common type has a name that is a word of Cedar 4 (Cedar RFC 70; own).
abbrev pub SchemaMeansTheSame : Option (Option (List ℕ)) → Type 0
SchemaMeansTheSame held = IfSome held (λ file. IfSome file BytesMeanTheSame)

-- What files hold under settings in the profile, they hold under the same choices in Cedar 4, if the names of the schema mean the
-- same there: the same schema, the same policies and the same world. So each request has the same answer (own).
abbrev pub FilesAreKept : Type 0
FilesAreKept = (settings : Settings) (holds : Holdings) (r : ReadyTree) → settings.language ≡ Profile → SchemaMeansTheSame (holds Schema) → HoldAll settings holds r → HoldAll (in_cedar4 settings) holds (ready_in_cedar4 r)
