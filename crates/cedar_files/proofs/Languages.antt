-- What files hold in the profile, they hold in Cedar 4.
use Rattle.std.proofs.Common.{◌≡◌, refl, ap, subst, ℕ, Bool, true, false, List, Option, None, Some}
use Rattle.std.specs.Prelude.{IfSome, MatchOption, ◌&&◌, not, is_some}
use Rattle.std.specs.Str.{is_utf8}
use Rattle.serde_json.specs.Data.{Data}
use Rattle.base_json.specs.JsonTree.{json_of}
use Rattle.cedar_ext.specs.declared.language.Language.{Language}
use Rattle.cedar_ext.specs.declared.language.Language.TheVariants.{Profile, Cedar4}
use Rattle.cedar_value.specs.World.{World}
use Rattle.cedar_value.specs.declared.request.Request.{Request}
use Rattle.cedar_ast.specs.PolicyTree.{PolicyTree}
use Rattle.cedar_ast.specs.PolicySetTree.{PolicySetTree}
use Rattle.cedar_ast_expressions.specs.declared.error.EvaluationError.{EvaluationError}
use Rattle.cedar_ast_expressions.specs.declared.error.EvaluationError.TheVariants as error
use Rattle.cedar_schema_spec.specs.SchemaTree.{SchemaTree}
use Rattle.cedar_schema.specs.Denotes.{BytesDenote, Denotes}
use Rattle.cedar_schema.specs.Languages.{ProfileSchemasAreKept}
use Rattle.cedar_parser.specs.Braces.{TextsBeginWithNoBrace, begins_with_brace}
use Rattle.cedar_parser.specs.PolicyText.{IsPolicyText}
use Rattle.cedar_code.specs.declared.outcome.Outcome.{Outcome}
use Rattle.cedar_code.specs.declared.outcome.Outcome.TheVariants.{Value, Error, StackFault}
use Rattle.cedar_check_spec.specs.Languages.{AcceptanceIsKept}
use Rattle.cedar_check_spec.specs.Soundness.{IsAllowedWith}
use Rattle.cedar_check_spec.specs.declared.settings.Settings.{Settings}
use Rattle.cedar_auth_spec.specs.Headline.{IsSafeWith, RunsSafelyWith, IsAnsweredSoundlyWith}
use Rattle.cedar_auth_spec.specs.Ready.{ReadyTree}
use Rattle.cedar_files.specs.Authorization.{HoldAll}
use Rattle.cedar_files.specs.Languages.{in_cedar4, ready_in_cedar4, SchemaMeansTheSame}
use Rattle.cedar_files.specs.PolicyFile.{HoldsPolicies, IsJsonFile, IsTextFile}
use Rattle.cedar_files.specs.Roles.{Holdings}
use Rattle.cedar_files.specs.Format.{InFormat}
use Rattle.cedar_files.specs.SchemaFile.{HoldsSchema, TextDenotes, is_schema_text}
use Rattle.cedar_files.specs.Validation.{Hold, HoldText}
use Rattle.cedar_files.specs.declared.files.Role.TheVariants.{Schema, Policies}

-- ---- the answers

allowed : (settings : Settings) (e : EvaluationError) → IsAllowedWith settings e → IsAllowedWith (in_cedar4 settings) e
allowed settings error.Overflow h = h
allowed settings error.MissingEntity h = h
allowed settings error.Decimal h = h
allowed settings _ h = absurd h

safe : (settings : Settings) (o : Outcome) → IsSafeWith settings o → IsSafeWith (in_cedar4 settings) o
safe settings (Value v) h = h
safe settings (Error e) h = allowed settings e h
safe settings StackFault h = h

runs : (settings : Settings) (p : PolicyTree) (q : Request) (w : World) → RunsSafelyWith settings p q w → RunsSafelyWith (in_cedar4 settings) p q w
runs settings p q w h = record { steps = h.steps; runs = h.runs; few = h.few; safe = safe settings _ h.safe }

sound : (settings : Settings) (ps : List PolicyTree) (q : Request) (w : World) → IsAnsweredSoundlyWith settings ps q w → IsAnsweredSoundlyWith (in_cedar4 settings) ps q w
sound settings ps q w h = record { runs = λ p c. runs settings p q w (h.runs p c); errors = λ x c. allowed settings x.error (h.errors x c); cedars = h.cedars }

-- ---- the files

-- what is read as a text denotes nothing as JSON
no_json : (bytes : List ℕ) → is_schema_text Cedar4 bytes ≡ true → (s : SchemaTree) → BytesDenote Profile bytes s → ⊥
no_json bytes text s = at (is_utf8 bytes) (begins_with_brace bytes) (json_of bytes) text
  where
    at : (u b : Bool) (o : Option Data) → (u && (not b && not (is_some o))) ≡ true → MatchOption o ⊥ (λ d. Denotes Profile d s) → ⊥
    at u b None text h = h
    at true true (Some d) text h = cc
    at true false (Some d) text h = cc
    at false b (Some d) text h = cc

module _ (texts : (l : Language) (source : List ℕ) (set : PolicySetTree) → IsPolicyText l source set → IsPolicyText Cedar4 source set)
    (braces : TextsBeginWithNoBrace) (schemas : ProfileSchemasAreKept) (acceptance : AcceptanceIsKept) where
  schema_kept : (held : Option (Option (List ℕ))) (s : SchemaTree) → SchemaMeansTheSame held → IfSome held (λ file. HoldsSchema Profile file s) → IfSome held (λ file. HoldsSchema Cedar4 file s)
  schema_kept None s names h = tt
  schema_kept (Some None) s names h = h
  schema_kept (Some (Some bytes)) s names h = in_json (is_schema_text Cedar4 bytes) refl
    where
      in_json : (b : Bool) → is_schema_text Cedar4 bytes ≡ b → InFormat b (TextDenotes bytes s) (BytesDenote Cedar4 bytes s)
      in_json true text = absurd (no_json bytes text s h)
      in_json false other = schemas bytes s names h

  policies_kept : (held : Option (Option (List ℕ))) (set : PolicySetTree) → IfSome held (λ file. HoldsPolicies Profile file set) → IfSome held (λ file. HoldsPolicies Cedar4 file set)
  policies_kept None set h = tt
  policies_kept (Some None) set h = h
  policies_kept (Some (Some bytes)) set h = at (begins_with_brace bytes) refl
    where
      at : (b : Bool) → begins_with_brace bytes ≡ b → InFormat b (IsJsonFile Cedar4 bytes set) (IsTextFile Cedar4 bytes set)
      at true begins = absurd (braces Profile bytes set begins h.1)
      at false begins = (h.0, texts Profile bytes set h.1)

  text_kept : (holds : Holdings) (s : SchemaTree) (text : PolicySetTree) → SchemaMeansTheSame (holds Schema) → HoldText Profile holds s text → HoldText Cedar4 holds s text
  text_kept holds s text names h = record { is_schema = schema_kept (holds Schema) s names h.is_schema; are_policies = policies_kept (holds Policies) text h.are_policies }

  hold_kept : (holds : Holdings) (s : SchemaTree) (set : PolicySetTree) → SchemaMeansTheSame (holds Schema) → Hold Profile holds s set → Hold Cedar4 holds s set
  hold_kept holds s set names h = record { text = h.text; hold_text = text_kept holds s h.text names h.hold_text; are_linked = h.are_linked }

  pub files_kept : (settings : Settings) (holds : Holdings) (r : ReadyTree) → settings.language ≡ Profile → SchemaMeansTheSame (holds Schema) → HoldAll settings holds r → HoldAll (in_cedar4 settings) holds (ready_in_cedar4 r)
  files_kept settings holds r is names h = record {
    hold = hold_kept holds r.schema r.policies names (subst (λ (l : Language). Hold l holds r.schema r.policies) is h.hold);
    settings_are = ap in_cedar4 h.settings_are;
    validated = record { each = λ p c. acceptance settings (in_cedar4 settings) refl r.schema p (h.validated.each p c) };
    is_world = h.is_world;
    apart = h.apart;
    conforms = h.conforms;
    sound = λ line q d. sound settings r.policies.policies q r.world (h.sound line q d);
  }
