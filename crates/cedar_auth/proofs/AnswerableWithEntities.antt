-- Every line with entities has an answer: it denotes a request and a world for it, or it has a fault.
use Rattle.std.proofs.Common.{◌≡◌, ◌≢◌, ◌⊎◌, ℕ, inl, inr, List, codes, Option, Some, None, refl, sym, subst}
use Rattle.std.specs.Prelude.{MatchOption}
use Rattle.std.specs.Bool.{Decides}
use Rattle.serde_json.specs.Data.{Data}
use Rattle.serde_json.specs.Find.{get}
use Rattle.serde_json.specs.Written.{compact_text}
use Rattle.base_json.specs.JsonTree.{json_of}
use Rattle.cedar_ast.specs.Response.{response}
use Rattle.cedar_value.specs.World.{World, Below, below}
use Rattle.cedar_value.specs.declared.request.Request.{Request}
use Rattle.cedar_value.specs.declared.uid.Uid.{Uid}
use Rattle.cedar_schema_spec.specs.Declarations.{ActionsAreDecided, ActionDescentsAreDecided, TypeDescentsAreDecided}
use Rattle.cedar_schema_spec.specs.SchemaTree.{SchemaTree}
use Rattle.cedar_schema_spec.specs.WellFormed.{AreContextsOrdered, AreShapesOrdered}
use Rattle.cedar_conform_values.specs.Belonging.{ReadValuesBelong}
use Rattle.cedar_conform_values.specs.Objects.{has_only}
use Rattle.cedar_conform_values.specs.Numbers.{number_of}
use Rattle.cedar_conform_values.specs.declared.conform_fault.ConformFault.{ConformFault}
use Rattle.cedar_conform_values.specs.declared.conform_fault.ConformFault.TheVariants.{OutOfMemory, Json}
use Rattle.cedar_conform_entities.specs.Changes.{DenotesChangedWorld, HasChangesFault, upserts_only}
use Rattle.cedar_conform.specs.Requests.{Denotes, HasFault, is_request_key}
use Rattle.cedar_conform.specs.RequestsWithEntities.{DenotesWithEntities, HasFaultWithEntities, LineDenotesWithEntities, LineHasFaultWithEntities, without}
use Rattle.cedar_auth_spec.specs.AnswerJson.{response_data, refused_data}
use Rattle.cedar_auth_spec.specs.Ready.{ReadyTree}
use Rattle.cedar_auth.specs.AnswerLineWithEntities.{AnswersLineWithEntities}
use Rattle.cedar_auth.proofs.Answerable.{UidsAreDecided, NamesAreDecided, by_keys}
use Rattle.cedar_auth.proofs.EntriesAnswerable.{entries_answerable}

abbrev key : List ℕ
key = codes "entities"

-- a line that denotes a request and a world for it has no fault
abbrev pub DenotedHaveNoFault : SchemaTree → World → Type 0
DenotedHaveNoFault s old = (line : List ℕ) (q : Request) (w : World) (f : ConformFault) → LineDenotesWithEntities s old line q w → ¬ LineHasFaultWithEntities s old line f

module _ (uids : UidsAreDecided) (names : NamesAreDecided) (actions : ActionsAreDecided) (action_descents : ActionDescentsAreDecided) (type_descents : TypeDescentsAreDecided) (belong : ReadValuesBelong) (chains : (w : World) (u v : Uid) → Decides (below w u v) (Below w u v)) (r : ReadyTree) (contexts : AreContextsOrdered r.schema) (shapes : AreShapesOrdered r.schema) (none : DenotedHaveNoFault r.schema r.world) where
  refused_by : (line : List ℕ) (f : ConformFault) → f ≢ OutOfMemory → LineHasFaultWithEntities r.schema r.world line f → (text : List ℕ) × AnswersLineWithEntities r line text
  refused_by line f other has = (compact_text (refused_data (number_of f)), inr (f, other, has, λ q w h. none line q w f h has, refl))

  module _ (line : List ℕ) (d : Data) (is : json_of line ≡ Some d) where
    answered : (q : Request) (w : World) → DenotesWithEntities r.schema r.world d q w → (text : List ℕ) × AnswersLineWithEntities r line text
    answered q w h = (
      compact_text (response_data (response r.policies.policies q w)),
      inl (q, w, subst (λ (o : Option Data). MatchOption o ⊥ (λ x. DenotesWithEntities r.schema r.world x q w)) (sym is) h, refl),
    )

    refused : (f : ConformFault) → f ≢ OutOfMemory → HasFaultWithEntities r.schema r.world d f → (text : List ℕ) × AnswersLineWithEntities r line text
    refused f other h = refused_by line f other (subst (λ (o : Option Data). MatchOption o (f ≡ Json) (λ x. HasFaultWithEntities r.schema r.world x f)) (sym is) h)

    by_upserts : (q : Request) → Denotes r.schema (without key d) q → (entries : Data) → get key d ≡ Some entries
        → ((w : World) × DenotesChangedWorld r.schema (upserts_only entries) r.world w) ⊎ ((f : ConformFault) × (f ≢ OutOfMemory) × HasChangesFault r.schema r.world (upserts_only entries) f)
        → (text : List ℕ) × AnswersLineWithEntities r line text
    by_upserts q h entries at (inl w) = answered q w.0 (h, subst (λ (o : Option Data). MatchOption o (w.0 ≡ r.world) (λ x. DenotesChangedWorld r.schema (upserts_only x) r.world w.0)) (sym at) w.1)
    by_upserts q h entries at (inr f) = refused f.0 f.1 (inr (subst (λ (o : Option Data). MatchOption o ⊥ (λ x. HasChangesFault r.schema r.world (upserts_only x) f.0)) (sym at) f.2))

    by_entities : (q : Request) → Denotes r.schema (without key d) q → (o : Option Data) → get key d ≡ o → (text : List ℕ) × AnswersLineWithEntities r line text
    by_entities q h None at = answered q r.world (h, subst (λ (o : Option Data). MatchOption o (r.world ≡ r.world) (λ x. DenotesChangedWorld r.schema (upserts_only x) r.world r.world)) (sym at) refl)
    by_entities q h (Some entries) at = by_upserts q h entries at (entries_answerable uids names actions action_descents type_descents belong r.schema shapes chains r.world entries)

    by_request : ((q : Request) × Denotes r.schema (without key d) q) ⊎ ((f : ConformFault) × (f ≢ OutOfMemory) × HasFault r.schema (without key d) f) → (text : List ℕ) × AnswersLineWithEntities r line text
    by_request (inl q) = by_entities q.0 q.1 (get key d) refl
    by_request (inr f) = refused f.0 f.1 (inl f.2)

  line_by : (line : List ℕ) (o : Option Data) → json_of line ≡ o → (text : List ℕ) × AnswersLineWithEntities r line text
  line_by line None e = refused_by line Json (λ x. cc) (subst (λ (o : Option Data). MatchOption o (Json ≡ Json) (λ x. HasFaultWithEntities r.schema r.world x Json)) (sym e) refl)
  line_by line (Some d) e = by_request line d e (by_keys uids names actions belong r.schema contexts (without key d) (has_only is_request_key (without key d)) refl)

  pub answerable_with : (line : List ℕ) → (text : List ℕ) × AnswersLineWithEntities r line text
  answerable_with line = line_by line (json_of line) refl
