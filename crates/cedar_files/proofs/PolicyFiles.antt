-- Lemmas on policy files.
use Rattle.std.proofs.Common.{◌≡◌, ◌≢◌, ℕ, List, None, inl, inr, ap, sym, ◌∙◌, subst}
use Rattle.std.specs.Str.{IsUtf8}
use Rattle.cedar_ext.specs.declared.language.Language.{Language}
use Rattle.cedar_ast.specs.PolicySetTree.{PolicySetTree}
use Rattle.cedar_parser.specs.PolicyText.{IsPolicyText, HasFault}
use Rattle.cedar_parser_tokens.specs.Faults.{number_of, offset_of}
use Rattle.cedar_parser_tokens.specs.declared.parse_fault.ParseFault.{ParseFault}
use Rattle.cedar_parser_tokens.specs.declared.parse_fault.ParseFault.TheVariants.{OutOfMemory}
use Rattle.cedar_ast.specs.declared.link.Link.{Link}
use Rattle.cedar_policies_json.specs.Numbers as json_number
use Rattle.cedar_policies_json.specs.PolicyFiles as json
use Rattle.cedar_policies_json.specs.declared.policy_file_fault.PolicyFileFault.{PolicyFileFault}
use Rattle.cedar_policies_json.specs.declared.policy_file_fault.PolicyFileFault.TheVariants as json_fault
use Rattle.cedar_files.specs.LinksFile.{HaveLinkFault}
use Rattle.cedar_files.specs.PolicyFile.{HasTextFault, IsNoJsonFile, IsNoTextFile}
use Rattle.cedar_files.specs.Unread.{IfRefused}
use Rattle.cedar_files.specs.declared.reading.Unread.{Unread}
use Rattle.cedar_files.specs.declared.reading.Unread.TheVariants.{Refused, Unnamed, Device, Memory}
use Rattle.cedar_files.specs.declared.refusal.FileRefusal.{FileRefusal}

module _ (language : Language) (bytes source : List ℕ) (fault : ParseFault) (is_text : IsUtf8 bytes) (same : source ≡ bytes) (has : HasFault language source fault)
    (only : (set : PolicySetTree) → IsPolicyText language source set → fault ≡ OutOfMemory) where
  text-fault : (r : FileRefusal) → (number_of fault ≢ 1) × (r ≡ record { number = number_of fault; offset = offset_of fault }) → HasTextFault language bytes r
  text-fault r told = record {
    is_text = is_text;
    fault = fault;
    has = subst (λ (x : List ℕ). HasFault language x fault) same has;
    number_is = ap (λ (x : FileRefusal). x.number) told.1;
    no_memory = λ one. told.0 (sym (ap (λ (x : FileRefusal). x.number) told.1) ∙ one);
    offset_is = ap (λ (x : FileRefusal). x.offset) told.1;
    no_policies = λ set is. told.0 (ap number_of (only set (subst (λ (x : List ℕ). IsPolicyText language x set) (sym same) is)));
  }

  -- what is refused of the text that was read is refused of the bytes
  pub of_text : (unread : Unread) → IfRefused unread (λ refusal. (number_of fault ≢ 1) × (refusal ≡ record { number = number_of fault; offset = offset_of fault })) → IfRefused unread (IsNoTextFile language bytes)
  of_text (Refused r) told = inr (text-fault r told)
  of_text Unnamed told = tt
  of_text Device told = tt
  of_text Memory told = tt

-- what is refused of JSON is refused of the bytes
pub of_json : (language : Language) (bytes : List ℕ) (fault : PolicyFileFault) → json.HasFault language bytes fault → ((set : PolicySetTree) (links : List Link) → json.IsPolicyFile language bytes set links → fault ≡ json_fault.OutOfMemory)
    → (unread : Unread) → IfRefused unread (λ refusal. (json_number.number_of fault ≢ 1) × (refusal ≡ record { number = json_number.number_of fault; offset = None })) → IfRefused unread (IsNoJsonFile language bytes)
of_json language bytes fault has only (Refused r) told =
    inl (record { fault = fault; has = has; no_memory = told.0; is = told.1; no_policies = λ set links is. told.0 (ap json_number.number_of (only set links is)) })
of_json language bytes fault has only Unnamed told = tt
of_json language bytes fault has only Device told = tt
of_json language bytes fault has only Memory told = tt

-- and so is a link of it
pub of_link : (language : Language) (bytes : List ℕ) (policies : PolicySetTree) (links : List Link) → json.IsPolicyFile language bytes policies links → (unread : Unread)
    → IfRefused unread (λ refusal. HaveLinkFault policies links refusal.number × (refusal.offset ≡ None)) → IfRefused unread (IsNoJsonFile language bytes)
of_link language bytes policies links written (Refused r) told =
    inr (record { policies = policies; links = links; written = written; number = r.number; has = told.0; is = λ i. record { number = r.number; offset = told.1 i } })
of_link language bytes policies links written Unnamed told = tt
of_link language bytes policies links written Device told = tt
of_link language bytes policies links written Memory told = tt
