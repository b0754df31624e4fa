-- What a policy file holds, and why it is refused.
use Rattle.std.specs.Prelude.{◌≡◌, ◌≢◌, ◌⊎◌, ℕ, Bool, false, List, Option, None, MatchOption}
use Rattle.std.specs.Str.{IsUtf8}
use Rattle.cedar_ext.specs.declared.language.Language.{Language}
use Rattle.cedar_ext.specs.declared.language.Language.TheVariants.{Profile, Cedar4}
use Rattle.cedar_ast.specs.PolicySetTree.{PolicySetTree}
use Rattle.cedar_ast.specs.declared.link.Link.{Link}
use Rattle.cedar_parser_tokens.specs.declared.parse_fault.ParseFault.{ParseFault}
use Rattle.cedar_parser_tokens.specs.Faults.{number_of, offset_of}
use Rattle.cedar_parser.specs.Braces.{begins_with_brace}
use Rattle.cedar_parser.specs.PolicyText.{IsPolicyText, HasFault}
use Rattle.cedar_policies_json.specs.Numbers as json_number
use Rattle.cedar_policies_json.specs.PolicyFiles as json
use Rattle.cedar_policies_json.specs.declared.policy_file_fault.PolicyFileFault.{PolicyFileFault}
use Rattle.cedar_files.specs.Format.{InFormat}
use Rattle.cedar_files.specs.LinksFile.{AreLinked, HaveLinkFault}
use Rattle.cedar_files.specs.declared.refusal.FileRefusal.{FileRefusal}

-- Whether a file is read as JSON: in Cedar 4 one that begins with `{`, as no policy text does (Cedar documentation, JSON policy format;
-- own).
abbrev pub is_json : Language → List ℕ → Bool
is_json Profile bytes = false
is_json Cedar4 bytes = begins_with_brace bytes

-- ---- what it holds

-- The bytes are UTF-8, and as a text of the language they are that of the policies (Cedar language reference, grammar).
abbrev pub IsTextFile : Language → List ℕ → PolicySetTree → Type 0
IsTextFile language bytes set = IsUtf8 bytes × IsPolicyText language bytes set

-- The bytes are JSON that writes policies, templates and links, and the set is that of the policies and templates, with the links
-- entered after them (Cedar documentation, JSON policy set format).
pub record IsJsonFile (language : Language) (bytes : List ℕ) (set : PolicySetTree) : Type 0 where
  pub policies : PolicySetTree
  pub links : List Link
  pub written : json.IsPolicyFile language bytes policies links
  pub linked : AreLinked policies links set

-- The bytes hold the policies in the format in which they are read (Cedar language reference, grammar; Cedar documentation, JSON
-- policy format).
abbrev pub IsPolicyFile : Language → List ℕ → PolicySetTree → Type 0
IsPolicyFile language bytes set = InFormat (is_json language bytes) (IsJsonFile language bytes set) (IsTextFile language bytes set)

-- The command line names a policy file, and in the language it holds the policies (own).
abbrev pub HoldsPolicies : Language → Option (List ℕ) → PolicySetTree → Type 0
HoldsPolicies language held set = MatchOption held ⊥ (λ bytes. IsPolicyFile language bytes set)

-- ---- why it is refused

-- The bytes are UTF-8, and as a text of the language they are that of no policies: they have a fault of this number and this place. It is never 1,
-- since out of memory is not a fault of a text (own).
pub record HasTextFault (language : Language) (bytes : List ℕ) (refusal : FileRefusal) : Type 0 where
  pub is_text : IsUtf8 bytes
  pub fault : ParseFault
  pub has : HasFault language bytes fault
  pub number_is : refusal.number ≡ number_of fault
  pub no_memory : refusal.number ≢ 1
  pub offset_is : refusal.offset ≡ offset_of fault
  pub no_policies : (set : PolicySetTree) → IsPolicyText language bytes set → ⊥

-- Why a text is refused: 105 where it is not UTF-8, or the number and the place of a fault that it has (own).
abbrev pub IsNoTextFile : Language → List ℕ → FileRefusal → Type 0
IsNoTextFile language bytes refusal = ((refusal ≡ record { number = 105; offset = None }) × ¬ (IsUtf8 bytes)) ⊎ HasTextFault language bytes refusal

-- The bytes write no policies as JSON: they have a fault of this number, without a place. It is never 1, since out of memory is not a
-- fault of bytes (own).
pub record HasJsonFault (language : Language) (bytes : List ℕ) (refusal : FileRefusal) : Type 0 where
  pub fault : PolicyFileFault
  pub has : json.HasFault language bytes fault
  pub no_memory : json_number.number_of fault ≢ 1
  pub is : refusal ≡ record { number = json_number.number_of fault; offset = None }
  pub no_policies : (set : PolicySetTree) (links : List Link) → json.IsPolicyFile language bytes set links → ⊥

-- The bytes write policies and links as JSON, and one of the links is refused with this number, without a place (own).
pub record HasJsonLinkFault (language : Language) (bytes : List ℕ) (refusal : FileRefusal) : Type 0 where
  pub policies : PolicySetTree
  pub links : List Link
  pub written : json.IsPolicyFile language bytes policies links
  pub number : ℕ
  pub has : HaveLinkFault policies links number
  pub is : refusal ≡ record { number = number; offset = None }

-- Why JSON is refused: it writes no policies, or one of its links cannot be entered (own).
abbrev pub IsNoJsonFile : Language → List ℕ → FileRefusal → Type 0
IsNoJsonFile language bytes refusal = HasJsonFault language bytes refusal ⊎ HasJsonLinkFault language bytes refusal

-- The bytes hold no policies in the format in which they are read, for this reason (own).
abbrev pub IsNoPolicyFile : Language → List ℕ → FileRefusal → Type 0
IsNoPolicyFile language bytes refusal = InFormat (is_json language bytes) (IsNoJsonFile language bytes refusal) (IsNoTextFile language bytes refusal)

-- The command line names a policy file, and this is why in the language it holds no policies (own).
abbrev pub HoldsNoPolicies : Language → Option (List ℕ) → FileRefusal → Type 0
HoldsNoPolicies language held refusal = MatchOption held ⊥ (λ bytes. IsNoPolicyFile language bytes refusal)
