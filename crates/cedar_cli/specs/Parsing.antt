-- How `check-parse` ends, and what it has written by then.
use Rattle.std.specs.Prelude.{◌≡◌, ◌⊎◌, ℕ, List, [], ◌∷◌, ◌++◌, Option, None, IfSome, codes, length}
use Rattle.std.specs.Io.KnownBytes.{Keeps}
use Rattle.serde_json.specs.Data.{Data, number, unsigned, object, no_members, member}
use Rattle.serde_json.specs.Written.{compact_text}
use Rattle.base_lines.specs.AnswerText.{Writes}
use Rattle.base_lines.specs.Lines.{line_feed}
use Rattle.cedar_ast.specs.PolicySetTree.{PolicySetTree}
use Rattle.cedar_ext.specs.declared.language.Language.{Language}
use Rattle.cedar_files.specs.PolicyFile.{HoldsNoPolicies, HoldsPolicies}
use Rattle.cedar_files.specs.Standing.{BeginsRefusal, IsRefusalLine}
use Rattle.cedar_files.specs.declared.ending.End.{End}
use Rattle.cedar_files.specs.declared.ending.End.TheVariants.{Done, Refused, CommandLine, Device, Memory}
use Rattle.cedar_files.specs.declared.files.Role.TheVariants.{Policies}
use Rattle.cedar_files.specs.declared.refusal.FileRefusal.{FileRefusal}

-- How many policies and templates there are: `{"policies":P,"templates":T}` (own).
abbrev pub counts_data : ℕ → ℕ → Data
counts_data policies templates =
    object (member (codes "policies") (number (unsigned policies)) (member (codes "templates") (number (unsigned templates)) no_members))

-- The text is the line that says how many policies and templates a set has (own).
abbrev pub IsCountsLine : PolicySetTree → List ℕ → Type 0
IsCountsLine set text = text ≡ compact_text (counts_data (length set.policies) (length set.templates)) ++ line_feed ∷ []

-- The text is a beginning of that line (own).
abbrev pub BeginsCountsLine : PolicySetTree → List ℕ → Type 0
BeginsCountsLine set text = (more : List ℕ) × IsCountsLine set (text ++ more)

-- How `check-parse` ends, and what it has written by then, where it is known what the policy file holds: the line that says how many
-- policies it holds in a language, or the line that refuses it. Nothing is written where none is named, or memory runs out. Where the file cannot be
-- read, or the sink failed, as the type before the written bytes says, it is a beginning of these, or nothing (own).
abbrev pub ChecksParse : Language → Option (Option (List ℕ)) → Type 0 → Option (List ℕ) → Option (List ℕ) → End → Type 0
ChecksParse language held failed old new Done = (set : PolicySetTree) × IfSome held (λ file. HoldsPolicies language file set) × Writes old new (IsCountsLine set)
ChecksParse language held failed old new Refused =
    (refusal : FileRefusal) × IfSome held (λ file. HoldsNoPolicies language file refusal) × Writes old new (IsRefusalLine Policies refusal)
ChecksParse language held failed old new CommandLine = IfSome held (λ file. file ≡ None) × Keeps old new
ChecksParse language held failed old new Device = ((held ≡ None) ⊎ failed)
    × (Keeps old new
    ⊎ ((set : PolicySetTree) × IfSome held (λ file. HoldsPolicies language file set) × Writes old new (BeginsCountsLine set))
    ⊎ ((refusal : FileRefusal) × IfSome held (λ file. HoldsNoPolicies language file refusal) × Writes old new (BeginsRefusal Policies refusal)))
ChecksParse language held failed old new Memory = Keeps old new
ChecksParse language held failed old new _ = ⊥
