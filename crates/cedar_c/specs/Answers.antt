-- What a call gives, where a handle leads to an engine.
use Rattle.std.specs.Prelude.{ℕ, List}
use Rattle.base_lines.specs.AnswerText.{IsAnswerText}
use Rattle.cedar_auth.specs.AnswerLine.{AnswersLine}
use Rattle.cedar_auth.specs.AnswerLineWithEntities.{AnswersLineWithEntities}
use Rattle.cedar_auth_spec.specs.Ready.{ReadyTree}
use Rattle.cedar_c.specs.declared.slot.Slot.{Slot}
use Rattle.cedar_c.specs.declared.slot.Slot.TheVariants.{Empty, Full}

-- The handle leads to an engine of which this holds (own).
abbrev pub LeadsTo : (ReadyTree → Type 0) → Slot → Type 0
LeadsTo P Empty = ⊥
LeadsTo P (Full r) = P r

-- The text is one answer line for each of these request lines, in their order: the response to the request that the line denotes, or
-- the refusal of a fault that it has (Cedar language reference, authorization).
abbrev pub AnswersLines : Slot → List ℕ → List ℕ → Type 0
AnswersLines slot lines text = LeadsTo (λ r. IsAnswerText (AnswersLine r) lines text) slot

-- The same of request lines that may bring entities: each is answered over the world in which what it brings is upserted (Cedar language
-- reference, authorization).
abbrev pub AnswersLinesWithEntities : Slot → List ℕ → List ℕ → Type 0
AnswersLinesWithEntities slot lines text = LeadsTo (λ r. IsAnswerText (AnswersLineWithEntities r) lines text) slot

-- The text answers this request line, without LF (Cedar language reference, authorization).
abbrev pub AnswersOne : Slot → List ℕ → List ℕ → Type 0
AnswersOne slot line text = LeadsTo (λ r. AnswersLine r line text) slot
