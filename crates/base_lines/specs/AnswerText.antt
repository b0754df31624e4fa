-- The answer text of an input: one answer line for each line, in order.
use Rattle.std.specs.Prelude.{◌≡◌, ℕ, List, [], ◌∷◌, ◌++◌, take, Option}
use Rattle.std.specs.Io.KnownBytes.{Appends, Consumes}
use Rattle.base_lines.specs.Lines.{line_feed, lines_of}

-- Which text answers which line, both without their LF. An engine defines it (own).
abbrev pub Answering : Type 1
Answering = List ℕ → List ℕ → Type 0

-- The text is one answer line for each of these lines, in their order: its answer and LF (own).
abbrev pub AnswersEach : Answering → List (List ℕ) → List ℕ → Type 0
AnswersEach answers [] text = text ≡ []
AnswersEach answers (line ∷ lines) text =
    (answer more : List ℕ) × answers line answer × (text ≡ answer ++ (line_feed ∷ more)) × AnswersEach answers lines more

-- The text answers the input: it is one answer line for each line of it (own).
abbrev pub IsAnswerText : Answering → List ℕ → List ℕ → Type 0
IsAnswerText answers input text = AnswersEach answers (lines_of input) text

-- The text answers some first of these lines, and ends with the last of those answer lines (own).
abbrev pub AnswersFirst : Answering → List (List ℕ) → List ℕ → Type 0
AnswersFirst answers lines text = (k : ℕ) × AnswersEach answers (take k lines) text

-- The text is a beginning of one that answers some first of these lines; it may end within an answer line (own).
abbrev pub BeginsAnswers : Answering → List (List ℕ) → List ℕ → Type 0
BeginsAnswers answers lines text = (more : List ℕ) × AnswersFirst answers lines (text ++ more)

-- The text is a beginning of an answer text of the whole input (own).
abbrev pub BeginsAnswerText : Answering → List ℕ → List ℕ → Type 0
BeginsAnswerText answers input text = (more : List ℕ) × IsAnswerText answers input (text ++ more)

-- What a sink took between these two states has the fact, where it is known what was written to the sink (own).
abbrev pub Writes : Option (List ℕ) → Option (List ℕ) → (List ℕ → Type 0) → Type 0
Writes old new P = (text : List ℕ) × Appends old new text × P text

-- What a source gave between these two states has the fact, where it is known what the source has left (own).
abbrev pub Receives : Option (List ℕ) → Option (List ℕ) → (List ℕ → Type 0) → Type 0
Receives old new P = (given : List ℕ) × Consumes old new given × P given
