-- How far the loop over lines has come.
use Rattle.std.specs.Prelude.{◌≡◌, ◌≢◌, ℕ, List, [], ◌∷◌, ◌++◌, Option}
use Rattle.std.specs.Io.KnownBytes.{Appends, Consumes}
use Rattle.base_lines.specs.Lines.{line_feed}
use Rattle.base_lines.specs.AnswerText.{Answering, AnswersEach, IsAnswerText}

-- a piece holds no LF
abbrev pub IsPiece : List ℕ → Type 0
IsPiece [] = Unit {0}
IsPiece (b ∷ bs) = (b ≢ line_feed) × IsPiece bs

abbrev pub ArePieces : List (List ℕ) → Type 0
ArePieces [] = Unit {0}
ArePieces (l ∷ ls) = IsPiece l × ArePieces ls

-- each line and its LF
abbrev pub joined : List (List ℕ) → List ℕ
joined [] = []
joined (l ∷ ls) = l ++ (line_feed ∷ joined ls)

-- the bytes are whole lines and then the rest, and the text answers those lines
pub record Answered (answers : Answering) (bytes rest text : List ℕ) : Type 0 where
  pub lines : List (List ℕ)
  pub pieces : ArePieces lines
  pub cut : bytes ≡ joined lines ++ rest
  pub answered : AnswersEach answers lines text

-- the bytes are whole lines and then the rest; the answers to those lines were written, except those that wait in `out`
pub record Sent (answers : Answering) (bytes rest : List ℕ) (old new : Option (List ℕ)) (out : List ℕ) : Type 0 where
  pub text : List ℕ
  pub written : List ℕ
  pub answered : Answered answers bytes rest text
  pub appends : Appends old new written
  pub waits : text ≡ written ++ out

-- after these further bytes the same holds of the new rest, sink and `out`
abbrev pub SendsOn : Answering → List ℕ → List ℕ → List ℕ → Option (List ℕ) → Option (List ℕ) → List ℕ → List ℕ → Type 0
SendsOn answers more rest rest' old new out out' =
    (bytes : List ℕ) (first : Option (List ℕ)) → Sent answers bytes rest first old out → Sent answers (bytes ++ more) rest' first new out'

-- the same of what was read and written since the call began
pub record Served (answers : Answering) (left left' old new : Option (List ℕ)) (rest out : List ℕ) : Type 0 where
  pub given : List ℕ
  pub consumes : Consumes left left' given
  pub sent : Sent answers given rest old new out

-- all that was read has its answer text, which was written except for `out`
pub record ServedAll (answers : Answering) (left left' old new : Option (List ℕ)) (out : List ℕ) : Type 0 where
  pub given : List ℕ
  pub text : List ℕ
  pub written : List ℕ
  pub consumes : Consumes left left' given
  pub answered : IsAnswerText answers given text
  pub appends : Appends old new written
  pub waits : text ≡ written ++ out
