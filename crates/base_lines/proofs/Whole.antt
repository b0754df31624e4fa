-- Where every line has an answer, a beginning of some first answers is a beginning of an answer text.
use Rattle.std.proofs.Common.{ℕ, List, [], ◌∷◌, ◌++◌, take, drop, refl, subst, append_assoc, take-append-drop, Result, Ok, Err, Option, None, Some, OnErr, IfSome}
use Rattle.base_lines.specs.Lines.{line_feed, lines_of}
use Rattle.base_lines.specs.AnswerText.{Answering, AnswersEach, BeginsAnswers, BeginsAnswerText, Writes}
use Rattle.base_lines.proofs.Steps.{AnswersEach-append}

pub some_text : (r : Answering) → ((l : List ℕ) → (a : List ℕ) × r l a) → (ls : List (List ℕ)) → (t : List ℕ) × AnswersEach r ls t
some_text r h [] = ([], refl)
some_text r h (l ∷ ls) =
    let a = h l in
    let t = some_text r h ls in
    (a.0 ++ (line_feed ∷ t.0), (a.0, t.0, a.1, refl, t.1))

goes_on : (r : Answering) (input text : List ℕ) (b : BeginsAnswers r (lines_of input) text) (rest : List ℕ)
    → AnswersEach r (drop b.1.0 (lines_of input)) rest → BeginsAnswerText r input text
goes_on r input text b rest h =
    let k = b.1.0 in (
      b.0 ++ rest,
      subst (λ (u : List ℕ). AnswersEach r (lines_of input) u) (append_assoc text b.0 rest)
          (subst (λ (ls : List (List ℕ)). AnswersEach r ls ((text ++ b.0) ++ rest)) (take-append-drop k (lines_of input))
          (AnswersEach-append r (take k (lines_of input)) (drop k (lines_of input)) (text ++ b.0) rest b.1.1 h)),
    )

pub begins_whole : (r : Answering) → ((line : List ℕ) → (answer : List ℕ) × r line answer) → (input text : List ℕ) → BeginsAnswers r (lines_of input) text
    → BeginsAnswerText r input text
begins_whole r h input text b = let rest = some_text r h (drop b.1.0 (lines_of input)) in goes_on r input text b rest.0 rest.1

-- what was written after a fault, where every line has an answer
pub begun_whole : (r : Answering) (left old new : Option (List ℕ))
    → IfSome left (λ input. Writes old new (BeginsAnswers r (lines_of input)))
    → ((line : List ℕ) → (answer : List ℕ) × r line answer)
    → IfSome left (λ input. Writes old new (BeginsAnswerText r input))
begun_whole r None old new w h = tt
begun_whole r (Some input) old new w h = (w.0, w.1, begins_whole r h input w.0 w.2)

pub written_whole : {T E : Type 0} (r : Answering) (result : Result T E) (left old new : Option (List ℕ))
    → OnErr result (IfSome left (λ input. Writes old new (BeginsAnswers r (lines_of input))))
    → ((line : List ℕ) → (answer : List ℕ) × r line answer)
    → OnErr result (IfSome left (λ input. Writes old new (BeginsAnswerText r input)))
written_whole r (Ok x) left old new w h = tt
written_whole r (Err e) left old new w h = begun_whole r left old new w h
