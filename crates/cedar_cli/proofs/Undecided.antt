-- Lemmas on what `ask` decides.
use Rattle.std.proofs.Common.{◌≡◌, ◌⊎◌, ℕ, List, Option, Result, Ok, Err, inl, inr, arith, length, sym, subst}
use Rattle.std.specs.Prelude.{MatchResult}
use Rattle.std.proofs.lemmas.List.{take_all}
use Rattle.base_lines.specs.AnswerText.{Answering, AnswersEach, AnswersFirst, IsAnswerText, Writes}
use Rattle.base_lines.specs.Lines.{lines_of}
use Rattle.cedar_ast.specs.declared.decision.Decision.{Decision}
use Rattle.cedar_auth.specs.AnswerLine.{AnswersLine}
use Rattle.cedar_auth_spec.specs.Ready.{ReadyTree}
use Rattle.cedar_files.specs.declared.ending.End.{End}
use Rattle.cedar_files.specs.declared.ending.End.TheVariants.{Refused, Memory}
use Rattle.cedar_cli.specs.Asking.{DecidesLine, EndsUndecided, IsRefusedLine}

-- the answers of all lines are the answers of some first lines
all-first : (answers : Answering) (input : List ℕ) (old new : Option (List ℕ)) → Writes old new (IsAnswerText answers input)
    → Writes old new (AnswersFirst answers (lines_of input))
all-first answers input old new w =
    let lines = lines_of input in
    (w.0, w.1, (length lines, subst (λ (ls : List (List ℕ)). AnswersEach answers ls w.0) (sym (take_all (length lines) lines (omega arith))) w.2))

-- what is decided once the answer line was written
pub after_answer : (r : ReadyTree) (line : List ℕ) (failed : Type 0) (old new : Option (List ℕ)) (decided : Result Decision End)
    → Writes old new (IsAnswerText (AnswersLine r) line)
    → MatchResult decided (DecidesLine r line) (λ end. ((end ≡ Refused) × IsRefusedLine r line) ⊎ (end ≡ Memory))
    → MatchResult decided (λ d. DecidesLine r line d × Writes old new (IsAnswerText (AnswersLine r) line)) (EndsUndecided r line failed old new)
after_answer r line failed old new (Ok d) w h = (h, w)
after_answer r line failed old new (Err end) w (inl h) = subst (EndsUndecided r line failed old new) (sym h.0) (h.1, w)
after_answer r line failed old new (Err end) w (inr is) = subst (EndsUndecided r line failed old new) (sym is) (all-first (AnswersLine r) line old new w)

-- what holds of a result, by what its value and its error give
pub mapped : {T E : Type 0} {P Q : T → Type 0} {R S : E → Type 0} → ((x : T) → P x → Q x) → ((e : E) → R e → S e) → (r : Result T E) → MatchResult r P R → MatchResult r Q S
mapped f g (Ok x) h = f x h
mapped f g (Err e) h = g e h
