-- Steps in a row that are inside one step, as steps beside it.
use Rattle.std.proofs.Common.{Ok, Err}
use Rattle.cedar_parser_tokens.specs.Marks.{Marks}
use Rattle.cedar_parser_tokens.specs.Reading.{Syntax, TooDeep, Outcome, and_then}
use Rattle.cedar_parser_tokens.proofs.Outcomes.{Meets, Answers}

pub meets_flat : {A B C : Type 0} (S : C → Marks → Type 0) (D : Type 0) (x : Outcome A) (f : A → Marks → Outcome B) (g : B → Marks → Outcome C)
    → Meets S D (and_then x (λ a us. and_then (f a us) g)) → Meets S D (and_then (and_then x f) g)
meets_flat S D (Ok p) f g h = h
meets_flat S D (Err Syntax) f g h = h
meets_flat S D (Err TooDeep) f g h = h

pub answers_flat : {A B C : Type 0} {P : Type 0} {c : C} {vs : Marks} (x : Outcome A) (f : A → Marks → Outcome B) (g : B → Marks → Outcome C)
    → Answers P (and_then x (λ a us. and_then (f a us) g)) c vs → Answers P (and_then (and_then x f) g) c vs
answers_flat (Ok p) f g h = h
answers_flat (Err x) f g h = h
