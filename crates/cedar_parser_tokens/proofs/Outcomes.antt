-- What an outcome says, and how steps in a row say it.
use Rattle.std.proofs.Common.{◌≡◌, refl, sym, subst, Ok, Err, Bool, true, false, cond, Option, Some, None}
use Rattle.cedar_parser_tokens.specs.Marks.{Marks}
use Rattle.cedar_parser_tokens.specs.Reading.{Syntax, TooDeep, Outcome, and_then, on_some}

-- The outcome is a with the tokens us left, or a nesting refusal, which comes only where P holds.
pub data Answers {A : Type 0} (P : Type 0) : Outcome A → A → Marks → Type 0 where
  given : {a : A} {us : Marks} → Answers P (Ok (a, us)) a us
  deep : {a : A} {us : Marks} → P → Answers P (Err TooDeep) a us

pub answers_then : {A B : Type 0} {P : Type 0} (x : Outcome A) (a : A) (us : Marks) (f : A → Marks → Outcome B) (b : B) (vs : Marks)
    → Answers P x a us → Answers P (f a us) b vs → Answers P (and_then x f) b vs
answers_then x a us f b vs given h = h
answers_then x a us f b vs (deep p) h = deep p

pub answers_by : {A : Type 0} {P : Type 0} {x y : Outcome A} {a : A} {us : Marks} → x ≡ y → Answers P y a us → Answers P x a us
answers_by {A = A} {P = P} {a = a} {us = us} e h = subst (λ (z : Outcome A). Answers P z a us) (sym e) h

-- What an Ok holds, and what a nesting refusal shows.
abbrev pub Meets : {A : Type 0} → (A → Marks → Type 0) → Type 0 → Outcome A → Type 0
Meets R D (Ok p) = R p.0 p.1
Meets R D (Err Syntax) = Unit {0}
Meets R D (Err TooDeep) = D

pub meets_then : {A B : Type 0} (R : A → Marks → Type 0) (S : B → Marks → Type 0) (D : Type 0) (x : Outcome A) (f : A → Marks → Outcome B)
    → Meets R D x → ((a : A) (us : Marks) → R a us → Meets S D (f a us)) → Meets S D (and_then x f)
meets_then R S D (Ok p) f h g = g p.0 p.1 h
meets_then R S D (Err Syntax) f h g = tt
meets_then R S D (Err TooDeep) f h g = h

pub meets_as : {A : Type 0} (R S : A → Marks → Type 0) (D E : Type 0) (x : Outcome A) → Meets R D x → ((a : A) (us : Marks) → R a us → S a us) → (D → E) → Meets S E x
meets_as R S D E (Ok p) h f g = f p.0 p.1 h
meets_as R S D E (Err Syntax) h f g = tt
meets_as R S D E (Err TooDeep) h f g = g h

-- by cases on a test, with the equation
pub if_meets : {A : Type 0} (R : A → Marks → Type 0) (D : Type 0) (b : Bool) (x y : Outcome A) → (b ≡ true → Meets R D x) → (b ≡ false → Meets R D y) → Meets R D (cond b x y)
if_meets R D true x y f g = f refl
if_meets R D false x y f g = g refl

pub some_meets : {S A : Type 0} (R : A → Marks → Type 0) (D : Type 0) (o : Option S) (x : Outcome A) (f : S → Outcome A)
    → Meets R D x → ((s : S) → o ≡ Some s → Meets R D (f s)) → Meets R D (on_some o x f)
some_meets R D None x f h g = h
some_meets R D (Some s) x f h g = g s refl
