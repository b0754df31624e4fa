-- Lemmas on the first of some known bytes.
use Rattle.std.proofs.Common.{◌≡◌, ℕ, ◌+◌, ◌-◌, ◌≤◌, List, [], zero, suc, ◌++◌, length, take, Option, Some, None, refl, sym, ap, subst, ◌∙◌, arith}
use Rattle.std.proofs.lemmas.List.{length-take-le, take-append-le}
use Rattle.std.proofs.Math.Seq.{take-append-add}
use Rattle.std.specs.Io.KnownBytes.{Consumes, IsAtEnd}
use Rattle.base_lines.specs.Counted.{Given, first_of}

more : (c n : ℕ) (p xs ys : List ℕ) → length p ≡ n → n ≤ c → xs ≡ p ++ ys → take c xs ≡ p ++ take (c - n) ys
more c n p xs ys l low e =
    let room : c ≡ length p + (c - n) = omega (arith, l, low) in
    ap (take c) e ∙ subst (λ (k : ℕ). take k (p ++ ys) ≡ p ++ take (c - n) ys) (sym room) (take-append-add p ys (c - n))

pub first_of-Consumes : (c n : ℕ) (old new : Option (List ℕ)) (bs rest : List ℕ) → n ≤ length bs → n ≤ c → Consumes old new (take n bs) → Consumes (first_of c old) (first_of (c - n) new) (take n (bs ++ rest))
first_of-Consumes c n None new bs rest low most e = tt
first_of-Consumes c n (Some xs) None bs rest low most e = absurd e
first_of-Consumes c n (Some xs) (Some ys) bs rest low most e =
    subst (λ (p : List ℕ). take c xs ≡ p ++ take (c - n) ys) (sym (take-append-le n bs rest low)) (more c n (take n bs) xs ys (length-take-le n bs low) most e)

pub read-Consumes : {R : Type 0} (f : R → Option (List ℕ)) (old now : Given R) → old ≡ now → (n : ℕ) (new : Option (List ℕ)) (bs rest : List ℕ) → n ≤ length bs → n ≤ old.can_give → Consumes (f old.reader) new (take n bs) → Consumes (first_of now.can_give (f now.reader)) (first_of (old.can_give - n) new) (take n (bs ++ rest))
read-Consumes f old now e n new bs rest low most h =
    subst (λ (v : Given _). Consumes (first_of v.can_give (f v.reader)) (first_of (old.can_give - n) new) (take n (bs ++ rest))) e
    (first_of-Consumes old.can_give n (f old.reader) new bs rest low most h)

none : (k : ℕ) → let xs : List ℕ = [] in take k xs ≡ xs
none zero = refl
none (suc k) = refl

pub first_of-IsAtEnd : (k : ℕ) (known : Option (List ℕ)) → IsAtEnd known → IsAtEnd (first_of k known)
first_of-IsAtEnd k None e = tt
first_of-IsAtEnd k (Some xs) e = ap (take k) e ∙ none k
