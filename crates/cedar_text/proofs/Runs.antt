-- Runs of bytes: what the readers count is what the grammar says.
use Rattle.std.proofs.Common.{◌≡◌, refl, ap, ◌∙◌, ℕ, suc, ◌+◌, ◌≤◌, Bool, true, List, [], ◌∷◌, ◌++◌, length, take, drop, length-take, one-add, arith}
use Rattle.std.specs.List.{prefix_len, list_all}
use Rattle.std.proofs.lemmas.Bool.{cond_both, cond-true, cond-false, and_parts, and_from}
use Rattle.cedar_text.specs.Bytes.{Stops}

pub run_of : (p : ℕ → Bool) (front rest : List ℕ) → list_all p front ≡ true → Stops p rest → prefix_len p (front ++ rest) ≡ length front
run_of p [] [] h s = refl
run_of p [] (b ∷ rest) h s = cond-false (p b) (1 + prefix_len p rest) 0 s
run_of p (b ∷ front) rest h s =
    let q = and_parts (p b) (list_all p front) h in
    cond-true (p b) (1 + prefix_len p (front ++ rest)) 0 q.0 ∙ one-add _ ∙ ap suc (run_of p front rest q.1 s)

-- the first n bytes are a run that stops there
pub record IsRun (p : ℕ → Bool) (bs : List ℕ) (n : ℕ) : Type 0 where
  pub passes : list_all p (take n bs) ≡ true
  pub stops : Stops p (drop n bs)
  pub within : n ≤ length bs
  pub whole : take n bs ++ drop n bs ≡ bs

run_more : (p : ℕ → Bool) (b : ℕ) (bs : List ℕ) (n : ℕ) → p b ≡ true → IsRun p bs n → IsRun p (b ∷ bs) (1 + n)
run_more p b bs n e r = rw one-add (record {
  passes = and_from (p b) (list_all p (take n bs)) e r.passes;
  stops = r.stops;
  within = let w = r.within in omega arith;
  whole = ap (λ (xs : List ℕ). b ∷ xs) r.whole;
})

pub run_is : (p : ℕ → Bool) (bs : List ℕ) → IsRun p bs (prefix_len p bs)
run_is p [] = record { passes = refl; stops = tt; within = omega arith; whole = refl }
run_is p (b ∷ bs) =
    let r = run_is p bs in
    cond_both (p b) (1 + prefix_len p bs) 0 (λ n. IsRun p (b ∷ bs) n) (λ e. run_more p b bs (prefix_len p bs) e r)
    (λ e. record { passes = refl; stops = e; within = omega arith; whole = refl })

pub run_length : (p : ℕ → Bool) (bs : List ℕ) (n : ℕ) → IsRun p bs n → length (take n bs) ≡ n
run_length p bs n r = length-take n bs ∙ (let w = r.within in omega arith)

pub run_first : (p : ℕ → Bool) (b : ℕ) (bs : List ℕ) → p b ≡ true → prefix_len p (b ∷ bs) ≡ suc (prefix_len p bs)
run_first p b bs e = cond-true (p b) (1 + prefix_len p bs) 0 e ∙ one-add (prefix_len p bs)
