-- A word that ends within some bytes is the same with more bytes after them.
use Rattle.std.proofs.Common.{◌≡◌, ℕ, suc, ◌+◌, ◌-◌, Bool, true, false, cond, ◌&&◌, ◌||◌, ◌==◌, nat_eq, List, [], ◌∷◌, ◌++◌, length, take, drop, Option, Some, None, option_and_then, inl, inr, ◌⊎◌, refl, sym, ap, ap₂, ◌∙◌, subst, arith, length-append}
use Rattle.std.proofs.lemmas.Bool.{true≢false, false≢true, eqb-true, or_cases}
use Rattle.std.proofs.lemmas.List.{take-append-le}
use Rattle.std.specs.List.{prefix_len, starts_with}
use Rattle.std.specs.Prelude.{⊤}
use Rattle.std.specs.Char.{is_ascii_digit}
use Rattle.json.specs.Ascii as ascii
use Rattle.json.specs.Token.{Token, number, boolean, null, bad}
use Rattle.json.specs.Word.{is_operator, is_space, head, ends_word, after_digits, after_minus, after_sign, after_whole, after_fraction, after_exponent, after_number, number_before, literal, word}
use Rattle.json.specs.Lex.{other, class, between, in_word}
use Rattle.base_json.proofs.Digits.{digit_is_other}
use Rattle.base_json.specs.Private.Modes.{mode_next, mode_behind, is_between}

-- the word that goes on at the bytes ends among them
abbrev pub Ends : List ℕ → Type 0
Ends t = mode_behind in_word t ≡ between

never : {P : Type 0} → Ends [] → P
unfolding mode_behind
never h = absurd (false≢true (ap is_between h))

after_other : (x : ℕ) (xs : List ℕ) → class x ≡ other → mode_behind in_word (x ∷ xs) ≡ mode_behind in_word xs
unfolding mode_behind
after_other x xs e = ap (λ c. mode_behind (mode_next in_word c) xs) e

abbrev AllOther : List ℕ → Type 0
AllOther [] = ⊤
AllOther (n ∷ ns) = (class n ≡ other) × AllOther ns

module _ (us : List ℕ) where
  -- o is what a part leaves of bytes in which the word ends, and p what it leaves of them with more after
  abbrev Extends : Option (List ℕ) → Option (List ℕ) → Type 0
  Extends None p = p ≡ None
  Extends (Some r) p = (p ≡ Some (r ++ us)) × Ends r

  abbrev Goes : (List ℕ → Option (List ℕ)) → Type 0
  Goes f = (t : List ℕ) → Ends t → Extends (f t) (f (t ++ us))

  same_head : (t : List ℕ) → Ends t → head (t ++ us) ≡ head t
  same_head [] h = never h
  same_head (x ∷ xs) h = refl

  same_test : (c : ℕ) (t : List ℕ) → Ends t → (head (t ++ us) == c) ≡ (head t == c)
  same_test c t h = ap (λ x. x == c) (same_head t h)

  -- one byte c is passed
  one : (c : ℕ) (t : List ℕ) → class c ≡ other → Ends t → (head t == c) ≡ true → (drop 1 (t ++ us) ≡ drop 1 t ++ us) × Ends (drop 1 t)
  one c [] k h e = never h
  one c (x ∷ xs) k h e = (refl, sym (after_other x xs (ap class (eqb-true x c e) ∙ k)) ∙ h)

  either : (a b : ℕ) (t : List ℕ) → class a ≡ other → class b ≡ other → Ends t → ((head t == a) ≡ true) ⊎ ((head t == b) ≡ true)
      → (drop 1 (t ++ us) ≡ drop 1 t ++ us) × Ends (drop 1 t)
  either a b t p q h (inl e) = one a t p h e
  either a b t p q h (inr e) = one b t q h e

  record Digits (t : List ℕ) (n m : ℕ) : Type 0 where
    count : m ≡ n
    after : drop n (t ++ us) ≡ drop n t ++ us
    ends : Ends (drop n t)

  digits_at : (d : Bool) (x : ℕ) (xs : List ℕ) (n m : ℕ) → Ends (x ∷ xs) → (d ≡ true → Digits xs n m) → Digits (x ∷ xs) (cond d (1 + n) 0) (cond d (1 + m) 0)
  digits_at false x xs n m h ih = record { count = refl; after = refl; ends = h }
  digits_at true x xs n m h ih =
      let e : suc n ≡ 1 + n = omega arith in
      let d = ih refl in
      subst (λ j. Digits (x ∷ xs) j (1 + m)) e (record { count = omega (arith, d.count); after = d.after; ends = d.ends })

  digit_run : (t : List ℕ) → Ends t → Digits t (prefix_len is_ascii_digit t) (prefix_len is_ascii_digit (t ++ us))
  digit_run [] h = never h
  digit_run (x ∷ xs) h = digits_at (is_ascii_digit x) x xs _ _ h (λ d. digit_run xs (sym (after_other x xs (digit_is_other x d)) ∙ h))

  -- both take the same side of a test
  by_test : (b c : Bool) (x y p q : Option (List ℕ)) → c ≡ b → (b ≡ true → Extends x p) → Extends y q → Extends (cond b x y) (cond c p q)
  by_test true true x y p q e f g = f refl
  by_test false false x y p q e f g = g
  by_test true false x y p q e f g = absurd (false≢true e)
  by_test false true x y p q e f g = absurd (true≢false e)

  -- a part of what is left
  after : (u v : List ℕ) (f : List ℕ → Option (List ℕ)) → Goes f → (v ≡ u ++ us) × Ends u → Extends (f u) (f v)
  after u v f g s = subst (λ w. Extends (f u) (f w)) (sym s.0) (g u s.1)

  optional : (t : List ℕ) (b c : Bool) → Ends t → c ≡ b → (b ≡ true → (drop 1 (t ++ us) ≡ drop 1 t ++ us) × Ends (drop 1 t))
      → (cond c (drop 1 (t ++ us)) (t ++ us) ≡ cond b (drop 1 t) t ++ us) × Ends (cond b (drop 1 t) t)
  optional t true true h e f = f refl
  optional t false false h e f = (refl, h)
  optional t true false h e f = absurd (false≢true e)
  optional t false true h e f = absurd (true≢false e)

  digits : Goes after_digits
  digits t h =
      let d = digit_run t h in
      by_test (prefix_len is_ascii_digit t == 0) (prefix_len is_ascii_digit (t ++ us) == 0) None _ None _ (ap (λ n. n == 0) d.count) (λ e. refl)
      (ap Some (ap (λ n. drop n (t ++ us)) d.count ∙ d.after), d.ends)

  whole : Goes after_whole
  whole t h = by_test (head t == 48) _ (Some (drop 1 t)) _ _ _ (same_test 48 t h) (λ e. let s = one 48 t refl h e in (ap Some s.0, s.1)) (digits t h)

  fraction : Goes after_fraction
  fraction t h = by_test (head t == 46) _ _ (Some t) _ _ (same_test 46 t h) (λ e. after (drop 1 t) _ after_digits digits (one 46 t refl h e)) (refl, h)

  signed : Goes (λ u. after_digits (after_sign u))
  signed t h =
      after (after_sign t) _ after_digits digits
      (optional t _ _ h (ap₂ (λ a b. a || b) (same_test 45 t h) (same_test 43 t h)) (λ e. either 45 43 t refl refl h (or_cases _ _ e)))

  exponent : Goes after_exponent
  exponent t h =
      by_test ((head t == 101) || (head t == 69)) _ _ (Some t) _ _ (ap₂ (λ a b. a || b) (same_test 101 t h) (same_test 69 t h))
      (λ e. after (drop 1 t) _ (λ u. after_digits (after_sign u)) signed (either 101 69 t refl refl h (or_cases _ _ e))) (refl, h)

  then : (f : List ℕ → Option (List ℕ)) → Goes f → (o p : Option (List ℕ)) → Extends o p → Extends (option_and_then f o) (option_and_then f p)
  then f g None p h = ap (option_and_then f) h
  then f g (Some r) p h = subst (λ q. Extends (f r) (option_and_then f q)) (sym h.0) (g r h.1)

  whole_number : Goes after_number
  unfolding after_number
  whole_number t h =
      then after_exponent exponent _ _ (then after_fraction fraction _ _
      (after (after_minus t) _ after_whole whole (optional t _ _ h (same_test 45 t h) (one 45 t refl h))))

  same_end : (t : List ℕ) → Ends t → ends_word (t ++ us) ≡ ends_word t
  same_end t h = ap (λ x. is_operator x || is_space x) (same_head t h)

  same_text : (t r : List ℕ) → take (length (t ++ us) - length (r ++ us)) (t ++ us) ≡ take (length t - length r) t
  same_text t r =
      let size : length (t ++ us) - length (r ++ us) ≡ length t - length r = omega (arith, length-append t us, length-append r us) in
      ap (λ n. take n (t ++ us)) size ∙ take-append-le (length t - length r) t us (omega arith)

  same_number : (t : List ℕ) (o p : Option (List ℕ)) → Extends o p → number_before (t ++ us) p ≡ number_before t o
  same_number t None p h = ap (number_before (t ++ us)) h
  same_number t (Some r) p h = ap (number_before (t ++ us)) h.0 ∙ ap₂ (λ b s. cond b (number s) bad) (same_end r h.1) (same_text t r)

  both : (b p q e f : Bool) → (b ≡ true → (p && e) ≡ (q && f)) → ((b && p) && e) ≡ ((b && q) && f)
  both true p q e f h = h refl
  both false p q e f h = refl

  named : (name t : List ℕ) → AllOther name → Ends t → (starts_with nat_eq (t ++ us) name && ends_word (drop (length name) (t ++ us))) ≡ (starts_with nat_eq t name && ends_word (drop (length name) t))
  named [] t k h = same_end t h
  named (n ∷ ns) [] k h = never h
  named (n ∷ ns) (x ∷ xs) k h =
      both (nat_eq n x) _ _ _ _ (λ e. named ns xs k.1 (sym (after_other x xs (ap class (sym (eqb-true n x e)) ∙ k.0)) ∙ h))

  same_literal : (name : List ℕ) (k : Token) (t : List ℕ) → AllOther name → Ends t → literal name k (t ++ us) ≡ literal name k t
  same_literal name k t all h = ap (λ b. cond b k bad) (named name t all h)

  side : (b c : Bool) (x y u v : Token) → b ≡ c → x ≡ u → y ≡ v → cond b x y ≡ cond c u v
  side b c x y u v e p q = ap (λ d. cond d x y) e ∙ ap₂ (cond c) p q

  pub word_kept : (t : List ℕ) → Ends t → word (t ++ us) ≡ word t
  unfolding word
  word_kept t h =
      side _ _ _ _ _ _ (same_test 116 t h) (same_literal ascii.true_text (boolean true) t (refl, (refl, (refl, (refl, tt)))) h)
      (side _ _ _ _ _ _ (same_test 102 t h) (same_literal ascii.false_text (boolean false) t (refl, (refl, (refl, (refl, (refl, tt))))) h)
      (side _ _ _ _ _ _ (same_test 110 t h) (same_literal ascii.null_text null t (refl, (refl, (refl, (refl, tt)))) h) (same_number t _ _ (whole_number t h))))
