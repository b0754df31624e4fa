-- A string that closes within some bytes is the same with more bytes after them.
use Rattle.std.proofs.Common.{◌≡◌, ℕ, Bool, true, false, cond, ◌&&◌, ◌==◌, nat_lt, List, [], ◌∷◌, ◌++◌, Option, Some, None, option_and_then, refl, ap}
use Rattle.std.proofs.lemmas.Bool.{false≢true}
use Rattle.std.specs.Prelude.{⊤}
use Rattle.std.specs.Char.{encode_utf8}
use Rattle.json.specs.Align.{is_good}
use Rattle.json.specs.Text.{code_unit, short_escape, is_high_surrogate, is_low_surrogate, surrogate_pair, Within, plain, after_backslash, after_u, after_high, prepend, content}
use Rattle.json.specs.Lex.{string_token}

-- where o is a content, p is the same
abbrev pub Kept : Option (List ℕ) → Option (List ℕ) → Type 0
Kept None p = ⊤
Kept (Some s) p = p ≡ Some s

either : (b : Bool) (x y u v : Option (List ℕ)) → Kept x u → Kept y v → Kept (cond b x y) (cond b u v)
either true x y u v p q = p
either false x y u v p q = q

before : (s : List ℕ) (o p : Option (List ℕ)) → Kept o p → Kept (prepend s o) (prepend s p)
before s None p h = tt
before s (Some t) p h = ap (prepend s) h

then : (f g : ℕ → Option (List ℕ)) (o : Option ℕ) → ((u : ℕ) → Kept (f u) (g u)) → Kept (option_and_then f o) (option_and_then g o)
then f g None h = tt
then f g (Some u) h = h u

module _ (us : List ℕ) where
  pub content_kept : (w : Within) (xs : List ℕ) → Kept (content w xs) (content w (xs ++ us))
  unfolding content
  content_kept plain [] = tt
  content_kept plain (x ∷ xs) = either (x == 34) _ _ _ _ refl (either (x == 92) _ _ _ _ (content_kept after_backslash xs) (either (nat_lt x 32) _ _ _ _ tt (before (x ∷ []) _ _ (content_kept plain xs))))
  content_kept after_backslash [] = tt
  content_kept after_backslash (x ∷ xs) = either (x == 117) _ _ _ _ (content_kept after_u xs) (then _ _ (short_escape x) (λ c. before (c ∷ []) _ _ (content_kept plain xs)))
  content_kept after_u [] = tt
  content_kept after_u (a ∷ []) = tt
  content_kept after_u (a ∷ b ∷ []) = tt
  content_kept after_u (a ∷ b ∷ c ∷ []) = tt
  content_kept after_u (a ∷ b ∷ c ∷ d ∷ xs) =
      then _ _ (code_unit a b c d)
      (λ u. either (is_high_surrogate u) _ _ _ _ (content_kept (after_high u) xs) (either (is_low_surrogate u) _ _ _ _ tt (before (encode_utf8 u) _ _ (content_kept plain xs))))
  content_kept (after_high h) [] = tt
  content_kept (after_high h) (s ∷ []) = tt
  content_kept (after_high h) (s ∷ u ∷ []) = tt
  content_kept (after_high h) (s ∷ u ∷ a ∷ []) = tt
  content_kept (after_high h) (s ∷ u ∷ a ∷ b ∷ []) = tt
  content_kept (after_high h) (s ∷ u ∷ a ∷ b ∷ c ∷ []) = tt
  content_kept (after_high h) (s ∷ u ∷ a ∷ b ∷ c ∷ d ∷ xs) =
      either ((s == 92) && (u == 117)) _ _ _ _
      (then _ _ (code_unit a b c d) (λ l. either (is_low_surrogate l) _ _ _ _ (before (encode_utf8 (surrogate_pair h l)) _ _ (content_kept plain xs)) tt)) tt

  same_token : (o p : Option (List ℕ)) → is_good (string_token o) ≡ true → Kept o p → string_token p ≡ string_token o
  same_token None p good h = absurd (false≢true good)
  same_token (Some s) p good h = ap string_token h

  pub string_kept : (xs : List ℕ) → is_good (string_token (content plain xs)) ≡ true → string_token (content plain (xs ++ us)) ≡ string_token (content plain xs)
  string_kept xs good = same_token _ _ good (content_kept plain xs)
