-- The tokens of lexemes that end with a brace are the same with more lexemes after it.
use Rattle.std.proofs.Common.{◌≡◌, Bool, true, false, ◌&&◌, List, [], ◌∷◌, ◌++◌, refl, sym, ap, ◌∙◌}
use Rattle.std.proofs.lemmas.Bool.{false≢true}
use Rattle.json.specs.Align.{is_good}
use Rattle.json.specs.Token.{Token, begin_object, end_object, begin_array, end_array, key, string, number, boolean, null, bad}
use Rattle.json.specs.Lex.{Lexeme, token, comma, colon, Place, fresh, after_value, after_comma, after_key, begins_colon, may_begin, may_close, if_allowed, place_token, punctuate}
use Rattle.base_json.proofs.Followed.{no_bad}

-- lexemes of which no word and no string is bad
abbrev pub all_good : List Lexeme → Bool
all_good [] = true
all_good (token t ∷ ls) = is_good t && all_good ls
all_good (comma ∷ ls) = all_good ls
all_good (colon ∷ ls) = all_good ls

abbrev pub closing : List Lexeme → List Lexeme
closing ls = token end_object ∷ ls

-- a token is where it is allowed: what comes of it, whatever follows
abbrev Placed : Place → Token → Bool → (Place → List Token) → Type 0
Placed p t c k = (n : Place) × (u : Token) × (is_good t ≡ true) × ((j : Place → List Token) → place_token p t c j ≡ u ∷ j n) × (no_bad (k n) ≡ true)

allowed : (b : Bool) (u : Token) (k : Place → List Token) (n : Place) → no_bad (if_allowed b u k n) ≡ true → (b ≡ true) × (no_bad (u ∷ k n) ≡ true)
allowed true u k n h = (refl, h)
allowed false u k n h = absurd (false≢true h)

places : (b : Bool) (u : Token) (n : Place) → b ≡ true → (j : Place → List Token) → if_allowed b u j n ≡ u ∷ j n
places b u n e j = ap (λ x. if_allowed x u j n) e

placed : (p : Place) (t : Token) (c : Bool) (k : Place → List Token) → no_bad (place_token p t c k) ≡ true → Placed p t c k
placed p begin_object c k h = let a = allowed (may_begin p) begin_object k fresh h in (fresh, begin_object, refl, places (may_begin p) begin_object fresh a.0, a.1)
placed p end_object c k h = let a = allowed (may_close p) end_object k after_value h in (after_value, end_object, refl, places (may_close p) end_object after_value a.0, a.1)
placed p begin_array c k h = let a = allowed (may_begin p) begin_array k fresh h in (fresh, begin_array, refl, places (may_begin p) begin_array fresh a.0, a.1)
placed p end_array c k h = let a = allowed (may_close p) end_array k after_value h in (after_value, end_array, refl, places (may_close p) end_array after_value a.0, a.1)
placed p (key s) c k h = absurd (false≢true h)
placed p (string s) true k h = let a = allowed (may_begin p) (key s) k after_key h in (after_key, key s, refl, places (may_begin p) (key s) after_key a.0, a.1)
placed p (string s) false k h = let a = allowed (may_begin p) (string s) k after_value h in (after_value, string s, refl, places (may_begin p) (string s) after_value a.0, a.1)
placed p (number s) c k h = let a = allowed (may_begin p) (number s) k after_value h in (after_value, number s, refl, places (may_begin p) (number s) after_value a.0, a.1)
placed p (boolean b) c k h = let a = allowed (may_begin p) (boolean b) k after_value h in (after_value, boolean b, refl, places (may_begin p) (boolean b) after_value a.0, a.1)
placed p null c k h = let a = allowed (may_begin p) null k after_value h in (after_value, null, refl, places (may_begin p) null after_value a.0, a.1)
placed p bad c k h = absurd (false≢true h)

true_and : (a b : Bool) → a ≡ true → b ≡ true → (a && b) ≡ true
true_and true b e f = f
true_and false b e f = absurd (false≢true e)

pub good_lexemes : (p : Place) (ls : List Lexeme) → no_bad (punctuate p ls) ≡ true → all_good ls ≡ true
unfolding punctuate
good_lexemes p [] h = refl
good_lexemes p (token t ∷ ls) h = let w = placed p t (begins_colon ls) (λ n. punctuate n ls) h in true_and (is_good t) _ w.2 (good_lexemes w.0 ls w.4)
good_lexemes fresh (comma ∷ ls) h = absurd (false≢true h)
good_lexemes after_value (comma ∷ ls) h = good_lexemes after_comma ls h
good_lexemes after_comma (comma ∷ ls) h = absurd (false≢true h)
good_lexemes after_key (comma ∷ ls) h = absurd (false≢true h)
good_lexemes fresh (colon ∷ ls) h = absurd (false≢true h)
good_lexemes after_value (colon ∷ ls) h = absurd (false≢true h)
good_lexemes after_comma (colon ∷ ls) h = absurd (false≢true h)
good_lexemes after_key (colon ∷ ls) h = good_lexemes fresh ls h

module _ (ms : List Lexeme) where
  same_colon : (ls : List Lexeme) → begins_colon (ls ++ closing ms) ≡ begins_colon (ls ++ closing [])
  same_colon [] = refl
  same_colon (token t ∷ ls) = refl
  same_colon (comma ∷ ls) = refl
  same_colon (colon ∷ ls) = refl

  closed : (b : Bool) → no_bad (if_allowed b end_object (λ n. punctuate n []) after_value) ≡ true
      → if_allowed b end_object (λ n. punctuate n ms) after_value ≡ if_allowed b end_object (λ n. punctuate n []) after_value ++ punctuate after_value ms
  unfolding punctuate
  closed true h = refl
  closed false h = absurd (false≢true h)

  pub punctuate-append : (p : Place) (ls : List Lexeme) → no_bad (punctuate p (ls ++ closing [])) ≡ true → punctuate p (ls ++ closing ms) ≡ punctuate p (ls ++ closing []) ++ punctuate after_value ms
  unfolding punctuate
  punctuate-append p [] h = closed (may_close p) h
  punctuate-append p (token t ∷ ls) h =
      let k = λ (n : Place). punctuate n (ls ++ closing []) in
      let j = λ (n : Place). punctuate n (ls ++ closing ms) in
      let w = placed p t (begins_colon (ls ++ closing [])) k h in
      ap (λ c. place_token p t c j) (same_colon ls) ∙ w.3 j ∙ ap (λ us. w.1 ∷ us) (punctuate-append w.0 ls w.4) ∙ ap (λ us. us ++ punctuate after_value ms) (sym (w.3 k))
  punctuate-append fresh (comma ∷ ls) h = absurd (false≢true h)
  punctuate-append after_value (comma ∷ ls) h = punctuate-append after_comma ls h
  punctuate-append after_comma (comma ∷ ls) h = absurd (false≢true h)
  punctuate-append after_key (comma ∷ ls) h = absurd (false≢true h)
  punctuate-append fresh (colon ∷ ls) h = absurd (false≢true h)
  punctuate-append after_value (colon ∷ ls) h = absurd (false≢true h)
  punctuate-append after_comma (colon ∷ ls) h = absurd (false≢true h)
  punctuate-append after_key (colon ∷ ls) h = punctuate-append fresh ls h
