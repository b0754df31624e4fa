-- The lexemes of bytes after which neither a string nor a word goes on are the same with more bytes after them.
use Rattle.std.proofs.Common.{◌≡◌, ℕ, true, List, [], ◌∷◌, ◌++◌, refl, sym, ap, ap₂, ◌∙◌, append_assoc}
use Rattle.std.proofs.lemmas.Bool.{false≢true, and_parts}
use Rattle.json.specs.Align.{is_good}
use Rattle.json.specs.Token.{Token, bad}
use Rattle.json.specs.Text.{content, plain}
use Rattle.json.specs.Word.{word}
use Rattle.json.specs.Lex.{Lexeme, token, comma, colon, Class, quote, backslash, operator, space, other, class, operator_lexeme, string_token, Mode, between, in_word, in_string, in_escape, lex_byte, lex}
use Rattle.base_json.specs.Private.Modes.{mode_next, mode_behind, is_between}
use Rattle.base_json.proofs.Punctuated.{all_good, closing}
use Rattle.base_json.proofs.Strings.{string_kept}
use Rattle.base_json.proofs.Words.{word_kept}

good_rest : (l : Lexeme) (ls : List Lexeme) → all_good (l ∷ ls) ≡ true → all_good ls ≡ true
good_rest (token t) ls h = (and_parts (is_good t) (all_good ls) h).1
good_rest comma ls h = h
good_rest colon ls h = h

good_first : (t : Token) (ls : List Lexeme) → all_good (token t ∷ ls) ≡ true → is_good t ≡ true
good_first t ls h = (and_parts (is_good t) (all_good ls) h).0

module _ (us : List ℕ) where
  -- the rest of the bytes is joined in each mode
  abbrev Joins : List ℕ → Type 0
  Joins xs = (m : Mode) → all_good (lex m xs) ≡ true → mode_behind m xs ≡ between → lex m (xs ++ us) ≡ lex m xs ++ lex between us

  before : (l k : Lexeme) (ls ks : List Lexeme) → k ≡ l → ks ≡ ls ++ lex between us → k ∷ ks ≡ (l ∷ ls) ++ lex between us
  before l k ls ks e f = ap₂ (λ x xs. x ∷ xs) e f

  ends : (x : ℕ) (xs : List ℕ) → class x ≡ other → mode_behind in_word xs ≡ between → mode_behind in_word (x ∷ xs) ≡ between
  unfolding mode_behind
  ends x xs c h = ap (λ k. mode_behind (mode_next in_word k) xs) c ∙ h

  step : (m : Mode) (c : Class) (x : ℕ) (xs : List ℕ) → class x ≡ c → Joins xs → all_good (lex_byte m c x xs (λ n. lex n xs)) ≡ true → mode_behind (mode_next m c) xs ≡ between
      → lex_byte m c x (xs ++ us) (λ n. lex n (xs ++ us)) ≡ lex_byte m c x xs (λ n. lex n xs) ++ lex between us
  step between quote x xs e j g h =
      let t = string_token (content plain xs) in
      before (token t) _ (lex in_string xs) _ (ap token (string_kept us xs (good_first t (lex in_string xs) g))) (j in_string (good_rest (token t) (lex in_string xs) g) h)
  step between backslash x xs e j g h = absurd (false≢true g)
  step between operator x xs e j g h = before (operator_lexeme x) _ (lex between xs) _ refl (j between (good_rest (operator_lexeme x) (lex between xs) g) h)
  step between space x xs e j g h = j between g h
  step between other x xs e j g h =
      let t = word (x ∷ xs) in
      before (token t) _ (lex in_word xs) _ (ap token (word_kept us (x ∷ xs) (ends x xs e h))) (j in_word (good_rest (token t) (lex in_word xs) g) h)
  step in_word quote x xs e j g h = j in_word g h
  step in_word backslash x xs e j g h = j in_word g h
  step in_word operator x xs e j g h = before (operator_lexeme x) _ (lex between xs) _ refl (j between (good_rest (operator_lexeme x) (lex between xs) g) h)
  step in_word space x xs e j g h = j between g h
  step in_word other x xs e j g h = j in_word g h
  step in_string quote x xs e j g h = j between g h
  step in_string backslash x xs e j g h = j in_escape g h
  step in_string operator x xs e j g h = j in_string g h
  step in_string space x xs e j g h = j in_string g h
  step in_string other x xs e j g h = j in_string g h
  step in_escape c x xs e j g h = j in_string g h

  pub lex-append : (xs : List ℕ) → Joins xs
  unfolding lex mode_behind
  lex-append [] m g h = ap (λ n. lex n us) h
  lex-append (x ∷ xs) m g h = step m (class x) x xs refl (lex-append xs) g h

-- ---- bytes that end with a brace, of which the last lexeme is that brace

abbrev Brings : Mode → Class → ℕ → List ℕ → (Mode → List Lexeme) → Type 0
Brings m c x xs k = (ls : List Lexeme) × (lex_byte m c x xs k ≡ ls ++ k (mode_next m c))

brings : (m : Mode) (c : Class) (x : ℕ) (xs : List ℕ) (k : Mode → List Lexeme) → Brings m c x xs k
brings between quote x xs k = (token (string_token (content plain xs)) ∷ [], refl)
brings between backslash x xs k = (token bad ∷ [], refl)
brings between operator x xs k = (operator_lexeme x ∷ [], refl)
brings between space x xs k = ([], refl)
brings between other x xs k = (token (word (x ∷ xs)) ∷ [], refl)
brings in_word quote x xs k = ([], refl)
brings in_word backslash x xs k = ([], refl)
brings in_word operator x xs k = (operator_lexeme x ∷ [], refl)
brings in_word space x xs k = ([], refl)
brings in_word other x xs k = ([], refl)
brings in_string quote x xs k = ([], refl)
brings in_string backslash x xs k = ([], refl)
brings in_string operator x xs k = ([], refl)
brings in_string space x xs k = ([], refl)
brings in_string other x xs k = ([], refl)
brings in_escape c x xs k = ([], refl)

in_text : {P : Type 0} → in_string ≡ between → P
in_text h = absurd (false≢true (ap is_between h))

pub last_brace : (xs : List ℕ) (m : Mode) → mode_behind m (xs ++ 125 ∷ []) ≡ between → (ls : List Lexeme) × (lex m (xs ++ 125 ∷ []) ≡ ls ++ closing [])
unfolding lex mode_behind
last_brace [] between h = ([], refl)
last_brace [] in_word h = ([], refl)
last_brace [] in_string h = in_text h
last_brace [] in_escape h = in_text h
last_brace (x ∷ xs) m h =
    let ys = xs ++ 125 ∷ [] in
    let b = brings m (class x) x ys (λ n. lex n ys) in
    let r = last_brace xs (mode_next m (class x)) h in
    (b.0 ++ r.0, b.1 ∙ ap (λ ls. b.0 ++ ls) r.1 ∙ sym (append_assoc b.0 r.0 (closing [])))
