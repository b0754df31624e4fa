-- The lexer and its modes, a byte at a time.
use Rattle.std.proofs.Common.{◌≡◌, ℕ, ◌+◌, ◌<◌, true, ◌||◌, ◌==◌, List, [], ◌∷◌, ◌++◌, length, take, drop, get_or, ◌⊎◌, inl, inr, refl, sym, ap, ◌∙◌}
use Rattle.std.proofs.lemmas.Bool.{false≢true, eqb-true, or_cases}
use Rattle.std.proofs.lemmas.List.{drop_more, take_more}
use Rattle.json.specs.Token.{begin_array}
use Rattle.json.specs.Word.{is_space}
use Rattle.json.specs.Lex.{operator, space, class, operator_lexeme, Mode, between, in_word, in_string, in_escape, lex_byte, lex, fresh, after_value, after_comma, punctuate, tokens}
use Rattle.base_json.specs.Private.Modes.{mode_next, mode_behind, is_between}

-- ---- spaces and operators

pub space_class : (x : ℕ) → is_space x ≡ true → class x ≡ space
space_class x h = last (or_cases _ _ h)
  where
    is : (c : ℕ) → class c ≡ space → (x == c) ≡ true → class x ≡ space
    is c k e = ap class (eqb-true x c e) ∙ k

    first : ((x == 32) ≡ true) ⊎ ((x == 9) ≡ true) → class x ≡ space
    first (inl e) = is 32 refl e
    first (inr e) = is 9 refl e

    middle : (((x == 32) || (x == 9)) ≡ true) ⊎ ((x == 10) ≡ true) → class x ≡ space
    middle (inl e) = first (or_cases _ _ e)
    middle (inr e) = is 10 refl e

    last : (((x == 32) || (x == 9) || (x == 10)) ≡ true) ⊎ ((x == 13) ≡ true) → class x ≡ space
    last (inl e) = middle (or_cases _ _ e)
    last (inr e) = is 13 refl e

lex_space : (x : ℕ) (xs : List ℕ) → class x ≡ space → lex between (x ∷ xs) ≡ lex between xs
unfolding lex
lex_space x xs e = ap (λ c. lex_byte between c x xs (λ m. lex m xs)) e

lex_operator : (x : ℕ) (xs : List ℕ) → class x ≡ operator → lex between (x ∷ xs) ≡ operator_lexeme x ∷ lex between xs
unfolding lex
lex_operator x xs e = ap (λ c. lex_byte between c x xs (λ m. lex m xs)) e

pub past_space : (bs : List ℕ) (i : ℕ) → i < length bs → is_space (get_or bs i 0) ≡ true → lex between (drop i bs) ≡ lex between (drop (i + 1) bs)
past_space bs i h e = ap (lex between) (drop_more bs i 0 h) ∙ lex_space (get_or bs i 0) _ (space_class (get_or bs i 0) e)

pub past_operator : (c : ℕ) (bs : List ℕ) (i : ℕ) → class c ≡ operator → i < length bs → get_or bs i 0 ≡ c → lex between (drop i bs) ≡ operator_lexeme c ∷ lex between (drop (i + 1) bs)
past_operator c bs i k h e = ap (lex between) (drop_more bs i 0 h ∙ ap (λ x. x ∷ drop (i + 1) bs) e) ∙ lex_operator c _ k

-- ---- what is around an item

pub bracket_passed : (bs : List ℕ) (i at : ℕ) → lex between bs ≡ lex between (drop i bs) → i < length bs → get_or bs i 0 ≡ 91 → lex between (drop (i + 1) bs) ≡ lex between (drop at bs)
    → tokens bs ≡ begin_array ∷ tokens (drop at bs)
unfolding punctuate
bracket_passed bs i at spaces h e more = ap (punctuate fresh) (spaces ∙ past_operator 91 bs i refl h e) ∙ ap (λ ls. begin_array ∷ punctuate fresh ls) more

pub list_ends : (bs : List ℕ) (end at : ℕ) → lex between (drop end bs) ≡ lex between (drop at bs) → at < length bs → get_or bs at 0 ≡ 93 → punctuate after_value (lex between (drop end bs)) ≡ tokens (drop at bs)
unfolding punctuate
list_ends bs end at spaces h e =
    let bracket = past_operator 93 bs at refl h e in
    ap (punctuate after_value) (spaces ∙ bracket) ∙ ap (punctuate fresh) (sym bracket)

pub object_follows : (bs : List ℕ) (end comma at : ℕ) → lex between (drop end bs) ≡ lex between (drop comma bs) → comma < length bs → get_or bs comma 0 ≡ 44
    → lex between (drop (comma + 1) bs) ≡ lex between (drop at bs) → at < length bs → get_or bs at 0 ≡ 123 → punctuate after_value (lex between (drop end bs)) ≡ tokens (drop at bs)
unfolding punctuate
object_follows bs end comma at spaces h e more h' e' =
    let brace = past_operator 123 bs at refl h' e' in
    ap (punctuate after_value) (spaces ∙ past_operator 44 bs comma refl h e) ∙ ap (punctuate after_comma) (more ∙ brace) ∙ ap (punctuate fresh) (sym brace)

-- ---- modes

mode_last : (xs : List ℕ) (x : ℕ) (m : Mode) → mode_behind m (xs ++ x ∷ []) ≡ mode_next (mode_behind m xs) (class x)
unfolding mode_behind
mode_last [] x m = refl
mode_last (y ∷ xs) x m = mode_last xs x (mode_next m (class y))

pub mode_more : (bs : List ℕ) (i : ℕ) → i < length bs → mode_behind between (take (i + 1) bs) ≡ mode_next (mode_behind between (take i bs)) (class (get_or bs i 0))
mode_more bs i h = ap (mode_behind between) (take_more bs i 0 h) ∙ mode_last (take i bs) (get_or bs i 0) between

pub between_is : (m : Mode) → is_between m ≡ true → m ≡ between
between_is between h = refl
between_is in_word h = absurd (false≢true h)
between_is in_string h = absurd (false≢true h)
between_is in_escape h = absurd (false≢true h)
