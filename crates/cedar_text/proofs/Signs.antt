-- The signs that the reader finds are those of the grammar.
use Rattle.std.proofs.Common.{◌≡◌, refl, sym, ap, subst, ◌∙◌, ℕ, ◌<◌, Bool, true, false, cond, eqb, ◌&&◌, List, ◌∷◌, ◌++◌, length, Option, Some, None, Ok, ◌⊎◌, inl, inr, arith, []}
use Rattle.std.specs.Prelude.{slice_index}
use Rattle.std.proofs.lemmas.Bool.{and_parts, eqb-true}
use Rattle.cedar_text.specs.declared.token_kind.TokenKind.{TokenKind}
use Rattle.cedar_text.specs.declared.token_kind.TokenKind.TheVariants as k
use Rattle.cedar_text.specs.Bytes.{first}
use Rattle.cedar_text.specs.Signs.{IsSign, IsLongest, double_colon, equal, not_equal, less_equal, greater_equal, and_and, or_or, at, left_paren, right_paren, left_brace, right_brace, left_bracket, right_bracket, comma, semicolon, dot, colon, less, greater, plus, minus, star, not}
use Rattle.cedar_text.specs.Private.Lexing.{long_sign, short_sign, sign_of, sign_at, lexed, piece}

-- ---- the tests as rows of a table

abbrev LongRows : Type 0
LongRows = List (ℕ × ℕ × TokenKind)

abbrev ShortRows : Type 0
ShortRows = List (ℕ × TokenKind)

abbrev long_in : LongRows → ℕ → ℕ → Option TokenKind
long_in [] a b = None
long_in (r ∷ rows) a b = cond (eqb a r.0 && eqb b r.1) (Some r.2) (long_in rows a b)

abbrev short_in : ShortRows → ℕ → Option TokenKind
short_in [] a = None
short_in (r ∷ rows) a = cond (eqb a r.0) (Some r.1) (short_in rows a)

abbrev AreLong : LongRows → Type 0
AreLong [] = Unit {0}
AreLong (r ∷ rows) = IsSign (r.0 ∷ r.1 ∷ []) r.2 × AreLong rows

abbrev AreShort : ShortRows → Type 0
AreShort [] = Unit {0}
AreShort (r ∷ rows) = IsSign (r.0 ∷ []) r.1 × AreShort rows

abbrev long_rows : LongRows
long_rows =
    (58, 58, k.DoubleColon) ∷ (61, 61, k.Equal) ∷ (33, 61, k.NotEqual) ∷ (60, 61, k.LessEqual) ∷ (62, 61, k.GreaterEqual) ∷ (38, 38, k.AndAnd) ∷ (124, 124, k.OrOr) ∷ []

abbrev short_rows : ShortRows
short_rows =
    (64, k.At) ∷ (40, k.LeftParen) ∷ (41, k.RightParen) ∷ (123, k.LeftBrace) ∷ (125, k.RightBrace) ∷ (91, k.LeftBracket) ∷ (93, k.RightBracket) ∷ (44, k.Comma) ∷ (59, k.Semicolon)
    ∷ (46, k.Dot) ∷ (58, k.Colon) ∷ (60, k.Less) ∷ (62, k.Greater) ∷ (43, k.Plus) ∷ (45, k.Minus) ∷ (42, k.Star) ∷ (33, k.Not) ∷ []

are_long : AreLong long_rows
are_long = (double_colon, (equal, (not_equal, (less_equal, (greater_equal, (and_and, (or_or, tt)))))))

are_short : AreShort short_rows
are_short =
    (at, (left_paren, (right_paren, (left_brace, (right_brace, (left_bracket, (right_bracket, (comma, (semicolon, (dot, (colon, (less, (greater, (plus, (minus, (star, (not, tt)))))))))))))))))

abbrev nothing : Option TokenKind
nothing = None

pub no_sign : (kind : TokenKind) (P : Type 0) → nothing ≡ Some kind → P
no_sign kind P h = absurd cc

same_kind : (a b : TokenKind) → Some a ≡ Some b → a ≡ b
same_kind a b h = cc

step : (P : Type 0) (kind : TokenKind) (t : Bool) (x y : Option TokenKind) → (t ≡ true → x ≡ Some kind → P) → (y ≡ Some kind → P) → cond t x y ≡ Some kind → P
step P kind true x y f g h = f refl h
step P kind false x y f g h = g h

long_by : (rows : LongRows) → AreLong rows → (a b : ℕ) (kind : TokenKind) → long_in rows a b ≡ Some kind → IsSign (a ∷ b ∷ []) kind
long_by [] all a b kind h = no_sign kind (IsSign (a ∷ b ∷ []) kind) h
long_by (r ∷ rows) all a b kind h =
    step (IsSign (a ∷ b ∷ []) kind) kind (eqb a r.0 && eqb b r.1) (Some r.2) (long_in rows a b)
    (λ e f. let q = and_parts (eqb a r.0) (eqb b r.1) e in
    subst (λ (x : ℕ). IsSign (x ∷ b ∷ []) kind) (sym (eqb-true a r.0 q.0)) (subst (λ (y : ℕ). IsSign (r.0 ∷ y ∷ []) kind) (sym (eqb-true b r.1 q.1))
    (subst (λ (k : TokenKind). IsSign (r.0 ∷ r.1 ∷ []) k) (same_kind r.2 kind f) all.0)))
    (long_by rows all.1 a b kind) h

short_by : (rows : ShortRows) → AreShort rows → (a : ℕ) (kind : TokenKind) → short_in rows a ≡ Some kind → IsSign (a ∷ []) kind
short_by [] all a kind h = no_sign kind (IsSign (a ∷ []) kind) h
short_by (r ∷ rows) all a kind h =
    step (IsSign (a ∷ []) kind) kind (eqb a r.0) (Some r.1) (short_in rows a)
    (λ e f. subst (λ (x : ℕ). IsSign (x ∷ []) kind) (sym (eqb-true a r.0 e)) (subst (λ (k : TokenKind). IsSign (r.0 ∷ []) k) (same_kind r.1 kind f) all.0)) (short_by rows all.1 a kind) h

pub long_is : (a b : ℕ) (kind : TokenKind) → long_sign a b ≡ Some kind → IsSign (a ∷ b ∷ []) kind
long_is a b kind h = long_by long_rows are_long a b kind h

pub short_is : (a : ℕ) (kind : TokenKind) → short_sign a ≡ Some kind → IsSign (a ∷ []) kind
short_is a kind h = short_by short_rows are_short a kind h

-- ---- the signs of the grammar, by their lengths

-- a sign is no other piece
abbrev Starts : List ℕ → Type 0
Starts front = (rest : List ℕ) → piece (front ++ rest) ≡ sign_at (front ++ rest)

abbrev IsOne : List ℕ → TokenKind → Type 0
IsOne front kind = (a : ℕ) × (front ≡ a ∷ []) × (short_sign a ≡ Some kind) × (a < 128) × Starts (a ∷ [])

abbrev IsTwo : List ℕ → TokenKind → Type 0
IsTwo front kind = (a b : ℕ) × (front ≡ a ∷ b ∷ []) × (long_sign a b ≡ Some kind) × (0 < b) × (b < 128) × Starts (a ∷ b ∷ [])

pub sign_is : (front : List ℕ) (kind : TokenKind) → IsSign front kind → IsOne front kind ⊎ IsTwo front kind
unfolding piece
sign_is front kind double_colon = inr (_, _, refl, refl, omega arith, omega arith, λ rest. refl)
sign_is front kind equal = inr (_, _, refl, refl, omega arith, omega arith, λ rest. refl)
sign_is front kind not_equal = inr (_, _, refl, refl, omega arith, omega arith, λ rest. refl)
sign_is front kind less_equal = inr (_, _, refl, refl, omega arith, omega arith, λ rest. refl)
sign_is front kind greater_equal = inr (_, _, refl, refl, omega arith, omega arith, λ rest. refl)
sign_is front kind and_and = inr (_, _, refl, refl, omega arith, omega arith, λ rest. refl)
sign_is front kind or_or = inr (_, _, refl, refl, omega arith, omega arith, λ rest. refl)
sign_is front kind _ = inl (_, refl, refl, omega arith, λ rest. refl)

-- ---- the longest

two_longest : (a b : ℕ) (rest : List ℕ) → IsLongest (a ∷ b ∷ []) rest
two_longest a b rest other more kind i e = elim (sign_is other kind i) [ inl w ↦ omega (arith, ap length w.1) | inr w ↦ omega (arith, ap length w.2) ]

pub long_fine : (a b : ℕ) (kind : TokenKind) (rest : List ℕ) → long_sign a b ≡ Some kind → IsSign (a ∷ b ∷ []) kind × IsLongest (a ∷ b ∷ []) rest
long_fine a b kind rest h = (long_is a b kind h, two_longest a b rest)

heads : (a x y : ℕ) (rest more : List ℕ) → a ∷ rest ≡ x ∷ y ∷ more → (a ≡ x) × (first rest ≡ y)
heads a x y rest more e = (ap first e, ap (λ (xs : List ℕ). slice_index xs 1) e)

clash : (kind : TokenKind) (a b x y : ℕ) → a ≡ x → b ≡ y → long_sign a b ≡ None → long_sign x y ≡ Some kind → ⊥
clash kind a b x y e f n s = no_sign kind ⊥ (sym (subst (λ (i : ℕ). long_sign x i ≡ None) f (subst (λ (i : ℕ). long_sign i b ≡ None) e n)) ∙ s)

one_longest : (a : ℕ) (rest : List ℕ) → long_sign a (first rest) ≡ None → IsLongest (a ∷ []) rest
one_longest a rest n other more kind i e =
    elim (sign_is other kind i) [
      | inl w ↦ omega (arith, ap length w.1)
      | inr w ↦
          let h = heads a w.0 w.1 rest more (e ∙ ap (λ (xs : List ℕ). xs ++ more) w.2) in absurd (clash kind a (first rest) w.0 w.1 h.0 h.1 n w.3)
    ]

pub short_fine : (a : ℕ) (kind : TokenKind) (rest : List ℕ) → long_sign a (first rest) ≡ None → short_sign a ≡ Some kind → IsSign (a ∷ []) kind × IsLongest (a ∷ []) rest
short_fine a kind rest n h = (short_is a kind h, one_longest a rest n)

-- the second byte of a sign is never 0
pub no_null : (a : ℕ) (kind : TokenKind) → long_sign a 0 ≡ Some kind → ⊥
no_null a kind h = elim (sign_is (a ∷ 0 ∷ []) kind (long_is a 0 kind h)) [ inl w ↦ omega (arith, ap length w.1) | inr w ↦ let e = ap (λ (xs : List ℕ). slice_index xs 1) w.2 in let p = w.4 in omega arith ]

too_long : (a b : ℕ) (more : List ℕ) (kind : TokenKind) → IsLongest (a ∷ []) (b ∷ more) → long_sign a b ≡ Some kind → ⊥
too_long a b more kind l h = let le = l (a ∷ b ∷ []) more kind (long_is a b kind h) refl in omega arith

none_by : (a : ℕ) (rest : List ℕ) (found : Option TokenKind) → IsLongest (a ∷ []) rest → long_sign a (first rest) ≡ found → long_sign a (first rest) ≡ None
none_by a rest None l e = e
none_by a [] (Some kind) l e = absurd (no_null a kind e)
none_by a (b ∷ rest) (Some kind) l e = absurd (too_long a b rest kind l e)

-- ---- a sign of the grammar is found

one_at : (a : ℕ) (rest : List ℕ) (kind : TokenKind) → IsLongest (a ∷ []) rest → short_sign a ≡ Some kind → sign_at (a ∷ rest) ≡ Ok (lexed kind 1 0)
one_at a rest kind l h =
    ap (λ (found : Option TokenKind). sign_of found (short_sign a)) (none_by a rest (long_sign a (first rest)) l refl) ∙ ap (λ (found : Option TokenKind). sign_of None found) h

pub sign_again : (front rest : List ℕ) (kind : TokenKind) → IsSign front kind → IsLongest front rest → piece (front ++ rest) ≡ Ok (lexed kind (length front) 0)
sign_again front rest kind i l =
    elim (sign_is front kind i) [
      | inl w ↦
          subst (λ (xs : List ℕ). piece (xs ++ rest) ≡ Ok (lexed kind (length xs) 0)) (sym w.1) (w.4 rest ∙ one_at w.0 rest kind (subst (λ (xs : List ℕ). IsLongest xs rest) w.1 l) w.2)
      | inr w ↦
          subst (λ (xs : List ℕ). piece (xs ++ rest) ≡ Ok (lexed kind (length xs) 0)) (sym w.2) (w.6 rest ∙ ap (λ (found : Option TokenKind). sign_of found (short_sign w.0)) w.3)
    ]
