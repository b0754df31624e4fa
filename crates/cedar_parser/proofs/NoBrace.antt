-- No policy text begins with a brace.
use Rattle.std.proofs.Common.{◌≡◌, refl, sym, ap, subst, ◌∙◌, ℕ, ◌+◌, ◌<◌, Bool, true, false, cond, eqb, List, [], ◌∷◌, ◌++◌, length, ◌⊎◌, inl, inr, arith}
use Rattle.std.specs.Prelude.{encode_utf8}
use Rattle.std.proofs.lemmas.Bool.{eqb-true}
use Rattle.std.proofs.lemmas.Bool.Decides.{nat_tests}
use Rattle.cedar_ext.specs.declared.language.Language.{Language}
use Rattle.cedar_text.specs.declared.token_kind.TokenKind.{TokenKind}
use Rattle.cedar_text.specs.declared.token_kind.TokenKind.TheVariants as k
use Rattle.cedar_text.specs.Blanks.{IsWhite, control, typographic, IsBlank, white, comment}
use Rattle.cedar_text.specs.Bytes.{is_letter, is_digit}
use Rattle.cedar_text.specs.Lexeme.{Lexemes}
use Rattle.cedar_text.specs.Normal.{normal, normal_from}
use Rattle.cedar_text.specs.Signs.{IsSign, left_brace}
use Rattle.cedar_text.specs.Tokens.{IsToken, word, number, string, slot, sign, IsCut, done, blank, token}
use Rattle.cedar_text.proofs.Spelled.{ascii_first}
use Rattle.cedar_parser_tokens.specs.Marks.{Mark, Marks, AreMarks}
use Rattle.cedar_parser_tokens.specs.Names.{Takes}
use Rattle.cedar_parser_tree.specs.StatementTree.{StatementTree}
use Rattle.cedar_parser_tree.specs.declared.written_statement.WrittenAnnotation.{WrittenAnnotation}
use Rattle.cedar_parser_statements.specs.Statements.{Annotation, annotation, Annotations, none, more, Statement, statement, Statements, end, next}
use Rattle.cedar_parser.specs.PolicyText.{IsRead, written, normal as normally}
use Rattle.cedar_parser.specs.Braces.{is_json_white, begins_with_brace, TextsBeginWithNoBrace}

false_is : false ≡ true → ⊥
false_is h = absurd cc

-- ---- the first byte

-- it is white space of JSON, and the rest begins with a brace, or it is the brace itself
abbrev IsFirst : ℕ → List ℕ → Type 0
IsFirst b bs = ((is_json_white b ≡ true) × (begins_with_brace bs ≡ true)) ⊎ (b ≡ 123)

first_is : (b : ℕ) (bs : List ℕ) → begins_with_brace (b ∷ bs) ≡ true → IsFirst b bs
first_is b bs h = by (is_json_white b) refl h
  where
    by : (w : Bool) → is_json_white b ≡ w → cond w (begins_with_brace bs) (eqb b 123) ≡ true → IsFirst b bs
    by true e h = inl (e, h)
    by false e h = inr (eqb-true b 123 h)

-- ---- blanks

white_ascii : (b : ℕ) → is_json_white b ≡ true → b < 128
white_ascii b h = grind (arith, nat_tests)

white_no_brace : (c : ℕ) → IsWhite c → c ≡ 123 → ⊥
white_no_brace c (control _ low high) e = omega arith
white_no_brace c (typographic _ low high) e = omega arith
white_no_brace c _ e = omega arith

after_white : (c : ℕ) (rest : List ℕ) → IsWhite c → begins_with_brace (encode_utf8 c ++ rest) ≡ true → begins_with_brace rest ≡ true
after_white c rest w h = by (encode_utf8 c ++ rest) refl h
  where
    by : (bs : List ℕ) → encode_utf8 c ++ rest ≡ bs → begins_with_brace bs ≡ true → begins_with_brace rest ≡ true
    by [] e h = absurd (false_is h)
    by (b ∷ bs) e h =
        elim (first_is b bs h) [
          | inl f ↦ ap begins_with_brace (ascii_first c b rest bs (white_ascii b f.0) e).1 ∙ f.1
          | inr f ↦ absurd (white_no_brace c w ((ascii_first c b rest bs (omega arith) e).0 ∙ f))
        ]

after_blank : (front rest : List ℕ) → IsBlank front rest → begins_with_brace (front ++ rest) ≡ true → begins_with_brace rest ≡ true
after_blank _ rest (white {c = c} w) h = after_white c rest w h
after_blank _ rest (comment _ _) h = absurd (false_is h)

-- ---- the first token

letter_no : (b : ℕ) (bs : List ℕ) → is_letter b ≡ true → begins_with_brace (b ∷ bs) ≡ true → ⊥
letter_no b bs l h = elim (first_is b bs h) [ inl f ↦ let w = f.0 in grind (arith, nat_tests) | inr f ↦ grind (arith, nat_tests) ]

digit_no : (b : ℕ) (bs : List ℕ) → is_digit b ≡ true → begins_with_brace (b ∷ bs) ≡ true → ⊥
digit_no b bs l h = elim (first_is b bs h) [ inl f ↦ let w = f.0 in grind (arith, nat_tests) | inr f ↦ grind (arith, nat_tests) ]

sign_is : (front rest : List ℕ) (kind : TokenKind) → IsSign front kind → begins_with_brace (front ++ rest) ≡ true → kind ≡ k.LeftBrace
sign_is _ rest _ left_brace h = refl
sign_is _ rest _ _ h = absurd (false_is h)

token_is : (kind : TokenKind) (n : ℕ) (front rest : List ℕ) → IsToken kind n front rest → begins_with_brace (front ++ rest) ≡ true → kind ≡ k.LeftBrace
token_is _ _ _ rest (word {b = b} {bs = bs} l _ _) h = absurd (letter_no b (bs ++ rest) l h)
token_is _ _ _ rest (number {b = b} {bs = bs} d _ _ _) h = absurd (digit_no b (bs ++ rest) d h)
token_is _ _ _ rest (string _) h = absurd (false_is h)
token_is _ _ _ rest (slot _ _ _) h = absurd (false_is h)
token_is kind _ front rest (sign i _) h = sign_is front rest kind i h

-- tokens of which the first is a brace
abbrev HaveBrace : Lexemes → Type 0
HaveBrace [] = ⊥
HaveBrace (t ∷ ts) = t.kind ≡ k.LeftBrace

cut_begins : (at : ℕ) (source rest : List ℕ) (ts : Lexemes) → rest ≡ [] → IsCut at source ts rest → begins_with_brace source ≡ true → HaveBrace ts
cut_begins at _ rest _ e done h = absurd (false_is (sym (ap begins_with_brace e) ∙ h))
cut_begins at _ rest ts e (blank {front = front} {more = after} i c) h = cut_begins (at + length front) after rest ts e c (after_blank front after i h)
cut_begins at _ rest _ e (token {n = n} {kind = kind} {front = front} {more = after} t c) h = token_is kind n front after t h

normal_begins : (ts : Lexemes) → HaveBrace ts → HaveBrace (normal ts)
unfolding normal_from
normal_begins [] h = h
normal_begins (t ∷ ts) h = subst (λ (q : TokenKind). HaveBrace (normal (record { kind = q; start = t.start; text = t.text; number = t.number } ∷ ts))) (sym h) refl

-- ---- the grammar

abbrev Begins : Marks → Type 0
Begins [] = ⊥
Begins (m ∷ ms) = m.kind ≡ k.LeftBrace

marks_begin : (ts : Lexemes) (ms : Marks) → AreMarks ts ms → HaveBrace ts → Begins ms
marks_begin [] ms are h = absurd h
marks_begin (t ∷ ts) [] are h = absurd are
marks_begin (t ∷ ts) (m ∷ ms) are h = ap (λ (x : Mark). x.kind) are.0.0 ∙ h

read_begins : (language : Language) (source : List ℕ) (ms : Marks) → begins_with_brace source ≡ true → IsRead language source ms → Begins ms
read_begins language source ms h (written i) = marks_begin i.0 ms i.2 (cut_begins 0 source [] i.0 refl i.1 h)
read_begins language source ms h (normally _ _ _ i) = marks_begin (normal i.0) ms i.2 (normal_begins i.0 (cut_begins 0 source [] i.0 refl i.1 h))

taken_is : (kind : TokenKind) (t : Mark) (ts us : Marks) → Takes kind t ts us → Begins ts → kind ≡ k.LeftBrace
taken_is kind t ts us i h = sym i.is ∙ subst Begins i.whole h

after_notes : (ts us : Marks) (notes : List WrittenAnnotation) → Annotations ts notes us → Begins ts → Begins us
after_notes ts _ _ none h = h
after_notes ts vs _ (more {us = us} is i) h = by us vs _ i (after_notes ts us _ is h)
  where
    no_at : k.At ≡ k.LeftBrace → ⊥
    no_at e = absurd cc

    by : (us vs : Marks) (a : WrittenAnnotation) → Annotation us a vs → Begins us → Begins vs
    by us vs _ (annotation {us = ws} {p = p} i _ _ _ _ _) h = absurd (no_at (taken_is k.At p us ws i h))

statement_no : (d : ℕ) (ts us : Marks) (s : StatementTree) → Statement d ts s us → Begins ts → ⊥
statement_no d ts us _ (statement {us = vs} {vs = ws} {t = t} notes i _ _ _ _) h = no_word (taken_is k.Identifier t vs ws i (after_notes ts vs _ notes h))
  where
    no_word : k.Identifier ≡ k.LeftBrace → ⊥
    no_word e = absurd cc

statements_no : (d : ℕ) (ts us : Marks) (ss : List StatementTree) → us ≡ [] → Statements d ts ss us → Begins ts → ⊥
statements_no d ts us _ e end h = subst Begins e h
statements_no d ts us _ e (next {us = vs} i _) h = statement_no d ts vs _ i h

pub no_brace : TextsBeginWithNoBrace
no_brace language source set h text =
    statements_no _ text.tokens [] text.are_policies.statements refl text.are_policies.reading (read_begins language source text.tokens h text.are_tokens)
