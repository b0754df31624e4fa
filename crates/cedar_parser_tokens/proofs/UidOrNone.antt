-- Whether a text is that of a uid is decided, by what reads one.
use Rattle.std.proofs.Common.{◌≡◌, refl, sym, subst, ℕ, Bool, true, false, cond, List, ◌∷◌, ◌++◌, Option, Some, None, Ok, Err, codes, ◌⊎◌, inl, inr, arith, []}
use Rattle.std.specs.Prelude.{IsSome}
use Rattle.std.specs.Str.{bytes_eq}
use Rattle.cedar_value.specs.declared.uid.Uid.{Uid}
use Rattle.cedar_text.specs.declared.letter.Letter.{Letter}
use Rattle.cedar_text.specs.declared.token_kind.TokenKind.{TokenKind}
use Rattle.cedar_text.specs.declared.token_kind.TokenKind.TheVariants as k
use Rattle.cedar_text.specs.Lexeme.{Lexeme, Lexemes}
use Rattle.cedar_text.specs.Letters.{IsSpelled}
use Rattle.cedar_text.specs.Signs.{IsSign}
use Rattle.cedar_text.specs.Signs as sign
use Rattle.cedar_text.specs.Strings.{IsString}
use Rattle.cedar_text.specs.Tokens as cut
use Rattle.cedar_text.specs.Tokens.{IsToken, IsCut, AreTokens}
use Rattle.cedar_text.specs.Words.{word_kind}
use Rattle.cedar_parser_tokens.specs.Marks.{Mark, Marks, mark_of, HasLetters, IsMark, AreMarks}
use Rattle.cedar_parser_tokens.specs.Names.{Entity}
use Rattle.cedar_parser_tokens.specs.UidText.{IsUidText}
use Rattle.cedar_parser_tokens.specs.declared.content.WrittenUid.{WrittenUid}
use Rattle.cedar_parser_tokens.specs.Reading as r
use Rattle.cedar_parser_tokens.specs.Reading.{Syntax, TooDeep, Outcome}
use Rattle.cedar_parser_tokens.proofs.NamesSound.{entity_is}
use Rattle.cedar_parser_tokens.proofs.MarkLemmas.{OneSpelling, spelled_by, marks_same}
use Rattle.cedar_parser_tokens.proofs.UidLemmas.{IsText, uid_found, uid_same, uid_longer, uid_none, no_deep_uid}

-- ---- string tokens

abbrev IsQuotedString : List ℕ → Type 0
IsQuotedString text = (inner : List ℕ) × IsString inner × (text ≡ 34 ∷ inner ++ 34 ∷ [])

no_string_if : (b : Bool) (p q : TokenKind) → (p ≡ k.String → ⊥) → (q ≡ k.String → ⊥) → cond b p q ≡ k.String → ⊥
no_string_if true p q f g e = f e
no_string_if false p q f g e = g e

no_string_word : (w : List ℕ) → word_kind w ≡ k.String → ⊥
no_string_word w =
    no_string_if (bytes_eq w (codes "true")) _ _ (λ e. absurd cc) (no_string_if (bytes_eq w (codes "false")) _ _ (λ e. absurd cc)
    (no_string_if (bytes_eq w (codes "if")) _ _ (λ e. absurd cc) (no_string_if (bytes_eq w (codes "then")) _ _ (λ e. absurd cc)
    (no_string_if (bytes_eq w (codes "else")) _ _ (λ e. absurd cc) (no_string_if (bytes_eq w (codes "in")) _ _ (λ e. absurd cc)
    (no_string_if (bytes_eq w (codes "is")) _ _ (λ e. absurd cc) (no_string_if (bytes_eq w (codes "like")) _ _ (λ e. absurd cc)
    (no_string_if (bytes_eq w (codes "has")) _ _ (λ e. absurd cc) (λ e. absurd cc)))))))))

no_string_sign : (front : List ℕ) (kind : TokenKind) → IsSign front kind → kind ≡ k.String → ⊥
no_string_sign front kind sign.double_colon e = absurd cc
no_string_sign front kind _ e = absurd cc

string_in : (kind : TokenKind) (n : ℕ) (front rest : List ℕ) → IsToken kind n front rest → kind ≡ k.String → IsQuotedString front
string_in kind n front rest (cut.word {b = b} {bs = bs} h a s) e = absurd (no_string_word (b ∷ bs) e)
string_in kind n front rest (cut.number h a s l) e = absurd cc
string_in kind n front rest (cut.string {bs = bs} s) e = (bs, s, refl)
string_in kind n front rest (cut.slot h a s) e = absurd cc
string_in kind n front rest (cut.sign {kind = q} {front = f} i l) e = absurd (no_string_sign f q i e)

-- Each string token has a string between its quotes.
abbrev AreQuoted : Lexemes → Type 0
AreQuoted [] = Unit {0}
AreQuoted (t ∷ ts) = (t.kind ≡ k.String → IsQuotedString t.text) × AreQuoted ts

quoted_in : (at : ℕ) (bs : List ℕ) (ts : Lexemes) (rest : List ℕ) → IsCut at bs ts rest → AreQuoted ts
quoted_in at bs ts rest cut.done = tt
quoted_in at bs ts rest (cut.blank i c) = quoted_in _ _ _ _ c
quoted_in at bs _ rest (cut.token {n = n} {kind = kind} {front = front} {more = more} i c) = (string_in kind n front more i, quoted_in _ _ _ _ c)

-- ---- tokens with their letters

abbrev LettersOrNone : Type 0
LettersOrNone = (inner : List ℕ) → IsString inner → ((ls : List Letter) × IsSpelled (34 ∷ inner ++ 34 ∷ []) ls) ⊎ ((ls : List Letter) → IsSpelled (34 ∷ inner ++ 34 ∷ []) ls → ⊥)

abbrev MarkOrNone : Lexeme → Type 0
MarkOrNone t = ((m : Mark) × IsMark t m) ⊎ ((m : Mark) → IsMark t m → ⊥)

string_mark : (t : Lexeme) (inner : List ℕ) → t.kind ≡ k.String → t.text ≡ 34 ∷ inner ++ 34 ∷ [] → ((ls : List Letter) × IsSpelled (34 ∷ inner ++ 34 ∷ []) ls) ⊎ ((ls : List Letter) → IsSpelled (34 ∷ inner ++ 34 ∷ []) ls → ⊥) → MarkOrNone t
string_mark t inner e f (inl w) =
    inl (mark_of t w.0, (refl, subst (λ (q : TokenKind). HasLetters q t.text w.0) (sym e) (subst (λ (x : List ℕ). IsSpelled x w.0) (sym f) w.1)))
string_mark t inner e f (inr none) = inr (λ m i. none m.letters (subst (λ (x : List ℕ). IsSpelled x m.letters) f (spelled_by t.kind t.text m.letters e i.1)))

plain_mark : (t : Lexeme) → HasLetters t.kind t.text [] → MarkOrNone t
plain_mark t h = inl (mark_of t [], (refl, h))

no_letters : (q : TokenKind) (text : List ℕ) → (q ≡ k.String → ⊥) → HasLetters q text []
no_letters k.String text ne = absurd (ne refl)
no_letters _ text ne = refl

is_string : (q : TokenKind) → (q ≡ k.String) ⊎ (q ≡ k.String → ⊥)
is_string k.String = inl refl
is_string _ = inr (λ e. absurd cc)

mark_or_none : LettersOrNone → (t : Lexeme) → (t.kind ≡ k.String → IsQuotedString t.text) → MarkOrNone t
mark_or_none law t h =
    elim (is_string t.kind) [
      | inl e ↦ let w = h e in string_mark t w.0 e w.2 (law w.0 w.1)
      | inr ne ↦ plain_mark t (no_letters t.kind t.text ne)
    ]

abbrev MarksOrNone : Lexemes → Type 0
MarksOrNone ts = ((ms : Marks) × AreMarks ts ms) ⊎ ((ms : Marks) → AreMarks ts ms → ⊥)

no_more : (t : Lexeme) (ts : Lexemes) → ((ms : Marks) → AreMarks ts ms → ⊥) → (ms : Marks) → AreMarks (t ∷ ts) ms → ⊥
no_more t ts none [] h = h
no_more t ts none (m ∷ ms) h = none ms h.1

no_first : (t : Lexeme) (ts : Lexemes) → ((m : Mark) → IsMark t m → ⊥) → (ms : Marks) → AreMarks (t ∷ ts) ms → ⊥
no_first t ts none [] h = h
no_first t ts none (m ∷ ms) h = none m h.0

put : (t : Lexeme) (ts : Lexemes) → MarkOrNone t → MarksOrNone ts → MarksOrNone (t ∷ ts)
put t ts (inl m) (inl ms) = inl (m.0 ∷ ms.0, (m.1, ms.1))
put t ts (inl m) (inr none) = inr (no_more t ts none)
put t ts (inr none) ms = inr (no_first t ts none)

marks_or_none : LettersOrNone → (ts : Lexemes) → AreQuoted ts → MarksOrNone ts
marks_or_none law [] h = inl ([], tt)
marks_or_none law (t ∷ ts) h = put t ts (mark_or_none law t h.0) (marks_or_none law ts h.1)

-- ---- uids

abbrev UidOrNone : List ℕ → Type 0
UidOrNone source = ((uid : Uid) × IsUidText source uid) ⊎ ((uid : Uid) → IsUidText source uid → ⊥)

moved : (source : List ℕ) (ms : Marks) → IsText source ms → (uid : Uid) (h : IsUidText source uid) → Entity ms h.written []
moved source ms t uid h = subst (λ (ns : Marks). Entity ns h.written []) (sym (t.only h.tokens h.are_tokens)) h.reading

no_text : (o : Option (List ℕ)) → o ≡ None → IsSome o → ⊥
no_text None e h = absurd cc
no_text (Some s) e h = absurd cc

with_id : (source : List ℕ) (ms us : Marks) (w : WrittenUid) (id : Option (List ℕ)) → w.id ≡ id → us ≡ [] → IsText source ms → r.entity ms ≡ Ok (w, us) → UidOrNone source
with_id source ms us w None f g t e = inr (λ uid h. no_text w.id f (uid_same source ms us w t e uid h).1)
with_id source ms us w (Some id) f g t e =
    inl (_, uid_found source ms w t (subst (λ (xs : Marks). Entity ms w xs) g (entity_is ms us w e)) (subst (λ (o : Option (List ℕ)). IsSome o) (sym f) refl))

with_rest : (source : List ℕ) (ms us : Marks) (w : WrittenUid) → IsText source ms → r.entity ms ≡ Ok (w, us) → UidOrNone source
with_rest source ms [] w t e = with_id source ms [] w w.id refl refl t e
with_rest source ms (u ∷ us) w t e = inr (λ uid h. uid_longer ms (u ∷ us) w (omega arith) e h.written (moved source ms t uid h))

decided : (source : List ℕ) (ms : Marks) → IsText source ms → (o : Outcome WrittenUid) → r.entity ms ≡ o → UidOrNone source
decided source ms t (Ok p) e = with_rest source ms p.1 p.0 t e
decided source ms t (Err Syntax) e = inr (λ uid h. uid_none ms e h.written (moved source ms t uid h))
decided source ms t (Err TooDeep) e = absurd (no_deep_uid ms e)

abbrev OneList : Type 0
OneList = (source : List ℕ) (ts us : Lexemes) → AreTokens source ts → AreTokens source us → ts ≡ us

with_marks : OneList → OneSpelling → (source : List ℕ) (ts : Lexemes) → AreTokens source ts → MarksOrNone ts → UidOrNone source
with_marks lists spellings source ts a (inl ms) =
    decided source ms.0
    (record { are = (ts, a, ms.1); only = λ ns i. marks_same spellings ts ms.0 ns ms.1 (subst (λ (us : Lexemes). AreMarks us ns) (lists source i.0 ts i.1 a) i.2) })
    (r.entity ms.0) refl
with_marks lists spellings source ts a (inr none) =
    inr (λ uid h. let i = h.are_tokens in none h.tokens (subst (λ (us : Lexemes). AreMarks us h.tokens) (lists source i.0 ts i.1 a) i.2))

with_tokens : OneList → OneSpelling → LettersOrNone → (source : List ℕ) → ((ts : Lexemes) × AreTokens source ts) ⊎ ((ts : Lexemes) → AreTokens source ts → ⊥) → UidOrNone source
with_tokens lists spellings letters source (inl ts) = with_marks lists spellings source ts.0 ts.1 (marks_or_none letters ts.0 (quoted_in 0 source ts.0 [] ts.1))
with_tokens lists spellings letters source (inr none) = inr (λ uid h. none h.are_tokens.0 h.are_tokens.1)

pub uid_or_none_by : OneList → OneSpelling → LettersOrNone → ((source : List ℕ) → ((ts : Lexemes) × AreTokens source ts) ⊎ ((ts : Lexemes) → AreTokens source ts → ⊥)) → (source : List ℕ) → UidOrNone source
uid_or_none_by lists spellings letters tokens source = with_tokens lists spellings letters source (tokens source)
