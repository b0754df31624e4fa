-- What strings denote, and the tokens that are read from those as they are written.
use Rattle.std.proofs.Common.{◌≡◌, ℕ, zero, suc, ◌+◌, ◌<◌, List, [], ◌∷◌, ◌++◌, map, length, take, get_or, Option, Some, None, Result, Ok, Err, option_map, IfOk, MatchOption, String, Global, string_bytes, refl, sym, ap, subst, ◌∙◌, add-one, arith, false}
use Rattle.std.specs.declared.alloc.AllocError.{AllocError}
use Rattle.std.proofs.lemmas.List.{map-append}
use Rattle.cedar_text.specs.declared.letter.Letter.{Letter}
use Rattle.cedar_text.specs.Letters.{IsSpelled, HasLetters, plain_text_of}
use Rattle.cedar_text.specs.declared.text_fault.TextFault.{TextFault}
use Rattle.cedar_text.specs.declared.text_fault.TextFault.TheVariants as f
use Rattle.cedar_schema_text.specs.Private.Denoting.{is_memory}
use Rattle.cedar_schema_text.specs.declared.token.Piece.{Piece}
use Rattle.cedar_schema_text.specs.declared.token.Token.{Token}
use Rattle.cedar_schema_text.specs.Marks.{Mark, Marks, mark, marks, written}
use Rattle.cedar_schema_text.specs.Strings.{DenotesText, IsRead, AreRead}

-- a string has one list of letters
abbrev pub OneSpelling : Type 0
OneSpelling = (text : List ℕ) (letters others : List Letter) → IsSpelled text letters → IsSpelled text others → letters ≡ others

abbrev pub Denoted : List ℕ → Option (String Global) → Type 0
Denoted raw found = MatchOption found ((text : List ℕ) → DenotesText raw text → ⊥) (λ text. DenotesText raw (string_bytes text))

pub denoted_by : OneSpelling → (raw : List ℕ) (letters : List Letter) (r : Result (Option (String Global)) AllocError) → IsSpelled raw letters → IfOk r (λ text. option_map string_bytes text ≡ plain_text_of letters)
    → IfOk r (Denoted raw)
denoted_by one raw letters (Err x) spelled plain = tt
denoted_by one raw letters (Ok None) spelled plain = λ text d. let e = one raw letters d.0 spelled d.1 in absurd (none_some (plain ∙ ap plain_text_of e ∙ d.2))
  where
    none_some : {text : List ℕ} → ◌≡◌ {A = Option (List ℕ)} None (Some text) → ⊥
    none_some h = absurd cc
denoted_by one raw letters (Ok (Some s)) spelled plain = (letters, spelled, sym plain)

-- what two readings of a string denote is one text
pub one_text : OneSpelling → (raw text other : List ℕ) → DenotesText raw text → DenotesText raw other → text ≡ other
one_text one raw text other d e = let same = one raw d.0 e.0 d.1 e.1 in some_is (sym d.2 ∙ ap plain_text_of same ∙ e.2)
  where
    some_is : {x y : List ℕ} → ◌≡◌ {A = Option (List ℕ)} (Some x) (Some y) → x ≡ y
    some_is h = cc

-- ---- tokens, one more at the end

pub read_more : (ps ms : Marks) (p m : Mark) → AreRead ps ms → IsRead p m → AreRead (ps ++ p ∷ []) (ms ++ m ∷ [])
read_more [] [] p m h r = (r, tt)
read_more [] (x ∷ ms) p m h r = absurd h
read_more (x ∷ ps) [] p m h r = absurd h
read_more (x ∷ ps) (y ∷ ms) p m h r = (h.0, read_more ps ms p m h.1 r)

written_more : (ps : List Piece) (i : ℕ) (d : Piece) → i < length ps → map written (take (suc i) ps) ≡ map written (take i ps) ++ written (get_or ps i d) ∷ []
written_more [] i d lt = absurd (omega arith)
written_more (x ∷ ps) zero d lt = refl
written_more (x ∷ ps) (suc i) d lt = ap (λ qs. written x ∷ qs) (written_more ps i d (omega arith))

pub read_turn : (ps : List Piece) (i : ℕ) (d : Piece) (old new : List Token) (t : Token) → i < length ps → AreRead (map written (take i ps)) (marks old) → IsRead (written (get_or ps i d)) (mark t)
    → new ≡ old ++ t ∷ [] → AreRead (map written (take (i + 1) ps)) (marks new)
read_turn ps i d old new t lt h r n =
    subst (λ k. AreRead (map written (take k ps)) (marks new)) (sym (add-one i))
    (subst (λ qs. AreRead qs (marks new)) (sym (written_more ps i d lt))
    (subst (AreRead (map written (take i ps) ++ written (get_or ps i d) ∷ [])) (sym (ap marks n ∙ map-append mark old (t ∷ []))) (read_more (map written (take i ps)) (marks old) (written (get_or ps i d)) (mark t) h r)))

-- ---- a string without letters

pub unspelled : (raw : List ℕ) (fault : TextFault) → is_memory fault ≡ false → ((letters : List Letter) → IsSpelled raw letters → HasLetters letters (Err fault)) → (text : List ℕ) → DenotesText raw text → ⊥
unspelled raw f.OutOfMemory e h text d = absurd cc
unspelled raw (f.BadCharacter at) e h text d = h d.0 d.1
unspelled raw (f.UnclosedString at) e h text d = h d.0 d.1
unspelled raw (f.BadEscape at) e h text d = h d.0 d.1
unspelled raw (f.NumberTooLarge at) e h text d = h d.0 d.1
