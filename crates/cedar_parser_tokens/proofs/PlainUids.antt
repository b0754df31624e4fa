-- A text in the plain form has the tokens of its path, `::` and a string, so it is the text of that uid.
use Rattle.std.proofs.Common.{◌≡◌, refl, sym, ap, subst, ◌∙◌, ℕ, ◌+◌, ◌≤◌, true, List, ◌∷◌, ◌++◌, length, Option, Some, codes, append_assoc, append-nil, arith, []}
use Rattle.std.specs.Prelude.{IsSome, IfSome}
use Rattle.std.specs.List.{list_all}
use Rattle.std.proofs.lemmas.Bool.{and_parts}
use Rattle.cedar_value.specs.Names.{IsName, is_identifier, joined}
use Rattle.cedar_text.specs.declared.letter.Letter.{Letter}
use Rattle.cedar_text.specs.declared.token_kind.TokenKind.{TokenKind}
use Rattle.cedar_text.specs.declared.token_kind.TokenKind.TheVariants as k
use Rattle.cedar_text.specs.Bytes.{is_word, Stops}
use Rattle.cedar_text.specs.Lexeme.{Lexeme, Lexemes}
use Rattle.cedar_text.specs.Signs as sign
use Rattle.cedar_text.specs.Signs.{IsSign}
use Rattle.cedar_text.specs.Strings.{IsString}
use Rattle.cedar_text.specs.Tokens as cut
use Rattle.cedar_text.specs.Tokens.{IsToken, IsCut}
use Rattle.cedar_parser_tokens.specs.Marks.{Marks, mark_of, AreMarks, content_of}
use Rattle.cedar_parser_tokens.specs.Names as g
use Rattle.cedar_parser_tokens.specs.Names.{Takes, Path, Entity}
use Rattle.cedar_parser_tokens.specs.UidText.{IsUidText}
use Rattle.cedar_parser_tokens.specs.Private.PlainUid.{IsPlainText}
use Rattle.cedar_parser_tokens.proofs.Identifiers.{identifier_before}
use Rattle.cedar_parser_tokens.proofs.PlainLetters.{Letters, plain_letters, plain_string, content_same}

-- ---- tokens

sign_short : (front : List ℕ) (kind : TokenKind) → IsSign front kind → length front ≤ 2
sign_short front kind sign.double_colon = omega arith
sign_short front kind _ = omega arith

colons_token : (rest : List ℕ) → IsToken k.DoubleColon 0 (codes "::") rest
colons_token rest = cut.sign sign.double_colon (λ other more kind i e. sign_short other kind i)

-- ---- cutting

abbrev lexeme_at : TokenKind → ℕ → List ℕ → Lexeme
lexeme_at kind at text = record { kind = kind; start = at; text = text; number = 0 }

abbrev quoted : List ℕ → List ℕ
quoted id = 34 ∷ id ++ 34 ∷ []

-- what follows the path
abbrev ending : List ℕ → List ℕ
ending id = codes "::" ++ quoted id

string_cut : (at : ℕ) (id : List ℕ) → IsString id → IsCut at (quoted id) (lexeme_at k.String at (quoted id) ∷ []) []
string_cut at id s = subst (λ (bs : List ℕ). IsCut at bs (lexeme_at k.String at (quoted id) ∷ []) []) (append-nil (quoted id)) (cut.token (cut.string s) cut.done)

colons_cut : (at : ℕ) (rest : List ℕ) (ts : Lexemes) → IsCut (at + 2) rest ts [] → IsCut at (codes "::" ++ rest) (lexeme_at k.DoubleColon at (codes "::") ∷ ts) []
colons_cut at rest ts c = cut.token (colons_token rest) c

word_cut : (at : ℕ) (word rest : List ℕ) (ts : Lexemes) → is_identifier word ≡ true → Stops is_word rest → IsCut (at + length word) rest ts [] → IsCut at (word ++ rest) (lexeme_at k.Identifier at word ∷ ts) []
word_cut at word rest ts h stops c = cut.token (identifier_before word rest h stops) c

-- ---- reading

-- From a word of the path on, at this byte: the tokens that are left, and the uid that they are after what was read before.
record Rest (id : List ℕ) (ls : List Letter) (at : ℕ) (word : List ℕ) (others : List (List ℕ)) : Type 0 where
  lexemes : Lexemes
  marks : Marks
  behind : Marks
  is_cut : IsCut at (joined word others ++ ending id) lexemes []
  are : AreMarks lexemes marks
  first : Takes k.Identifier (mark_of (lexeme_at k.Identifier at word) []) marks behind
  reads : (ts : Marks) (before : List ℕ) → Path ts (before ++ word) behind → Entity ts (record { ty = before ++ joined word others; id = content_of ls }) []

last_word : (id : List ℕ) (l : Letters id) → IsString id → (at : ℕ) (word : List ℕ) → is_identifier word ≡ true → Rest id l.letters at word []
last_word id l s at word h =
    let colons = at + length word in
    let text = at + length word + 2 in
    record {
      lexemes = lexeme_at k.Identifier at word ∷ lexeme_at k.DoubleColon colons (codes "::") ∷ lexeme_at k.String text (quoted id) ∷ [];
      marks = mark_of (lexeme_at k.Identifier at word) [] ∷ mark_of (lexeme_at k.DoubleColon colons (codes "::")) [] ∷ mark_of (lexeme_at k.String text (quoted id)) l.letters ∷ [];
      behind = mark_of (lexeme_at k.DoubleColon colons (codes "::")) [] ∷ mark_of (lexeme_at k.String text (quoted id)) l.letters ∷ [];
      is_cut = word_cut at word (ending id) _ h refl (colons_cut colons (quoted id) _ (string_cut text id s));
      are = ((refl, refl), ((refl, refl), ((refl, (id, refl, l.written)), tt)));
      first = record { whole = refl; is = refl };
      reads = λ ts before p. g.entity p (record { whole = refl; is = refl }) (g.string (record { whole = refl; is = refl }));
    }

more_words : (id : List ℕ) (ls : List Letter) (at : ℕ) (word next : List ℕ) (others : List (List ℕ)) → is_identifier word ≡ true → Rest id ls (at + length word + 2) next others → Rest id ls at word (next ∷ others)
more_words id ls at word next others h r =
    let colons = lexeme_at k.DoubleColon (at + length word) (codes "::") in
    let there = word_cut at word (codes "::" ++ (joined next others ++ ending id)) _ h refl (colons_cut (at + length word) (joined next others ++ ending id) _ r.is_cut) in
    record {
      lexemes = lexeme_at k.Identifier at word ∷ colons ∷ r.lexemes;
      marks = mark_of (lexeme_at k.Identifier at word) [] ∷ mark_of colons [] ∷ r.marks;
      behind = mark_of colons [] ∷ r.marks;
      is_cut = subst (λ (bs : List ℕ). IsCut at bs (lexeme_at k.Identifier at word ∷ colons ∷ r.lexemes) []) (sym (append_assoc word (codes "::" ++ joined next others) (ending id))) there;
      are = ((refl, refl), ((refl, refl), r.are));
      first = record { whole = refl; is = refl };
      reads = λ ts before p.
          subst (λ (ty : List ℕ). Entity ts (record { ty = ty; id = content_of ls }) [])
          (append_assoc (before ++ word) (codes "::") (joined next others) ∙ append_assoc before word (codes "::" ++ joined next others))
          (r.reads ts (before ++ word ++ codes "::") (g.longer p (record { whole = refl; is = refl }) r.first));
    }

path_rest : (id : List ℕ) (l : Letters id) → IsString id → (at : ℕ) (word : List ℕ) (others : List (List ℕ)) → list_all is_identifier (word ∷ others) ≡ true → Rest id l.letters at word others
path_rest id l s at word [] h = last_word id l s at word (and_parts (is_identifier word) true h).0
path_rest id l s at word (next ∷ others) h =
    let p = and_parts (is_identifier word) (list_all is_identifier (next ∷ others)) h in
    more_words id l.letters at word next others p.0 (path_rest id l s (at + length word + 2) next others p.1)

pub plain_text_uid : (source path id : List ℕ) → IsName path → IsPlainText source path id → IsUidText source (record { ty = path; id = id })
plain_text_uid source path id name t =
    let l = plain_letters id t.utf8 t.plain in
    let r = path_rest id l (plain_string id t.plain) 0 name.first name.others name.identifiers in
    let here : source ≡ joined name.first name.others ++ ending id = t.whole ∙ ap (λ (bs : List ℕ). bs ++ ending id) name.text_is in
    record {
      tokens = r.marks;
      are_tokens = (r.lexemes, subst (λ (bs : List ℕ). IsCut 0 bs r.lexemes []) (sym here) r.is_cut, r.are);
      written = record { ty = joined name.first name.others; id = content_of l.letters };
      reading = r.reads r.marks [] (g.word r.first);
      ty = name.text_is;
      id = content_same id l;
    }

-- the uid of the name that is read and of a copy of the id
pub plain_uid_is : (source path id : List ℕ) (read : Option (List ℕ)) (ty text : List ℕ) → (IsSome read → IsName path) → IfSome read (λ n. n ≡ path) → IsPlainText source path id → read ≡ Some ty → text ≡ id
    → IsUidText source (record { ty = ty; id = text })
plain_uid_is source path id read ty text given same t e f =
    let name : IsName path = given (subst IsSome (sym e) refl) in
    let g : ty ≡ path = subst (λ (o : Option (List ℕ)). IfSome o (λ n. n ≡ path)) e same in
    subst (IsUidText source) (λ i. record { ty = sym g i; id = sym f i }) (plain_text_uid source path id name t)
