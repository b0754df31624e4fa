-- The tokens of members in the plain form.
use Rattle.std.proofs.Common.{◌≡◌, ℕ, Bool, true, false, List, [], ◌∷◌, ◌++◌, Option, Some, None, refl, sym, ap, ap₂, ◌∙◌, append_assoc, append-nil, arith}
use Rattle.std.specs.List.{list_all}
use Rattle.std.proofs.lemmas.Bool.{and_parts, eqb-false, ltb-false, not-true}
use Rattle.json.specs.Token.{Token, begin_object, end_object, key, string}
use Rattle.json.specs.Text.{content, plain}
use Rattle.json.specs.Print.{escape, escape_byte}
use Rattle.json.specs.Lex.{Lexeme, token, colon, between, in_string, lex, string_token, fresh, after_value, after_comma, begins_colon, place_token, punctuate, tokens}
use Rattle.json.proofs.Printed.Strings.{content-escape, lex-escape, escape_byte_plain}
use Rattle.json.proofs.Grammar.{value_is}
use Rattle.serde_json.specs.Data as Data
use Rattle.serde_json.specs.Read.{of_json, converted}
use Rattle.base_json.proofs.ComingMembers.{end_to_come, member_to_come}
use Rattle.base_json.specs.Members.{BeginsWith, BeginsWithThree, IsEnd, members_to_come}
use Rattle.base_json.specs.Quoted.{is_plain, with_quoted}

pub object_begins : (rest : List ℕ) → tokens (123 ∷ rest) ≡ begin_object ∷ tokens rest
unfolding lex punctuate
object_begins rest = refl

pub brace_passed : (rest : List ℕ) → lex between (125 ∷ rest) ≡ token end_object ∷ lex between rest
unfolding lex
brace_passed rest = refl

pub object_ends : (text rest : List ℕ) → lex between text ≡ token end_object ∷ lex between rest → rest ≡ [] → tokens text ≡ end_object ∷ []
unfolding lex punctuate
object_ends text rest brace none = ap (punctuate fresh) (brace ∙ ap (λ xs. token end_object ∷ lex between xs) none)

-- ---- strings

plain_alone : (x : ℕ) → is_plain x ≡ true → escape_byte x ≡ x ∷ []
plain_alone x h =
    let quote = and_parts _ _ h in
    let backslash = and_parts _ _ quote.1 in
    escape_byte_plain x (eqb-false x 34 (not-true _ quote.0)) (eqb-false x 92 (not-true _ backslash.0)) (ltb-false x 32 (not-true _ backslash.1))

escape_plain : (xs rest : List ℕ) → list_all is_plain xs ≡ true → escape (xs ++ rest) ≡ xs ++ escape rest
escape_plain [] rest h = refl
escape_plain (x ∷ xs) rest h =
    let all = and_parts (is_plain x) (list_all is_plain xs) h in
    ap₂ (λ (a b : List ℕ). a ++ b) (plain_alone x all.0) (escape_plain xs rest all.1)

-- a string that is written so, with what follows it
written : (s rest : List ℕ) → lex between (34 ∷ escape s ++ 34 ∷ rest) ≡ token (string s) ∷ lex between rest
unfolding lex
written s rest = ap₂ (λ o ls. token (string_token o) ∷ ls) (content-escape s rest) (lex-escape s rest)

pub plain_written : (s rest : List ℕ) → list_all is_plain s ≡ true → lex between (34 ∷ s ++ 34 ∷ rest) ≡ token (string s) ∷ lex between rest
plain_written s rest h =
    let same : s ≡ escape s = sym (ap escape (sym (append-nil s)) ∙ escape_plain s [] h ∙ append-nil s) in
    ap (λ (xs : List ℕ). lex between (34 ∷ xs ++ 34 ∷ rest)) same ∙ written s rest

pub quoted_written : (before quoted rest : List ℕ) → list_all is_plain before ≡ true → list_all is_plain quoted ≡ true
    → lex between (34 ∷ before ++ (92 ∷ 34 ∷ quoted ++ (92 ∷ 34 ∷ 34 ∷ rest))) ≡ token (string (with_quoted before quoted)) ∷ lex between rest
unfolding escape_byte
quoted_written before quoted rest b q =
    let inner : escape (quoted ++ 34 ∷ []) ≡ quoted ++ 92 ∷ 34 ∷ [] = escape_plain quoted (34 ∷ []) q in
    let same : escape (with_quoted before quoted) ≡ before ++ (92 ∷ 34 ∷ quoted ++ 92 ∷ 34 ∷ []) =
    escape_plain before (34 ∷ quoted ++ 34 ∷ []) b ∙ ap (λ (xs : List ℕ). before ++ (92 ∷ 34 ∷ xs)) inner in
    let whole : escape (with_quoted before quoted) ++ 34 ∷ rest ≡ before ++ (92 ∷ 34 ∷ quoted ++ (92 ∷ 34 ∷ 34 ∷ rest)) =
    ap (λ (xs : List ℕ). xs ++ 34 ∷ rest) same ∙ append_assoc before (92 ∷ 34 ∷ quoted ++ 92 ∷ 34 ∷ []) (34 ∷ rest)
    ∙ ap (λ (xs : List ℕ). before ++ (92 ∷ 34 ∷ xs)) (append_assoc quoted (92 ∷ 34 ∷ []) (34 ∷ rest)) in
    ap (λ (xs : List ℕ). lex between (34 ∷ xs)) (sym whole) ∙ written (with_quoted before quoted) rest

-- ---- members

pub colon_passed : (rest : List ℕ) → lex between (58 ∷ rest) ≡ colon ∷ lex between rest
unfolding lex
colon_passed rest = refl

pub member_begins : (k s : List ℕ) (ls : List Lexeme) → begins_colon ls ≡ false → punctuate fresh (token (string k) ∷ colon ∷ token (string s) ∷ ls) ≡ key k ∷ string s ∷ punctuate after_value ls
unfolding punctuate
member_begins k s ls none = rw none refl

pub comma_no_colon : (rest : List ℕ) → begins_colon (lex between (44 ∷ rest)) ≡ false
unfolding lex
comma_no_colon rest = refl

pub brace_no_colon : (rest : List ℕ) → begins_colon (lex between (125 ∷ rest)) ≡ false
unfolding lex
brace_no_colon rest = refl

pub brace_after_value : (rest : List ℕ) → punctuate after_value (lex between (125 ∷ rest)) ≡ tokens (125 ∷ rest)
unfolding lex punctuate
brace_after_value rest = refl

-- a string begins in the same way after a comma as at the beginning
string_begins : (o : Option (List ℕ)) (ls : List Lexeme) → punctuate after_comma (token (string_token o) ∷ ls) ≡ punctuate fresh (token (string_token o) ∷ ls)
unfolding punctuate
string_begins None ls = refl
string_begins (Some s) ls = first (begins_colon ls)
  where
    first : (c : Bool) → place_token after_comma (string s) c (λ next. punctuate next ls) ≡ place_token fresh (string s) c (λ next. punctuate next ls)
    first true = refl
    first false = refl

pub quote_after_comma : (more next rest : List ℕ) → lex between more ≡ lex between next → next ≡ 34 ∷ rest → punctuate after_value (lex between (44 ∷ more)) ≡ tokens next
unfolding lex punctuate
quote_after_comma more next rest same is =
    ap (punctuate after_comma) (same ∙ ap (lex between) is) ∙ string_begins (content plain rest) (lex in_string rest) ∙ ap tokens (sym is)

-- ---- the members to come

pub member_first : (ts r : List Token) (k s : List ℕ) → ts ≡ key k ∷ string s ∷ r → BeginsWith k (Data.string s) ts r
member_first ts r k s is old =
    ap (members_to_come old) is
    ∙ member_to_come (key k ∷ string s ∷ r) (string s ∷ r) r k (Data.string s) refl (ap (converted of_json) (value_is 126 (string s ∷ r))) (omega arith) old

pub end_first : (ts : List Token) → ts ≡ end_object ∷ [] → IsEnd ts
end_first ts is old = ap (members_to_come old) is ∙ end_to_come (end_object ∷ []) refl old

pub three_first : (ts rest : List Token) (k a l b m c : List ℕ) → ts ≡ key k ∷ string a ∷ key l ∷ string b ∷ key m ∷ string c ∷ rest → BeginsWithThree k a l b m c ts rest
three_first ts rest k a l b m c is old =
    member_first ts (key l ∷ string b ∷ key m ∷ string c ∷ rest) k a is old
    ∙ member_first (key l ∷ string b ∷ key m ∷ string c ∷ rest) (key m ∷ string c ∷ rest) l b refl (Data.put k (Data.string a) old)
    ∙ member_first (key m ∷ string c ∷ rest) rest m c refl (Data.put l (Data.string b) (Data.put k (Data.string a) old))
