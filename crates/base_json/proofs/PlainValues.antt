-- What values in the plain form are, from their tokens.
use Rattle.std.proofs.Common.{◌≡◌, ◌≤◌, ◌+◌, ◌<◌, ◌-◌, ℕ, Bool as Truth, false, List, [], ◌∷◌, ◌++◌, length, drop, get_or, Option, Some, None, option_map, refl, sym, ap, ◌∙◌, arith, rules}
use Rattle.std.proofs.lemmas.List.{drop_more}
use Rattle.json.specs.Json.{after_end_array, items, parse_map, read_key, value}
use Rattle.json.specs.Lex.{Lexeme, token, colon, between, lex, fresh, after_value, begins_colon, punctuate, tokens}
use Rattle.json.specs.Token.{Token, key, string, number, boolean, begin_object, begin_array, end_array}
use Rattle.json.proofs.Found.{not_found}
use Rattle.json.proofs.Grammar.{closed_array, left, read_key-shorter, skip_value-shorter, value-begin_array, value_is}
use Rattle.serde_json.specs.Data as Data
use Rattle.serde_json.specs.Data.{Num}
use Rattle.serde_json.specs.Read.{of_items, of_json, converted, number_of}
use Rattle.serde_json.specs.View.{number_view, view}
use Rattle.serde_json.specs.declared.number.Number.{Number as Digits}
use Rattle.serde_json.specs.declared.value.Value.{Bool, Number, the_lemmas}
use Rattle.base_json.proofs.Bytes.{past_operator}
use Rattle.base_json.proofs.Reading.{converted-array, converted_some, item_read, member_read}
use Rattle.base_json.proofs.QuotedMembers.{comma_no_colon, quote_after_comma}
use Rattle.base_json.specs.LentObjects.{items_of_objects, object_view}
use Rattle.base_json.specs.Private.Plain.{HasNoColon, ReadsMember, ReadsValue, objects_before, tokens_after}
use Rattle.base_json.specs.Private.Steps.{members_after}
use Rattle.base_json.specs.declared.lent_object.LentObject.{LentObject}

string_placed : (s : List ℕ) (ls : List Lexeme) → begins_colon ls ≡ false → punctuate fresh (token (string s) ∷ ls) ≡ string s ∷ punctuate after_value ls
unfolding punctuate
string_placed s ls none = rw none refl

number_placed : (s : List ℕ) (ls : List Lexeme) → punctuate fresh (token (number s) ∷ ls) ≡ number s ∷ punctuate after_value ls
unfolding punctuate
number_placed s ls = refl

boolean_placed : (b : Truth) (ls : List Lexeme) → punctuate fresh (token (boolean b) ∷ ls) ≡ boolean b ∷ punctuate after_value ls
unfolding punctuate
boolean_placed b ls = refl

module _ (text : List ℕ) (at end : ℕ) where
  pub string_read : (s : List ℕ) → lex between (drop at text) ≡ token (string s) ∷ lex between (drop end text) → ReadsValue 0 text at (Data.string s) end
  string_read s is depth enough none =
      ap (λ ts. converted of_json (value depth ts)) (ap (punctuate fresh) is ∙ string_placed s (lex between (drop end text)) none) ∙ ap (converted of_json) (value_is depth (string s ∷ tokens_after text end))

  pub number_read : (s : List ℕ) (n : Num) → lex between (drop at text) ≡ token (number s) ∷ lex between (drop end text) → number_of s ≡ Some n → ReadsValue 0 text at (Data.number n) end
  number_read s n is same depth enough none =
      ap (λ ts. converted of_json (value depth ts)) (ap (punctuate fresh) is ∙ number_placed s (lex between (drop end text))) ∙ ap (converted of_json) (value_is depth (number s ∷ tokens_after text end))
      ∙ ap (λ (o : Option Num). option_map (λ d. (d, tokens_after text end)) (option_map Data.number o)) same

  pub boolean_read : (b : Truth) → lex between (drop at text) ≡ token (boolean b) ∷ lex between (drop end text) → ReadsValue 0 text at (Data.boolean b) end
  boolean_read b is depth enough none =
      ap (λ ts. converted of_json (value depth ts)) (ap (punctuate fresh) is ∙ boolean_placed b (lex between (drop end text))) ∙ ap (converted of_json) (value_is depth (boolean b ∷ tokens_after text end))

-- ---- keys

key_placed : (k : List ℕ) (ls : List Lexeme) → punctuate fresh (token (string k) ∷ colon ∷ ls) ≡ key k ∷ punctuate fresh ls
unfolding punctuate
key_placed k ls = refl

pub key_read : (text k : List ℕ) (at end place begin : ℕ) → lex between (drop at text) ≡ token (string k) ∷ lex between (drop end text) → lex between (drop end text) ≡ lex between (drop place text)
    → place < length text → get_or text place 0 ≡ 58 → lex between (drop (place + 1) text) ≡ lex between (drop begin text) → tokens (drop at text) ≡ key k ∷ tokens (drop begin text)
key_read text k at end place begin named spaces within here more =
    ap (punctuate fresh) (named ∙ ap (λ ls. token (string k) ∷ ls) (spaces ∙ past_operator 58 text place refl within here ∙ ap (λ ls. colon ∷ ls) more)) ∙ key_placed k (lex between (drop begin text))

-- ---- after a value

pub brace_comes : (text : List ℕ) (end at : ℕ) → lex between (drop end text) ≡ lex between (drop at text) → at < length text → get_or text at 0 ≡ 125
    → HasNoColon text end × (tokens_after text end ≡ tokens (drop at text))
unfolding punctuate
brace_comes text end at spaces within here =
    let brace = past_operator 125 text at refl within here in
    (ap begins_colon (spaces ∙ brace), ap (punctuate after_value) (spaces ∙ brace) ∙ ap (punctuate fresh) (sym brace))

cut : (text : List ℕ) (at c : ℕ) → at < length text → get_or text at 0 ≡ c → drop at text ≡ c ∷ drop (at + 1) text
cut text at c within here = drop_more text at 0 within ∙ ap (λ x. x ∷ drop (at + 1) text) here

pub quote_comes : (text : List ℕ) (end place at : ℕ) → lex between (drop end text) ≡ lex between (drop place text) → place < length text → get_or text place 0 ≡ 44
    → lex between (drop (place + 1) text) ≡ lex between (drop at text) → at < length text → get_or text at 0 ≡ 34 → HasNoColon text end × (tokens_after text end ≡ tokens (drop at text))
quote_comes text end place at spaces within here more within' here' =
    let comma = spaces ∙ ap (lex between) (cut text place 44 within here) in (
      ap begins_colon comma ∙ comma_no_colon (drop (place + 1) text),
      ap (punctuate after_value) comma ∙ quote_after_comma (drop (place + 1) text) (drop at text) (drop (at + 1) text) more (cut text at 34 within' here'),
    )

-- ---- members

pub member_is : (text : List ℕ) (at begin end next least : ℕ) (k : List ℕ) (d : Data.Data) → tokens (drop at text) ≡ key k ∷ tokens (drop begin text) → ReadsValue least text begin d end
    → HasNoColon text end → tokens_after text end ≡ tokens (drop next text) → ReadsMember least text at k d next
member_is text at begin end next least k d named read none after =
    (tokens (drop begin text), ap read_key named, λ depth enough. read depth enough none ∙ ap (λ ts. Some (d, ts)) after)

-- ---- objects and lists

pub object_opens : (text : List ℕ) (at brace next : ℕ) → lex between (drop at text) ≡ lex between (drop brace text) → brace < length text → get_or text brace 0 ≡ 123
    → lex between (drop (brace + 1) text) ≡ lex between (drop next text) → tokens (drop at text) ≡ begin_object ∷ tokens (drop next text)
unfolding punctuate
object_opens text at brace next spaces within here more = ap (punctuate fresh) (spaces ∙ past_operator 123 text brace refl within here) ∙ ap (λ ls. begin_object ∷ punctuate fresh ls) more

pub list_opens : (text : List ℕ) (at bracket next : ℕ) → lex between (drop at text) ≡ lex between (drop bracket text) → bracket < length text → get_or text bracket 0 ≡ 91
    → lex between (drop (bracket + 1) text) ≡ lex between (drop next text) → tokens (drop at text) ≡ begin_array ∷ tokens (drop next text)
unfolding punctuate
list_opens text at bracket next spaces within here more = ap (punctuate fresh) (spaces ∙ past_operator 91 text bracket refl within here) ∙ ap (λ ls. begin_array ∷ punctuate fresh ls) more

pub object_over : (text : List ℕ) (at : ℕ) → at < length text → get_or text at 0 ≡ 125 → read_key (tokens (drop at text)) ≡ Some (None, tokens_after text (at + 1))
unfolding punctuate
object_over text at within here = ap (λ ls. read_key (punctuate fresh ls)) (past_operator 125 text at refl within here)

pub list_over : (text : List ℕ) (at : ℕ) → at < length text → get_or text at 0 ≡ 93 → after_end_array (tokens (drop at text)) ≡ Some (tokens_after text (at + 1))
unfolding punctuate
list_over text at within here = ap (λ ls. after_end_array (punctuate fresh ls)) (past_operator 93 text at refl within here)

-- fewer tokens are after a value
pub read_shorter : (depth : ℕ) (s r : List Token) (d : Data.Data) → converted of_json (value depth s) ≡ Some (d, r) → length r < length s
read_shorter depth s r d e = let j = converted_some of_json (value depth s) d r e in skip_value-shorter depth s r (ap left j.1)

-- ---- a turn of the loop over members

module _ (text : List ℕ) (at next least : ℕ) (k : List ℕ) (d : Data.Data) (read : ReadsMember least text at k d next) where
  pub member_shorter : length (tokens (drop next text)) < length (tokens (drop at text))
  member_shorter =
      let key = read_key-shorter (tokens (drop at text)) (Some k) read.0 read.1 in
      let rest = read_shorter least read.0 (tokens (drop next text)) d (read.2 least (omega arith)) in
      omega arith

  pub member_turn : (old : Data.Members) (n depth : ℕ) → least ≤ depth → length (tokens (drop at text)) ≤ n
      → members_after old depth n (tokens (drop at text)) ≡ members_after (Data.put k d old) depth (n - 1) (tokens (drop next text))
  member_turn old n depth enough many =
      let key = read_key-shorter (tokens (drop at text)) (Some k) read.0 read.1 in
      member_read (value depth) old n k (tokens (drop at text)) read.0 (tokens (drop next text)) d (omega (arith, key, many)) read.1 (read.2 depth enough)

-- ---- a turn of the loop over items

object_push : (os : List LentObject) (o : LentObject) (rest : Data.Items) → objects_before os (Data.item (object_view o) rest) ≡ objects_before (os ++ o ∷ []) rest
object_push [] o rest = refl
object_push (p ∷ os) o rest = ap (Data.item (object_view p)) (object_push os o rest)

one_more_object : (os : List LentObject) (o : LentObject) (r : Option (Data.Items × List Token)) → parse_map (objects_before os) (parse_map (Data.item (object_view o)) r) ≡ parse_map (objects_before (os ++ o ∷ [])) r
one_more_object os o None = refl
one_more_object os o (Some p) = ap (λ ds. Some (ds, p.1)) (object_push os o p.0)

pub all_objects : (os : List LentObject) → objects_before os Data.no_items ≡ items_of_objects os
all_objects [] = refl
all_objects (o ∷ os) = ap (Data.item (object_view o)) (all_objects os)

pub no_object_read : (r : Option (Data.Items × List Token)) → r ≡ parse_map (objects_before []) r
no_object_read None = refl
no_object_read (Some p) = refl

no_close : (depth : ℕ) (ts : List Token) (d : Data.Data) (r : List Token) (o : Option (List Token)) → converted of_json (value depth ts) ≡ Some (d, r) → after_end_array ts ≡ o → o ≡ None
no_close depth ts d r None e f = refl
no_close depth ts d r (Some s) e f =
    let j = converted_some of_json (value depth ts) d r e in
    not_found (j.0, r) (sym (value_is depth (end_array ∷ s)) ∙ ap (value depth) (sym (closed_array ts s f)) ∙ j.1)

pub goes_on : (depth : ℕ) (ts : List Token) (d : Data.Data) (r : List Token) → converted of_json (value depth ts) ≡ Some (d, r) → after_end_array ts ≡ None
goes_on depth ts d r e = no_close depth ts d r (after_end_array ts) e refl

pub object_turn : (os : List LentObject) (o : LentObject) (depth n : ℕ) (ts r : List Token) → length ts ≤ n → converted of_json (value depth ts) ≡ Some (object_view o, r)
    → parse_map (objects_before os) (converted of_items (items (value depth) n ts)) ≡ parse_map (objects_before (os ++ o ∷ [])) (converted of_items (items (value depth) (n - 1) r))
object_turn os o depth n ts r many e =
    let less = read_shorter depth ts r (object_view o) e in
    ap (parse_map (objects_before os)) (item_read (value depth) n ts r (object_view o) (omega (arith, less, many)) (goes_on depth ts (object_view o) r e) e)
    ∙ one_more_object os o (converted of_items (items (value depth) (n - 1) r))

pub list_inside : (depth : ℕ) (ts : List Token) → 0 < depth → converted of_json (value depth (begin_array ∷ ts)) ≡ parse_map Data.array (converted of_items (items (value (depth - 1)) (length ts) ts))
list_inside depth ts some = ap (converted of_json) (value-begin_array depth ts some) ∙ converted-array (items (value (depth - 1)) (length ts) ts)

-- ---- trees

pub view_truth : (b : Truth) → view (Bool b) ≡ Data.boolean b
view_truth b = search (rules, the_lemmas)

pub view_number : (n : Digits) → view (Number n) ≡ Data.number (number_view n)
view_number n = search (rules, the_lemmas)
