-- What the items to come are, an item at a time.
use Rattle.std.proofs.Common.{◌≡◌, ℕ, zero, suc, ◌<◌, ◌≤◌, List, [], ◌∷◌, length, Bool as Truth, true, false, Option, Some, None, option_map, option_and_then, refl, sym, ap, ◌∙◌, arith}
use Rattle.std.specs.Prelude.{is_some}
use Rattle.json.specs.Token.{Token}
use Rattle.json.specs.Json as json
use Rattle.json.specs.Json.{Parse, parse_map, after_end_array, items_step, items, members, value, if_last}
use Rattle.json.specs.Reads.{token_of, Yields}
use Rattle.json.specs.declared.token.Token.{Token as TokenRead}
use Rattle.json.specs.declared.token.Token.TheVariants.{BeginObject, EndObject, BeginArray, EndArray, Key, String, Number, Bool, Null, Bad}
use Rattle.json.proofs.Grammar.{Takes, left, after_end_array-shorter, skip_value-shorter, value-begin_array, value-begin_object, value_is}
use Rattle.serde_json.specs.Data.{Data, Num, array, number, object, Items, no_items, item, Members, no_members}
use Rattle.serde_json.specs.Find.{as_array}
use Rattle.serde_json.specs.Read.{of_json, of_items, of_members, converted, number_of}
use Rattle.base_json.proofs.Reading.{whole, item_read, item_refused, items_over}
use Rattle.base_json.specs.Items.{if_at_end, to_come}
use Rattle.base_json.specs.Private.Trees.{tree_of_tokens}

-- ---- any number of turns that is enough gives the same

module _ (p : Parse json.Json) (takes : Takes p) where
  then_same : (f g : Parse json.Items) (ts : List Token) (o : Option (json.Json × List Token)) → p ts ≡ o → ((r : List Token) → length r < length ts → f r ≡ g r)
      → option_and_then (λ q. parse_map (json.item q.0) (f q.1)) o ≡ option_and_then (λ q. parse_map (json.item q.0) (g q.1)) o
  then_same f g ts None e h = refl
  then_same f g ts (Some q) e h = ap (parse_map (json.item q.0)) (h q.1 (takes ts q.1 (ap left e)))

  turn_same : (f g : Parse json.Items) (ts : List Token) (o : Option (List Token)) → ((r : List Token) → length r < length ts → f r ≡ g r) → items_step p f ts o ≡ items_step p g ts o
  turn_same f g ts (Some r) h = refl
  turn_same f g ts None h = then_same f g ts (p ts) refl h

  none_then : (f : Parse json.Items) (ts : List Token) (o : Option (json.Json × List Token)) → p ts ≡ o → length ts ≤ 0 → option_and_then (λ q. parse_map (json.item q.0) (f q.1)) o ≡ None
  none_then f ts None e h = refl
  none_then f ts (Some q) e h = let less = takes ts q.1 (ap left e) in let never : ⊥ = omega arith in absurd never

  no_turn : (f : Parse json.Items) (ts : List Token) (o : Option (List Token)) → after_end_array ts ≡ o → length ts ≤ 0 → items_step p f ts o ≡ None
  no_turn f ts (Some r) e h = let less = after_end_array-shorter ts r e in let never : ⊥ = omega arith in absurd never
  no_turn f ts None e h = none_then f ts (p ts) refl h

  same_items : (n m : ℕ) (ts : List Token) → length ts ≤ n → length ts ≤ m → items p n ts ≡ items p m ts
  unfolding items
  same_items zero zero ts a b = refl
  same_items zero (suc m) ts a b = sym (no_turn (items p m) ts (after_end_array ts) refl a)
  same_items (suc n) zero ts a b = no_turn (items p n) ts (after_end_array ts) refl b
  same_items (suc n) (suc m) ts a b = turn_same (items p n) (items p m) ts (after_end_array ts) (λ r less. same_items n m r (omega arith) (omega arith))

-- ---- the items to come

abbrev at_end : Option (Items × List Token) → Option Items
at_end o = option_and_then (λ p. if_at_end p.0 p.1) o

at_end_map : (f : Items → Items) (o : Option (Items × List Token)) → at_end (parse_map f o) ≡ option_map f (at_end o)
at_end_map f None = refl
at_end_map f (Some (ds, [])) = refl
at_end_map f (Some (ds, t ∷ ts)) = refl

pub end_to_come : (ts : List Token) → after_end_array ts ≡ Some [] → to_come ts ≡ Some no_items
unfolding to_come
end_to_come ts e = ap at_end (items_over (value 126) (length ts) ts [] (omega arith) e)

pub more_behind : (ts : List Token) (t : Token) (r : List Token) → after_end_array ts ≡ Some (t ∷ r) → to_come ts ≡ None
unfolding to_come
more_behind ts t r e = ap at_end (items_over (value 126) (length ts) ts (t ∷ r) (omega arith) e)

pub ended : (ts r s : List Token) (o : Option TokenRead) → after_end_array ts ≡ Some r → Yields r o s → is_some o ≡ false → to_come ts ≡ Some no_items
ended ts r s None e y h = end_to_come ts (e ∙ ap Some y.0)
ended ts r s (Some t) e y h = absurd (cc)

pub behind : (ts r s : List Token) (o : Option TokenRead) → after_end_array ts ≡ Some r → Yields r o s → is_some o ≡ true → to_come ts ≡ None
behind ts r s None e y h = absurd (cc)
behind ts r s (Some t) e y h = more_behind ts (token_of t) s (e ∙ ap Some y)

pub item_to_come : (ts r : List Token) (d : Data) → after_end_array ts ≡ None → converted of_json (value 126 ts) ≡ Some (d, r) → length r < length ts → to_come ts ≡ option_map (item d) (to_come r)
unfolding to_come
item_to_come ts r d going e less =
    ap at_end (item_read (value 126) (length ts) ts r d (omega arith) going e) ∙ at_end_map (item d) _
    ∙ ap (λ o. option_map (item d) (at_end (converted of_items o))) (same_items (value 126) (skip_value-shorter 126) _ (length r) r (omega arith) (omega arith))

pub none_to_come : (ts : List Token) → after_end_array ts ≡ None → converted of_json (value 126 ts) ≡ None → to_come ts ≡ None
unfolding to_come
none_to_come ts going e = ap at_end (item_refused (value 126) (length ts) ts going e)

pub none_left : (o x : Option Items) → is_some o ≡ is_some x → x ≡ None → o ≡ None
none_left None x e h = refl
none_left (Some ds) x e h = let never : true ≡ false = e ∙ ap is_some h in absurd (cc)

pub still_some : (f : Items → Items) (x : Option Items) → is_some (option_map f x) ≡ is_some x
still_some f None = refl
still_some f (Some ds) = refl

-- ---- a text that is a list

last_items : (x : Option Items) → option_map array x ≡ option_map array (at_end (option_map (λ b. (b, [])) x))
last_items None = refl
last_items (Some ds) = refl

not_last_items : (t : Token) (r : List Token) (x : Option Items) → None ≡ option_map array (at_end (option_map (λ b. (b, t ∷ r)) x))
not_last_items t r None = refl
not_last_items t r (Some ds) = refl

whole_array : (o : Option (json.Items × List Token)) → whole (parse_map json.array o) ≡ option_map array (at_end (converted of_items o))
whole_array None = refl
whole_array (Some (js, [])) = last_items (of_items js)
whole_array (Some (js, t ∷ r)) = not_last_items t r (of_items js)

pub list_opened : (ts : List Token) → tree_of_tokens (Token.begin_array ∷ ts) ≡ option_map array (to_come ts)
unfolding to_come
list_opened ts = ap whole (value-begin_array 127 ts (omega arith)) ∙ whole_array (items (value 126) (length ts) ts)

-- ---- a text that is none

abbrev lists_of : Option Data → Option Items
lists_of o = option_and_then as_array o

no_number_list : (x : Option Num) → lists_of (option_map number x) ≡ None
no_number_list None = refl
no_number_list (Some n) = refl

no_object_list : (x : Option Members) → lists_of (option_map object x) ≡ None
no_object_list None = refl
no_object_list (Some ms) = refl

object_last : (o : Option (json.Members × List Token)) → lists_of (whole (parse_map json.object o)) ≡ None
object_last None = refl
object_last (Some (ms, [])) = no_object_list (of_members ms no_members)
object_last (Some (ms, t ∷ r)) = refl

number_last : (s : List ℕ) (r : List Token) → lists_of (whole (Some (json.number s, r))) ≡ None
number_last s [] = no_number_list (number_of s)
number_last s (t ∷ r) = refl

string_last : (s : List ℕ) (r : List Token) → lists_of (whole (Some (json.string s, r))) ≡ None
string_last s [] = refl
string_last s (t ∷ r) = refl

boolean_last : (b : Truth) (r : List Token) → lists_of (whole (Some (json.boolean b, r))) ≡ None
boolean_last b [] = refl
boolean_last b (t ∷ r) = refl

null_last : (r : List Token) → lists_of (whole (Some (json.null, r))) ≡ None
null_last [] = refl
null_last (t ∷ r) = refl

pub no_list_opened : (ts : List Token) → ((r : List Token) → ts ≡ Token.begin_array ∷ r → ⊥) → lists_of (tree_of_tokens ts) ≡ None
no_list_opened [] h = ap (λ o. lists_of (whole o)) (value_is 127 [])
no_list_opened (Token.begin_object ∷ ts) h = ap (λ o. lists_of (whole o)) (value-begin_object 127 ts (omega arith)) ∙ object_last (members (value 126) (length ts) ts)
no_list_opened (Token.end_object ∷ ts) h = ap (λ o. lists_of (whole o)) (value_is 127 (Token.end_object ∷ ts))
no_list_opened (Token.begin_array ∷ ts) h = absurd (h ts refl)
no_list_opened (Token.end_array ∷ ts) h = ap (λ o. lists_of (whole o)) (value_is 127 (Token.end_array ∷ ts))
no_list_opened (Token.key s ∷ ts) h = ap (λ o. lists_of (whole o)) (value_is 127 (Token.key s ∷ ts))
no_list_opened (Token.string s ∷ ts) h = ap (λ o. lists_of (whole o)) (value_is 127 (Token.string s ∷ ts)) ∙ string_last s ts
no_list_opened (Token.number s ∷ ts) h = ap (λ o. lists_of (whole o)) (value_is 127 (Token.number s ∷ ts)) ∙ number_last s ts
no_list_opened (Token.boolean b ∷ ts) h = ap (λ o. lists_of (whole o)) (value_is 127 (Token.boolean b ∷ ts)) ∙ boolean_last b ts
no_list_opened (Token.null ∷ ts) h = ap (λ o. lists_of (whole o)) (value_is 127 (Token.null ∷ ts)) ∙ null_last ts
no_list_opened (Token.bad ∷ ts) h = ap (λ o. lists_of (whole o)) (value_is 127 (Token.bad ∷ ts))

pub other_first : (t : TokenRead) (r s : List Token) → (t ≡ BeginArray → ⊥) → token_of t ∷ r ≡ Token.begin_array ∷ s → ⊥
other_first BeginObject r s h e = cc
other_first EndObject r s h e = cc
other_first BeginArray r s h e = h refl
other_first EndArray r s h e = cc
other_first (Key k) r s h e = cc
other_first (String k) r s h e = cc
other_first (Number k) r s h e = cc
other_first (Bool b) r s h e = cc
other_first Null r s h e = cc
other_first Bad r s h e = cc
