-- What the members to come are, a member at a time.
use Rattle.std.proofs.Common.{◌≡◌, ℕ, zero, suc, ◌<◌, ◌≤◌, List, [], ◌∷◌, length, Bool as Truth, true, false, Option, Some, None, option_map, option_and_then, refl, sym, ap, ◌∙◌, arith}
use Rattle.std.specs.Prelude.{is_some}
use Rattle.json.specs.Token.{Token}
use Rattle.json.specs.Json as json
use Rattle.json.specs.Json.{Parse, parse_map, read_key, members_step, items, members, value}
use Rattle.json.specs.Reads.{token_of, Yields}
use Rattle.json.specs.declared.token.Token.{Token as TokenRead}
use Rattle.json.specs.declared.token.Token.TheVariants.{BeginObject, EndObject, BeginArray, EndArray, Key, String, Number, Bool, Null, Bad}
use Rattle.json.proofs.Grammar.{Takes, left, read_key-shorter, skip_value-shorter, value-begin_array, value-begin_object, value_is}
use Rattle.serde_json.specs.Data.{Data, Num, array, number, object, Items, Members, no_members, put}
use Rattle.serde_json.specs.Find.{as_object}
use Rattle.serde_json.specs.Read.{of_json, of_items, of_members, converted, number_of}
use Rattle.base_json.proofs.Reading.{whole, member_read, member_refused, key_refused, members_over}
use Rattle.base_json.specs.Items.{if_at_end}
use Rattle.base_json.specs.Members.{BeginsWith, IsEnd, IsNoObject, members_to_come}
use Rattle.base_json.specs.Private.Trees.{tree_of_tokens}

-- ---- any number of turns that is enough gives the same

module _ (p : Parse json.Json) (takes : Takes p) where
  then_same : (k : List ℕ) (f g : Parse json.Members) (ts : List Token) (o : Option (json.Json × List Token)) → p ts ≡ o → ((r : List Token) → length r < length ts → f r ≡ g r)
      → option_and_then (λ q. parse_map (json.member k q.0) (f q.1)) o ≡ option_and_then (λ q. parse_map (json.member k q.0) (g q.1)) o
  then_same k f g ts None e h = refl
  then_same k f g ts (Some q) e h = ap (parse_map (json.member k q.0)) (h q.1 (takes ts q.1 (ap left e)))

  turn_same : (f g : Parse json.Members) (ts : List Token) (o : Option (Option (List ℕ) × List Token)) → read_key ts ≡ o → ((r : List Token) → length r < length ts → f r ≡ g r)
      → option_and_then (λ q. members_step p f q.0 q.1) o ≡ option_and_then (λ q. members_step p g q.0 q.1) o
  turn_same f g ts None e h = refl
  turn_same f g ts (Some (None, s)) e h = refl
  turn_same f g ts (Some (Some k, s)) e h = let less = read_key-shorter ts (Some k) s e in then_same k f g s (p s) refl (λ r lesser. h r (omega arith))

  no_turn : (f : Parse json.Members) (ts : List Token) (o : Option (Option (List ℕ) × List Token)) → read_key ts ≡ o → length ts ≤ 0 → option_and_then (λ q. members_step p f q.0 q.1) o ≡ None
  no_turn f ts None e h = refl
  no_turn f ts (Some q) e h = let less = read_key-shorter ts q.0 q.1 e in let never : ⊥ = omega arith in absurd never

  same_members : (n m : ℕ) (ts : List Token) → length ts ≤ n → length ts ≤ m → members p n ts ≡ members p m ts
  unfolding members
  same_members zero zero ts a b = refl
  same_members zero (suc m) ts a b = sym (no_turn (members p m) ts (read_key ts) refl a)
  same_members (suc n) zero ts a b = no_turn (members p n) ts (read_key ts) refl b
  same_members (suc n) (suc m) ts a b = turn_same (members p n) (members p m) ts (read_key ts) refl (λ r less. same_members n m r (omega arith) (omega arith))

-- ---- the members to come

abbrev at_end : Option (Members × List Token) → Option Members
at_end o = option_and_then (λ p. if_at_end p.0 p.1) o

pub end_to_come : (ts : List Token) → read_key ts ≡ Some (None, []) → IsEnd ts
unfolding members_to_come
end_to_come ts e old = ap at_end (members_over (value 126) old (length ts) ts [] (omega arith) e)

pub more_behind : (ts : List Token) (t : Token) (r : List Token) → read_key ts ≡ Some (None, t ∷ r) → IsNoObject ts
unfolding members_to_come
more_behind ts t r e old = ap at_end (members_over (value 126) old (length ts) ts (t ∷ r) (omega arith) e)

pub ended : (ts r s : List Token) (o : Option TokenRead) → read_key ts ≡ Some (None, r) → Yields r o s → is_some o ≡ false → IsEnd ts
ended ts r s None e y h = end_to_come ts (e ∙ ap (λ left. Some (None, left)) y.0)
ended ts r s (Some t) e y h = absurd (cc)

pub behind : (ts r s : List Token) (o : Option TokenRead) → read_key ts ≡ Some (None, r) → Yields r o s → is_some o ≡ true → IsNoObject ts
behind ts r s None e y h = absurd (cc)
behind ts r s (Some t) e y h = more_behind ts (token_of t) s (e ∙ ap (λ left. Some (None, left)) y)

pub member_to_come : (ts s r : List Token) (k : List ℕ) (d : Data) → read_key ts ≡ Some (Some k, s) → converted of_json (value 126 s) ≡ Some (d, r) → length r < length s → BeginsWith k d ts r
unfolding members_to_come
member_to_come ts s r k d key e less old =
    let shorter = read_key-shorter ts (Some k) s key in
    ap at_end (member_read (value 126) old (length ts) k ts s r d (omega arith) key e)
    ∙ ap (λ o. at_end (converted (λ ms. of_members ms (put k d old)) o)) (same_members (value 126) (skip_value-shorter 126) _ (length r) r (omega arith) (omega arith))

pub no_member : (ts s : List Token) (k : List ℕ) → read_key ts ≡ Some (Some k, s) → converted of_json (value 126 s) ≡ None → IsNoObject ts
unfolding members_to_come
no_member ts s k key e old = ap at_end (member_refused (value 126) old (length ts) k ts s key e)

pub no_key : (ts : List Token) → read_key ts ≡ None → IsNoObject ts
unfolding members_to_come
no_key ts e old = ap at_end (key_refused (value 126) old (length ts) ts e)

-- ---- a text that is an object

last_members : (x : Option Members) → option_map object x ≡ option_map object (at_end (option_map (λ b. (b, [])) x))
last_members None = refl
last_members (Some ms) = refl

not_last_members : (t : Token) (r : List Token) (x : Option Members) → None ≡ option_map object (at_end (option_map (λ b. (b, t ∷ r)) x))
not_last_members t r None = refl
not_last_members t r (Some ms) = refl

whole_object : (o : Option (json.Members × List Token)) → whole (parse_map json.object o) ≡ option_map object (at_end (converted (λ ms. of_members ms no_members) o))
whole_object None = refl
whole_object (Some (ms, [])) = last_members (of_members ms no_members)
whole_object (Some (ms, t ∷ r)) = not_last_members t r (of_members ms no_members)

pub object_opened : (ts : List Token) → tree_of_tokens (Token.begin_object ∷ ts) ≡ option_map object (members_to_come no_members ts)
unfolding members_to_come
object_opened ts = ap whole (value-begin_object 127 ts (omega arith)) ∙ whole_object (members (value 126) (length ts) ts)

-- ---- a text that is none

abbrev objects_of : Option Data → Option Members
objects_of o = option_and_then as_object o

no_number_object : (x : Option Num) → objects_of (option_map number x) ≡ None
no_number_object None = refl
no_number_object (Some n) = refl

no_array_object : (x : Option Items) → objects_of (option_map array x) ≡ None
no_array_object None = refl
no_array_object (Some ds) = refl

array_last : (o : Option (json.Items × List Token)) → objects_of (whole (parse_map json.array o)) ≡ None
array_last None = refl
array_last (Some (js, [])) = no_array_object (of_items js)
array_last (Some (js, t ∷ r)) = refl

number_last : (s : List ℕ) (r : List Token) → objects_of (whole (Some (json.number s, r))) ≡ None
number_last s [] = no_number_object (number_of s)
number_last s (t ∷ r) = refl

string_last : (s : List ℕ) (r : List Token) → objects_of (whole (Some (json.string s, r))) ≡ None
string_last s [] = refl
string_last s (t ∷ r) = refl

boolean_last : (b : Truth) (r : List Token) → objects_of (whole (Some (json.boolean b, r))) ≡ None
boolean_last b [] = refl
boolean_last b (t ∷ r) = refl

null_last : (r : List Token) → objects_of (whole (Some (json.null, r))) ≡ None
null_last [] = refl
null_last (t ∷ r) = refl

pub no_object_opened : (ts : List Token) → ((r : List Token) → ts ≡ Token.begin_object ∷ r → ⊥) → objects_of (tree_of_tokens ts) ≡ None
no_object_opened [] h = ap (λ o. objects_of (whole o)) (value_is 127 [])
no_object_opened (Token.begin_object ∷ ts) h = absurd (h ts refl)
no_object_opened (Token.end_object ∷ ts) h = ap (λ o. objects_of (whole o)) (value_is 127 (Token.end_object ∷ ts))
no_object_opened (Token.begin_array ∷ ts) h = ap (λ o. objects_of (whole o)) (value-begin_array 127 ts (omega arith)) ∙ array_last (items (value 126) (length ts) ts)
no_object_opened (Token.end_array ∷ ts) h = ap (λ o. objects_of (whole o)) (value_is 127 (Token.end_array ∷ ts))
no_object_opened (Token.key s ∷ ts) h = ap (λ o. objects_of (whole o)) (value_is 127 (Token.key s ∷ ts))
no_object_opened (Token.string s ∷ ts) h = ap (λ o. objects_of (whole o)) (value_is 127 (Token.string s ∷ ts)) ∙ string_last s ts
no_object_opened (Token.number s ∷ ts) h = ap (λ o. objects_of (whole o)) (value_is 127 (Token.number s ∷ ts)) ∙ number_last s ts
no_object_opened (Token.boolean b ∷ ts) h = ap (λ o. objects_of (whole o)) (value_is 127 (Token.boolean b ∷ ts)) ∙ boolean_last b ts
no_object_opened (Token.null ∷ ts) h = ap (λ o. objects_of (whole o)) (value_is 127 (Token.null ∷ ts)) ∙ null_last ts
no_object_opened (Token.bad ∷ ts) h = ap (λ o. objects_of (whole o)) (value_is 127 (Token.bad ∷ ts))

pub other_first : (t : TokenRead) (r s : List Token) → (t ≡ BeginObject → ⊥) → token_of t ∷ r ≡ Token.begin_object ∷ s → ⊥
other_first BeginObject r s h e = h refl
other_first EndObject r s h e = cc
other_first BeginArray r s h e = cc
other_first EndArray r s h e = cc
other_first (Key k) r s h e = cc
other_first (String k) r s h e = cc
other_first (Number k) r s h e = cc
other_first (Bool b) r s h e = cc
other_first Null r s h e = cc
other_first Bad r s h e = cc
