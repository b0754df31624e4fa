-- What is read of tokens is read of them where more tokens follow too, and none of those that were read is bad.
use Rattle.std.proofs.Common.{◌≡◌, ℕ, zero, suc, ◌≤◌, List, [], ◌∷◌, ◌++◌, length, Bool, true, ◌&&◌, Option, Some, None, option_map, option_and_then, refl, sym, ap, ◌∙◌, subst, arith, length-append}
use Rattle.std.specs.Prelude.{⊤}
use Rattle.json.specs.Align.{is_good}
use Rattle.json.specs.Token.{Token}
use Rattle.json.specs.Json.{Json, array, object, Items, item, Members, member, Parse, parse_map, after_end_array, read_key, items_step, members_step, items, members, value_with, value}
use Rattle.json.proofs.Grammar.{value_is, closed_array, read_key_is}

abbrev pub no_bad : List Token → Bool
no_bad [] = true
no_bad (t ∷ ts) = is_good t && no_bad ts

-- where o is an answer of ts, p is the same with us after what is left, and what was read holds no bad token
abbrev pub Followed : {A : Type 0} → List Token → List Token → Option (A × List Token) → Option (A × List Token) → Type 0
Followed ts us None p = ⊤
Followed ts us (Some a) p = (p ≡ Some (a.0, a.1 ++ us)) × (no_bad a.1 ≡ true → no_bad ts ≡ true)

module _ (us : List Token) where
  abbrev Follows : {A : Type 0} → Parse A → Parse A → Type 0
  Follows p q = (ts : List Token) → Followed ts us (p ts) (q (ts ++ us))

  mapped : {A B : Type 0} (f : A → B) (ts : List Token) (o p : Option (A × List Token)) → Followed ts us o p → Followed ts us (parse_map f o) (parse_map f p)
  mapped f ts None p h = tt
  mapped f ts (Some a) p h = (ap (parse_map f) h.0, h.1)

  longer : {A : Type 0} (s ts : List Token) (o p : Option (A × List Token)) → (no_bad s ≡ true → no_bad ts ≡ true) → Followed s us o p → Followed ts us o p
  longer s ts None p w h = tt
  longer s ts (Some a) p w h = (h.0, λ g. w (h.1 g))

  then : {B : Type 0} (f : Json → B → B) (more again : Parse B) (ts : List Token) (o p : Option (Json × List Token)) → Follows more again → Followed ts us o p
      → Followed ts us (option_and_then (λ q. parse_map (f q.0) (more q.1)) o) (option_and_then (λ q. parse_map (f q.0) (again q.1)) p)
  then f more again ts None p h e = tt
  then f more again ts (Some a) p h e =
      subst (λ x. Followed ts us (parse_map (f a.0) (more a.1)) (option_and_then (λ q. parse_map (f q.0) (again q.1)) x)) (sym e.0)
      (longer a.1 ts _ _ e.1 (mapped (f a.0) a.1 (more a.1) (again (a.1 ++ us)) (h a.1)))

  after_more : (t : Token) (ts : List Token) → after_end_array (t ∷ ts ++ us) ≡ option_map (λ r. r ++ us) (after_end_array (t ∷ ts))
  after_more Token.begin_object ts = refl
  after_more Token.end_object ts = refl
  after_more Token.begin_array ts = refl
  after_more Token.end_array ts = refl
  after_more (Token.key s) ts = refl
  after_more (Token.string s) ts = refl
  after_more (Token.number s) ts = refl
  after_more (Token.boolean b) ts = refl
  after_more Token.null ts = refl
  after_more Token.bad ts = refl

  abbrev put_behind : Option (List ℕ) × List Token → Option (List ℕ) × List Token
  put_behind q = (q.0, q.1 ++ us)

  key_more : (t : Token) (ts : List Token) → read_key (t ∷ ts ++ us) ≡ option_map put_behind (read_key (t ∷ ts))
  key_more Token.begin_object ts = refl
  key_more Token.end_object ts = refl
  key_more Token.begin_array ts = refl
  key_more Token.end_array ts = refl
  key_more (Token.key s) ts = refl
  key_more (Token.string s) ts = refl
  key_more (Token.number s) ts = refl
  key_more (Token.boolean b) ts = refl
  key_more Token.null ts = refl
  key_more Token.bad ts = refl

  module _ (p : Parse Json) (none : p [] ≡ None) (follows : Follows p p) where
    abbrev step : Parse Members → Option (List ℕ) × List Token → Option (Members × List Token)
    step more q = members_step p more q.0 q.1

    item_turn : (more again : Parse Items) → Follows more again → (ts : List Token) (o : Option (List Token)) → after_end_array ts ≡ o
        → Followed ts us (items_step p more ts o) (items_step p again (ts ++ us) (option_map (λ r. r ++ us) o))
    item_turn more again h ts (Some r) e = (refl, λ g. ap no_bad (closed_array ts r e) ∙ g)
    item_turn more again h ts None e = then item more again ts (p ts) (p (ts ++ us)) h (follows ts)

    Follows-items : (n m : ℕ) → n ≤ m → Follows (items p n) (items p m)
    unfolding items
    Follows-items zero m le ts = tt
    Follows-items (suc n) zero le ts = absurd (omega arith)
    Follows-items (suc n) (suc m) le [] = subst (λ o. Followed [] us (option_and_then (λ q. parse_map (item q.0) (items p n q.1)) o) (items p (suc m) us)) (sym none) tt
    Follows-items (suc n) (suc m) le (t ∷ ts) =
        subst (λ o. Followed (t ∷ ts) us (items p (suc n) (t ∷ ts)) (items_step p (items p m) (t ∷ ts ++ us) o)) (sym (after_more t ts))
        (item_turn (items p n) (items p m) (Follows-items n m (omega arith)) (t ∷ ts) (after_end_array (t ∷ ts)) refl)

    member_turn : (more again : Parse Members) → Follows more again → (ts : List Token) (o : Option (Option (List ℕ) × List Token)) → read_key ts ≡ o
        → Followed ts us (option_and_then (step more) o) (option_and_then (step again) (option_map put_behind o))
    member_turn more again h ts None e = tt
    member_turn more again h ts (Some (None, r)) e = (refl, λ g. ap no_bad (read_key_is ts None r e) ∙ g)
    member_turn more again h ts (Some (Some k, r)) e =
        longer r ts _ _ (λ g. ap no_bad (read_key_is ts (Some k) r e) ∙ g) (then (member k) more again r (p r) (p (r ++ us)) h (follows r))

    Follows-members : (n m : ℕ) → n ≤ m → Follows (members p n) (members p m)
    unfolding members
    Follows-members zero m le ts = tt
    Follows-members (suc n) zero le ts = absurd (omega arith)
    Follows-members (suc n) (suc m) le [] = tt
    Follows-members (suc n) (suc m) le (t ∷ ts) =
        subst (λ o. Followed (t ∷ ts) us (members p (suc n) (t ∷ ts)) (option_and_then (step (members p m)) o)) (sym (key_more t ts))
        (member_turn (members p n) (members p m) (Follows-members n m (omega arith)) (t ∷ ts) (read_key (t ∷ ts)) refl)

  Follows-value_with : (a : Parse Items) (o : Parse Members) → Follows a a → Follows o o → Follows (value_with a o) (value_with a o)
  Follows-value_with a o x y [] = tt
  Follows-value_with a o x y (Token.begin_object ∷ ts) = longer ts (Token.begin_object ∷ ts) _ _ (λ g. g) (mapped object ts (o ts) (o (ts ++ us)) (y ts))
  Follows-value_with a o x y (Token.end_object ∷ ts) = tt
  Follows-value_with a o x y (Token.begin_array ∷ ts) = longer ts (Token.begin_array ∷ ts) _ _ (λ g. g) (mapped array ts (a ts) (a (ts ++ us)) (x ts))
  Follows-value_with a o x y (Token.end_array ∷ ts) = tt
  Follows-value_with a o x y (Token.key s ∷ ts) = tt
  Follows-value_with a o x y (Token.string s ∷ ts) = (refl, λ g. g)
  Follows-value_with a o x y (Token.number s ∷ ts) = (refl, λ g. g)
  Follows-value_with a o x y (Token.boolean b ∷ ts) = (refl, λ g. g)
  Follows-value_with a o x y (Token.null ∷ ts) = (refl, λ g. g)
  Follows-value_with a o x y (Token.bad ∷ ts) = tt

  more_tokens : (ts : List Token) → length ts ≤ length (ts ++ us)
  more_tokens ts = omega (arith, length-append ts us)

  Follows-value : (depth : ℕ) → Follows (value depth) (value depth)
  unfolding value
  Follows-value zero = Follows-value_with (λ ts. None) (λ ts. None) (λ ts. tt) (λ ts. tt)
  Follows-value (suc d) =
      Follows-value_with (λ ts. items (value d) (length ts) ts) (λ ts. members (value d) (length ts) ts)
      (λ ts. Follows-items (value d) (value_is d []) (Follows-value d) (length ts) (length (ts ++ us)) (more_tokens ts) ts)
      (λ ts. Follows-members (value d) (value_is d []) (Follows-value d) (length ts) (length (ts ++ us)) (more_tokens ts) ts)

  pub value_followed : (depth : ℕ) (ts r : List Token) (j : Json) → value depth ts ≡ Some (j, r) → (value depth (ts ++ us) ≡ Some (j, r ++ us)) × (no_bad r ≡ true → no_bad ts ≡ true)
  value_followed depth ts r j e = subst (λ o. Followed ts us o (value depth (ts ++ us))) e (Follows-value depth ts)
