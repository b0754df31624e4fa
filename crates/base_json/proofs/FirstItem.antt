-- An object that was read from its own bytes is the next item of the list that they begin.
use Rattle.std.proofs.Common.{◌≡◌, ℕ, ◌<◌, ◌≤◌, ◌+◌, ◌-◌, List, [], ◌∷◌, ◌++◌, length, take, drop, get_or, Option, Some, None, option_and_then, option_map, refl, sym, ap, ◌∙◌, append_assoc, arith}
use Rattle.std.proofs.lemmas.List.{take_more, take-append-drop}
use Rattle.json.specs.Token.{Token}
use Rattle.json.specs.Json.{Json, after_end_array, value}
use Rattle.json.specs.Lex.{between, lex, after_value, fresh, punctuate, tokens}
use Rattle.json.proofs.Grammar.{value_is, closed_array, left, skip_value-shorter}
use Rattle.json.proofs.Found.{not_found}
use Rattle.serde_json.specs.Data.{Data, item}
use Rattle.serde_json.specs.Read.{of_json, converted}
use Rattle.base_json.specs.Items.{if_at_end, to_come}
use Rattle.base_json.specs.Private.Modes.{mode_behind}
use Rattle.base_json.proofs.Coming.{item_to_come}
use Rattle.base_json.proofs.Followed.{no_bad, value_followed}
use Rattle.base_json.proofs.Joined.{lex-append, last_brace}
use Rattle.base_json.proofs.Punctuated.{closing, good_lexemes, punctuate-append}
use Rattle.base_json.proofs.Reading.{converted_some}

no_close : (ts : List Token) (x : Json × List Token) (o : Option (List Token)) → after_end_array ts ≡ o → value 126 ts ≡ Some x → o ≡ None
no_close ts x None e f = refl
no_close ts x (Some r) e f = not_found x (sym (value_is 126 (Token.end_array ∷ r)) ∙ ap (value 126) (sym (closed_array ts r e)) ∙ f)

-- what follows an object
abbrev pub behind : List ℕ → List Token
behind us = punctuate after_value (lex between us)

module _ (body us : List ℕ) (mode : mode_behind between (body ++ 125 ∷ []) ≡ between) (j : Json) (read : value 126 (tokens (body ++ 125 ∷ [])) ≡ Some (j, [])) where
  joined : tokens ((body ++ 125 ∷ []) ++ us) ≡ tokens (body ++ 125 ∷ []) ++ behind us
  joined =
      let xs = body ++ 125 ∷ [] in
      let good = (value_followed (behind us) 126 (tokens xs) [] j read).1 refl in
      let last = last_brace body between mode in
      let whole = lex-append us xs between (good_lexemes fresh (lex between xs) good) mode in
      let alone = ap (punctuate fresh) (sym last.1) in
      ap (punctuate fresh) (whole ∙ ap (λ ls. ls ++ lex between us) last.1 ∙ append_assoc last.0 (closing []) (lex between us))
      ∙ punctuate-append (lex between us) fresh last.0 (ap no_bad alone ∙ good) ∙ ap (λ ts. ts ++ behind us) alone

  read_there : value 126 (tokens ((body ++ 125 ∷ []) ++ us)) ≡ Some (j, behind us)
  read_there = ap (value 126) joined ∙ (value_followed (behind us) 126 (tokens (body ++ 125 ∷ [])) [] j read).0

  pub shorter : length (behind us) < length (tokens ((body ++ 125 ∷ []) ++ us))
  shorter = skip_value-shorter 126 _ (behind us) (ap left read_there)

  pub first : (d : Data) → of_json j ≡ Some d → to_come (tokens ((body ++ 125 ∷ []) ++ us)) ≡ option_map (item d) (to_come (behind us))
  first d e = item_to_come _ (behind us) d (no_close _ (j, behind us) _ refl read_there) (ap (converted of_json) read_there ∙ ap (option_map (λ x. (x, behind us))) e) shorter

-- ---- cut out of a text

ends_with : (text : List ℕ) (end : ℕ) → 0 < end → end ≤ length text → get_or text (end - 1) 0 ≡ 125 → take end text ≡ take (end - 1) text ++ 125 ∷ []
ends_with text end some within e =
    let again : end ≡ end - 1 + 1 = omega arith in
    ap (λ n. take n text) again ∙ take_more text (end - 1) 0 (omega arith) ∙ ap (λ x. take (end - 1) text ++ x ∷ []) e

pub cut_item : (text : List ℕ) (end left : ℕ) (d : Data) → 0 < end → end ≤ length text → get_or text (end - 1) 0 ≡ 125 → mode_behind between (take end text) ≡ between
    → converted of_json (value 126 (tokens (take end text))) ≡ Some (d, []) → behind (drop end text) ≡ tokens (drop left text)
    → (to_come (tokens text) ≡ option_map (item d) (to_come (tokens (drop left text)))) × (length (tokens (drop left text)) < length (tokens text))
cut_item text end left d some within brace mode read after =
    let body = take (end - 1) text in
    let us = drop end text in
    let cut = ends_with text end some within brace in
    let whole : (body ++ 125 ∷ []) ++ us ≡ text = ap (λ xs. xs ++ us) (sym cut) ∙ take-append-drop end text in
    let j = converted_some of_json _ d [] (ap (λ xs. converted of_json (value 126 (tokens xs))) (sym cut) ∙ read) in
    let closed = ap (mode_behind between) (sym cut) ∙ mode in
    let size = shorter body us closed j.0 j.1 in
    let tree = first body us closed j.0 j.1 d j.2 in (
      ap (λ xs. to_come (tokens xs)) (sym whole) ∙ tree ∙ ap (λ ts. option_map (item d) (to_come ts)) after,
      omega (arith, size, ap length after, ap (λ xs. length (tokens xs)) whole),
    )

-- what was read up to the end of a text was all of it
pub read_whole : {A : Type 0} (o : Option (A × List Token)) (x : A) → option_and_then (λ p. if_at_end p.0 p.1) o ≡ Some x → o ≡ Some (x, [])
read_whole None x e = cc
read_whole (Some (y, [])) x e = let same : y ≡ x = cc in ap (λ z. Some (z, [])) same
read_whole (Some (y, t ∷ ts)) x e = cc
