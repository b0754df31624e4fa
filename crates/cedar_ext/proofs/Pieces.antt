-- How a match goes element by element, and that a later star takes the place of an earlier one.
use Rattle.std.proofs.Common.{◌≡◌, ℕ, ◌≤◌, ◌⊎◌, List, [], ◌∷◌, ◌++◌, length, map, refl, arith, ap, sym, ◌∙◌, subst, inl, inr, append_assoc, length-append, ◌↔◌}
use Rattle.cedar_ext.specs.Matching.{IsMatch}
use Rattle.cedar_ext.specs.declared.pattern.Element.{Element}
use Rattle.cedar_ext.specs.declared.pattern.Element.TheVariants.{Character, Star}

pub character_first : (c d : ℕ) (es : List Element) (cs : List ℕ) → IsMatch (Character c ∷ es) (d ∷ cs) → (d ≡ c) × IsMatch es cs
character_first c d es cs (piece, rest, e, p, m) =
    let whole : d ∷ cs ≡ c ∷ rest = e ∙ ap (λ q. q ++ rest) p in
    let tails : rest ≡ cs = cc in
    (cc, subst (IsMatch es) tails m)

pub character_more : (c : ℕ) (es : List Element) (cs : List ℕ) → IsMatch es cs → IsMatch (Character c ∷ es) (c ∷ cs)
character_more c es cs m = (c ∷ [], cs, refl, refl, m)

pub character_none : (c : ℕ) (es : List Element) → IsMatch (Character c ∷ es) [] → ⊥
character_none c es (piece, rest, e, p, m) = let whole : [] ≡ c ∷ rest = e ∙ ap (λ q. q ++ rest) p in cc

pub star_here : (es : List Element) (cs : List ℕ) → IsMatch es cs → IsMatch (Star ∷ es) cs
star_here es cs m = ([], cs, refl, tt, m)

pub star_more : (d : ℕ) (es : List Element) (cs : List ℕ) → IsMatch (Star ∷ es) cs → IsMatch (Star ∷ es) (d ∷ cs)
star_more d es cs (piece, rest, e, p, m) = (d ∷ piece, rest, ap (λ r. d ∷ r) e, tt, m)

pub star_cases : (d : ℕ) (es : List Element) (cs : List ℕ) → IsMatch (Star ∷ es) (d ∷ cs) → IsMatch es (d ∷ cs) ⊎ IsMatch (Star ∷ es) cs
star_cases d es cs ([], rest, e, p, m) = inl (subst (IsMatch es) (sym e) m)
star_cases d es cs (x ∷ piece, rest, e, p, m) = let tails : cs ≡ piece ++ rest = cc in inr (piece, rest, tails, tt, m)

pub star_none : (es : List Element) → IsMatch (Star ∷ es) [] → IsMatch es []
star_none es ([], rest, e, p, m) = subst (IsMatch es) (sym e) m
star_none es (x ∷ piece, rest, e, p, m) = cc

-- a star over more text
star_append : (es : List Element) (front cs : List ℕ) → IsMatch (Star ∷ es) cs → IsMatch (Star ∷ es) (front ++ cs)
star_append es [] cs m = m
star_append es (d ∷ front) cs m = star_more d es (front ++ cs) (star_append es front cs m)

-- the elements begin with the characters of what was passed, and so does the text
pub record HasPassed (elements : List Element) (text : List ℕ) (todo : List Element) (rest : List ℕ) : Type 0 where
  pub passed : List ℕ
  pub elements_are : elements ≡ map Character passed ++ todo
  pub text_is : text ≡ passed ++ rest

pub passed_none : (es : List Element) (cs : List ℕ) → HasPassed es cs es cs
passed_none es cs = record { passed = []; elements_are = refl; text_is = refl }

characters_after : (ps : List ℕ) (c : ℕ) (es : List Element) → map Character ps ++ Character c ∷ es ≡ map Character (ps ++ c ∷ []) ++ es
characters_after [] c es = refl
characters_after (p ∷ ps) c es = ap (λ r. Character p ∷ r) (characters_after ps c es)

pub passed_more : (es : List Element) (cs : List ℕ) (c : ℕ) (todo : List Element) (rest : List ℕ) → HasPassed es cs (Character c ∷ todo) (c ∷ rest) → HasPassed es cs todo rest
passed_more es cs c todo rest h = record {
  passed = h.passed ++ c ∷ [];
  elements_are = h.elements_are ∙ characters_after h.passed c todo;
  text_is = h.text_is ∙ sym (append_assoc h.passed (c ∷ []) rest);
}

after_characters : (ps : List ℕ) (todo : List Element) (rest : List ℕ) → IsMatch (map Character ps ++ todo) (ps ++ rest) → IsMatch todo rest
after_characters [] todo rest m = m
after_characters (p ∷ ps) todo rest m = after_characters ps todo rest (character_first p p (map Character ps ++ todo) (ps ++ rest) m).1

before_characters : (ps : List ℕ) (todo : List Element) (rest : List ℕ) → IsMatch todo rest → IsMatch (map Character ps ++ todo) (ps ++ rest)
before_characters [] todo rest m = m
before_characters (p ∷ ps) todo rest m = character_more p (map Character ps ++ todo) (ps ++ rest) (before_characters ps todo rest m)

module _ (es : List Element) (cs : List ℕ) (todo : List Element) (rest : List ℕ) (h : HasPassed es cs todo rest) where
  pub match_of_rest : IsMatch es cs → IsMatch todo rest
  match_of_rest m = after_characters h.passed todo rest (subst (IsMatch (map Character h.passed ++ todo)) h.text_is (subst (λ x. IsMatch x cs) h.elements_are m))

  pub match_from_rest : IsMatch todo rest → IsMatch es cs
  match_from_rest m =
      subst (λ x. IsMatch x cs) (sym h.elements_are) (subst (IsMatch (map Character h.passed ++ todo)) (sym h.text_is) (before_characters h.passed todo rest m))

characters_split : (ps : List ℕ) (todo : List Element) (cs : List ℕ) → IsMatch (map Character ps ++ todo) cs → (rest : List ℕ) × (cs ≡ ps ++ rest) × IsMatch todo rest
characters_split [] todo cs m = (cs, refl, m)
characters_split (p ∷ ps) todo cs (piece, rest, e, q, m) =
    let later = characters_split ps todo rest m in
    (later.0, e ∙ ap (λ x. x ++ rest) q ∙ ap (λ x. p ∷ x) later.1, later.2)

-- two cuts of one text: the front that is no longer leaves the other's end
cut_before : (xs qs ys rest : List ℕ) → xs ++ ys ≡ qs ++ rest → length qs ≤ length xs → (front : List ℕ) × (rest ≡ front ++ ys)
cut_before xs [] ys rest e h = (xs, sym e)
cut_before [] (q ∷ qs) ys rest e h = absurd (omega arith)
cut_before (x ∷ xs) (q ∷ qs) ys rest e h = let tails : xs ++ ys ≡ qs ++ rest = cc in cut_before xs qs ys rest tails (omega arith)

-- a star after characters that were passed may be in place of the star before them
later_star : (ps : List ℕ) (es : List Element) (rest : List ℕ) → IsMatch (Star ∷ (map Character ps ++ Star ∷ es)) (ps ++ rest) → IsMatch (Star ∷ es) rest
later_star ps es rest (piece, cs, e, p, m) =
    let parts = characters_split ps (Star ∷ es) cs m in
    let whole : (piece ++ ps) ++ parts.0 ≡ ps ++ rest = append_assoc piece ps parts.0 ∙ ap (λ x. piece ++ x) (sym parts.1) ∙ sym e in
    let cut = cut_before (piece ++ ps) ps parts.0 rest whole (omega (arith, length-append piece ps)) in
    subst (IsMatch (Star ∷ es)) (sym cut.1) (star_append es cut.0 parts.0 parts.2)

-- no place is left where a character finds no character at the end of the text
too_short : (ps : List ℕ) (c : ℕ) (es : List Element) → IsMatch (Star ∷ (map Character ps ++ Character c ∷ es)) (ps ++ []) → ⊥
too_short ps c es (piece, cs, e, p, m) =
    let parts = characters_split ps (Character c ∷ es) cs m in
    ends parts.0 parts.1 parts.2
  where
    ends : (rest : List ℕ) → cs ≡ ps ++ rest → IsMatch (Character c ∷ es) rest → ⊥
    ends [] h n = character_none c es n
    ends (d ∷ rest) h n =
        let e1 : length (ps ++ []) ≡ length (piece ++ cs) = ap length e in
        let e2 : length cs ≡ length (ps ++ (d ∷ rest)) = ap length h in
        omega (arith, length-append ps [], length-append piece cs, length-append ps (d ∷ rest))

-- the state of the search after a star
pub record IsSearching (whole : List Element) (text : List ℕ) (after_star : List Element) (tried : List ℕ) (todo : List Element) (rest : List ℕ) : Type 0 where
  pub same : IsMatch (Star ∷ whole) text ↔ IsMatch (Star ∷ after_star) tried
  pub passed : HasPassed after_star tried todo rest
  pub shorter : length after_star ≤ length whole

pub search_start : (es : List Element) (cs : List ℕ) → IsSearching es cs es cs es cs
search_start es cs = record { same = (λ m. m, λ m. m); passed = passed_none es cs; shorter = omega arith }

module _ {w : List Element} {t : List ℕ} {a : List Element} {tr : List ℕ} where
  pub todo_shorter : {todo : List Element} {rest : List ℕ} → IsSearching w t a tr todo rest → length todo ≤ length a
  todo_shorter {todo} {rest} h =
      let e : length a ≡ length (map Character h.passed.passed ++ todo) = ap length h.passed.elements_are in
      omega (arith, length-append (map Character h.passed.passed) todo)

  pub rest_shorter : {todo : List Element} {rest : List ℕ} → IsSearching w t a tr todo rest → length rest ≤ length tr
  rest_shorter {todo} {rest} h =
      let e : length tr ≡ length (h.passed.passed ++ rest) = ap length h.passed.text_is in
      omega (arith, length-append h.passed.passed rest)

  pub search_star : {es : List Element} {rest : List ℕ} → IsSearching w t a tr (Star ∷ es) rest → IsSearching w t es rest es rest
  search_star {es} {rest} h = record {
    same = (
      λ m. later_star h.passed.passed es rest (subst (λ x. IsMatch (Star ∷ x) (h.passed.passed ++ rest)) h.passed.elements_are (subst (IsMatch (Star ∷ a)) h.passed.text_is (h.same.0 m))),
      λ m. h.same.1 (star_here a tr (match_from_rest a tr (Star ∷ es) rest h.passed m)),
    );
    passed = passed_none es rest;
    shorter = omega (arith, todo_shorter h, h.shorter);
  }

  pub search_character : {c : ℕ} {es : List Element} {rest : List ℕ} → IsSearching w t a tr (Character c ∷ es) (c ∷ rest) → IsSearching w t a tr es rest
  search_character {c} {es} {rest} h = record { same = h.same; passed = passed_more a tr c es rest h.passed; shorter = h.shorter }

  pub search_found : IsSearching w t a tr [] [] → IsMatch (Star ∷ w) t
  search_found h = h.same.1 (star_here a tr (match_from_rest a tr [] [] h.passed refl))

  pub search_short : {c : ℕ} {es : List Element} → IsSearching w t a tr (Character c ∷ es) [] → IsMatch (Star ∷ w) t → ⊥
  search_short {c} {es} h m =
      too_short h.passed.passed c es (subst (λ x. IsMatch (Star ∷ x) (h.passed.passed ++ [])) h.passed.elements_are (subst (IsMatch (Star ∷ a)) h.passed.text_is (h.same.0 m)))

pub search_again : {w : List Element} {t : List ℕ} {a : List Element} {d : ℕ} {next : List ℕ} {todo : List Element} {rest : List ℕ} → IsSearching w t a (d ∷ next) todo rest → (IsMatch todo rest → ⊥) → IsSearching w t a next a next
search_again {w} {t} {a} {d} {next} {todo} {rest} h fails = record {
  same = (
    λ m. elim (star_cases d a next (h.same.0 m)) [ inl here ↦ absurd (fails (match_of_rest a (d ∷ next) todo rest h.passed here)) | inr later ↦ later ],
    λ m. h.same.1 (star_more d a next m),
  );
  passed = passed_none a next;
  shorter = h.shorter;
}

pub search_over : {w : List Element} {t : List ℕ} {a : List Element} {todo : List Element} {rest : List ℕ} → IsSearching w t a [] todo rest → (IsMatch todo rest → ⊥) → IsMatch (Star ∷ w) t → ⊥
search_over {w} {t} {a} {todo} {rest} h fails m = fails (match_of_rest a [] todo rest h.passed (star_none a (h.same.0 m)))
