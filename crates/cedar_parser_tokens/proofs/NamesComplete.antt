-- Each reading of a name is what is read from left to right.
use Rattle.std.proofs.Common.{◌≡◌, refl, ap, ◌∙◌, ℕ, zero, suc, ◌≤◌, ◌<◌, Bool, true, false, cond, List, ◌++◌, length, Some, Ok, Err, codes, arith}
use Rattle.std.specs.Prelude.{◌&&◌}
use denote.Enum.Bare.{true_same}
use Rattle.cedar_text.specs.contracts.token_kind.TokenKind.{the_type}
use Rattle.cedar_text.specs.declared.token_kind.TokenKind.{TokenKind}
use Rattle.cedar_text.specs.declared.token_kind.TokenKind.TheVariants as k
use Rattle.cedar_parser_tokens.specs.declared.content.WrittenUid.{WrittenUid}
use Rattle.cedar_parser_tokens.specs.Content.{Content}
use Rattle.cedar_parser_tokens.specs.Marks.{Mark, Marks, content_of}
use Rattle.cedar_parser_tokens.specs.Names as g
use Rattle.cedar_parser_tokens.specs.Names.{Takes, Text, Key, Path, Entity}
use Rattle.cedar_parser_tokens.specs.Reading as r
use Rattle.cedar_parser_tokens.specs.Reading.{Syntax, Outcome, and_then, same_kind, sees, expect, next}
use Rattle.cedar_parser_tokens.proofs.Outcomes.{Answers, answers_by}

-- ---- tokens

-- another token is there
pub sees_other : {kind : TokenKind} {t : Mark} {ts us : Marks} (wanted : TokenKind) → Takes kind t ts us → same_kind kind wanted ≡ false → sees wanted ts ≡ false
unfolding sees
sees_other wanted h e = ap (sees wanted) h.whole ∙ ap (λ q. same_kind q wanted) h.is ∙ e

shorter_by : {kind : TokenKind} {t : Mark} {ts us : Marks} → Takes kind t ts us → length us < length ts
shorter_by h = omega (arith, ap length h.whole)

token_same : {kind : TokenKind} {t : Mark} {ts us : Marks} → Takes kind t ts us → same_kind t.kind kind ≡ true
token_same h = true_same the_type _ _ h.is

pub sees_yes : {kind : TokenKind} {t : Mark} {ts us : Marks} → Takes kind t ts us → sees kind ts ≡ true
unfolding sees
sees_yes {kind = kind} h = ap (sees kind) h.whole ∙ token_same h

pub next_is : {kind : TokenKind} {t : Mark} {ts us : Marks} → Takes kind t ts us → next ts ≡ us
unfolding next
next_is h = ap next h.whole

pub expect_yes : {kind : TokenKind} {t : Mark} {ts us : Marks} → Takes kind t ts us → expect kind ts ≡ Ok (t, us)
unfolding expect
expect_yes {kind = kind} {t = t} {us = us} h = ap (expect kind) h.whole ∙ ap (λ (x : Bool). cond x (Ok (t, us)) (Err Syntax)) (token_same h)

pub if_true : {A : Type 0} {P : Type 0} {c : Bool} {a : A} {us : Marks} (x y : Outcome A) → c ≡ true → Answers P x a us → Answers P (cond c x y) a us
if_true x y e h = answers_by (ap (λ (q : Bool). cond q x y) e) h

pub if_false : {A : Type 0} {P : Type 0} {c : Bool} {a : A} {us : Marks} (x y : Outcome A) → c ≡ false → Answers P y a us → Answers P (cond c x y) a us
if_false x y e h = answers_by (ap (λ (q : Bool). cond q x y) e) h

-- a step on the tokens after the next
pub at_next : {A : Type 0} {P : Type 0} {kind : TokenKind} {t : Mark} {ts us vs : Marks} {a : A} (p : Marks → Outcome A) → Takes kind t ts us → Answers P (p us) a vs → Answers P (p (next ts)) a vs
at_next p h g = answers_by (ap p (next_is h)) g

pub expect_then : {A : Type 0} {P : Type 0} {kind : TokenKind} {t : Mark} {ts us vs : Marks} {a : A} (f : Mark → Marks → Outcome A) → Takes kind t ts us → Answers P (f t us) a vs → Answers P (and_then (expect kind ts) f) a vs
expect_then f h g = answers_by (ap (λ x. and_then x f) (expect_yes h)) g

-- a step whose outcome is known
pub known_then : {A B : Type 0} {P : Type 0} {x : Outcome A} {a : A} {us vs : Marks} {c : B} (f : A → Marks → Outcome B) → x ≡ Ok (a, us) → Answers P (f a us) c vs → Answers P (and_then x f) c vs
known_then f e g = answers_by (ap (λ x. and_then x f) e) g

-- ---- texts, paths, uids

pub text_yes : {ts us : Marks} {c : Content} → Text ts c us → r.text ts ≡ Ok (c, us)
unfolding r.text
text_yes (g.string h) = ap (λ x. and_then x (λ t us. Ok (content_of t.letters, us))) (expect_yes h)

text_is : {ts us : Marks} {c : Content} → Text ts c us → sees k.String ts ≡ true
text_is (g.string h) = sees_yes h

pub key_yes : {ts us : Marks} {c : Content} → Key ts c us → r.key ts ≡ Ok (c, us)
unfolding r.key
key_yes {ts = ts} (g.word h) =
    ap (λ (q : Bool). cond q (r.text ts) (and_then (expect k.Identifier ts) (λ t us. Ok (Some t.text, us)))) (sees_other k.String h refl)
    ∙ ap (λ x. and_then x (λ t us. Ok (Some t.text, us))) (expect_yes h)
key_yes {ts = ts} (g.string h) = ap (λ (q : Bool). cond q (r.text ts) (and_then (expect k.Identifier ts) (λ t us. Ok (Some t.text, us)))) (text_is h) ∙ text_yes h

both_true : (x y : Bool) → x ≡ true → y ≡ true → (x && y) ≡ true
both_true x y e f = ap (λ q. q && y) e ∙ f

goes_on_yes : {c t : Mark} {xs ys ws : Marks} → Takes k.DoubleColon c xs ys → Takes k.Identifier t ys ws → r.goes_on xs ≡ true
goes_on_yes {xs = xs} c t = both_true (sees k.DoubleColon xs) (sees k.Identifier (next xs)) (sees_yes c) (ap (sees k.Identifier) (next_is c) ∙ sees_yes t)

-- What the turns from us on answer, the whole answers.
path_on : (ts : Marks) (p : List ℕ) (us : Marks) → Path ts p us → (q : List ℕ) (vs : Marks) → ((turns : ℕ) → length us ≤ turns → r.path_from turns p us ≡ Ok (q, vs)) → r.path ts ≡ Ok (q, vs)
unfolding r.path r.path_from
path_on ts p us (g.word h) q vs turn = ap (λ x. and_then x (λ t us. r.path_from (length us) t.text us)) (expect_yes h) ∙ turn (length us) (omega arith)
path_on ts _ us (g.longer {us = xs} {vs = ys} {p = p} {t = t} h c i) q vs turn = path_on ts p xs h q vs go
  where
    step : (turns : ℕ) → length us ≤ turns → and_then (expect k.Identifier (next xs)) (λ t us. r.path_from turns (p ++ codes "::" ++ t.text) us) ≡ Ok (q, vs)
    step turns le =
        ap (λ zs. and_then (expect k.Identifier zs) (λ t us. r.path_from turns (p ++ codes "::" ++ t.text) us)) (next_is c)
        ∙ ap (λ x. and_then x (λ t us. r.path_from turns (p ++ codes "::" ++ t.text) us)) (expect_yes i) ∙ turn turns le

    go : (turns : ℕ) → length xs ≤ turns → r.path_from turns p xs ≡ Ok (q, vs)
    go zero le = absurd (let l = shorter_by c in omega arith)
    go (suc turns) le =
        ap (λ b. cond b (and_then (expect k.Identifier (next xs)) (λ t us. r.path_from turns (p ++ codes "::" ++ t.text) us)) (Ok (p, xs))) (goes_on_yes c i)
        ∙ step turns (let l = shorter_by c in let l' = shorter_by i in omega arith)

path_stops : (turns : ℕ) (p : List ℕ) (us : Marks) → r.goes_on us ≡ false → r.path_from turns p us ≡ Ok (p, us)
unfolding r.path_from
path_stops zero p us h = refl
path_stops (suc turns) p us h = ap (λ b. cond b (and_then (expect k.Identifier (next us)) (λ t vs. r.path_from turns (p ++ codes "::" ++ t.text) vs)) (Ok (p, us))) h

pub path_yes : {ts us : Marks} {p : List ℕ} → Path ts p us → r.goes_on us ≡ false → r.path ts ≡ Ok (p, us)
path_yes {ts = ts} {us = us} {p = p} h e = path_on ts p us h p us (λ turns _. path_stops turns p us e)

both_false : (x y : Bool) → y ≡ false → (x && y) ≡ false
both_false true y e = e
both_false false y e = refl

text_first : {ts us : Marks} {s : Content} → Text ts s us → sees k.Identifier ts ≡ false
text_first (g.string h) = sees_other k.Identifier h refl

pub uid_of_yes : {xs ys ws : Marks} {c : Mark} {s : Content} (p : List ℕ) → Takes k.DoubleColon c xs ys → Text ys s ws → r.uid_of p xs ≡ Ok (record { ty = p; id = s }, ws)
unfolding r.uid_of
uid_of_yes p c t =
    ap (λ x. and_then x (λ c us. and_then (r.text us) (λ s vs. Ok (record { ty = p; id = s }, vs)))) (expect_yes c)
    ∙ ap (λ x. and_then x (λ (s : Content) vs. Ok (record { ty = p; id = s }, vs))) (text_yes t)

-- A path before the id of a uid ends there.
pub stops_at_id : {xs ys ws : Marks} {c : Mark} {s : Content} → Takes k.DoubleColon c xs ys → Text ys s ws → r.goes_on xs ≡ false
stops_at_id {xs = xs} c t = both_false (sees k.DoubleColon xs) (sees k.Identifier (next xs)) (ap (sees k.Identifier) (next_is c) ∙ text_first t)

first_false : (x y : Bool) → x ≡ false → (x && y) ≡ false
first_false true y e = absurd cc
first_false false y e = refl

pub no_path_on : (us : Marks) → sees k.DoubleColon us ≡ false → r.goes_on us ≡ false
no_path_on us e = first_false (sees k.DoubleColon us) (sees k.Identifier (next us)) e

pub entity_yes : {ts us : Marks} {u : WrittenUid} → Entity ts u us → r.entity ts ≡ Ok (u, us)
unfolding r.entity
entity_yes (g.entity {p = p} h c t) = ap (λ x. and_then x (λ p us. r.uid_of p us)) (path_yes h (stops_at_id c t)) ∙ uid_of_yes p c t

pub path_first : {ts us : Marks} {p : List ℕ} → Path ts p us → (t : Mark) × (vs : Marks) × Takes k.Identifier t ts vs
path_first (g.word {us = us} {t = t} h) = (t, us, h)
path_first (g.longer h c i) = path_first h
