-- The name that is read from left to right is a reading.
use Rattle.std.proofs.Common.{◌≡◌, refl, subst, ℕ, zero, suc, Bool, true, false, cond, List, ◌∷◌, ◌++◌, [], length, Ok, Err, codes}
use Rattle.std.proofs.lemmas.Bool.{and_parts}
use denote.Enum.Bare.{same_true}
use Rattle.cedar_text.specs.contracts.token_kind.TokenKind.{the_type}
use Rattle.cedar_text.specs.declared.token_kind.TokenKind.{TokenKind}
use Rattle.cedar_text.specs.declared.token_kind.TokenKind.TheVariants as k
use Rattle.cedar_parser_tokens.specs.declared.content.WrittenUid.{WrittenUid}
use Rattle.cedar_parser_tokens.specs.Marks.{Mark, Marks}
use Rattle.cedar_parser_tokens.specs.Names as g
use Rattle.cedar_parser_tokens.specs.Names.{Takes, Text, Key, Path, Entity}
use Rattle.cedar_parser_tokens.specs.Reading as r
use Rattle.cedar_parser_tokens.specs.Reading.{Syntax, same_kind, sees, expect, next}
use Rattle.cedar_parser_tokens.proofs.Outcomes.{Meets, meets_then, meets_as, if_meets}

-- ---- tokens

pub takes_next_by : (kind : TokenKind) (t : Mark) (ts : Marks) → same_kind t.kind kind ≡ true → Takes kind t (t ∷ ts) ts
takes_next_by kind t ts h = record { whole = refl; is = same_true the_type tt _ _ h }

pub sees_takes : (kind : TokenKind) (ts : Marks) → sees kind ts ≡ true → (t : Mark) × Takes kind t ts (next ts)
unfolding sees next
sees_takes kind [] h = absurd cc
sees_takes kind (t ∷ ts) h = (t, takes_next_by kind t ts h)

expect_by : (kind : TokenKind) (D : Type 0) (t : Mark) (ts : Marks) (b : Bool) → same_kind t.kind kind ≡ b → Meets (λ w us. Takes kind w (t ∷ ts) us) D (cond b (Ok (t, ts)) (Err Syntax))
expect_by kind D t ts true h = takes_next_by kind t ts h
expect_by kind D t ts false h = tt

pub expect_takes : (kind : TokenKind) (D : Type 0) (ts : Marks) → Meets (λ w us. Takes kind w ts us) D (expect kind ts)
unfolding expect
expect_takes kind D [] = tt
expect_takes kind D (t ∷ ts) = expect_by kind D t ts (same_kind t.kind kind) refl

-- ---- texts, paths, uids, which open nothing: a nesting refusal shows anything

pub text_reads : (D : Type 0) (ts : Marks) → Meets (λ c us. Text ts c us) D (r.text ts)
unfolding r.text
text_reads D ts = meets_then (λ t us. Takes k.String t ts us) (λ c us. Text ts c us) D (expect k.String ts) _ (expect_takes k.String D ts) (λ t us h. g.string h)

pub key_reads : (D : Type 0) (ts : Marks) → Meets (λ c us. Key ts c us) D (r.key ts)
unfolding r.key
key_reads D ts =
    if_meets (λ c us. Key ts c us) D (sees k.String ts) _ _
    (λ e. meets_as (λ c us. Text ts c us) (λ c us. Key ts c us) D D (r.text ts) (text_reads D ts) (λ c us h. g.string h) (λ x. x))
    (λ e. meets_then (λ t us. Takes k.Identifier t ts us) (λ c us. Key ts c us) D (expect k.Identifier ts) _ (expect_takes k.Identifier D ts) (λ t us h. g.word h))

path_from_reads : (D : Type 0) (n : ℕ) (p : List ℕ) (ts us : Marks) → Path ts p us → Meets (λ q vs. Path ts q vs) D (r.path_from n p us)
unfolding r.path_from
path_from_reads D zero p ts us h = h
path_from_reads D (suc n) p ts us h =
    if_meets (λ q vs. Path ts q vs) D (r.goes_on us) _ _
    (λ e. let both = and_parts (sees k.DoubleColon us) (sees k.Identifier (next us)) e in
    let c = sees_takes k.DoubleColon us both.0 in
    meets_then (λ t vs. Takes k.Identifier t (next us) vs) (λ q vs. Path ts q vs) D (expect k.Identifier (next us)) _ (expect_takes k.Identifier D (next us))
    (λ t vs i. path_from_reads D n (p ++ codes "::" ++ t.text) ts vs (g.longer h c.1 i)))
    (λ e. h)

pub path_reads : (D : Type 0) (ts : Marks) → Meets (λ p us. Path ts p us) D (r.path ts)
unfolding r.path
path_reads D ts =
    meets_then (λ t us. Takes k.Identifier t ts us) (λ p us. Path ts p us) D (expect k.Identifier ts) _ (expect_takes k.Identifier D ts)
    (λ t us h. path_from_reads D (length us) t.text ts us (g.word h))

pub uid_of_reads : (D : Type 0) (p : List ℕ) (ts us : Marks) → Path ts p us → Meets (λ u vs. Entity ts u vs) D (r.uid_of p us)
unfolding r.uid_of
uid_of_reads D p ts us h =
    meets_then (λ c vs. Takes k.DoubleColon c us vs) (λ u vs. Entity ts u vs) D (expect k.DoubleColon us) _ (expect_takes k.DoubleColon D us)
    (λ c vs i. meets_then (λ s ws. Text vs s ws) (λ u ws. Entity ts u ws) D (r.text vs) _ (text_reads D vs) (λ s ws j. g.entity h i j))

pub entity_reads : (D : Type 0) (ts : Marks) → Meets (λ u us. Entity ts u us) D (r.entity ts)
unfolding r.entity
entity_reads D ts = meets_then (λ p us. Path ts p us) (λ u us. Entity ts u us) D (r.path ts) _ (path_reads D ts) (λ p us h. uid_of_reads D p ts us h)

-- A uid that is read is one.
pub entity_is : (ts us : Marks) (u : WrittenUid) → r.entity ts ≡ Ok (u, us) → Entity ts u us
entity_is ts us u e = subst (Meets (λ x vs. Entity ts x vs) (Unit {0})) e (entity_reads (Unit {0}) ts)
