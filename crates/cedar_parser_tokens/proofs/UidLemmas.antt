-- From a text to its tokens with their letters, and from these to the uid that is answered.
use Rattle.std.proofs.Common.{◌≡◌, refl, sym, ap, subst, ◌∙◌, ℕ, ◌<◌, length, List, Option, Some, None, false, Ok, Err, arith, []}
use Rattle.std.specs.Prelude.{IsSome, is_some}
use Rattle.cedar_value.specs.declared.uid.Uid.{Uid}
use Rattle.cedar_parser_tokens.specs.Content.{text_of}
use Rattle.cedar_parser_tokens.specs.Marks.{Marks, IsMarked}
use Rattle.cedar_parser_tokens.specs.Names.{Entity, to_uid}
use Rattle.cedar_parser_tokens.specs.Spelling.{HasMarks, HasMarksFault}
use Rattle.cedar_parser_tokens.specs.UidText.{IsUidText, HasUidFault, AnswersUid}
use Rattle.cedar_parser_tokens.specs.declared.content.WrittenUid.{WrittenUid}
use Rattle.cedar_parser_tokens.specs.declared.parse_fault.ParseFault.{ParseFault}
use Rattle.cedar_parser_tokens.specs.declared.parse_fault.ParseFault.TheVariants as f
use Rattle.cedar_parser_tokens.specs.Contract.{Refuses}
use Rattle.cedar_parser_tokens.specs.Reading as r
use Rattle.cedar_parser_tokens.specs.Reading.{Syntax, TooDeep, Outcome}
use Rattle.cedar_parser_tokens.proofs.Outcomes.{Meets}
use Rattle.cedar_parser_tokens.proofs.NamesSound.{entity_reads}
use Rattle.cedar_parser_tokens.proofs.NamesComplete.{entity_yes}

-- ---- what is read

abbrev okay : WrittenUid × Marks → Outcome WrittenUid
okay p = Ok p

pub no_deep_uid : (ts : Marks) → r.entity ts ≡ Err TooDeep → ⊥
no_deep_uid ts e = subst (Meets (λ u us. Entity ts u us) (⊥)) e (entity_reads (⊥) ts)

uid_pair : {u v : WrittenUid} {us vs : Marks} → okay (u, us) ≡ okay (v, vs) → (u ≡ v) × (us ≡ vs)
uid_pair {u = u} {v = v} {us = us} {vs = vs} e = let p : ◌≡◌ {A = WrittenUid × Marks} (u, us) (v, vs) = cc in (ap (λ q. q.0) p, ap (λ q. q.1) p)

pub uid_only : (ts : Marks) (found uid : WrittenUid) (us : Marks) → Entity ts uid [] → r.entity ts ≡ Ok (found, us) → found ≡ uid
uid_only ts found uid us h e = (uid_pair (sym e ∙ entity_yes h)).0

-- Where tokens are left the whole is not a uid.
pub uid_longer : (ts us : Marks) (found : WrittenUid) → 0 < length us → r.entity ts ≡ Ok (found, us) → (uid : WrittenUid) → Entity ts uid [] → ⊥
uid_longer ts us found some e uid h = let p = ap length (uid_pair (sym e ∙ entity_yes h)).1 in omega arith

-- no uid is there where its syntax is refused
pub uid_none : (ts : Marks) → r.entity ts ≡ Err Syntax → (uid : WrittenUid) → Entity ts uid [] → ⊥
uid_none ts e uid h = let g = entity_yes h in absurd cc

text_some : (t : List ℕ) (c : Option (List ℕ)) → Some t ≡ c → text_of c ≡ t
text_some t c e = sym (ap text_of e)

-- the uid whose id is text_of
pub to_uid_is : (u : Uid) (w : WrittenUid) → u.ty ≡ w.ty → Some u.id ≡ w.id → to_uid w ≡ u
to_uid_is u w t e = λ k. record { ty = sym t k; id = text_some u.id w.id e k }

pub some_text : (c : Option (List ℕ)) → IsSome c → Some (text_of c) ≡ c
some_text None h = absurd cc
some_text (Some s) h = refl

pub is_some_of : (t : List ℕ) (c : Option (List ℕ)) → Some t ≡ c → IsSome c
is_some_of t c e = subst (λ (o : Option (List ℕ)). IsSome o) e refl

-- ---- from the text to its tokens

-- The text has these tokens alone, with these letters alone.
pub record IsText (source : List ℕ) (ms : Marks) : Type 0 where
  pub are : IsMarked source ms
  pub only : (ns : Marks) → IsMarked source ns → ms ≡ ns

-- ---- uids

pub uid_found : (source : List ℕ) (ms : Marks) (w : WrittenUid) → IsText source ms → Entity ms w [] → IsSome w.id → IsUidText source (to_uid w)
uid_found source ms w t e some = record { tokens = ms; are_tokens = t.are; written = w; reading = e; ty = refl; id = some_text w.id some }

-- what the text's uid is, where its tokens are these
pub uid_same : (source : List ℕ) (ms us : Marks) (w : WrittenUid) → IsText source ms → r.entity ms ≡ Ok (w, us) → (uid : Uid) → IsUidText source uid → (to_uid w ≡ uid) × IsSome w.id
uid_same source ms us w t e uid h =
    let there = subst (λ (ns : Marks). Entity ns h.written []) (sym (t.only h.tokens h.are_tokens)) h.reading in
    let same = uid_only ms w h.written us there e in
    (ap to_uid same ∙ to_uid_is uid h.written h.ty h.id, subst (λ (x : WrittenUid). IsSome x.id) (sym same) (is_some_of uid.id h.written.id h.id))

pub uid_refused : (source : List ℕ) (ms : Marks) → IsText source ms → (x : ParseFault) → Refuses (r.entity ms) x → (uid : Uid) → IsUidText source uid → AnswersUid uid (Err x)
uid_refused source ms t f.OutOfMemory e uid h = tt
uid_refused source ms t (f.Syntax at) e uid h = uid_none ms e h.written (subst (λ (ns : Marks). Entity ns h.written []) (sym (t.only h.tokens h.are_tokens)) h.reading)
uid_refused source ms t (f.TooDeep at) e uid h = no_deep_uid ms e
uid_refused source ms t _ e uid h = e

pub uid_fault : (source : List ℕ) (ms : Marks) → IsText source ms → (x : ParseFault) → Refuses (r.entity ms) x → HasUidFault source x
uid_fault source ms t f.OutOfMemory e = tt
uid_fault source ms t (f.Syntax at) e = (ms, t.are, uid_none ms e)
uid_fault source ms t (f.TooDeep at) e = absurd (no_deep_uid ms e)
uid_fault source ms t _ e = absurd e

-- a string with `\*` denotes no text
pub uid_star : (c : Option (List ℕ)) → is_some c ≡ false → IsSome c → ⊥
uid_star c e h = absurd cc

-- ---- a text without tokens is not a uid's

pub unread_uid : (uid : Uid) (ms : Marks) (x : ParseFault) → HasMarks ms (Err x) → AnswersUid uid (Err x)
unread_uid uid ms f.OutOfMemory h = tt
unread_uid uid ms _ h = h

pub unread_uid_fault : (source : List ℕ) (x : ParseFault) → HasMarksFault source x → HasUidFault source x
unread_uid_fault source f.OutOfMemory h = tt
unread_uid_fault source (f.Text at) h = h
unread_uid_fault source _ h = absurd h
