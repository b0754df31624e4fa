use Rattle.std.proofs.Common.{◌≡◌, sym, ap, subst, ◌∙◌, [], ◌<◌, length, Option, Ok, arith}
use Rattle.std.specs.Prelude.{IfSome}
use Rattle.std.proofs.lemmas.Result.{err_from_is_err_and}
use Rattle.cedar_value.specs.declared.uid.Uid.{Uid}
use Rattle.cedar_parser_tokens.specs.Marks.{Marks}
use Rattle.cedar_parser_tokens.specs.Names.{Entity}
use Rattle.cedar_parser_tokens.specs.Reading.{entity}
use Rattle.cedar_parser_tokens.specs.Contract.{Refuses}
use Rattle.cedar_parser_tokens.specs.UidText.{IsUidText}
use Rattle.cedar_parser_tokens.proofs.UidLemmas.{IsText, uid_found, uid_same, uid_refused, uid_fault, uid_longer, uid_star, unread_uid, unread_uid_fault}
use Rattle.cedar_parser_tokens.proofs.NamesSound.{entity_is}
use Rattle.cedar_parser_tokens.proofs.MarkLemmas.{none_left}
use Rattle.cedar_parser_tokens.proofs.uid.read_uid.Goals as goal

pub returns-clause-found : goal.returns-clause-found
returns-clause-found c =
    let ms = c.in_ok-spelled.spelled in
    let text : IsText c.args.source.now ms = record { are = c.in_ok-spelled.ensures.found; only = c.in_ok-spelled.ensures.only } in
    let begins : c.cursor-cursor.result ≡ ms = c.cursor-cursor.ensures in
    let reading = entity_is c.cursor-cursor.result c.parse_entity.new.tokens c.in_ok-written.written c.in_ok-written.ensures in
    let none = none_left c.parse_entity.new.tokens (omega (arith, c.left.ensures, c.if-left-gt0.false)) in
    let here : Entity ms c.in_ok-written.written [] = rw (← begins, ← none) reading in
    subst (IsUidText c.args.source.now) (sym c.in_ok-uid.ensures) (uid_found c.args.source.now ms c.in_ok-written.written text here (sym c.has_text.ensures ∙ c.if-not-has_text.false))

pub returns-clause-only : goal.returns-clause-only
returns-clause-only c = λ uid h.
    let ms = c.in_ok-spelled.spelled in
    let text : IsText c.args.source.now ms = record { are = c.in_ok-spelled.ensures.found; only = c.in_ok-spelled.ensures.only } in
    let begins : c.cursor-cursor.result ≡ ms = c.cursor-cursor.ensures in
    let read : entity ms ≡ Ok (c.in_ok-written.written, c.parse_entity.new.tokens) = ap entity (sym begins) ∙ c.in_ok-written.ensures in
    c.in_ok-uid.ensures ∙ (uid_same c.args.source.now ms c.parse_entity.new.tokens c.in_ok-written.written text read uid h).0

pub returns-then-not-has_text-clause-only : goal.returns-then-not-has_text-clause-only
returns-then-not-has_text-clause-only c = λ uid h.
    let ms = c.in_ok-spelled.spelled in
    let text : IsText c.args.source.now ms = record { are = c.in_ok-spelled.ensures.found; only = c.in_ok-spelled.ensures.only } in
    let begins : c.cursor-cursor.result ≡ ms = c.cursor-cursor.ensures in
    let read : entity ms ≡ Ok (c.in_ok-written.written, c.parse_entity.new.tokens) = ap entity (sym begins) ∙ c.in_ok-written.ensures in
    uid_star c.in_ok-written.written.id (sym c.has_text.ensures ∙ c.if-not-has_text.true) (uid_same c.args.source.now ms c.parse_entity.new.tokens c.in_ok-written.written text read uid h).1

pub returns-then-not-has_text-clause-fault : goal.returns-then-not-has_text-clause-fault
returns-then-not-has_text-clause-fault c =
    let ms = c.in_ok-spelled.spelled in
    let text : IsText c.args.source.now ms = record { are = c.in_ok-spelled.ensures.found; only = c.in_ok-spelled.ensures.only } in
    let begins : c.cursor-cursor.result ≡ ms = c.cursor-cursor.ensures in
    let reading = entity_is c.cursor-cursor.result c.parse_entity.new.tokens c.in_ok-written.written c.in_ok-written.ensures in
    let none = none_left c.parse_entity.new.tokens (omega (arith, c.left.ensures, c.if-left-gt0.false)) in
    let here : Entity ms c.in_ok-written.written [] = rw (← begins, ← none) reading in
    (ms, c.in_ok-written.written, text.are, here, uid_star c.in_ok-written.written.id (sym c.has_text.ensures ∙ c.if-not-has_text.true))

pub returns-then-left-gt0-clause-only : goal.returns-then-left-gt0-clause-only
returns-then-left-gt0-clause-only c = λ uid h.
    let ms = c.in_ok-spelled.spelled in
    let text : IsText c.args.source.now ms = record { are = c.in_ok-spelled.ensures.found; only = c.in_ok-spelled.ensures.only } in
    let begins : c.cursor-cursor.result ≡ ms = c.cursor-cursor.ensures in
    let read : entity ms ≡ Ok (c.in_ok-written.written, c.parse_entity.new.tokens) = ap entity (sym begins) ∙ c.in_ok-written.ensures in
    let more : 0 < length c.parse_entity.new.tokens = omega (arith, c.left.ensures, c.if-left-gt0.true) in
    uid_longer ms c.parse_entity.new.tokens c.in_ok-written.written more read h.written (subst (λ (ns : Marks). Entity ns h.written []) (sym (text.only h.tokens h.are_tokens)) h.reading)

pub returns-then-left-gt0-clause-fault : goal.returns-then-left-gt0-clause-fault
returns-then-left-gt0-clause-fault c =
    let ms = c.in_ok-spelled.spelled in
    let text : IsText c.args.source.now ms = record { are = c.in_ok-spelled.ensures.found; only = c.in_ok-spelled.ensures.only } in
    let begins : c.cursor-cursor.result ≡ ms = c.cursor-cursor.ensures in
    let read : entity ms ≡ Ok (c.in_ok-written.written, c.parse_entity.new.tokens) = ap entity (sym begins) ∙ c.in_ok-written.ensures in
    let more : 0 < length c.parse_entity.new.tokens = omega (arith, c.left.ensures, c.if-left-gt0.true) in
    (ms, text.are, uid_longer ms c.parse_entity.new.tokens c.in_ok-written.written more read)

pub returns-in_err-written-clause-only : goal.returns-in_err-written-clause-only
returns-in_err-written-clause-only c =
    let ms = c.in_ok-spelled.spelled in
    let text : IsText c.args.source.now ms = record { are = c.in_ok-spelled.ensures.found; only = c.in_ok-spelled.ensures.only } in
    let begins : c.cursor-cursor.result ≡ ms = c.cursor-cursor.ensures in
    let p = err_from_is_err_and c.from_residual-in_err-written.result c.from_residual-in_err-written.ensures.1 in
    rw (p.1, p.2)
    (uid_refused c.args.source.now ms text c.in_err-written.field-0.0 (subst (λ (xs : Marks). Refuses (entity xs) c.in_err-written.field-0.0) begins c.in_err-written.ensures))

pub returns-in_err-written-clause-fault : goal.returns-in_err-written-clause-fault
returns-in_err-written-clause-fault c =
    let ms = c.in_ok-spelled.spelled in
    let text : IsText c.args.source.now ms = record { are = c.in_ok-spelled.ensures.found; only = c.in_ok-spelled.ensures.only } in
    let begins : c.cursor-cursor.result ≡ ms = c.cursor-cursor.ensures in
    let p = err_from_is_err_and c.from_residual-in_err-written.result c.from_residual-in_err-written.ensures.1 in
    rw (p.1, p.2)
    (uid_fault c.args.source.now ms text c.in_err-written.field-0.0 (subst (λ (xs : Marks). Refuses (entity xs) c.in_err-written.field-0.0) begins c.in_err-written.ensures))

pub returns-in_err-spelled-clause-only : goal.returns-in_err-spelled-clause-only
returns-in_err-spelled-clause-only c =
    let p = err_from_is_err_and c.from_residual-in_err-spelled.result c.from_residual-in_err-spelled.ensures.1 in
    rw (p.1, p.2)
    (λ uid h. unread_uid uid h.tokens c.in_err-spelled.field-0.0 (c.in_err-spelled.ensures.only h.tokens h.are_tokens))

pub returns-in_err-spelled-clause-fault : goal.returns-in_err-spelled-clause-fault
returns-in_err-spelled-clause-fault c =
    let p = err_from_is_err_and c.from_residual-in_err-spelled.result c.from_residual-in_err-spelled.ensures.1 in
    rw (p.1, p.2)
    (unread_uid_fault c.args.source.now c.in_err-spelled.field-0.0 c.in_err-spelled.ensures.fault)

pub returns-in-Some-clause-only : goal.returns-in-Some-clause-only
returns-in-Some-clause-only c = λ uid h.
    c.one_uid.ensures c.args.source.now c.in-Some.plain uid (subst (λ (o : Option Uid). IfSome o (IsUidText c.args.source.now)) c.in-Some.is c.in_ok-plain.ensures) h
