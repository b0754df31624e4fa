use Rattle.std.proofs.Common.{◌≡◌, sym, ◌∙◌, true, false}
use Rattle.std.proofs.lemmas.Result.{err_from_is_err_and}
use Rattle.cedar_parser_tokens.proofs.UidLemmas.{IsText}
use Rattle.cedar_parser.specs.Private.ReadAgain.{is_read_again}
use Rattle.cedar_parser.proofs.OneReading.{normal_one}
use Rattle.cedar_parser.proofs.ParseLemmas.{IsReadAgain, read_again, parsed, parsed_only, parsed_fault, parsed_again, parsed_again_only, parsed_again_fault, unread_answers}
use Rattle.cedar_parser.proofs.parser.parse_in.Goals as goal

pub returns-in_err-written-clause-only : goal.returns-in_err-written-clause-only
returns-in_err-written-clause-only c =
    let p = err_from_is_err_and c.from_residual.result c.from_residual.ensures.1 in
    rw (p.1, p.2)
    (λ set h. unread_answers c.args.source.now c.in_err-written.field-0.0 c.in_err-written.ensures.only c.args.language h.tokens h.are_tokens)

pub returns-then-not-is_read_again : goal.returns-then-not-is_read_again
returns-then-not-is_read_again c =
    let l = c.args.language in
    let source = c.args.source.now in
    let ms = c.in_ok-written.written in
    let r = c.parse_policies-parsed.result in
    let text : IsText source ms = record { are = c.in_ok-written.ensures.found; only = c.in_ok-written.ensures.only } in
    let begins : c.cursor.result ≡ ms = c.cursor.ensures in
    let last : is_read_again l r ≡ false = sym c.is_read_again.ensures ∙ c.if-not-is_read_again.true in
    record {
      found = parsed l source ms r text (rw (← begins) c.parse_policies-parsed.ensures.found);
      only = parsed_only l source ms r text last (rw (← begins) c.parse_policies-parsed.ensures.found) (rw (← begins) c.parse_policies-parsed.ensures.only);
      fault = parsed_fault l source ms r text last (rw (← begins) c.parse_policies-parsed.ensures.fault);
    }

pub returns : goal.returns
returns c =
    let l = c.args.language in
    let source = c.args.source.now in
    let ms = c.in_ok-written.written in
    let ns = c.in_ok-normal.normal in
    let r = c.parse_policies.result in
    let text : IsText source ms = record { are = c.in_ok-written.ensures.found; only = c.in_ok-written.ensures.only } in
    let begins : c.cursor.result ≡ ms = c.cursor.ensures in
    let begins_again : c.cursor-2.result ≡ ns = c.cursor-2.ensures in
    let again : is_read_again l c.parse_policies-parsed.result ≡ true = sym c.is_read_again.ensures ∙ c.if-not-is_read_again.false in
    let a : IsReadAgain l source ms ns = read_again l source ms ns c.parse_policies-parsed.result text again (rw (← begins) c.parse_policies-parsed.ensures.only) c.in_ok-normal.ensures (normal_one c.one_list.ensures c.one_spelling.ensures source) in
    record {
      found = parsed_again l source ms ns r a (rw (← begins_again) c.parse_policies.ensures.found);
      only = parsed_again_only l source ms ns r a (rw (← begins_again) c.parse_policies.ensures.only);
      fault = parsed_again_fault l source ms ns r a (rw (← begins_again) c.parse_policies.ensures.fault);
    }
