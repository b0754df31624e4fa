use Rattle.std.proofs.Common.{◌∙◌, ap, sym, map, Some, List}
use Rattle.std.proofs.lemmas.Result.{err_from_is_err_and}
use Rattle.clap.specs.Words.{App, Text, Row, takes, is_simple, subcommand_of, rows_of, found_of}
use Rattle.clap.proofs.WalkLemmas.{first_value-rows, one_text-rows}
use Rattle.cedar_cli.proofs.Pairs.{pair_of}
use Rattle.cedar_cli.specs.GivenWords.{language_of}
use Rattle.cedar_cli.proofs.command_line.words.Goals as goal

pub returns-in_err-matches-clause-err : goal.returns-in_err-matches-clause-err
returns-in_err-matches-clause-err c =
    let p = err_from_is_err_and c.from_residual-in_err-matches.result c.from_residual-in_err-matches.ensures.1 in
    rw p.1 (λ t. rw p.2 (c.in_err-matches.ensures.passes (ap (λ (a : App). takes a (map (λ s. s.now) c.args.words.now)) c.in_ok-command.ensures ∙ t)))

pub returns-clause-ok : goal.returns-clause-ok
returns-clause-ok c =
    let found = c.in-Some.found.now in
    let pair = pair_of _ _ _ _ _ c.in-Some.ensures.name c.in-Some.ensures.rows in
    let m = c.in_ok-matches.ensures.matches (ap is_simple c.in_ok-command.ensures) in
    let given = map (λ s. s.now) c.args.words.now in
    record {
      rows = rows_of (found_of found);
      subcommand = ap (λ (a : App). subcommand_of a given) (sym c.in_ok-command.ensures) ∙ sym m.1 ∙ pair ∙ ap (λ (t : Text). let p : Text × List Row = (t, rows_of (found_of found)) in Some p) c.in-Some-subcommand_of.ensures;
      files = record {
        schema = sym (c.get_str.ensures ∙ first_value-rows (found_of found) _);
        policies = sym (c.get_str-2.ensures ∙ first_value-rows (found_of found) _);
        links = sym (c.get_str-3.ensures ∙ first_value-rows (found_of found) _);
        entities = sym (c.get_str-4.ensures ∙ first_value-rows (found_of found) _);
      };
      request = record {
        principal = sym (c.get_str-5.ensures ∙ first_value-rows (found_of found) _);
        action = sym (c.get_str-6.ensures ∙ first_value-rows (found_of found) _);
        resource = sym (c.get_str-7.ensures ∙ first_value-rows (found_of found) _);
        context = sym (c.get_str-8.ensures ∙ first_value-rows (found_of found) _);
        request = sym (c.get_str-9.ensures ∙ first_value-rows (found_of found) _);
      };
      number = sym (c.get_str-10.ensures ∙ first_value-rows (found_of found) _);
      diagnostics = sym (c.get_str-11.ensures ∙ first_value-rows (found_of found) _);
      report = sym (c.get_str-12.ensures ∙ first_value-rows (found_of found) _);
      language = sym (c.get_str-language.ensures ∙ first_value-rows (found_of found) _);
      settings_language = c.language_of.ensures ∙ ap language_of (c.get_str-language.ensures ∙ first_value-rows (found_of found) _);
      any_decimal = record {
        none = λ e. c.get_flag.ensures.none (one_text-rows (found_of found) _ ∙ e);
        used = λ e. c.get_flag.ensures.value (one_text-rows (found_of found) _ ∙ e);
        unused = λ e. c.get_flag.ensures.other (one_text-rows (found_of found) _ ∙ e);
      };
      quiet = record {
        none = λ e. c.get_flag-2.ensures.none (one_text-rows (found_of found) _ ∙ e);
        used = λ e. c.get_flag-2.ensures.value (one_text-rows (found_of found) _ ∙ e);
        unused = λ e. c.get_flag-2.ensures.other (one_text-rows (found_of found) _ ∙ e);
      };
      deny_warnings = record {
        none = λ e. c.get_flag-3.ensures.none (one_text-rows (found_of found) _ ∙ e);
        used = λ e. c.get_flag-3.ensures.value (one_text-rows (found_of found) _ ∙ e);
        unused = λ e. c.get_flag-3.ensures.other (one_text-rows (found_of found) _ ∙ e);
      };
      explain_lines = record {
        none = λ e. c.get_flag-4.ensures.none (one_text-rows (found_of found) _ ∙ e);
        used = λ e. c.get_flag-4.ensures.value (one_text-rows (found_of found) _ ∙ e);
        unused = λ e. c.get_flag-4.ensures.other (one_text-rows (found_of found) _ ∙ e);
      };
      entities_in_lines = record {
        none = λ e. c.get_flag-5.ensures.none (one_text-rows (found_of found) _ ∙ e);
        used = λ e. c.get_flag-5.ensures.value (one_text-rows (found_of found) _ ∙ e);
        unused = λ e. c.get_flag-5.ensures.other (one_text-rows (found_of found) _ ∙ e);
      };
      all = record {
        none = λ e. c.get_flag-6.ensures.none (one_text-rows (found_of found) _ ∙ e);
        used = λ e. c.get_flag-6.ensures.value (one_text-rows (found_of found) _ ∙ e);
        unused = λ e. c.get_flag-6.ensures.other (one_text-rows (found_of found) _ ∙ e);
      };
      json = record {
        none = λ e. c.get_flag-7.ensures.none (one_text-rows (found_of found) _ ∙ e);
        used = λ e. c.get_flag-7.ensures.value (one_text-rows (found_of found) _ ∙ e);
        unused = λ e. c.get_flag-7.ensures.other (one_text-rows (found_of found) _ ∙ e);
      };
    }
