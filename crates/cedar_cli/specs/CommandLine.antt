-- The command line of the program, in `clap`'s own terms.
use Rattle.std.specs.Prelude.{Bool, false, true, codes, Some}
use Rattle.std.specs.List.{slice_get}
use Rattle.clap.specs.Words.{App, Rule, Text, new_app, new_rule, with_rule, with_subcommand}
use Rattle.clap.specs.Simple.{on_top}
use Rattle.clap.specs.declared.builder.action.ArgAction.TheVariants.{SetTrue}

-- The option `--name VALUE`, which takes one value, and has to be there where it is required (clap, `Arg::long`).
abbrev pub option_rule : Text → Bool → Rule
option_rule name required = record (new_rule name) { long = Some name; value_names = 1; required = required }

-- The option `-L FILE` or `--name FILE`, where `L` is a letter (clap, `Arg::short`).
abbrev pub file_rule : (letter name : Text) → Bool → Rule
file_rule letter name required = record (option_rule name required) { short = slice_get letter 0 }

-- The flag `--name`, which takes no value (clap, `ArgAction::SetTrue`).
abbrev pub flag_rule : Text → Rule
flag_rule name = record (new_rule name) { long = Some name; action = Some SetTrue }

-- A word without an option, which has to be there (clap, positional arguments).
abbrev pub word_rule : Text → Rule
word_rule name = record (new_rule name) { value_names = 1; required = true }

-- A subcommand with the options `[--quiet] [--diagnostics FORMAT]` after its own (own).
abbrev pub explained : App → App
explained a = with_rule (with_rule a (flag_rule (codes "quiet"))) (option_rule (codes "diagnostics") false)

-- The option `--language N`, which a subcommand that reads policies has (own).
abbrev pub language_rule : Rule
language_rule = option_rule (codes "language") false

-- A subcommand `NAME -s|--schema FILE -p|--policies FILE [-l|--links FILE] [--language N]` (own).
abbrev pub over_policies : Text → App
over_policies name =
    with_rule
    (with_rule
    (with_rule (with_rule (new_app name) (file_rule (codes "s") (codes "schema") true)) (file_rule (codes "p") (codes "policies") true))
    (file_rule (codes "l") (codes "links") false))
    language_rule

-- A subcommand over policies, with `-e|--entities FILE`, which has to be there where it is required, and `[--any-decimal]` (own).
abbrev pub over_entities : Text → Bool → App
over_entities name required = with_rule (with_rule (over_policies name) (file_rule (codes "e") (codes "entities") required)) (flag_rule (codes "any-decimal"))

-- The subcommand `validate`, over policies, with `[--any-decimal] [--deny-warnings] [--report FORM]` (own).
abbrev pub validate_app : App
validate_app =
    explained (with_rule (with_rule (with_rule (over_policies (codes "validate")) (flag_rule (codes "any-decimal"))) (flag_rule (codes "deny-warnings")))
    (option_rule (codes "report") false))

-- The subcommand `authorize`, over entities if `--entities` is used, with `[--entities-in-lines] [--explain-lines]` (own).
abbrev pub authorize_app : App
authorize_app =
    explained (with_rule (with_rule (over_entities (codes "authorize") false) (flag_rule (codes "entities-in-lines"))) (flag_rule (codes "explain-lines")))

-- The subcommand `why`, over entities, with `[--all] [--json]` (own).
abbrev pub why_app : App
why_app = explained (with_rule (with_rule (over_entities (codes "why") true) (flag_rule (codes "all"))) (flag_rule (codes "json")))

-- A subcommand with the options `[--principal UID] [--action UID] [--resource UID] [-c|--context FILE] [--request FILE]` after its own.
-- Which of them have to be there is the program's to say (own).
abbrev pub over_request : App → App
over_request a =
    with_rule
    (with_rule
    (with_rule (with_rule (with_rule a (option_rule (codes "principal") false)) (option_rule (codes "action") false)) (option_rule (codes "resource") false))
    (file_rule (codes "c") (codes "context") false))
    (option_rule (codes "request") false)

-- The subcommand `ask`, over entities and a request (own).
abbrev pub ask_app : App
ask_app = explained (over_request (over_entities (codes "ask") true))

-- The subcommand `check-parse -p|--policies FILE [--language N]` (own).
abbrev pub check_parse_app : App
check_parse_app =
    explained (with_rule (with_rule (new_app (codes "check-parse")) (file_rule (codes "p") (codes "policies") true)) language_rule)

-- The subcommand `explain NUMBER` (own).
abbrev pub explain_app : App
explain_app = with_rule (new_app (codes "explain")) (word_rule (codes "number"))

-- The program's own settings: one of its subcommands has to be there, and `--version` prints its version (own).
abbrev pub top : App
top = on_top (λ s. record s { has_version = true; subcommand_required = true }) (new_app (codes "cedar"))

-- The program: `cedar` and its six subcommands (own).
abbrev pub program : App
program =
    with_subcommand
    (with_subcommand
    (with_subcommand (with_subcommand (with_subcommand (with_subcommand top validate_app.top) authorize_app.top) why_app.top) ask_app.top)
    check_parse_app.top)
    explain_app.top
