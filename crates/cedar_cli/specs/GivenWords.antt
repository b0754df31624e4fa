-- What the words of a command line say, according to `clap`'s definition of the matches.
use Rattle.std.specs.Prelude.{◌≡◌, Bool, true, false, List, codes, Option, Some, None, option_map, if◌then◌else◌}
use Rattle.std.specs.Str.{bytes_eq}
use Rattle.clap.specs.Words.{Row, Text, first_of, one_of, subcommand_of}
use Rattle.cedar_ext.specs.declared.language.Language.{Language}
use Rattle.cedar_ext.specs.declared.language.Language.TheVariants.{Profile, Cedar4}
use Rattle.cedar_cli.specs.CommandLine.{program}
use Rattle.cedar_cli.specs.declared.options.AskedRequest.{AskedRequest}
use Rattle.cedar_files.specs.declared.file_names.FileNames.{FileNames}
use Rattle.cedar_cli.specs.declared.options.Subcommand.{Subcommand}
use Rattle.cedar_cli.specs.declared.options.Subcommand.TheVariants.{Validate, Authorize, Why, Ask, CheckParse, Explain}
use Rattle.cedar_cli.specs.declared.options.Words.{Words}

-- The word that names a subcommand (own).
abbrev pub subcommand_name : Subcommand → Text
subcommand_name Validate = codes "validate"
subcommand_name Authorize = codes "authorize"
subcommand_name Why = codes "why"
subcommand_name Ask = codes "ask"
subcommand_name CheckParse = codes "check-parse"
subcommand_name Explain = codes "explain"

-- A flag of this value is on where the value is "true", and off where it is "false" or there is none (clap,
-- `ArgMatches::get_flag`).
pub record IsFlag (value : Option Text) (on : Bool) : Type 0 where
  pub none : value ≡ None → on ≡ false
  pub used : value ≡ Some (codes "true") → on ≡ true
  pub unused : value ≡ Some (codes "false") → on ≡ false

-- The language that this value of the option `--language` asks for: "4" the language of Cedar 4, and any other value, such as "3",
-- or none the profile (own).
abbrev pub language_of : Option Text → Language
language_of None = Profile
language_of (Some value) = if bytes_eq value (codes "4") then Cedar4 else Profile

-- The names of files are these: each at its option's name, and none where the option isn't used (clap, `ArgMatches::get_one`).
pub record AreNamed (rows : List Row) (files : FileNames) : Type 0 where
  pub schema : first_of (codes "schema") rows ≡ option_map (λ s. s.now) files.schema
  pub policies : first_of (codes "policies") rows ≡ option_map (λ s. s.now) files.policies
  pub links : first_of (codes "links") rows ≡ option_map (λ s. s.now) files.links
  pub entities : first_of (codes "entities") rows ≡ option_map (λ s. s.now) files.entities

-- The texts of the options of a request are these: each at its option's name, and none where the option isn't used (clap,
-- `ArgMatches::get_one`).
pub record AreAsked (rows : List Row) (r : AskedRequest) : Type 0 where
  pub principal : first_of (codes "principal") rows ≡ option_map (λ s. s.now) r.principal
  pub action : first_of (codes "action") rows ≡ option_map (λ s. s.now) r.action
  pub resource : first_of (codes "resource") rows ≡ option_map (λ s. s.now) r.resource
  pub context : first_of (codes "context") rows ≡ option_map (λ s. s.now) r.context
  pub request : first_of (codes "request") rows ≡ option_map (λ s. s.now) r.request

-- The words name this subcommand, and these files and texts in its options: its rows of matches hold each at its option's name,
-- and none where the option isn't used; the language of the settings is the one that its option asks for; and its flags are these
-- (clap, `ArgMatches::subcommand`, `ArgMatches::get_one` and `ArgMatches::get_flag`).
pub record AreGiven (words : List Text) (w : Words) : Type 0 where
  pub rows : List Row
  pub subcommand : subcommand_of program words ≡ Some (subcommand_name w.subcommand, rows)
  pub files : AreNamed rows w.files
  pub request : AreAsked rows w.request
  pub number : first_of (codes "number") rows ≡ option_map (λ s. s.now) w.number
  pub diagnostics : first_of (codes "diagnostics") rows ≡ option_map (λ s. s.now) w.diagnostics
  pub report : first_of (codes "report") rows ≡ option_map (λ s. s.now) w.report
  pub language : first_of (codes "language") rows ≡ option_map (λ s. s.now) w.language
  pub settings_language : w.settings.language ≡ language_of (first_of (codes "language") rows)
  pub any_decimal : IsFlag (one_of (codes "any-decimal") rows) w.settings.any_decimal
  pub quiet : IsFlag (one_of (codes "quiet") rows) w.quiet
  pub deny_warnings : IsFlag (one_of (codes "deny-warnings") rows) w.deny_warnings
  pub explain_lines : IsFlag (one_of (codes "explain-lines") rows) w.explain_lines
  pub entities_in_lines : IsFlag (one_of (codes "entities-in-lines") rows) w.entities_in_lines
  pub all : IsFlag (one_of (codes "all") rows) w.all
  pub json : IsFlag (one_of (codes "json") rows) w.json
