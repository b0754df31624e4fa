-- The mode of the lexer after some bytes.
use Rattle.std.specs.Prelude.{ℕ, List, [], ◌∷◌, Bool, true, false}
use Rattle.json.specs.Lex as json
use Rattle.json.specs.Lex.{Class, quote, backslash, operator, space, other, class, between, in_word, in_string, in_escape}
use Rattle.base_json.specs.declared.object_end.Mode.{Mode}
use Rattle.base_json.specs.declared.object_end.Mode.TheVariants.{Between, InWord, InString, InEscape}

-- the mode in which the lexer goes on after a byte of the class
abbrev pub mode_next : json.Mode → Class → json.Mode
mode_next between quote = in_string
mode_next between backslash = in_word
mode_next between operator = between
mode_next between space = between
mode_next between other = in_word
mode_next in_word quote = in_word
mode_next in_word backslash = in_word
mode_next in_word operator = between
mode_next in_word space = between
mode_next in_word other = in_word
mode_next in_string quote = between
mode_next in_string backslash = in_escape
mode_next in_string operator = in_string
mode_next in_string space = in_string
mode_next in_string other = in_string
mode_next in_escape c = in_string

-- the mode after all the bytes
unfoldable pub mode_behind : json.Mode → List ℕ → json.Mode
mode_behind m [] = m
mode_behind m (x ∷ xs) = mode_behind (mode_next m (class x)) xs

abbrev pub is_between : json.Mode → Bool
is_between between = true
is_between in_word = false
is_between in_string = false
is_between in_escape = false

abbrev pub mode_of : Mode → json.Mode
mode_of Between = between
mode_of InWord = in_word
mode_of InString = in_string
mode_of InEscape = in_escape
