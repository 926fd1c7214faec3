-- What the words of the command line ask for. Words are their bytes.
use Rattle.std.specs.Prelude.{ℕ, Bool, true, false, not, ◌==◌, ◌&&◌, ◌||◌, nat_lt, if◌then◌else◌, List, [], ◌∷◌, codes}
use Rattle.std.specs.Prelude.{Option, Some, None, filter, length, slice_index}
use Rattle.std.specs.List.{fold}
use Rattle.std.specs.Str.{bytes_eq}
use Rattle.cedar_schema_cli_words.specs.declared.asked.Command.{Command}
use Rattle.cedar_schema_cli_words.specs.declared.asked.Command.TheVariants.{Check, Format}
use Rattle.cedar_schema_cli_words.specs.declared.asked.Form.TheVariants.{Human, Short, Json, GitHub}
use Rattle.cedar_schema_cli_words.specs.declared.asked.Mode.TheVariants.{Print, Name, Write}
use Rattle.cedar_schema_cli_words.specs.declared.asked.Options.{Options}

-- what words ask for: a command with its options on these names; or what is wrong with them
pub data Reading : Type 0 where
  asks : Command → Options → List (List ℕ) → Reading
  no_command : Reading
  no_such_command : List ℕ → Reading
  no_such_option : List ℕ → Reading
  no_names : Reading

-- the command that is called this
abbrev pub command_named : List ℕ → Option Command
command_named word = if bytes_eq word (codes "check") then Some Check
    else if bytes_eq word (codes "format") then Some Format
    else None

-- ---- options and names

-- the word begins with a dash, and has more
abbrev pub is_dashed : List ℕ → Bool
is_dashed word = nat_lt 1 (length word) && (slice_index word 0 == 45)

-- the word names an input
abbrev pub is_name : List ℕ → Bool
is_name word = not (is_dashed word)

-- the options of commands that report
abbrev pub is_report_option : List ℕ → Bool
is_report_option word = bytes_eq word (codes "--format=human") || bytes_eq word (codes "--format=short")
    || bytes_eq word (codes "--format=json") || bytes_eq word (codes "--format=github")
    || bytes_eq word (codes "--all")

-- the options of the command that lays out
abbrev pub is_layout_option : List ℕ → Bool
is_layout_option word = bytes_eq word (codes "--check") || bytes_eq word (codes "--write")

-- the options of each command
abbrev pub is_option_of : Command → List ℕ → Bool
is_option_of Check word = is_report_option word
is_option_of Format word = is_report_option word || is_layout_option word

-- the word is to be an option, and the command has none such
abbrev pub is_unknown : Command → List ℕ → Bool
is_unknown command word = is_dashed word && not (is_option_of command word)

-- the options where no word sets any
abbrev pub default_options : Options
default_options = record { form = Human; all = false; mode = Print }

-- the options as one more word sets them
abbrev pub with_word : Options → List ℕ → Options
with_word options word = if bytes_eq word (codes "--format=human") then record options { form = Human }
    else if bytes_eq word (codes "--format=short") then record options { form = Short }
    else if bytes_eq word (codes "--format=json") then record options { form = Json }
    else if bytes_eq word (codes "--format=github") then record options { form = GitHub }
    else if bytes_eq word (codes "--all") then record options { all = true }
    else if bytes_eq word (codes "--check") then record options { mode = Name }
    else if bytes_eq word (codes "--write") then record options { mode = Write }
    else options

-- the options that the words set: of two that disagree the last one counts
abbrev pub options_in : List (List ℕ) → Options
options_in words = fold with_word default_options words

-- ---- all words

-- the command on these names, of which there is to be one at least
abbrev pub on_names : Command → Options → List (List ℕ) → Reading
on_names command options [] = no_names
on_names command options (name ∷ names) = asks command options (name ∷ names)

-- the reading, where no word is unknown
abbrev pub unless_unknown : List (List ℕ) → Reading → Reading
unless_unknown [] reading = reading
unless_unknown (word ∷ words) reading = no_such_option word

-- what the words behind a command ask for: the first unknown option is the fault; options and names stand in any order
abbrev pub asked_behind : Command → List (List ℕ) → Reading
asked_behind command words = unless_unknown (filter (is_unknown command) words)
    (on_names command (options_in words) (filter is_name words))

-- what a first word, which may name a command, and those behind it ask for
abbrev pub asked_with : Option Command → List ℕ → List (List ℕ) → Reading
asked_with None word words = no_such_command word
asked_with (Some command) word words = asked_behind command words

-- what the words ask for
abbrev pub asked_in : List (List ℕ) → Reading
asked_in [] = no_command
asked_in (word ∷ words) = asked_with (command_named word) word words
