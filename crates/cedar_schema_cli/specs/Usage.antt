-- What the program says of wrong words, as characters.
use Rattle.std.specs.Prelude.{ℕ, List, [], ◌++◌, codes, string_bytes}
use Rattle.std.specs.Str.{chars, encode_utf8_all}
use Rattle.cedar_runs.specs.Reports.{Report}
use Rattle.cedar_runs.specs.declared.status.Status.TheVariants.{Usage}
use Rattle.schema_report.specs.Short.{shown}
use Rattle.cedar_schema_cli_words.specs.declared.fault.WordFault.{WordFault}
use Rattle.cedar_schema_cli_words.specs.declared.fault.WordFault.TheVariants.{NoCommand, NoSuchCommand, NoSuchOption}
use Rattle.cedar_schema_cli_words.specs.declared.fault.WordFault.TheVariants.{NoNames}

-- how the program is called
abbrev pub usage_line : List ℕ
usage_line = codes "usage: cedar-schema check|format [OPTION].. FILE.. (--help tells more)\n"

-- a word as a terminal shows it
abbrev pub word_shown : List ℕ → List ℕ
word_shown word = shown (chars word)

-- what is wrong
abbrev pub fault_line : WordFault → List ℕ
fault_line NoCommand = codes "error: no command is given\n"
fault_line (NoSuchCommand word) = codes "error: no such command: `" ++ (word_shown (string_bytes word) ++ codes "`\n")
fault_line (NoSuchOption word) = codes "error: no such option: `" ++ (word_shown (string_bytes word) ++ codes "`\n")
fault_line NoNames = codes "error: no file is named\n"

-- the report on words that are wrong
abbrev pub usage_report : WordFault → Report
usage_report fault = record {
  status = Usage;
  out = [];
  err = encode_utf8_all (fault_line fault ++ usage_line);
}
