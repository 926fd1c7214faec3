-- What was read of the words of the command line.
use Rattle.std.specs.Prelude.{map}
use Rattle.std.specs.String.{string_bytes}
use Rattle.cedar_schema_cli_words.specs.Words.{Reading, asks, no_command, no_such_command, no_such_option, no_names}
use Rattle.cedar_schema_cli_words.specs.declared.fault.WordFault.{WordFault}
use Rattle.cedar_schema_cli_words.specs.declared.fault.WordFault.TheVariants.{NoCommand, NoSuchCommand, NoSuchOption}
use Rattle.cedar_schema_cli_words.specs.declared.fault.WordFault.TheVariants.{NoNames}
use Rattle.cedar_schema_cli_words.specs.declared.reading.Words.{Words}
use Rattle.cedar_schema_cli_words.specs.declared.reading.Words.TheVariants.{Right, Wrong}

-- the fault, as a reading
abbrev pub reading_of_fault : WordFault → Reading
reading_of_fault NoCommand = no_command
reading_of_fault (NoSuchCommand word) = no_such_command (string_bytes word)
reading_of_fault (NoSuchOption word) = no_such_option (string_bytes word)
reading_of_fault NoNames = no_names

-- what was read
abbrev pub reading_of : Words → Reading
reading_of (Right asked) = asks asked.command asked.options (map string_bytes asked.names.items)
reading_of (Wrong fault) = reading_of_fault fault
