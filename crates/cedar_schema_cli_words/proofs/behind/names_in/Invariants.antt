use Rattle.std.proofs.Common.{◌≡◌, map, filter, take, string_bytes}
use Rattle.cedar_schema_cli_words.specs.Words.{is_name}
use Rattle.cedar_schema_cli_words.proofs.behind.names_in.Given as goal

abbrev pub invariant-loop-word : goal.invariant-loop-word
invariant-loop-word l =
    map string_bytes l.names.items ≡ filter is_name (map string_bytes (take l.word-index l.words))
