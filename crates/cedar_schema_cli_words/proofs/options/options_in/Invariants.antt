use Rattle.std.proofs.Common.{◌≡◌, map, take, string_bytes}
use Rattle.std.specs.List.{fold}
use Rattle.cedar_schema_cli_words.specs.Words.{with_word, default_options}
use Rattle.cedar_schema_cli_words.proofs.options.options_in.Given as goal

abbrev pub invariant-loop-word : goal.invariant-loop-word
invariant-loop-word l = l.options ≡ fold with_word default_options (map string_bytes (take l.word-index l.words))
