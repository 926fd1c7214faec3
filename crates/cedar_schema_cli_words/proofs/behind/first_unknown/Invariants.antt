use Rattle.std.proofs.Common.{◌≡◌, map, filter, drop, string_bytes}
use Rattle.cedar_schema_cli_words.specs.Words.{is_unknown}
use Rattle.cedar_schema_cli_words.proofs.behind.first_unknown.Given as goal

abbrev pub invariant-loop-word : goal.invariant-loop-word
invariant-loop-word l = filter (is_unknown l.command) (map string_bytes l.words)
    ≡ filter (is_unknown l.command) (map string_bytes (drop l.word-index l.words))
