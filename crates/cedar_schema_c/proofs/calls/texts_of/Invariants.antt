use Rattle.std.proofs.Common.{◌≡◌, map, take}
use Rattle.std.specs.List.{All}
use Rattle.std.specs.Str.{IsUtf8}
use Rattle.std.specs.String.{string_bytes}
use Rattle.cedar_schema_c.specs.Answers.{words_of}
use Rattle.cedar_schema_c.proofs.calls.texts_of.Given as goal

abbrev pub invariant-loop-word : goal.invariant-loop-word
invariant-loop-word l = (map string_bytes l.texts.items ≡ words_of (take l.word-index l.words))
    × All IsUtf8 (words_of (take l.word-index l.words))
