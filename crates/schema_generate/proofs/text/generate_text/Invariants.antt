use Rattle.std.proofs.Common.{◌≡◌, flat_map}
use Rattle.std.specs.List.{range_with_len}
use Rattle.schema_generate.specs.Generated.{lines_of}
use Rattle.schema_generate.proofs.text.generate_text.Given as goal

-- the lines of the numbers so far
abbrev pub invariant-loop-i : goal.invariant-loop-i
invariant-loop-i l = l.text ≡ flat_map (lines_of l.n) (range_with_len 0 l.i)
