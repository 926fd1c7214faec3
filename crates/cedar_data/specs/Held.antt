-- Where the characters of a text stand.
use Rattle.std.specs.Prelude.{ℕ, List}
use Rattle.std.specs.String.{string_bytes}
use Rattle.cedar_data.specs.declared.text.Held.{Held}
use Rattle.cedar_data.specs.declared.text.Held.TheVariants.{Short, Long}

-- the bytes of a text in UTF-8, be it held as a short one or as a long one
abbrev pub held_bytes : Held → List ℕ
held_bytes (Short text) = text.bytes
held_bytes (Long text) = string_bytes text
