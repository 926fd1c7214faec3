-- How a text grows as it is written.
use Rattle.std.specs.Prelude.{◌≡◌, ℕ, List, ◌++◌, String, string_bytes}

-- behind the bytes of the old text stand these, and nothing else
abbrev pub Adds : {Z : Type 0} → String Z → String Z → List ℕ → Type 0
Adds old new bytes = string_bytes new ≡ string_bytes old ++ bytes
