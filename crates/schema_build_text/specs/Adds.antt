-- How a text grows while it is printed.
use Rattle.std.specs.Prelude.{◌≡◌, ℕ, List, ◌++◌, String, string_bytes}

-- behind the bytes of the old text stand these, and nothing else
pub record Adds {Z : Type 0} (old new : String Z) (bytes : List ℕ) : Type 0 where
  pub grown : string_bytes new ≡ string_bytes old ++ bytes
