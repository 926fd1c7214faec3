-- The first byte of a text that must be escaped.
use Rattle.std.specs.Prelude.{◌≡◌, ℕ, ◌<◌, true, false, List, length, take, slice_index}
use Rattle.std.specs.List.{All}
use Rattle.json.specs.Run.{is_stop}
use Rattle.json.specs.Print.{escape_byte}

-- none of these bytes is escaped in a JSON string
abbrev pub NoneJsonEscaped : List ℕ → Type 0
NoneJsonEscaped bs = All (λ b. is_stop b ≡ false) bs

-- the byte at this place is the first that is escaped, and text is how it is written
pub record IsNextJsonEscape (rest : List ℕ) (at : ℕ) (text : List ℕ) : Type 0 where
  pub in_range : at < length rest
  pub plain : NoneJsonEscaped (take at rest)
  pub escaped : is_stop (slice_index rest at) ≡ true
  pub written : text ≡ escape_byte (slice_index rest at)
