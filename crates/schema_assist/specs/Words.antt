-- Which words say a place.
use Rattle.std.specs.Prelude.{◌≡◌, ◌≤◌, ℕ, List, length}
use Rattle.std.specs.Str.Parse.{IsNumeral, digits_value}

-- the word is the place in decimal, in one to eight digits; those in front may be zeros
pub record IsPlaceWord (word : List ℕ) (place : ℕ) : Type 0 where
  pub digits : IsNumeral 10 word
  pub few : length word ≤ 8
  pub value : place ≡ digits_value 10 word
