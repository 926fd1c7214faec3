-- A list of distinct texts into which a text is entered. Texts are their bytes.
use Rattle.std.specs.Prelude.{◌≡◌, ℕ, List, [], ◌∷◌, ◌++◌, length, slice_get, Some}
use Rattle.std.specs.List.{Contains}

-- the text stood at this place of the list, which stays; or it stood nowhere, and stands behind the others now
pub data IsEntered (text : List ℕ) (old : List (List ℕ)) (place : ℕ) : List (List ℕ) → Type 0 where
  stood : slice_get old place ≡ Some text → IsEntered text old place old
  added : (Contains old text → ⊥) → place ≡ length old → IsEntered text old place (old ++ text ∷ [])
