-- How deep sets and records are nested.
use Rattle.std.specs.Prelude.{ℕ, zero, suc, Bool, true, false, ◌||◌}
use Rattle.schema_build_types.specs.Content.{TypeContent, AttributeContents, none, first}
use Rattle.schema_build_types.specs.Content as said

abbrev mutual
  -- sets and records are nested in the type more than so deep
  pub is_deeper : ℕ → TypeContent → Bool
  is_deeper zero (said.Set element) = true
  is_deeper (suc most) (said.Set element) = is_deeper most element
  is_deeper zero (said.Rec attributes more) = true
  is_deeper (suc most) (said.Rec attributes more) = some_are_deeper most attributes
  is_deeper most (said.Entity names) = false
  is_deeper most said.Never = false
  is_deeper most said.AnyBool = false
  is_deeper most said.True = false
  is_deeper most said.False = false
  is_deeper most said.Long = false
  is_deeper most said.String = false
  is_deeper most said.SetOfUnknown = false
  is_deeper most said.AnyEntity = false
  is_deeper most (said.Ext name) = false

  -- so they are in the type of one of the attributes
  pub some_are_deeper : ℕ → AttributeContents → Bool
  some_are_deeper most none = false
  some_are_deeper most (first name required ty more) = is_deeper most ty || some_are_deeper most more
