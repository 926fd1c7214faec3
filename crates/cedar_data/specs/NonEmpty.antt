-- The items of a list that isn't empty, as they are gone over.
use Rattle.std.specs.Prelude.{List, [], ◌∷◌, ◌++◌, Option, Some, None}
use Rattle.std.specs.Borrow.{Bor}
use Rattle.std.specs.Option.{option_to_list}
use Rattle.std.specs.Vec.Iter.{into_iter_items}
use Rattle.cedar_data.specs.declared.non_empty.NonEmptyIter.{NonEmptyIter}
use Rattle.cedar_data.specs.declared.non_empty.NonEmptyIntoIter.{NonEmptyIntoIter}

-- the item that stands apart, where it wasn't given yet
abbrev pub apart : {T : Type 0} → Option (Bor T) → List T
apart None = []
apart (Some x) = x.now ∷ []

-- the items still to come
abbrev pub items_left : {T : Type 0} → NonEmptyIter T → List T
items_left it = apart it.head ++ it.tail.now

-- the items still to be handed over
abbrev pub items_to_come : {T : Type 0} → NonEmptyIntoIter T → List T
items_to_come it = option_to_list it.head ++ into_iter_items it.tail
