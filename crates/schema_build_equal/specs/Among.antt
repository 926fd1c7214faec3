-- Lists as sets, by an equality of their items.
use Rattle.std.specs.Prelude.{Bool, ◌&&◌, List}
use Rattle.std.specs.List.{list_any, list_all}

-- each of the items is equal to one of the others
abbrev pub are_among : {T : Type 0} → (T → T → Bool) → List T → List T → Bool
are_among eq items others = list_all (λ x. list_any (λ y. eq y x) others) items

-- each of either is equal to one of the other
abbrev pub are_one_set : {T : Type 0} → (T → T → Bool) → List T → List T → Bool
are_one_set eq a b = are_among eq a b && are_among eq b a
