-- Lists that hold the same items, by what an order sees of these.
use Rattle.std.specs.Prelude.{◌≡◌, Bool, true, List}
use Rattle.std.specs.List.{list_any}
use Rattle.std.specs.Ordering.{is_eq}
use Rattle.std.specs.declared.cmp.Ordering.{Ordering}

-- each test that does not tell equal items apart finds an item in both lists, or in neither
abbrev pub PassesAlike : {T : Type 0} → (T → T → Ordering) → List T → List T → Type 0
PassesAlike {T} cmp xs ys = (passes : T → Bool) → ((x y : T) → is_eq (cmp x y) ≡ true → passes x ≡ passes y)
    → list_any passes ys ≡ list_any passes xs
