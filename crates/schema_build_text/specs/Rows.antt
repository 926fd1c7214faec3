-- Lists that are printed in order, and texts in a row as the code adds them.
use Rattle.std.specs.Prelude.{List, [], ◌∷◌}
use Rattle.std.specs.BTreeSet.{insert_key}
use Rattle.std.specs.declared.cmp.Ordering.{Ordering}

-- the items, sorted, each once
abbrev pub sorted_once : {A : Type 0} → (A → A → Ordering) → List A → List A
sorted_once cmp [] = []
sorted_once cmp (x ∷ xs) = insert_key cmp (sorted_once cmp xs) x
