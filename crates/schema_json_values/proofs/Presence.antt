-- Lists and objects that are written where they have something.
use Rattle.std.proofs.Common.{◌≡◌, ℕ, ◌<◌, List, [], ◌∷◌, length, map, arith, refl}
use Rattle.serde_json.specs.Data.{Data, Members, put}
use Rattle.schema_json_values.specs.TypeValues.{object_of}
use Rattle.schema_json_values.specs.FragmentValues.{list_of, with_list, with_object}

pub list_put : {X : Type 0} (f : X → Data) (key : List ℕ) (xs : List X) (ms : Members) → 0 < length xs
    → with_list key (map f xs) ms ≡ put key (list_of (map f xs)) ms
list_put f key [] ms h = absurd (omega arith)
list_put f key (x ∷ xs) ms h = refl

pub object_put : {X : Type 0} (f : X → List ℕ × Data) (key : List ℕ) (xs : List X) (ms : Members) → 0 < length xs
    → with_object key (map f xs) ms ≡ put key (object_of (map f xs)) ms
object_put f key [] ms h = absurd (omega arith)
object_put f key (x ∷ xs) ms h = refl
