-- Where nothing is captured.
use Rattle.std.proofs.Common.{◌≡◌, ℕ, false, Bool, List, [], ◌∷◌, ◌++◌, refl, ap, if◌then◌else◌}
use Rattle.std.specs.List.{flat_map, filter}
use Rattle.schema_build_types.specs.Content.{SchemaContent}
use Rattle.schema_build_text.specs.Captured.{has_action, captured_in, captured_items, item_holds}
use Rattle.schema_build_text.specs.Walk.{items_in, namespaces_of}

pub none_alone : (c : SchemaContent) (n : List (List ℕ)) → has_action c n ≡ false → captured_in c n ≡ []
none_alone c [] h = refl
none_alone c (n ∷ ns) h = ap (λ (b : Bool). if b then filter item_holds (items_in c (n ∷ ns)) else []) h

none_in : (c : SchemaContent) → ((n : List ℕ) (ns : List (List ℕ)) → has_action c (n ∷ ns) ≡ false)
    → (n : List (List ℕ))
    → captured_in c n ≡ []
none_in c f [] = refl
none_in c f (n ∷ ns) = none_alone c (n ∷ ns) (f n ns)

none_of : (c : SchemaContent) → ((n : List ℕ) (ns : List (List ℕ)) → has_action c (n ∷ ns) ≡ false)
    → (ns : List (List (List ℕ))) → flat_map (captured_in c) ns ≡ []
none_of c f [] = refl
none_of c f (n ∷ ns) = λ i. none_in c f n i ++ none_of c f ns i

pub uncaptured : (c : SchemaContent) → ((n : List ℕ) (ns : List (List ℕ)) → has_action c (n ∷ ns) ≡ false)
    → captured_items c ≡ []
uncaptured c f = none_of c f (namespaces_of c)
