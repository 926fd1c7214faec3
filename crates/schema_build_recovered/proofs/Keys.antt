-- The keys of namespaces rise as the namespaces do.
use Rattle.std.proofs.Common.{◌≡◌, ℕ, List, [], ◌∷◌, Option, None, Some, refl, ◌∙◌}
use Rattle.std.specs.declared.cmp.Ordering.{Ordering}
use Rattle.std.specs.declared.cmp.Ordering.TheVariants.{Less}
use Rattle.std.specs.Cmp.Lexicographic.{slice_cmp}
use Rattle.std.specs.List.{AllByRecursion, AllZip}
use Rattle.std.specs.List.Sorted.{IsStrictlySortedBy}
use Rattle.std.specs.Map.{keys_of}
use Rattle.std.specs.Option.{option_cmp}
use Rattle.cedar_data.specs.Maps.{map_of}
use Rattle.cedar_data.specs.Text.{text_cmp}
use Rattle.cedar_data.proofs.Rising.{map_of_rising}
use Rattle.cedar_identifiers.specs.declared.internal_name.InternalName.{InternalName}
use Rattle.cedar_identifiers.specs.declared.name.Name.{Name}
use Rattle.cedar_identifiers.specs.Names.{components_of}
use Rattle.cedar_identifiers.proofs.Ordered.{ids_cmp}
use Rattle.cedar_names.specs.Orders.{id_text_order, ids_of, names_in_order, places_total}
use Rattle.schema_build_recovered.specs.Recovered.{IsKey}

abbrev C : List (List ℕ) → List (List ℕ) → Ordering
C = slice_cmp text_cmp

abbrev pub key_order : Option Name → Option Name → Ordering
key_order = option_cmp (λ (x y : Name). names_in_order x.name y.name)

go : (a b : InternalName) (n m : List (List ℕ)) → components_of a ≡ n → components_of b ≡ m → C n m ≡ Less
    → names_in_order a b ≡ Less
go a b n m h k e = ids_cmp id_text_order (λ x y. refl) (ids_of a) (ids_of b) ∙ ((λ i. C (h i) (k i)) ∙ e)

keys_go : (n m : List (List ℕ)) (a b : Option Name) → IsKey n a → IsKey m b → C n m ≡ Less → key_order a b ≡ Less
keys_go [] [] a b h k e = absurd (cc)
keys_go [] (y ∷ ys) None None h k e = absurd k
keys_go [] (y ∷ ys) None (Some b) h k e = refl
keys_go [] (y ∷ ys) (Some a) b h k e = absurd h
keys_go (x ∷ xs) [] a b h k e = absurd (cc)
keys_go (x ∷ xs) (y ∷ ys) None b h k e = absurd h
keys_go (x ∷ xs) (y ∷ ys) (Some a) None h k e = absurd k
keys_go (x ∷ xs) (y ∷ ys) (Some a) (Some b) h k e = go a.name b.name (x ∷ xs) (y ∷ ys) h.0 k.0 e

module _ {V : Type 0} (R : List (List ℕ) → Option Name × V → Type 0)
    (key : (n : List (List ℕ)) (x : Option Name × V) → R n x → IsKey n x.0) where
  below : (n : List (List ℕ)) (k : Option Name) → IsKey n k → (ns : List (List (List ℕ)))
      (rows : List (Option Name × V)) → AllZip R ns rows → AllByRecursion (λ m. C n m ≡ Less) ns
      → AllByRecursion (λ j. key_order k j ≡ Less) (keys_of rows)
  below n k is [] [] z a = tt
  below n k is [] (x ∷ rows) z a = absurd z
  below n k is (m ∷ ns) [] z a = absurd z
  below n k is (m ∷ ns) (x ∷ rows) z a = (keys_go n m k x.0 is (key m x z.0) a.0, below n k is ns rows z.1 a.1)

  rises : (ns : List (List (List ℕ))) (rows : List (Option Name × V)) → AllZip R ns rows → IsStrictlySortedBy C ns
      → IsStrictlySortedBy key_order (keys_of rows)
  unfolding IsStrictlySortedBy
  rises [] [] z r = tt
  rises [] (x ∷ rows) z r = absurd z
  rises (n ∷ ns) [] z r = absurd z
  rises (n ∷ ns) (x ∷ rows) z r = (below n x.0 (key n x z.0) ns rows z.1 r.0, rises ns rows z.1 r.1)

  -- rows of namespaces that rise are the map of themselves
  pub rows_are : (ns : List (List (List ℕ))) (rows : List (Option Name × V)) → AllZip R ns rows
      → IsStrictlySortedBy C ns → map_of key_order rows ≡ rows
  rows_are ns rows z r = map_of_rising key_order places_total rows (rises ns rows z r)
