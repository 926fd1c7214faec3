-- The namespaces of a fragment, by their names.
use Rattle.std.proofs.Common.{◌≡◌, ℕ, ◌<◌, List, [], ◌∷◌, length, arith, Option, Some, refl}
use Rattle.std.proofs.Common.{subst}
use Rattle.std.specs.Cmp.Lexicographic.{slice_cmp}
use Rattle.std.specs.Option.{option_cmp}
use Rattle.std.specs.declared.cmp.Ordering.{Ordering}
use Rattle.serde_json.specs.Data.{Data}
use Rattle.cedar_data.specs.Text.{text_cmp}
use Rattle.cedar_identifiers.specs.Names.{components_of}
use Rattle.cedar_identifiers.specs.declared.name.Name.{Name}
use Rattle.schema_json.specs.Orders.{namespace_cmp}
use Rattle.schema_json.proofs.Namespaces.{namespaces_order}
use Rattle.schema_json_shapes.specs.declared.name_role.NameRole.TheVariants as role
use Rattle.schema_json_shapes.specs.Walk.{AllMet, is_name, namespace_key_demands}
use Rattle.schema_json_shapes.specs.Said.{IsMap}
use Rattle.schema_json_shapes.specs.Shapes.{IsNamespaceKey, IsNamespaceName}

module _ (D : Name → Name → Ordering)
    (is : (a b : Name) → D a b ≡ slice_cmp text_cmp (components_of a.name) (components_of b.name)) where
  pub map_ordered : {X : Type 0} (Says : Data → X → Type 0) (d : Data) (map : List (Option Name × X))
      → IsMap (option_cmp D) IsNamespaceKey Says d map → IsMap namespace_cmp IsNamespaceKey Says d map
  map_ordered Says d map h =
      subst (λ order. IsMap order IsNamespaceKey Says d map) (λ i a b. namespaces_order D is a b i) h

pub key_says : (k : List ℕ) (n : Name) → 0 < length k → AllMet (is_name role.Namespace k ∷ []) → IsNamespaceName k n
    → AllMet (namespace_key_demands k) × IsNamespaceKey k (Some n)
key_says [] n h m s = absurd (omega arith)
key_says (c ∷ k) n h m s = (m, (n, refl, s))
