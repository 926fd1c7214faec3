-- A part is less deep than the whole.
use Rattle.std.proofs.Common.{◌≡◌, ℕ, zero, suc, ◌+◌, ◌<◌, ◌≤◌, List, [], ◌∷◌, length, get_or, ap, ◌∙◌}
use Rattle.std.proofs.Common.{arith, Option}
use Rattle.cedar_data.specs.declared.loc.Loc.{Loc}
use Rattle.schema_json.specs.Shapes.{attributes_of}
use Rattle.schema_json.specs.declared.types.Type.{«Type»}
use Rattle.schema_json.specs.declared.types.Type.TheVariants.{Variant}
use Rattle.schema_json.specs.declared.types.TypeVariant.{TypeVariant}
use Rattle.schema_json.specs.declared.types.TypeVariant.TheVariants.{Record, Set}
use Rattle.schema_json.specs.declared.types.RecordType.{RecordType, out-RecordType, fold_out-RecordType}
use Rattle.schema_json.specs.declared.types.TypeOfAttribute.{TypeOfAttribute, out-TypeOfAttribute}
use Rattle.schema_json.specs.declared.types.TypeOfAttribute.{fold_out-TypeOfAttribute}
use Rattle.schema_json.proofs.Walks.{values_made}
use Rattle.schema_json.proofs.Layers.{variant_made, set_made, record_made}
use Rattle.schema_build_expand.proofs.Depths.{deepest, type_deep, variant_deep, record_deep, attribute_deep, depth}
use Rattle.schema_build_expand.proofs.Depths.{variant_depth, attribute_depth, entries_depth}

module _ (N : Type 0) where
  pub shape_deep : (shape : TypeVariant N) (loc : Option Loc)
      → depth N (Variant shape loc) ≡ variant_depth N shape + 1
  shape_deep shape loc = variant_made N (type_deep N) (variant_deep N) (record_deep N) (attribute_deep N) shape loc

  pub set_deep : (element : «Type» N) → variant_depth N (Set element) ≡ depth N element + 1
  set_deep element = set_made N (type_deep N) (variant_deep N) (record_deep N) (attribute_deep N) element

  pub record_is_deep : (r : RecordType N) → variant_depth N (Record r) ≡ entries_depth N (attributes_of r) + 2
  record_is_deep r =
      record_made N (type_deep N) (variant_deep N) (record_deep N) (attribute_deep N) r
      ∙ ap (λ n. n + 2) (fold_out-RecordType N ℕ ℕ ℕ ℕ (type_deep N) (variant_deep N) (record_deep N)
      (attribute_deep N) r ∙ ap deepest (values_made (attribute_depth N) (out-RecordType N r).attributes))

  attribute_is_deep : (a : TypeOfAttribute N) → attribute_depth N a ≡ depth N (out-TypeOfAttribute N a).ty
  attribute_is_deep a =
      fold_out-TypeOfAttribute N ℕ ℕ ℕ ℕ (type_deep N) (variant_deep N) (record_deep N) (attribute_deep N) a

  pub entry_deep : (entries : List (List ℕ × TypeOfAttribute N)) (i : ℕ) (d : List ℕ × TypeOfAttribute N)
      → i < length entries → depth N (out-TypeOfAttribute N (get_or entries i d).1).ty ≤ entries_depth N entries
  entry_deep [] i d h = absurd (omega arith)
  entry_deep (e ∷ entries) zero d h = omega (arith, attribute_is_deep e.1)
  entry_deep (e ∷ entries) (suc i) d h = omega (arith, entry_deep entries i d (omega arith))
