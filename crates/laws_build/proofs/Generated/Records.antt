-- What says a record stands for records alone.
use Rattle.std.proofs.Common.{◌≡◌, ℕ, Bool, List, refl, Option}
use Rattle.cedar_data.specs.Span.{Span}
use Rattle.cedar_identifiers.specs.declared.internal_name.InternalName.{InternalName}
use Rattle.cedar_identifiers.specs.declared.raw_name.RawName.{RawName}
use Rattle.cedar_names.specs.Meaning.{PlainType, Attributes}
use Rattle.schema_json.specs.Shapes.{attributes_of, is_open}
use Rattle.schema_json.specs.declared.types.Type.{«Type»}
use Rattle.schema_json.specs.declared.types.Type.TheVariants as shape
use Rattle.schema_json.specs.declared.types.TypeVariant.TheVariants as variant
use Rattle.schema_json.specs.declared.types.RecordType.{RecordType}
use Rattle.schema_json.specs.declared.types.TypeOfAttribute.{TypeOfAttribute}
use Rattle.laws_written.specs.Written.{WrittenAttributes, rec}
use Rattle.laws_translate.specs.TypesSay.{TypeSays}
use Rattle.schema_build_expand.specs.Expands.{Expands, by_layer, LayerExpands, to_bool, to_long, to_string, to_set}
use Rattle.schema_build_expand.specs.Expands.{to_record, to_extension, to_entity, to_builtin, to_declared}
use Rattle.schema_build_expand.specs.Scope.{Scope}
use Rattle.schema_build_expand.specs.View.{View, record_layer, view}
use Rattle.schema_build_items.specs.NoRecord.{IsNoRecord}
use Rattle.laws_build.proofs.Closure.Views.{record_viewed}

module _ (s : Scope RawName) (ns : Option InternalName) where
  layer_record : (v : View RawName) (open' : Bool) (es : List (List ℕ × TypeOfAttribute RawName)) (p : PlainType)
      → v ≡ record_layer open' es → LayerExpands RawName s ns v p → (xs : Attributes) × (p ≡ PlainType.Rec xs)
  layer_record v o es p e (to_bool n) = cc
  layer_record v o es p e (to_long n) = cc
  layer_record v o es p e (to_string n) = cc
  layer_record v o es p e (to_set n element q h) = cc
  layer_record v o es p e (to_record n entries ps h) = (ps, refl)
  layer_record v o es p e (to_extension n word h) = cc
  layer_record v o es p e (to_entity n kind name target h) = cc
  layer_record v o es p e (to_builtin n kind name target q h none is) = cc
  layer_record v o es p e (to_declared n kind name d q h k is) = cc

  only_record : (t : «Type» RawName) (r : RecordType RawName) (loc : Option Span) (p : PlainType)
      → t ≡ shape.Variant (variant.Record r) loc → Expands RawName s ns t p
      → (xs : Attributes) × (p ≡ PlainType.Rec xs)
  only_record t r loc p e (by_layer n u q h) =
      layer_record (view t) (is_open r) (attributes_of r) p (record_viewed t r loc e) h

  pub record_said : (t : «Type» RawName) (xs : WrittenAttributes) → TypeSays t (rec xs) → IsNoRecord s ns t → ⊥
  record_said t xs h (p, expands, none) =
      let found = only_record t h.0 h.1 p h.2 expands in none found.0 found.1
