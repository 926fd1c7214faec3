-- What a fold makes of a type, layer by layer: walks, the form that a text has, resolution and comparison.
use Rattle.std.proofs.Common.{◌≡◌, ap, ◌∙◌}
use Rattle.schema_json.specs.declared.types.Type.{«Type», out-Type, fold_out-Type, roll-Type}
use Rattle.schema_json.specs.declared.types.TypeVariant.{TypeVariant, roll-TypeVariant}
use Rattle.schema_json.specs.declared.types.RecordType.{RecordType, roll-RecordType}
use Rattle.schema_json.specs.declared.types.TypeOfAttribute.{TypeOfAttribute, roll-TypeOfAttribute}
use Rattle.schema_json.specs.declared.types.Type.TheOpen.{Type-F, TypeVariant-F, RecordType-F, TypeOfAttribute-F}
use Rattle.schema_json.specs.declared.types.Type.TheFolds.{map-Type, map-TypeVariant, map-RecordType}
use Rattle.schema_json.specs.declared.types.Type.TheFolds.{map-TypeOfAttribute, fold-Type, fold-TypeVariant}
use Rattle.schema_json.specs.declared.types.Type.TheFolds.{fold-RecordType, fold-TypeOfAttribute, fold-roll-Type}
use Rattle.schema_json.specs.declared.types.Type.TheFolds.{fold-roll-TypeVariant, fold-roll-RecordType}
use Rattle.schema_json.specs.declared.types.Type.TheFolds.{fold-roll-TypeOfAttribute}

-- the four layers of types over one kind of names
module _ (N : Type 0) where
  abbrev pub Outer : Type 0
  Outer = Type-F N («Type» N) (TypeVariant N) (RecordType N) (TypeOfAttribute N)

  abbrev pub Shape : Type 0
  Shape = TypeVariant-F N («Type» N) (TypeVariant N) (RecordType N) (TypeOfAttribute N)

  abbrev pub Fields : Type 0
  Fields = RecordType-F N («Type» N) (TypeVariant N) (RecordType N) (TypeOfAttribute N)

  abbrev pub Field : Type 0
  Field = TypeOfAttribute-F N («Type» N) (TypeVariant N) (RecordType N) (TypeOfAttribute N)

  module _ {A B C D : Type 0} (f : Type-F N A B C D → A) (g : TypeVariant-F N A B C D → B)
      (h : RecordType-F N A B C D → C) (k : TypeOfAttribute-F N A B C D → D) where
    abbrev pub on_type : «Type» N → A
    on_type = fold-Type N A B C D f g h k

    abbrev pub on_variant : TypeVariant N → B
    on_variant = fold-TypeVariant N A B C D f g h k

    abbrev pub on_record : RecordType N → C
    on_record = fold-RecordType N A B C D f g h k

    abbrev pub on_attribute : TypeOfAttribute N → D
    on_attribute = fold-TypeOfAttribute N A B C D f g h k

    pub type_is : (o : Outer) → on_type (roll-Type N o)
        ≡ f (map-Type N _ _ _ _ _ _ _ _ on_type on_variant on_record on_attribute o)
    type_is o = fold-roll-Type N A B C D f g h k o

    pub variant_is : (o : Shape) → on_variant (roll-TypeVariant N o)
        ≡ g (map-TypeVariant N _ _ _ _ _ _ _ _ on_type on_variant on_record on_attribute o)
    variant_is o = fold-roll-TypeVariant N A B C D f g h k o

    pub record_is : (o : Fields) → on_record (roll-RecordType N o)
        ≡ h (map-RecordType N _ _ _ _ _ _ _ _ on_type on_variant on_record on_attribute o)
    record_is o = fold-roll-RecordType N A B C D f g h k o

    pub attribute_is : (o : Field) → on_attribute (roll-TypeOfAttribute N o)
        ≡ k (map-TypeOfAttribute N _ _ _ _ _ _ _ _ on_type on_variant on_record on_attribute o)
    attribute_is o = fold-roll-TypeOfAttribute N A B C D f g h k o

    -- of a type that is made of this
    pub type_made : (s : «Type» N) (o : Outer) → out-Type N s ≡ o
        → on_type s ≡ f (map-Type N _ _ _ _ _ _ _ _ on_type on_variant on_record on_attribute o)
    type_made s o e =
        fold_out-Type N A B C D f g h k s
        ∙ ap (λ (o : Outer). f (map-Type N _ _ _ _ _ _ _ _ on_type on_variant on_record on_attribute o)) e
