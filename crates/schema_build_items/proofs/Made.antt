-- What is built for shapes and tags stands for what they mean.
use Rattle.std.proofs.Common.{◌≡◌, ℕ, Bool, false, List, [], ◌∷◌, Option, Some, None, refl, sym, ap, ◌∙◌, subst}
use Rattle.cedar_identifiers.specs.declared.internal_name.InternalName.{InternalName}
use Rattle.cedar_identifiers.specs.declared.raw_name.RawName.{RawName}
use Rattle.cedar_names.specs.Meaning.{PlainType, Attributes}
use Rattle.cedar_names.specs.Meaning as plain
use Rattle.schema_json.specs.declared.entity_type.EntityTypeKind.{EntityTypeKind}
use Rattle.schema_json.specs.declared.entity_type.EntityTypeKind.TheVariants.{Standard, Enum}
use Rattle.schema_json.specs.declared.entity_type.StandardEntityType.{StandardEntityType}
use Rattle.schema_json.specs.declared.types.Type.{«Type»}
use Rattle.schema_build_types.specs.declared.types.Type.{«Type» as Built, Type-F, out-Type, out-roll-Type}
use Rattle.schema_build_types.specs.declared.types.Type.TheVariants as built
use Rattle.schema_build_types.specs.declared.entity_type.ValidatorEntityTypeKind.{ValidatorEntityTypeKind}
use Rattle.schema_build_types.specs.declared.entity_type.ValidatorEntityTypeKind.TheVariants as kind
use Rattle.schema_resolve_definitions.specs.Declarations.{name_of}
use Rattle.schema_build_hierarchy.specs.Declarations.{DeclaredEntity}
use Rattle.schema_build_types.specs.Standing.{IsBuilt, AreBuilt}
use Rattle.schema_build_expand.specs.Expands.{Expands, ExpandsOnce}
use Rattle.schema_build_expand.specs.Scope.{Scope}
use Rattle.schema_build_expand.specs.Targets.{ExpandsTo}
use Rattle.schema_build_items.specs.Kinds.{KindMeaning, IsKindMeaning, IsKindBuilt, TagsBuilt, IsKindOf}
use Rattle.schema_build_items.specs.NoRecord.{IsNoRecord, ShapeIsNoRecord, LacksShape}

pub out_record : (attrs : List (List ℕ × (Built × Bool))) (more : Bool)
    → out-Type (built.Record attrs more) ≡ Type-F.Record attrs more
out_record attrs more = ap out-Type (sym (built.rolls-Record attrs more)) ∙ out-roll-Type (Type-F.Record attrs more)

-- what stands for a record is one, and is closed
abbrev pub IsClosed : PlainType → List (List ℕ × (Built × Bool)) → Bool → Type 0
IsClosed p attrs more = (ps : Attributes) × (p ≡ plain.Rec ps) × (more ≡ false) × AreBuilt ps attrs

pub record_closed : (p : PlainType) (t : Built) (attrs : List (List ℕ × (Built × Bool))) (more : Bool)
    → t ≡ built.Record attrs more → IsBuilt p t → IsClosed p attrs more
record_closed p t attrs more is b = go p b
  where
    outside : out-Type t ≡ Type-F.Record attrs more
    outside = ap out-Type is ∙ out_record attrs more

    go : (p : PlainType) → IsBuilt p t → IsClosed p attrs more
    go plain.Bool e = absurd (let h : Type-F.AnyBool
        ≡ Type-F.Record attrs more = sym (ap out-Type (e ∙ sym built.rolls-AnyBool) ∙ out-roll-Type Type-F.AnyBool)
        ∙ outside in cc)
    go plain.Long e = absurd (let h : Type-F.Long
        ≡ Type-F.Record attrs more = sym (ap out-Type (e ∙ sym built.rolls-Long) ∙ out-roll-Type Type-F.Long)
        ∙ outside in cc)
    go plain.String e = absurd (let h : Type-F.String
        ≡ Type-F.Record attrs more = sym (ap out-Type (e ∙ sym built.rolls-String) ∙ out-roll-Type Type-F.String)
        ∙ outside in cc)
    go (plain.Set p) (el, e, b) = absurd
        (let h : Type-F.Set (Some el) ≡ Type-F.Record attrs more = sym
        (ap out-Type (e ∙ sym (built.rolls-Set (Some el))) ∙ out-roll-Type (Type-F.Set (Some el))) ∙ outside in cc)
    go (plain.Rec ps) (fields, e, b) =
        let h : Type-F.Record fields false ≡ Type-F.Record attrs more = sym (ap out-Type e ∙ out_record fields false)
        ∙ outside in
        let same : fields ≡ attrs = cc in
        let shut : more ≡ false = cc in
        (ps, refl, shut, subst (AreBuilt ps) same b)
    go (plain.Entity n) (name, e, b) =
        absurd (let h : Type-F.Entity (name ∷ [])
        ≡ Type-F.Record attrs more = sym
        (ap out-Type (e ∙ sym (built.rolls-Entity (name ∷ []))) ∙ out-roll-Type (Type-F.Entity (name ∷ [])))
        ∙ outside in cc)
    go (plain.Ext w) (name, e, b) =
        absurd (let h : Type-F.Extension name
        ≡ Type-F.Record attrs more = sym
        (ap out-Type (e ∙ sym (built.rolls-Extension name)) ∙ out-roll-Type (Type-F.Extension name)) ∙ outside in cc)

module _ (s : Scope RawName) (ns : Option InternalName) where
  pub tags_made : (ty : «Type» RawName) (t : Built) → ExpandsTo s ns ty t → TagsBuilt s ns (Some ty) (Some t)
  tags_made ty t (p, e, b) = (Some p, (p, refl, e), (t, refl, b))

  -- a record and tags make an entity type
  pub standard_made : (d : StandardEntityType RawName) (t : Built) (attrs : List (List ℕ × (Built × Bool)))
      (more : Bool)
      (tags : Option Built) → t ≡ built.Record attrs more → ExpandsTo s ns d.shape.0 t → TagsBuilt s ns d.tags tags
      → IsKindOf s ns (Standard d) (kind.Standard attrs more tags)
  standard_made d t attrs more tags is (p, e, b) (q, te, tb) =
      let (ps, rec, shut, fields) = record_closed p t attrs more is b in (
        record { attributes = ps; tags = q; choices = None },
        (subst (λ r. Expands RawName s ns d.shape.0 r) rec e, te, refl),
        (refl, shut, fields, tb, refl),
      )

module _ (s : Scope RawName) (once : ExpandsOnce s) where
  pub record_apart : (ns : Option InternalName) (ty : «Type» RawName) (ps : Attributes)
      → Expands RawName s ns ty (plain.Rec ps) → IsNoRecord s ns ty → ⊥
  record_apart ns ty ps e (p, h, not_one) = not_one ps (once ns ty p (plain.Rec ps) h e)

  shape_apart : (ns : Option InternalName) (kind : EntityTypeKind RawName) (m : KindMeaning) → IsKindMeaning s ns kind m
      → ShapeIsNoRecord s ns kind → ⊥
  shape_apart ns (Standard d) m h not_one = record_apart ns d.shape.0 m.attributes h.0 not_one
  shape_apart ns (Enum choices) m h not_one = not_one

  -- where something is built the shape is a record
  pub built_apart : (d : DeclaredEntity) (kind : ValidatorEntityTypeKind) → IsKindBuilt s d kind → LacksShape s d → ⊥
  built_apart d kind (m, h, stands) not_one = shape_apart (name_of d.ns) d.ty.kind m h not_one
