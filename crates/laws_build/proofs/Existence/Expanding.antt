-- Where each reference of a type stands for something, the type does.
use Rattle.std.proofs.Common.{◌≡◌, ℕ, Bool, true, false, List, [], ◌∷◌, ◌++◌, refl, sym, ap, ◌∙◌, subst, All}
use Rattle.std.proofs.Common.{Option}
use Rattle.std.specs.List.{AllByRecursion}
use Rattle.std.proofs.lemmas.List.Elements.{All-head}
use Rattle.cedar_data.specs.declared.loc.Loc.{Loc}
use Rattle.cedar_data.proofs.Lists.{All-front, All-back}
use Rattle.cedar_identifiers.specs.declared.internal_name.InternalName.{InternalName}
use Rattle.cedar_identifiers.specs.declared.reference_type.ReferenceType.TheVariants.{Common, Entity, CommonOrEntity}
use Rattle.cedar_names.specs.Meaning.{PlainType, Attributes, no_more, attribute}
use Rattle.cedar_names.specs.Meaning as meaning
use Rattle.schema_json.specs.Shapes.{attributes_of, is_open}
use Rattle.schema_json.specs.declared.types.Type.{«Type», Type-F, out-roll-Type}
use Rattle.schema_json.specs.declared.types.Type.TheVariants.{Variant, rolls-Variant, CommonTypeRef}
use Rattle.schema_json.specs.declared.types.Type.TheVariants.{rolls-CommonTypeRef}
use Rattle.schema_json.specs.declared.types.TypeVariant.{TypeVariant, TypeVariant-F, out-TypeVariant, roll-TypeVariant}
use Rattle.schema_json.specs.declared.types.TypeVariant.{out-roll-TypeVariant}
use Rattle.schema_json.specs.declared.types.TypeVariant.TheVariants as variant
use Rattle.schema_json.specs.declared.types.RecordType.{RecordType}
use Rattle.schema_json.specs.declared.types.TypeOfAttribute.{TypeOfAttribute, out-TypeOfAttribute}
use Rattle.schema_json.proofs.Layers.{Layers, each_type}
use Rattle.schema_json_walk.specs.Parts.{Part, type_reference, extension_type, open_record}
use Rattle.schema_json_walk.specs.Walk.{itself, visit_where, parts, of_variant, of_record, of_attribute, of_entries}
use Rattle.schema_json_walk.proofs.Layers.{record_walked, type_walked, reference_walked, variant_walked, set_walked}
use Rattle.schema_json_walk.proofs.Layers.{entity_walked, either_walked, extension_walked, attribute_walked}
use Rattle.schema_build_expand.specs.View.{record_layer, reference_layer, view, outer_view, shape_view}
use Rattle.schema_build_expand.specs.Scope.{Scope, in_table}
use Rattle.schema_build_expand.specs.Expands.{Expands, by_layer, LayerExpands, to_bool, to_long, to_string, to_set}
use Rattle.schema_build_expand.specs.Expands.{to_record, to_extension, ExpandAll, to_no_attributes, to_attribute}

-- a part that stands for something by itself
abbrev pub StandsAlone : {N : Type 0} → Scope N → Option InternalName → Part N → Type 0
StandsAlone {N} s ns (type_reference kind name) = (p : PlainType) × LayerExpands N s ns (reference_layer kind name) p
StandsAlone s ns (extension_type name) = in_table s name.id.text ≡ true
StandsAlone s ns _ = ⊥

module _ {N : Type 0} (s : Scope N) (ns : Option InternalName) where
  abbrev Fine : List (Part N) → Type 0
  Fine ps = All (StandsAlone s ns) ps

  abbrev OfType : «Type» N → Type 0
  OfType t = Fine (parts t) → (p : PlainType) × Expands N s ns t p

  abbrev OfVariant : TypeVariant N → Type 0
  OfVariant v = (loc : Option Loc) → Fine (of_variant itself v) → (p : PlainType) × Expands N s ns (Variant v loc) p

  abbrev OfRecord : RecordType N → Type 0
  OfRecord r = Fine (of_record itself r)
      → (is_open r ≡ false) × ((ps : Attributes) × ExpandAll N s ns (attributes_of r) ps)

  abbrev OfAttribute : TypeOfAttribute N → Type 0
  OfAttribute a = Fine (of_attribute itself a) → (p : PlainType) × Expands N s ns (out-TypeOfAttribute N a).ty p

  -- a shape, by its layer
  by_shape : (layer : TypeVariant-F N («Type» N) (TypeVariant N) (RecordType N) (TypeOfAttribute N))
      (v : TypeVariant N) (loc : Option Loc) (p : PlainType) → roll-TypeVariant N layer ≡ v
      → LayerExpands N s ns (shape_view layer) p → Expands N s ns (Variant v loc) p
  by_shape layer v loc p rolls h =
      let seen : view (Variant v loc) ≡ shape_view (out-TypeVariant N v) =
      ap view (sym (rolls-Variant v loc)) ∙ ap outer_view (out-roll-Type N (Type-F.Variant v loc)) in
      let inside : out-TypeVariant N v ≡ layer =
      ap (out-TypeVariant N) (sym rolls) ∙ out-roll-TypeVariant N layer in
      by_layer ns (Variant v loc) p
      (subst (λ x. LayerExpands N s ns x p) (sym (seen ∙ ap shape_view inside)) h)

  by_reference : (n : N) (loc : Option Loc) (p : PlainType) → LayerExpands N s ns (reference_layer Common n) p
      → Expands N s ns (CommonTypeRef n loc) p
  by_reference n loc p h =
      let seen : view (CommonTypeRef n loc) ≡ reference_layer Common n =
      ap view (sym (rolls-CommonTypeRef n loc)) ∙ ap outer_view (out-roll-Type N (Type-F.CommonTypeRef n loc)) in
      by_layer ns (CommonTypeRef n loc) p (subst (λ x. LayerExpands N s ns x p) (sym seen) h)

  only : (x : Part N) → Fine (x ∷ []) → StandsAlone s ns x
  only x all = All-head (StandsAlone s ns) x [] all

  closed_by : (b : Bool) (xs : List (Part N)) → Fine (visit_where itself b open_record ++ xs) → (b ≡ false) × Fine xs
  closed_by true xs all = absurd (All-head (StandsAlone s ns) open_record xs all)
  closed_by false xs all = (refl, all)

  entries_expand : (es : List (List ℕ × TypeOfAttribute N)) → AllByRecursion (λ e. OfAttribute e.1) es
      → Fine (of_entries itself es) → (ps : Attributes) × ExpandAll N s ns es ps
  entries_expand [] each all = (no_more, to_no_attributes ns)
  entries_expand (e ∷ es) each all =
      let first = each.0 (All-front (StandsAlone s ns) (of_attribute itself e.1) (of_entries itself es) all) in
      let more = entries_expand es each.1
      (All-back (StandsAlone s ns) (of_attribute itself e.1) (of_entries itself es) all) in (
        attribute e.0 (out-TypeOfAttribute N e.1).required first.0 more.0,
        to_attribute ns e.0 e.1 es first.0 more.0 first.1 more.1,
      )

  layers : Layers N OfType OfVariant OfRecord OfAttribute
  layers = record {
    variant = λ v loc h all. h loc (subst Fine (type_walked itself v loc) all);
    reference = λ n loc all.
        let e = only (type_reference Common n) (subst Fine (reference_walked itself n loc) all) in
        (e.0, by_reference n loc e.0 e.1);
    string = λ loc all. (
      meaning.String,
      by_shape TypeVariant-F.String variant.String loc meaning.String variant.rolls-String (to_string ns),
    );
    long = λ loc all. (
      meaning.Long,
      by_shape TypeVariant-F.Long variant.Long loc meaning.Long variant.rolls-Long (to_long ns),
    );
    boolean = λ loc all. (
      meaning.Bool,
      by_shape TypeVariant-F.Boolean variant.Boolean loc meaning.Bool variant.rolls-Boolean (to_bool ns),
    );
    set = λ t h loc all.
        let e = h (subst Fine (set_walked itself t) all) in (
          meaning.Set e.0,
          by_shape (TypeVariant-F.Set t) (variant.Set t) loc (meaning.Set e.0) (variant.rolls-Set t)
              (to_set ns t e.0 e.1),
        );
    fields = λ r h loc all.
        let e = h (subst Fine (variant_walked itself r) all) in (
          meaning.Rec e.1.0,
          by_shape (TypeVariant-F.Record r) (variant.Record r) loc (meaning.Rec e.1.0) (variant.rolls-Record r)
              (subst (λ b. LayerExpands N s ns (record_layer b (attributes_of r)) (meaning.Rec e.1.0)) (sym e.0)
              (to_record ns (attributes_of r) e.1.0 e.1.1)),
        );
    entity = λ n loc all.
        let e = only (type_reference Entity n) (subst Fine (entity_walked itself n) all) in
        (e.0, by_shape (TypeVariant-F.Entity n) (variant.Entity n) loc e.0 (variant.rolls-Entity n) e.1);
    either = λ n loc all.
        let e = only (type_reference CommonOrEntity n) (subst Fine (either_walked itself n) all) in (
          e.0,
          by_shape (TypeVariant-F.EntityOrCommon n) (variant.EntityOrCommon n) loc e.0
              (variant.rolls-EntityOrCommon n) e.1,
        );
    extension = λ x loc all.
        let e = only (extension_type x) (subst Fine (extension_walked itself x) all) in (
          meaning.Ext x.id.text,
          by_shape (TypeVariant-F.Extension x) (variant.Extension x) loc (meaning.Ext x.id.text)
              (variant.rolls-Extension x) (to_extension ns x.id.text e),
        );
    entries = λ r each all.
        let c = closed_by (is_open r) (of_entries itself (attributes_of r)) (subst Fine (record_walked itself r) all) in
        (c.0, entries_expand (attributes_of r) each c.1);
    attribute = λ a h all. h (subst Fine (attribute_walked itself a) all);
  }

  -- a type whose parts stand for something stands for something
  pub type_expands : (t : «Type» N) → All (StandsAlone s ns) (parts t) → (p : PlainType) × Expands N s ns t p
  type_expands = each_type N OfType OfVariant OfRecord OfAttribute layers
