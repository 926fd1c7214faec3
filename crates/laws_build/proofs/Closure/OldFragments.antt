-- The fragment that the data of the deprecated form becomes is formed.
use Rattle.std.proofs.Common.{◌≡◌, ℕ, Bool, List, [], ◌∷◌, All, Contains, Option, Some, None, refl, sym, ap, subst}
use Rattle.std.proofs.Common.{inl, inr}
use Rattle.std.specs.List.{AllZip}
use Rattle.std.specs.List.Sorted.{IsStrictlySortedBy}
use Rattle.std.specs.Map.{values_of}
use Rattle.std.proofs.lemmas.List.Elements.{All-nil, All-cons, All-contains}
use Rattle.cedar_data.specs.Maps.{map_of}
use Rattle.cedar_data.specs.Text.{text_cmp}
use Rattle.cedar_data.proofs.Lists.{contains_map, all_of}
use Rattle.cedar_identifiers.specs.declared.name.Name.{Name}
use Rattle.cedar_identifiers.specs.declared.name_text.NameText as named
use Rattle.cedar_identifiers.specs.declared.raw_name.RawName.{RawName}
use Rattle.schema_json.specs.declared.types.Type.{«Type»}
use Rattle.schema_json.specs.declared.types.TypeVariant.{TypeVariant}
use Rattle.schema_json.specs.declared.types.TypeOfAttribute.{TypeOfAttribute, out-TypeOfAttribute}
use Rattle.schema_json.specs.declared.types.TypeOfAttribute.{out-roll-TypeOfAttribute}
use Rattle.schema_json.specs.declared.entity_type.EntityType.{EntityType}
use Rattle.schema_json.specs.declared.action_type.ActionType.{ActionType}
use Rattle.schema_json.specs.declared.action_type.ApplySpec.{ApplySpec}
use Rattle.schema_json.specs.declared.fragment.Fragment.{Fragment}
use Rattle.schema_json.specs.declared.fragment.NamespaceDefinition.{NamespaceDefinition}
use Rattle.schema_json.specs.Orders.{namespace_cmp}
use Rattle.schema_json_shapes.specs.Said.{plain}
use Rattle.schema_compat_types.specs.declared.types.SchemaType.{SchemaType}
use Rattle.schema_compat_types.specs.declared.types.SchemaTypeVariant.{SchemaTypeVariant}
use Rattle.schema_compat_types.specs.declared.types.TypeOfAttribute.{TypeOfAttribute as OldAttribute}
use Rattle.schema_compat_types.specs.declared.types.TypeOfAttribute as OldAttributes
use Rattle.schema_compat_types.specs.declared.entity_type.EntityType.{EntityType as OldEntityType}
use Rattle.schema_compat_types.specs.declared.action_type.ActionType.{ActionType as OldAction}
use Rattle.schema_compat_types.specs.declared.action_type.ApplySpec.{ApplySpec as OldApply}
use Rattle.schema_compat_types.specs.declared.fragment.NamespaceDefinition.{NamespaceDefinition as OldNamespace}
use Rattle.schema_compat_types.specs.declared.fragment.SchemaFragment.{SchemaFragment}
use Rattle.schema_compat_convert.specs.Converted.{converted_attribute, no_annotations, TypeBecomes, of_shape}
use Rattle.schema_compat_convert.specs.Converted.{of_reference}
use Rattle.schema_compat_convert.specs.Converted.{ShapeBecomes, of_string, of_long, of_boolean, of_set, of_record}
use Rattle.schema_compat_convert.specs.Converted.{of_entity, of_extension, AttributesBecome, no_attribute}
use Rattle.schema_compat_convert.specs.Converted.{next_attribute, ValuesBecome, EntityTypeBecomes}
use Rattle.schema_compat_convert.specs.Converted.{ApplyBecomes, OptionBecomes, ActionBecomes, NamespaceBecomes}
use Rattle.schema_compat_convert.specs.Converted.{EntryBecomes, FragmentBecomes}
use Rattle.schema_compat_convert.proofs.Kept.{attributes_keys}
use Rattle.schema_build_hierarchy.proofs.Once.{contains_cases}
use Rattle.laws_build.specs.Closure.Formed.{ContextRises, IsFormed}
use Rattle.laws_build.specs.Closure.WellFormed.{Rises, IsKindFormed}
use Rattle.laws_build.proofs.Closure.Formed.{values_kept}
use Rattle.laws_build.proofs.Closure.JsonTypes.{string_rise, long_rise, boolean_rise, set_rise, entity_rise}
use Rattle.laws_build.proofs.Closure.JsonTypes.{extension_rise, record_rise}
use Rattle.laws_build.proofs.Closure.Lists.{has_none}
use Rattle.laws_build.proofs.Closure.SaidTypes.{common_rises}

abbrev Attribute : Type 0
Attribute = TypeOfAttribute RawName

-- the type of an attribute that is made of it
attribute_type : (t : «Type» RawName) (required : Bool)
    → (out-TypeOfAttribute RawName (converted_attribute t required)).ty ≡ t
attribute_type t required = ap (λ a. a.ty) (out-roll-TypeOfAttribute RawName
    (record { ty = t; annotations = no_annotations; required = required }))

mutual
  pub old_type_rises : (s : SchemaType) (t : «Type» RawName) → TypeBecomes s t → Rises RawName t
  old_type_rises s t (of_shape v w h) = old_shape_rises v w h
  old_type_rises s t (of_reference text n h) = common_rises t n None refl

  old_shape_rises : (v : SchemaTypeVariant) (w : TypeVariant RawName) → ShapeBecomes v w → Rises RawName (plain w)
  old_shape_rises v w of_string = string_rise
  old_shape_rises v w of_long = long_rise
  old_shape_rises v w of_boolean = boolean_rise
  old_shape_rises v w (of_set s t h) = set_rise t (old_type_rises s t h)
  old_shape_rises v w (of_record es fs is_open up h) =
      record_rise fs is_open (subst (IsStrictlySortedBy text_cmp) (sym (attributes_keys es fs h)) up)
      (old_attributes_rise es fs h)
  old_shape_rises v w (of_entity text n h) = entity_rise n
  old_shape_rises v w (of_extension text id h) = extension_rise id

  old_attributes_rise : (es : List (List ℕ × OldAttribute)) (fs : List (List ℕ × Attribute)) → AttributesBecome es fs
      → (e : List ℕ × Attribute) → Contains fs e → Rises RawName (out-TypeOfAttribute RawName e.1).ty
  old_attributes_rise es fs no_attribute e c = has_none e c
  old_attributes_rise es fs (next_attribute k a t more others h hs) e c =
      let required = (OldAttributes.out-TypeOfAttribute a).required in
      elim (contains_cases (k, converted_attribute t required) others e c) [
        | inl same ↦ subst (λ (z : List ℕ × Attribute). Rises RawName (out-TypeOfAttribute RawName z.1).ty) same
            (subst (Rises RawName) (sym (attribute_type t required))
            (old_type_rises (OldAttributes.out-TypeOfAttribute a).ty t h))
        | inr there ↦ old_attributes_rise more others hs e there
      ]

-- what all values of a map become has
all_become : {K V W : Type 0} (Becomes : V → W → Type 0) (P : W → Type 0)
    → ((v : V) (w : W) → Becomes v w → P w) → (es : List (K × V)) (fs : List (K × W)) → ValuesBecome Becomes es fs
    → All (λ e. P e.1) fs
all_become Becomes P each [] [] h = All-nil (λ e. P e.1)
all_become Becomes P each [] (f ∷ fs) h = absurd h
all_become Becomes P each (e ∷ es) [] h = absurd h
all_become Becomes P each (e ∷ es) (f ∷ fs) h =
    All-cons (λ z. P z.1) f fs (each e.1 f.1 h.0.1) (all_become Becomes P each es fs h.1)

entity_formed : (e : OldEntityType) (f : EntityType RawName) → EntityTypeBecomes e f → IsKindFormed f.kind
entity_formed e f h = subst IsKindFormed (sym h.kind) (old_type_rises e.shape.0 h.ty h.shaped, tt)

context_rises : (a : Option OldApply) (b : Option (ApplySpec RawName)) → OptionBecomes ApplyBecomes a b
    → ContextRises b
context_rises None None h = tt
context_rises None (Some b) h = absurd h
context_rises (Some a) None h = absurd h
context_rises (Some a) (Some b) h = old_type_rises a.context.0 b.context.0 h.in_context

module _ {G : named.Ghosts RawName} where
  action_formed : (a : OldAction) (b : ActionType RawName G) → ActionBecomes a b → ContextRises b.applies_to
  action_formed a b h = context_rises a.applies_to b.applies_to h.applied

  -- what each namespace has, those of the map have
  module _ (P : NamespaceDefinition RawName G → Type 0)
      (each : (n : OldNamespace) (m : NamespaceDefinition RawName G) → NamespaceBecomes n m → P m) where
    entries_have : (olds : List (List ℕ × OldNamespace)) (es : List (Option Name × NamespaceDefinition RawName G))
        → AllZip EntryBecomes olds es → (e : Option Name × NamespaceDefinition RawName G) → Contains es e → P e.1
    entries_have [] [] h e c = has_none e c
    entries_have [] (f ∷ fs) h e c = absurd h
    entries_have (o ∷ olds) [] h e c = absurd h
    entries_have (o ∷ olds) (f ∷ fs) h e c =
        elim (contains_cases f fs e c) [
          | inl same ↦ subst (λ (z : Option Name × NamespaceDefinition RawName G). P z.1) same (each o.1 f.1 h.0.1)
          | inr there ↦ entries_have olds fs h.1 e there
        ]

    fragment_has : (s : SchemaFragment) (f : Fragment RawName G) → FragmentBecomes s f → All (λ e. P e.1) f.0
    fragment_has s f (es, are, is) =
        let values = values_kept namespace_cmp P [] es (All-nil P) (entries_have s.0 es are) in
        subst (λ (l : List (Option Name × NamespaceDefinition RawName G)). All (λ e. P e.1) l) (sym is)
        (all_of (λ (e : Option Name × NamespaceDefinition RawName G). P e.1) (map_of namespace_cmp es)
        (λ e c. All-contains P (values_of (map_of namespace_cmp es)) e.1 values
        (contains_map (λ (z : Option Name × NamespaceDefinition RawName G). z.1) (map_of namespace_cmp es) e c)))

  pub old_formed : (s : SchemaFragment) (f : Fragment RawName G) → FragmentBecomes s f → IsFormed f
  old_formed s f h = record {
    commons = fragment_has (λ n. All (λ c. Rises RawName c.1.ty) n.common_types)
        (λ n m k. all_become _ (λ c. Rises RawName c.ty) (λ v w b. old_type_rises v w.ty b.ty) n.common_types
        m.common_types k.commons.1) s f h;
    entities = fragment_has (λ n. All (λ d. IsKindFormed d.1.kind) n.entity_types)
        (λ n m k. all_become _ (λ d. IsKindFormed d.kind) entity_formed n.entity_types m.entity_types
        k.entities.1) s f h;
    actions = fragment_has (λ n. All (λ a. ContextRises a.1.applies_to) n.actions)
        (λ n m k. all_become _ (λ a. ContextRises a.applies_to) action_formed n.actions m.actions k.actions.1) s f h;
  }
