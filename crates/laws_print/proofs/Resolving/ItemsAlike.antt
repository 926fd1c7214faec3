-- Entity types, actions and common types, and their forms in a text, resolve alike, where one of them resolves.
use Rattle.std.proofs.Common.{◌≡◌, Bool, true, false, ◌&&◌, List, [], ◌++◌, map, Option, Some, None, refl, sym, ap}
use Rattle.std.proofs.Common.{◌∙◌}
use Rattle.std.specs.List.{AllByRecursion}
use Rattle.std.specs.Option.{option_map, option_map_or}
use Rattle.std.specs.Cmp.{first_so, second_so}
use Rattle.cedar_data.proofs.Every.{all_front, all_back}
use Rattle.cedar_identifiers.specs.declared.internal_name.InternalName.{InternalName}
use Rattle.cedar_identifiers.specs.declared.raw_name.RawName.{RawName}
use Rattle.cedar_identifiers.specs.declared.reference_type.ReferenceType.TheVariants.{Entity}
use Rattle.schema_json.specs.declared.common_type.CommonType.{CommonType}
use Rattle.schema_json.specs.declared.entity_type.EntityType.{EntityType}
use Rattle.schema_json.specs.declared.entity_type.EntityTypeKind.{EntityTypeKind}
use Rattle.schema_json.specs.declared.entity_type.EntityTypeKind.TheVariants.{Standard, Enum}
use Rattle.schema_json.specs.declared.types.Type.{«Type», Type-F, out-Type, out-roll-Type, roll-Type}
use Rattle.schema_json.specs.declared.types.Type.TheVariants as shape
use Rattle.schema_json.specs.declared.types.TypeVariant.{TypeVariant}
use Rattle.schema_json.specs.declared.types.RecordType.{RecordType, roll-RecordType}
use Rattle.schema_json.specs.declared.types.TypeOfAttribute.{TypeOfAttribute, roll-TypeOfAttribute}
use Rattle.schema_json_walk.specs.Parts.{Part, external_not_bare}
use Rattle.schema_json_walk.specs.Walk.{itself, visit_where, at_context, of_type, of_context, of_parents, of_kind}
use Rattle.schema_json_walk.specs.Walk.{of_entity, of_common}
use Rattle.schema_resolve_definitions.specs.Tests.{Tests}
use Rattle.schema_resolve.specs.Renamed.{Renaming, new_type, new_shape, new_record, new_attribute, renamed}
use Rattle.schema_resolve.specs.Renamed.{renamed_kind, renamed_entity, renamed_common}
use Rattle.schema_resolve.specs.Resolved.{resolving_in}
use Rattle.schema_resolve_targets.specs.Undefined.{Undefined}
use Rattle.schema_print.proofs.Tested.{none, none_joined}
use Rattle.laws_print.specs.Printed.CedarForm.{cedar_layer, cedar_variant_layer, cedar_type, cedar_variant}
use Rattle.laws_print.specs.Printed.CedarForm.{cedar_context, cedar_common, cedar_kind, cedar_entity}
use Rattle.laws_print.proofs.Printed.CedarDecls.{context_at}
use Rattle.laws_print.specs.Resolving.Alike.{referred, referred_common, referred_kind, referred_entity}
use Rattle.laws_print.proofs.Resolving.Layers.{type_made}
use Rattle.laws_print.proofs.Resolving.References.{visit}
use Rattle.laws_print.proofs.Resolving.TypesAlike.{Good, KnowsPrimitives, type_alike}
use Rattle.laws_print.proofs.Resolving.TypesAlike.{shape_alike, resolved_is}

-- what is found of two lists, each as of another
pub both_found : {A : Type 0} (xs ys us vs : List A) → none xs ≡ none us → none ys ≡ none vs
    → none (xs ++ ys) ≡ none (us ++ vs)
both_found xs ys us vs h k = none_joined xs ys ∙ (λ i. h i && k i) ∙ sym (none_joined us vs)

pub first_none : {A : Type 0} (xs ys : List A) → none (xs ++ ys) ≡ true → none xs ≡ true
first_none xs ys h = first_so (none xs) (none ys) (sym (none_joined xs ys) ∙ h)

pub second_none : {A : Type 0} (xs ys : List A) → none (xs ++ ys) ≡ true → none ys ≡ true
second_none xs ys h = second_so (none xs) (none ys) (sym (none_joined xs ys) ∙ h)

module _ (t : Tests) (ns : Option InternalName) (knows : KnowsPrimitives t ns) where
  abbrev R : Renaming RawName InternalName
  R = resolving_in t ns

  abbrev v : Part RawName → List Undefined
  v = visit t ns

  abbrev Goods : List (Part RawName) → Type 0
  Goods parts = AllByRecursion (Good t ns) parts

  -- a context
  pub record ContextAlike (s : «Type» RawName) : Type 0 where
    pub found : none (of_context v (record { 0 = s })) ≡ none (of_context v (record { 0 = cedar_context s }))
    pub alike : none (of_context v (record { 0 = s })) ≡ true
        → referred (renamed R s) ≡ referred (renamed R (cedar_context s))

  abbrev Outer : Type 0
  Outer = Type-F RawName («Type» RawName) (TypeVariant RawName) (RecordType RawName) (TypeOfAttribute RawName)

  -- what a context gives, and what it becomes, by what it is made of
  context_of : (w : Part RawName → List Undefined) (s : «Type» RawName) (o : Outer) → out-Type RawName s ≡ o
      → of_context w (record { 0 = s }) ≡ at_context w o
  context_of w s o e = ap (at_context w) e

  context_by : (s : «Type» RawName) (o : Outer) → out-Type RawName s ≡ o
      → Goods (at_context itself o) → ContextAlike s
  context_by s (Type-F.Variant w loc) e goods =
      let c : Outer = Type-F.Variant (cedar_variant w) loc in
      let form : cedar_context s ≡ roll-Type RawName c =
      context_at s (Type-F.Variant w loc) e
      ∙ type_made RawName cedar_layer cedar_variant_layer (roll-RecordType RawName) (roll-TypeOfAttribute RawName) s
      (Type-F.Variant w loc) e in
      let inner = shape_alike t ns knows w goods in
      let out : out-Type RawName (cedar_context s) ≡ c = ap (out-Type RawName) form ∙ out-roll-Type RawName c in
      record {
        found = ap none (context_of v s (Type-F.Variant w loc) e) ∙ inner.found
            ∙ sym (ap none (context_of v (cedar_context s) c out));
        alike = λ h.
            ap referred (type_made RawName (new_type R) (new_shape R) (new_record R) (new_attribute R) s
            (Type-F.Variant w loc) e)
            ∙ inner.alike (sym (ap none (context_of v s (Type-F.Variant w loc) e)) ∙ h) loc
            ∙ sym (ap (λ s. referred (renamed R s)) form ∙ ap referred (resolved_is t ns c));
      }
  context_by s (Type-F.CommonTypeRef n loc) e goods =
      let o : Outer = Type-F.CommonTypeRef n loc in
      let form : cedar_context s ≡ roll-Type RawName o = context_at s o e ∙ sym (shape.rolls-CommonTypeRef n loc) in
      let out : out-Type RawName (cedar_context s) ≡ o = ap (out-Type RawName) form ∙ out-roll-Type RawName o in
      record {
        found = ap none (context_of v s o e) ∙ sym (ap none (context_of v (cedar_context s) o out));
        alike = λ h.
            ap referred (type_made RawName (new_type R) (new_shape R) (new_record R) (new_attribute R) s o e)
            ∙ sym (ap (λ s. referred (renamed R s)) form ∙ ap referred (resolved_is t ns o));
      }

  pub context_alike : (s : «Type» RawName) → Goods (of_context itself (record { 0 = s })) → ContextAlike s
  context_alike s goods = context_by s (out-Type RawName s) refl goods

  -- tags
  tags_found : (tags : Option («Type» RawName)) → Goods (option_map_or (of_type itself) tags [])
      → none (option_map_or (of_type v) tags []) ≡ none (option_map_or (of_type v) (option_map cedar_type tags) [])
  tags_found None goods = refl
  tags_found (Some s) goods = (type_alike t ns knows s goods).found

  tags_alike : (tags : Option («Type» RawName)) → Goods (option_map_or (of_type itself) tags [])
      → none (option_map_or (of_type v) tags []) ≡ true
      → option_map referred (option_map (renamed R) tags)
      ≡ option_map referred (option_map (renamed R) (option_map cedar_type tags))
  tags_alike None goods h = refl
  tags_alike (Some s) goods h = ap Some ((type_alike t ns knows s goods).alike h)

  -- an entity type
  pub kind_found : (k : EntityTypeKind RawName) → Goods (of_kind itself k)
      → none (of_kind v k) ≡ none (of_kind v (cedar_kind k))
  kind_found (Standard s) goods =
      let inner = all_back (Good t ns) (of_parents itself s.member_of_types) _ goods in
      both_found (of_parents v s.member_of_types) _ (of_parents v s.member_of_types) _ refl
      (both_found (of_type v s.shape.0) _ (of_type v (cedar_type s.shape.0)) _
      (type_alike t ns knows s.shape.0 (all_front (Good t ns) (of_type itself s.shape.0) _ inner)).found
      (tags_found s.tags (all_back (Good t ns) (of_type itself s.shape.0) _ inner)))
  kind_found (Enum choices) goods = refl

  pub kind_alike : (k : EntityTypeKind RawName) → Goods (of_kind itself k) → none (of_kind v k) ≡ true
      → referred_kind (renamed_kind R k) ≡ referred_kind (renamed_kind R (cedar_kind k))
  kind_alike (Standard s) goods h =
      let inner = all_back (Good t ns) (of_parents itself s.member_of_types) _ goods in
      let more = second_none (of_parents v s.member_of_types) _ h in
      let shape_is = (type_alike t ns knows s.shape.0 (all_front (Good t ns) (of_type itself s.shape.0) _ inner)).alike
      (first_none (of_type v s.shape.0) _ more) in
      let tags_are = tags_alike s.tags (all_back (Good t ns) (of_type itself s.shape.0) _ inner)
      (second_none (of_type v s.shape.0) _ more) in
      λ i. Standard (record {
        member_of_types = map (R.name Entity) s.member_of_types;
        shape = record { 0 = shape_is i };
        tags = tags_are i;
      })
  kind_alike (Enum choices) goods h = refl

  excess_nothing : (b : Bool) → visit_where v b external_not_bare ≡ []
  excess_nothing true = refl
  excess_nothing false = refl

  -- whatever is told of what an external item has too much, only the rest is looked up
  pub beside_excess : (b : Bool) (xs : List Undefined) → none (visit_where v b external_not_bare ++ xs) ≡ none xs
  beside_excess b xs = ap (λ l. none (l ++ xs)) (excess_nothing b)

  pub record EntityAlike (e : EntityType RawName) : Type 0 where
    pub found : none (of_entity v e) ≡ none (of_entity v (cedar_entity e))
    pub alike : none (of_entity v e) ≡ true
        → referred_entity (renamed_entity R e) ≡ referred_entity (renamed_entity R (cedar_entity e))

  pub entity_alike : (e : EntityType RawName) → Goods (of_entity itself e) → EntityAlike e
  entity_alike e goods =
      let inner = all_back (Good t ns) (visit_where itself _ external_not_bare) (of_kind itself e.kind) goods in
      record {
        found = beside_excess _ (of_kind v e.kind) ∙ kind_found e.kind inner
            ∙ sym (beside_excess _ (of_kind v (cedar_kind e.kind)));
        alike = λ h. (let k = kind_alike e.kind inner (sym (beside_excess _ (of_kind v e.kind)) ∙ h) in
            λ i. record { kind = k i; external = e.external; annotations = e.annotations; loc = e.loc });
      }

  -- a common type
  pub record CommonAlike (c : CommonType RawName) : Type 0 where
    pub found : none (of_common v c) ≡ none (of_common v (cedar_common c))
    pub alike : none (of_common v c) ≡ true
        → referred_common (renamed_common R c) ≡ referred_common (renamed_common R (cedar_common c))

  pub common_type_alike : (c : CommonType RawName) → Goods (of_common itself c) → CommonAlike c
  common_type_alike c goods =
      let inner = type_alike t ns knows c.ty goods in
      record {
        found = inner.found;
        alike = λ h. (let same = inner.alike h in
            λ i. record { ty = same i; annotations = c.annotations; loc = c.loc });
      }
