-- What a walk gives of a fragment without places, it gives of the fragment where it sees no places.
use Rattle.std.proofs.Common.{◌≡◌, not, ◌&&◌, List, [], ◌∷◌, ◌++◌, map, Option, Some, None}
use Rattle.std.proofs.Common.{is_none, refl, sym, ap, ◌∙◌}
use Rattle.std.specs.List.{flat_map, AllByRecursion}
use Rattle.std.specs.Option.{option_map, option_map_or}
use Rattle.std.proofs.lemmas.List.Concat.{flat_map_single}
use Rattle.cedar_identifiers.specs.declared.name.Name.{Name}
use Rattle.cedar_identifiers.specs.declared.raw_name.RawName.{RawName}
use Rattle.schema_json.specs.Shapes.{attributes_of, is_open, is_empty_type, is_empty_record}
use Rattle.schema_json.specs.Shapes.{has_none, is_empty_shape, is_empty_outside}
use Rattle.schema_json.specs.declared.types.Type.{«Type», Type-F, out-Type}
use Rattle.schema_json.specs.declared.types.TypeVariant.{TypeVariant, TypeVariant-F, out-TypeVariant}
use Rattle.schema_json.specs.declared.types.RecordType.{RecordType}
use Rattle.schema_json.specs.declared.types.TypeOfAttribute.{TypeOfAttribute}
use Rattle.schema_json.specs.declared.entity_type.AttributesOrContext.{AttributesOrContext}
use Rattle.schema_json.specs.declared.entity_type.EntityType.{EntityType}
use Rattle.schema_json.specs.declared.entity_type.EntityTypeKind.{EntityTypeKind}
use Rattle.schema_json.specs.declared.entity_type.EntityTypeKind.TheVariants.{Standard, Enum}
use Rattle.schema_json.specs.declared.action_type.ActionEntityUID.{ActionEntityUID}
use Rattle.schema_json.specs.declared.action_type.ActionType.{ActionType}
use Rattle.schema_json.specs.declared.action_type.ApplySpec.{ApplySpec}
use Rattle.schema_json.specs.declared.fragment.Fragment.{Fragment}
use Rattle.schema_json.specs.declared.fragment.NamespaceDefinition.{NamespaceDefinition}
use Rattle.schema_json.specs.AsWritten.{as_written}
use Rattle.schema_json.proofs.Layers.{Layers, each_type, each_variant}
use Rattle.laws_translate.specs.Bare.{bare_name, bare, bare_of_variant, bare_of_record}
use Rattle.laws_translate.specs.Bare.{bare_of_attribute}
use Rattle.laws_translate.specs.BareFragments.{bare_shape, bare_kind, bare_entity, bare_spec, bare_ref, bare_action}
use Rattle.laws_translate.proofs.BareTypes as made
use Rattle.laws_translate.proofs.BareTypes.{bare_entry}
use Rattle.schema_json_walk.specs.Bare.{is_bare_kind}
use Rattle.schema_json_walk.specs.Parts.{Part, type_reference, context_reference, parent, principal, resource}
use Rattle.schema_json_walk.specs.Parts.{action_parent, extension_type, open_record, action_attributes}
use Rattle.schema_json_walk.specs.Parts.{external_not_bare}
use Rattle.schema_json_walk.specs.Walk.{visit_where, at_context, of_type}
use Rattle.schema_json_walk.specs.Walk.{of_variant, of_record, of_attribute, of_context, of_kind, of_entity, of_apply}
use Rattle.schema_json_walk.specs.Walk.{of_uid, of_uids, of_action, of_common, of_namespace, of_entry, of_fragment}
use Rattle.schema_json_walk.specs.Walk.{itself, parts, fragment_parts, of_entries}
use Rattle.schema_json_walk.proofs.Layers as walk
use Rattle.schema_json_walk.proofs.ByParts.{type_by_parts, fragment_by_parts}
use Rattle.laws_build.specs.Orders.Alike.{bare_space, declarations_alone, declared_alone}
use Rattle.laws_build.proofs.Orders.Entries.{CommonEntry, EntityEntry, ActionEntry, common_bare, entity_bare}
use Rattle.laws_build.proofs.Orders.Entries.{action_bare}
use Rattle.laws_build.proofs.Orders.Layers.{Entry, Outer, Inner, bare_outer, bare_inner, outer_bare}
use Rattle.laws_build.proofs.Orders.Layers.{inner_bare, attributes_bare, openness_bare, type_in_bare}
use Rattle.laws_build.proofs.Orders.Seen.{flat_same, flat_mapped}

abbrev pub bare_part : Part RawName → Part RawName
bare_part (type_reference kind name) = type_reference kind (bare_name name)
bare_part (context_reference name) = context_reference (bare_name name)
bare_part (parent name) = parent (bare_name name)
bare_part (principal name) = principal (bare_name name)
bare_part (resource name) = resource (bare_name name)
bare_part (action_parent id ty) = action_parent id (option_map bare_name ty)
bare_part (extension_type id) = extension_type id
bare_part open_record = open_record
bare_part (action_attributes names) = action_attributes names
bare_part external_not_bare = external_not_bare

abbrev Types : Type 0
Types = «Type» RawName

abbrev Variants : Type 0
Variants = TypeVariant RawName

abbrev Records : Type 0
Records = RecordType RawName

abbrev Attributes : Type 0
Attributes = TypeOfAttribute RawName

module _ {U : Type 0} (visit : Part RawName → List U) where
  abbrev seen : Part RawName → List U
  seen p = visit (bare_part p)

  abbrev P : Types → Type 0
  P t = of_type visit (bare t) ≡ of_type seen t

  abbrev P1 : Variants → Type 0
  P1 v = of_variant visit (bare_of_variant v) ≡ of_variant seen v

  abbrev P2 : Records → Type 0
  P2 r = of_record visit (bare_of_record r) ≡ of_record seen r

  abbrev P3 : Attributes → Type 0
  P3 a = of_attribute visit (bare_of_attribute a) ≡ of_attribute seen a

  entries_walked : (es : List Entry) → AllByRecursion (λ e. P3 e.1) es
      → of_entries visit (map bare_entry es) ≡ of_entries seen es
  entries_walked [] h = refl
  entries_walked (e ∷ es) h = λ i. h.0 i ++ entries_walked es h.1 i

  layers : Layers RawName P P1 P2 P3
  layers = record {
    variant = λ v loc h. ap (of_type visit) (made.variant_bare v loc)
        ∙ (walk.type_walked visit (bare_of_variant v) None ∙ (h ∙ sym (walk.type_walked seen v loc)));
    reference = λ n loc. ap (of_type visit) (made.reference_bare n loc)
        ∙ (walk.reference_walked visit (bare_name n) None ∙ sym (walk.reference_walked seen n loc));
    string = ap (of_variant visit) made.string_bare ∙ (walk.string_walked visit ∙ sym (walk.string_walked seen));
    long = ap (of_variant visit) made.long_bare ∙ (walk.long_walked visit ∙ sym (walk.long_walked seen));
    boolean = ap (of_variant visit) made.boolean_bare ∙ (walk.boolean_walked visit ∙ sym (walk.boolean_walked seen));
    set = λ t h. ap (of_variant visit) (made.set_bare t)
        ∙ (walk.set_walked visit (bare t) ∙ (h ∙ sym (walk.set_walked seen t)));
    fields = λ r h. ap (of_variant visit) (made.record_bare r)
        ∙ (walk.variant_walked visit (bare_of_record r) ∙ (h ∙ sym (walk.variant_walked seen r)));
    entity = λ n. ap (of_variant visit) (made.entity_bare n)
        ∙ (walk.entity_walked visit (bare_name n) ∙ sym (walk.entity_walked seen n));
    either = λ n. ap (of_variant visit) (made.either_bare n)
        ∙ (walk.either_walked visit (bare_name n) ∙ sym (walk.either_walked seen n));
    extension = λ x. ap (of_variant visit) (made.extension_bare x)
        ∙ (walk.extension_walked visit x ∙ sym (walk.extension_walked seen x));
    entries = λ r h. walk.record_walked visit (bare_of_record r)
        ∙ ((λ i. visit_where visit (openness_bare r i) open_record ++ of_entries visit (attributes_bare r i))
        ∙ (ap (λ l. visit_where visit (is_open r) open_record ++ l) (entries_walked (attributes_of r) h)
        ∙ sym (walk.record_walked seen r)));
    attribute = λ a h. walk.attribute_walked visit (bare_of_attribute a)
        ∙ (ap (of_type visit) (type_in_bare a) ∙ (h ∙ sym (walk.attribute_walked seen a)));
  }

  pub type_walked : (t : Types) → P t
  type_walked = each_type RawName P P1 P2 P3 layers

  shape_walked : (v : Variants) → P1 v
  shape_walked = each_variant RawName P P1 P2 P3 layers

  context_made : (o : Outer) → at_context visit (bare_outer o) ≡ at_context seen o
  context_made (Type-F.Variant ty loc) = shape_walked ty
  context_made (Type-F.CommonTypeRef name loc) = refl

  context_walked : (c : AttributesOrContext RawName) → of_context visit (bare_shape c) ≡ of_context seen c
  context_walked c = ap (at_context visit) (outer_bare c.0) ∙ context_made (out-Type RawName c.0)

  option_walked : {A B : Type 0} (h : A → B) (g : B → List U) (p : A → List U) → ((a : A) → g (h a) ≡ p a)
      → (o : Option A) → option_map_or g (option_map h o) [] ≡ option_map_or p o []
  option_walked h g p e None = refl
  option_walked h g p e (Some a) = e a

  names_walked : (part : RawName → Part RawName) → ((n : RawName) → part (bare_name n) ≡ bare_part (part n))
      → (names : List RawName)
      → flat_map (λ n. visit (part n)) (map bare_name names) ≡ flat_map (λ n. seen (part n)) names
  names_walked part e = flat_same bare_name (λ n. visit (part n)) (λ n. seen (part n)) (λ n. ap visit (e n))

  kind_walked : (k : EntityTypeKind RawName) → of_kind visit (bare_kind k) ≡ of_kind seen k
  kind_walked (Standard s) = λ i.
      names_walked parent (λ n. refl) s.member_of_types i
      ++ (type_walked s.shape.0 i ++ option_walked bare (of_type visit) (of_type seen) type_walked s.tags i)
  kind_walked (Enum choices) = refl

-- whether a type is an empty record does not depend on places
type_emptied : (t : Types) → is_empty_type t ≡ is_empty_outside (out-Type RawName t)
type_emptied t = refl

record_emptied : (r : Records) → is_empty_record r ≡ (has_none (attributes_of r) && not (is_open r))
record_emptied r = refl

none_held : (es : List Entry) → has_none (map bare_entry es) ≡ has_none es
none_held [] = refl
none_held (e ∷ es) = refl

record_bare : (r : Records) → is_empty_record (bare_of_record r) ≡ is_empty_record r
record_bare r =
    record_emptied (bare_of_record r)
    ∙ ((λ i. has_none (attributes_bare r i) && not (openness_bare r i))
    ∙ (ap (λ b. b && not (is_open r)) (none_held (attributes_of r)) ∙ sym (record_emptied r)))

inner_emptied : (o : Inner) → is_empty_shape (bare_inner o) ≡ is_empty_shape o
inner_emptied TypeVariant-F.String = refl
inner_emptied TypeVariant-F.Long = refl
inner_emptied TypeVariant-F.Boolean = refl
inner_emptied (TypeVariant-F.Set s) = refl
inner_emptied (TypeVariant-F.Record r) = record_bare r
inner_emptied (TypeVariant-F.Entity n) = refl
inner_emptied (TypeVariant-F.EntityOrCommon n) = refl
inner_emptied (TypeVariant-F.Extension x) = refl

outer_emptied : (o : Outer) → is_empty_outside (bare_outer o) ≡ is_empty_outside o
outer_emptied (Type-F.Variant ty loc) =
    ap is_empty_shape (inner_bare ty) ∙ inner_emptied (out-TypeVariant RawName ty)
outer_emptied (Type-F.CommonTypeRef name loc) = refl

pub empty_bare : (t : Types) → is_empty_type (bare t) ≡ is_empty_type t
empty_bare t =
    type_emptied (bare t)
    ∙ (ap is_empty_outside (outer_bare t) ∙ (outer_emptied (out-Type RawName t) ∙ sym (type_emptied t)))

none_too : {A B : Type 0} (h : A → B) (o : Option A) → is_none (option_map h o) ≡ is_none o
none_too h None = refl
none_too h (Some a) = refl

kind_emptied : (k : EntityTypeKind RawName) → is_bare_kind (bare_kind k) ≡ is_bare_kind k
kind_emptied (Standard s) = λ i. empty_bare s.shape.0 i && none_too bare s.tags i
kind_emptied (Enum choices) = refl

module _ {U : Type 0} (visit : Part RawName → List U) where
  abbrev behind : Part RawName → List U
  behind p = visit (bare_part p)

  entity_walked : (e : EntityType RawName) → of_entity visit (bare_entity e) ≡ of_entity behind e
  entity_walked e = λ i.
      visit_where visit (e.external && not (kind_emptied e.kind i)) external_not_bare ++ kind_walked visit e.kind i

  apply_walked : (s : ApplySpec RawName) → of_apply visit (bare_spec s) ≡ of_apply behind s
  apply_walked s = λ i.
      names_walked visit principal (λ n. refl) s.principal_types i
      ++ (names_walked visit resource (λ n. refl) s.resource_types i ++ context_walked visit s.context i)

  refs_walked : (rs : List (ActionEntityUID RawName as_written)) → of_uids visit (map bare_ref rs) ≡ of_uids behind rs
  refs_walked = flat_same bare_ref (of_uid visit) (of_uid behind) (λ r. refl)

  action_walked : (a : ActionType RawName as_written) → of_action visit (bare_action a) ≡ of_action behind a
  action_walked a = λ i.
      visit_where visit (a.external && not (is_none a.attributes && none_too bare_spec a.applies_to i))
      external_not_bare
      ++ (option_map_or (λ names. visit (action_attributes names)) a.attributes []
      ++ (option_walked visit (map bare_ref) (of_uids visit) (of_uids behind) refs_walked a.member_of i
      ++ option_walked visit bare_spec (of_apply visit) (of_apply behind) apply_walked a.applies_to i))

  namespace_walked : (n : NamespaceDefinition RawName as_written)
      → of_namespace visit (declarations_alone n) ≡ of_namespace behind n
  namespace_walked n = λ i.
      flat_same common_bare (λ (e : CommonEntry). of_common visit e.1) (λ e. of_common behind e.1)
      (λ e. type_walked visit e.1.ty) n.common_types i
      ++ (flat_same entity_bare (λ (e : EntityEntry). of_entity visit e.1) (λ e. of_entity behind e.1)
      (λ e. entity_walked e.1) n.entity_types i
      ++ flat_same action_bare (λ (e : ActionEntry). of_action visit e.1) (λ e. of_action behind e.1)
      (λ e. action_walked e.1) n.actions i)

abbrev block_bare : Option Name × NamespaceDefinition RawName as_written
    → Option Name × NamespaceDefinition RawName as_written
block_bare e = (bare_space e.0, declarations_alone e.1)

module _ {U : Type 0} (visit : Option Name → Part RawName → List U) where
  pub fragment_walked : (f : Fragment RawName as_written)
      → of_fragment visit (declared_alone f) ≡ of_fragment (λ ns p. visit (bare_space ns) (bare_part p)) f
  fragment_walked f =
      flat_same block_bare (of_entry visit) (of_entry (λ ns p. visit (bare_space ns) (bare_part p)))
      (λ e. namespace_walked (visit (bare_space e.0)) e.1) f.0

  -- what the visitor sees of parts without places, is seen of what it sees
  pub fragment_seen : (k : U → U)
      → ((ns : Option Name) (p : Part RawName) → visit (bare_space ns) (bare_part p) ≡ map k (visit ns p))
      → (f : Fragment RawName as_written) → of_fragment visit (declared_alone f) ≡ map k (of_fragment visit f)
  fragment_seen k same f =
      fragment_walked f
      ∙ ((λ i. of_fragment (λ ns p. same ns p i) f)
      ∙ (fragment_by_parts (λ ns p. map k (visit ns p)) f
      ∙ (flat_mapped k (λ (e : Option Name × Part RawName). visit e.0 e.1) (fragment_parts f)
      ∙ ap (map k) (sym (fragment_by_parts visit f)))))

-- what gives the same of parts with places and without gives the same of fragments that declare the same
pub walked_same : {U : Type 0} (visit : Option Name → Part RawName → List U)
    → ((ns : Option Name) (p : Part RawName) → visit (bare_space ns) (bare_part p) ≡ visit ns p)
    → (f g : Fragment RawName as_written) → declared_alone f ≡ declared_alone g → of_fragment visit f
    ≡ of_fragment visit g
walked_same visit same f g e = sym (alone f) ∙ (ap (of_fragment visit) e ∙ alone g)
  where
    alone : (f : Fragment RawName as_written) → of_fragment visit (declared_alone f) ≡ of_fragment visit f
    alone f = fragment_walked visit f ∙ (λ i. of_fragment (λ ns p. same ns p i) f)

pub parts_bare : (t : Types) → parts (bare t) ≡ map bare_part (parts t)
parts_bare t =
    type_walked itself t
    ∙ (type_by_parts (λ p. bare_part p ∷ []) t ∙ flat_map_single bare_part (parts t))
