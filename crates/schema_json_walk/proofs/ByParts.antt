-- What a walk gives is what its parts give, one after another.
use Rattle.std.proofs.Common.{◌≡◌, ℕ, Bool, true, false, List, [], ◌∷◌, ◌++◌, refl, sym, ap, ◌∙◌}
use Rattle.std.proofs.Common.{append-nil, Option, Some, None}
use Rattle.std.specs.List.{flat_map, AllByRecursion}
use Rattle.std.specs.Option.{option_map_or}
use Rattle.std.proofs.lemmas.Grind.{flat_map-append}
use Rattle.cedar_identifiers.specs.declared.name.Name.{Name}
use Rattle.cedar_identifiers.specs.declared.name_text.NameText as named
use Rattle.schema_json.specs.Shapes.{attributes_of, is_open}
use Rattle.schema_json.specs.declared.types.Type.{«Type», Type-F, out-Type}
use Rattle.schema_json.specs.declared.types.TypeVariant.{TypeVariant}
use Rattle.schema_json.specs.declared.types.RecordType.{RecordType}
use Rattle.schema_json.specs.declared.types.TypeOfAttribute.{TypeOfAttribute}
use Rattle.schema_json.proofs.Layers.{Layers, each_type, each_variant}
use Rattle.schema_json.specs.declared.entity_type.AttributesOrContext.{AttributesOrContext}
use Rattle.schema_json.specs.declared.entity_type.EntityTypeKind.{EntityTypeKind}
use Rattle.schema_json.specs.declared.entity_type.EntityTypeKind.TheVariants.{Standard, Enum}
use Rattle.schema_json.specs.declared.entity_type.EntityType.{EntityType}
use Rattle.schema_json.specs.declared.action_type.ApplySpec.{ApplySpec}
use Rattle.schema_json.specs.declared.action_type.ActionEntityUID.{ActionEntityUID}
use Rattle.schema_json.specs.declared.action_type.ActionType.{ActionType}
use Rattle.schema_json.specs.declared.fragment.NamespaceDefinition.{NamespaceDefinition}
use Rattle.schema_json.specs.declared.fragment.Fragment.{Fragment}
use Rattle.schema_json_walk.specs.Parts.{Part, context_reference, action_parent}
use Rattle.schema_json_walk.specs.Parts.{open_record, action_attributes, external_not_bare}
use Rattle.schema_json_walk.specs.Walk.{itself, visit_where, of_entries}
use Rattle.schema_json_walk.specs.Walk.{at_context, of_type, of_variant, of_record, of_attribute, of_context}
use Rattle.schema_json_walk.specs.Walk.{of_kind, of_entity, of_common, of_apply, of_uid, of_uids}
use Rattle.schema_json_walk.specs.Walk.{of_action, of_namespace, of_entry, of_fragment, fragment_parts}
use Rattle.schema_json_walk.proofs.Layers.{type_walked, reference_walked, string_walked, long_walked, boolean_walked}
use Rattle.schema_json_walk.proofs.Layers.{set_walked}
use Rattle.schema_json_walk.proofs.Layers.{variant_walked, entity_walked, either_walked, extension_walked}
use Rattle.schema_json_walk.proofs.Layers.{record_walked, attribute_walked}

-- of a list, each item's
pub each_by_parts : {A P U : Type 0} (visit : P → List U) (f : A → List U) (g : A → List P)
    → ((a : A) → f a ≡ flat_map visit (g a)) → (xs : List A) → flat_map f xs ≡ flat_map visit (flat_map g xs)
each_by_parts visit f g same [] = refl
each_by_parts visit f g same (x ∷ xs) =
    (λ i. same x i ++ each_by_parts visit f g same xs i) ∙ sym (flat_map-append visit (g x) (flat_map g xs))

option_by_parts : {A P U : Type 0} (visit : P → List U) (f : A → List U) (g : A → List P)
    → ((a : A) → f a ≡ flat_map visit (g a)) → (o : Option A)
    → option_map_or f o [] ≡ flat_map visit (option_map_or g o [])
option_by_parts visit f g same None = refl
option_by_parts visit f g same (Some a) = same a

both_by_parts : {P U : Type 0} (visit : P → List U) (a b : List U) (p q : List P)
    → a ≡ flat_map visit p → b ≡ flat_map visit q → a ++ b ≡ flat_map visit (p ++ q)
both_by_parts visit a b p q h k = (λ i. h i ++ k i) ∙ sym (flat_map-append visit p q)

-- of what is made of a part, what is made of the part
as_inside : {P U : Type 0} (visit : P → List U) {a b : List U} {p q : List P} → a ≡ b → p ≡ q → b ≡ flat_map visit q
    → a ≡ flat_map visit p
as_inside visit e f h = e ∙ h ∙ ap (flat_map visit) (sym f)

module _ {N U : Type 0} (visit : Part N → List U) where
  pub one_by_parts : (p : Part N) → visit p ≡ flat_map visit (itself p)
  one_by_parts p = sym (append-nil (visit p))

  where_by_parts : (there : Bool) (p : Part N) → visit_where visit there p ≡ flat_map visit (visit_where itself there p)
  where_by_parts true p = one_by_parts p
  where_by_parts false p = refl

  abbrev P : «Type» N → Type 0
  P t = of_type visit t ≡ flat_map visit (of_type itself t)

  abbrev P1 : TypeVariant N → Type 0
  P1 v = of_variant visit v ≡ flat_map visit (of_variant itself v)

  abbrev P2 : RecordType N → Type 0
  P2 r = of_record visit r ≡ flat_map visit (of_record itself r)

  abbrev P3 : TypeOfAttribute N → Type 0
  P3 a = of_attribute visit a ≡ flat_map visit (of_attribute itself a)

  entries_by_parts : (es : List (List ℕ × TypeOfAttribute N)) → AllByRecursion (λ e. P3 e.1) es
      → of_entries visit es ≡ flat_map visit (of_entries itself es)
  entries_by_parts [] h = refl
  entries_by_parts (e ∷ es) h = both_by_parts visit _ _ _ _ h.0 (entries_by_parts es h.1)

  layers : Layers N P P1 P2 P3
  layers = record {
    variant = λ v loc h. as_inside visit (type_walked visit v loc) (type_walked itself v loc) h;
    reference = λ n loc.
        as_inside visit (reference_walked visit n loc) (reference_walked itself n loc) (one_by_parts _);
    string = as_inside visit (string_walked visit) (string_walked itself) refl;
    long = as_inside visit (long_walked visit) (long_walked itself) refl;
    boolean = as_inside visit (boolean_walked visit) (boolean_walked itself) refl;
    set = λ t h. as_inside visit (set_walked visit t) (set_walked itself t) h;
    fields = λ r h. as_inside visit (variant_walked visit r) (variant_walked itself r) h;
    entity = λ n. as_inside visit (entity_walked visit n) (entity_walked itself n) (one_by_parts _);
    either = λ n. as_inside visit (either_walked visit n) (either_walked itself n) (one_by_parts _);
    extension = λ id. as_inside visit (extension_walked visit id) (extension_walked itself id) (one_by_parts _);
    entries = λ r h. as_inside visit (record_walked visit r) (record_walked itself r)
        (both_by_parts visit _ _ _ _ (where_by_parts (is_open r) open_record)
        (entries_by_parts (attributes_of r) h));
    attribute = λ a h. as_inside visit (attribute_walked visit a) (attribute_walked itself a) h;
  }

  pub type_by_parts : (t : «Type» N) → P t
  type_by_parts = each_type N P P1 P2 P3 layers

  pub variant_by_parts : (v : TypeVariant N) → P1 v
  variant_by_parts = each_variant N P P1 P2 P3 layers

  pub context_by_parts : (c : AttributesOrContext N) → of_context visit c ≡ flat_map visit (of_context itself c)
  context_by_parts c = go (out-Type N c.0)
    where
      go : (ty : Type-F N («Type» N) (TypeVariant N) (RecordType N) (TypeOfAttribute N))
          → at_context visit ty ≡ flat_map visit (at_context itself ty)
      go (Type-F.Variant v loc) = variant_by_parts v
      go (Type-F.CommonTypeRef n loc) = one_by_parts (context_reference n)

  named_by_parts : (part : N → Part N) (names : List N)
      → flat_map (λ name. visit (part name)) names ≡ flat_map visit (flat_map (λ name. itself (part name)) names)
  named_by_parts part = each_by_parts visit (λ name. visit (part name)) (λ name. itself (part name))
      (λ name. one_by_parts (part name))

  kind_by_parts : (k : EntityTypeKind N) → of_kind visit k ≡ flat_map visit (of_kind itself k)
  kind_by_parts (Standard s) =
      both_by_parts visit _ _ _ _ (named_by_parts _ s.member_of_types)
      (both_by_parts visit _ _ _ _ (type_by_parts s.shape.0)
      (option_by_parts visit (of_type visit) (of_type itself) type_by_parts s.tags))
  kind_by_parts (Enum choices) = refl

  pub entity_by_parts : (e : EntityType N) → of_entity visit e ≡ flat_map visit (of_entity itself e)
  entity_by_parts e = both_by_parts visit _ _ _ _ (where_by_parts _ external_not_bare) (kind_by_parts e.kind)

  pub apply_by_parts : (s : ApplySpec N) → of_apply visit s ≡ flat_map visit (of_apply itself s)
  apply_by_parts s =
      both_by_parts visit _ _ _ _ (named_by_parts _ s.principal_types)
      (both_by_parts visit _ _ _ _ (named_by_parts _ s.resource_types) (context_by_parts s.context))

  module _ {G : named.Ghosts N} where
    uids_by_parts : (uids : List (ActionEntityUID N G)) → of_uids visit uids ≡ flat_map visit (of_uids itself uids)
    uids_by_parts = each_by_parts visit (of_uid visit) (of_uid itself)
        (λ uid. one_by_parts (action_parent uid.id uid.ty))

    pub action_by_parts : (a : ActionType N G) → of_action visit a ≡ flat_map visit (of_action itself a)
    action_by_parts a =
        both_by_parts visit _ _ _ _ (where_by_parts _ external_not_bare)
        (both_by_parts visit _ _ _ _ (option_by_parts visit (λ names. visit (action_attributes names))
        (λ names. itself (action_attributes names)) (λ names. one_by_parts (action_attributes names)) a.attributes)
        (both_by_parts visit _ _ _ _ (option_by_parts visit (of_uids visit) (of_uids itself) uids_by_parts a.member_of)
        (option_by_parts visit (of_apply visit) (of_apply itself) apply_by_parts a.applies_to)))

    pub namespace_by_parts : (n : NamespaceDefinition N G)
        → of_namespace visit n ≡ flat_map visit (of_namespace itself n)
    namespace_by_parts n =
        both_by_parts visit _ _ _ _ (each_by_parts visit (λ e. of_common visit e.1) (λ e. of_common itself e.1)
        (λ e. type_by_parts e.1.ty) n.common_types)
        (both_by_parts visit _ _ _ _ (each_by_parts visit (λ e. of_entity visit e.1) (λ e. of_entity itself e.1)
        (λ e. entity_by_parts e.1) n.entity_types)
        (each_by_parts visit (λ e. of_action visit e.1) (λ e. of_action itself e.1)
        (λ e. action_by_parts e.1) n.actions))

placed_by_parts : {Ns P U : Type 0} (visit : Ns → P → List U) (ns : Ns) (ps : List P)
    → flat_map (visit ns) ps ≡ flat_map (λ e. visit e.0 e.1)
    (flat_map (λ part. let q : Ns × P = (ns, part) in q ∷ []) ps)
placed_by_parts visit ns [] = refl
placed_by_parts visit ns (p ∷ ps) = ap (λ l. visit ns p ++ l) (placed_by_parts visit ns ps)

pub fragment_by_parts : {N U : Type 0} {G : named.Ghosts N} (visit : Option Name → Part N → List U) (f : Fragment N G)
    → of_fragment visit f ≡ flat_map (λ e. visit e.0 e.1) (fragment_parts f)
fragment_by_parts {N} visit f =
    each_by_parts (λ (e : Option Name × Part N). visit e.0 e.1) (of_entry visit)
    (of_entry (λ ns part. let q : Option Name × Part N = (ns, part) in q ∷ []))
    (λ e. namespace_by_parts (visit e.0) e.1 ∙ placed_by_parts visit e.0 _
    ∙ ap (flat_map (λ (d : Option Name × Part N). visit d.0 d.1))
    (sym (namespace_by_parts (λ part. let q : Option Name × Part N = (e.0, part) in q ∷ []) e.1)))
    f.0
