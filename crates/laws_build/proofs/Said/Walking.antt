-- What a walk gives of types, entity types and actions that say what is written of a meaning.
use Rattle.std.proofs.Common.{◌≡◌, ℕ, Bool, true, false, not, ◌&&◌, List, [], ◌∷◌, ◌++◌, map, flat_map, Option, Some}
use Rattle.std.proofs.Common.{None, is_none, refl, sym, ap, ◌∙◌, subst}
use Rattle.std.specs.BTreeMap.{is_at}
use Rattle.std.specs.List.{AllByRecursion}
use Rattle.std.specs.List.Sorted.{IsStrictlySortedBy}
use Rattle.std.specs.Map.{lookup, keys_of}
use Rattle.std.specs.Option.{option_map, option_map_or}
use Rattle.std.proofs.lemmas.Map.Keys.{sorted_head, sorted_tail}
use Rattle.std.proofs.lemmas.Option.{same_Some}
use Rattle.cedar_data.specs.Span.{Span}
use Rattle.cedar_data.specs.Text.{text_cmp}
use Rattle.cedar_identifiers.specs.Names.{components_of}
use Rattle.cedar_identifiers.specs.declared.internal_name.InternalName.{InternalName}
use Rattle.cedar_identifiers.specs.declared.raw_name.RawName.{RawName}
use Rattle.cedar_identifiers.specs.declared.reference_type.ReferenceType.{ReferenceType}
use Rattle.cedar_identifiers.specs.declared.reference_type.ReferenceType.TheVariants.{CommonOrEntity}
use Rattle.cedar_names.specs.Meaning.{PlainType, Attributes, EntityMeaning, ActionMeaning}
use Rattle.cedar_names.specs.Meaning as meant
use Rattle.schema_json.specs.Shapes.{attributes_of, is_open, is_empty_type}
use Rattle.schema_json.specs.Shapes.{has_none, is_empty_shape, is_empty_outside}
use Rattle.schema_json.specs.declared.types.Type.{«Type», Type-F, out-Type, out-roll-Type}
use Rattle.schema_json.specs.declared.types.Type.TheVariants as shape
use Rattle.schema_json.specs.declared.types.TypeVariant.{TypeVariant, TypeVariant-F, out-TypeVariant}
use Rattle.schema_json.specs.declared.types.TypeVariant.{out-roll-TypeVariant}
use Rattle.schema_json.specs.declared.types.TypeVariant.TheVariants as variant
use Rattle.schema_json.specs.declared.types.RecordType.{RecordType}
use Rattle.schema_json.specs.declared.types.TypeOfAttribute.{TypeOfAttribute, out-TypeOfAttribute}
use Rattle.schema_json.specs.declared.entity_type.AttributesOrContext.{AttributesOrContext}
use Rattle.schema_json.specs.declared.entity_type.EntityType.{EntityType}
use Rattle.schema_json.specs.declared.entity_type.EntityTypeKind.{EntityTypeKind}
use Rattle.schema_json.specs.declared.entity_type.EntityTypeKind.TheVariants.{Standard, Enum}
use Rattle.schema_json.specs.declared.action_type.ActionEntityUID.{ActionEntityUID}
use Rattle.schema_json.specs.declared.action_type.ActionType.{ActionType}
use Rattle.schema_json.specs.declared.action_type.ApplySpec.{ApplySpec}
use Rattle.schema_json.specs.AsWritten.{as_written}
use Rattle.laws_written.specs.Meant.{type_of_meaning, attributes_of_meaning, tags_of_meaning, entity_as}
use Rattle.laws_written.specs.Meant.{ref_of_meaning, members_of_meaning, action_as}
use Rattle.laws_written.specs.Written.{WrittenRef}
use Rattle.laws_translate.specs.DeclarationsSay.{written_paths, TagsSay, KindSays, written_ref, ParentsSay, SpecSays}
use Rattle.laws_translate.specs.DeclarationsSay.{members_said, AppliesSay}
use Rattle.laws_translate.specs.TypesSay.{TypeSays, AttributeSays}
use Rattle.schema_json_walk.specs.Bare.{is_bare_kind}
use Rattle.schema_json_walk.specs.Parts.{Part, type_reference, parent, principal, resource, action_parent}
use Rattle.schema_json_walk.specs.Parts.{action_attributes, open_record, external_not_bare}
use Rattle.schema_json_walk.specs.Walk.{visit_where, at_context, of_type}
use Rattle.schema_json_walk.specs.Walk.{of_variant, of_attribute, of_entries, of_context, of_parents, of_principals}
use Rattle.schema_json_walk.specs.Walk.{of_resources, of_kind, of_entity, of_apply, of_uid, of_uids, of_action}
use Rattle.schema_json_walk.proofs.Layers.{record_walked, variant_walked, attribute_walked}
use Rattle.schema_json_walk.proofs.Layers.{type_walked, either_walked, set_walked}
use Rattle.schema_build_expand.specs.Scope.{Scope}
use Rattle.laws_build.specs.Closure.Kinds.{HasBothOrNeither, AppliesWhereOwn}
use Rattle.laws_build.specs.Closure.Ordered.{meant_names, IsOrderedType, AreOrderedTypes}
use Rattle.laws_build.proofs.Closure.Bare.{alike_type, alike_record}
use Rattle.laws_build.specs.Said.Entries.{TagsMeanThemselves}
use Rattle.laws_build.specs.Said.Themselves.{MeansItself, MeanThemselves}
use Rattle.laws_build.proofs.Said.EntryMeans.{nothing_rises}
use Rattle.laws_build.proofs.Said.Expanding.{Entry, same_first, first_said, others_say, not_some, at_head}
use Rattle.laws_build.proofs.Said.Members.{IsIn, map_to, in_map, all_in, flat_nothing, append_nothing}

module _ {U : Type 0} (visit : Part RawName → List U) where
  pub closed_walked : (r : RecordType RawName) → is_open r ≡ false → of_entries visit (attributes_of r) ≡ []
      → of_variant visit (variant.Record r) ≡ []
  closed_walked r closed none =
      variant_walked visit r ∙ (record_walked visit r
      ∙ append_nothing (visit_where visit (is_open r) open_record) (of_entries visit (attributes_of r))
      (ap (λ b. visit_where visit b open_record) closed) none)

  -- a context that is no reference is walked as a type
  pub context_walked : (c : AttributesOrContext RawName) (v : TypeVariant RawName) (loc : Option Span)
      → c.0 ≡ shape.Variant v loc → of_context visit c ≡ of_variant visit v
  context_walked c v loc e =
      ap (λ t. at_context visit (out-Type RawName t)) (e ∙ sym (shape.rolls-Variant v loc))
      ∙ ap (at_context visit) (out-roll-Type RawName (Type-F.Variant v loc))

  module _ (s : Scope RawName) (ns : Option InternalName)
      (types : (n : RawName) (r : List (List ℕ) × ReferenceType) → s.means ns CommonOrEntity n ≡ Some r
      → visit (type_reference CommonOrEntity n) ≡ []) where
    named_walked : (t : «Type» RawName) (n : RawName) (loc : Option Span) (r : List (List ℕ) × ReferenceType)
        → t ≡ shape.Variant (variant.EntityOrCommon n) loc → s.means ns CommonOrEntity n ≡ Some r → of_type visit t ≡ []
    named_walked t n loc r e h = ap (of_type visit) e ∙ (type_walked visit (variant.EntityOrCommon n) loc
        ∙ (either_walked visit n ∙ types n r h))

    mutual
      pub type_gives : (p : PlainType) (t : «Type» RawName) → TypeSays t (type_of_meaning p) → MeansItself s ns p
          → IsOrderedType p → of_type visit t ≡ []
      type_gives PlainType.Bool t (n, loc, e, c) h o = named_walked t n loc _ e (h.0 n c)
      type_gives PlainType.Long t (n, loc, e, c) h o = named_walked t n loc _ e (h.0 n c)
      type_gives PlainType.String t (n, loc, e, c) h o = named_walked t n loc _ e (h.0 n c)
      type_gives (PlainType.Ext w) t (n, loc, e, c) h o = named_walked t n loc _ e (h.0.0 n c)
      type_gives (PlainType.Entity name) t (n, loc, e, c) h o = named_walked t n loc _ e (h n c)
      type_gives (PlainType.Set p) t (x, loc, e, says) h o =
          ap (of_type visit) e ∙ (type_walked visit (variant.Set x) loc
          ∙ (set_walked visit x ∙ type_gives p x says h o))
      type_gives (PlainType.Rec xs) t (r, loc, e, closed, up, each) h o =
          ap (of_type visit) e ∙ (type_walked visit (variant.Record r) loc
          ∙ closed_walked r closed (entries_give xs (attributes_of r) up each h o.0 o.1))

      entries_give : (xs : Attributes) (es : List Entry) → IsStrictlySortedBy text_cmp (keys_of es)
          → ((k : List ℕ) → AttributeSays k (lookup (is_at (text_cmp k)) es) (attributes_of_meaning xs))
          → MeanThemselves s ns xs → IsStrictlySortedBy text_cmp (meant_names xs) → AreOrderedTypes xs
          → of_entries visit es ≡ []
      entries_give meant.no_more [] up says h names o = refl
      entries_give meant.no_more (e ∷ es) up says h names o = not_some e.1 (sym (at_head e es) ∙ says e.0)
      entries_give (meant.attribute n r p xs) [] up says h names o =
          let f = first_said n r p xs None (sorted_head text_cmp n (meant_names xs) names) (says n) in
          not_some f.0 (sym f.1)
      entries_give (meant.attribute n r p xs) (e ∷ es) up says h names o =
          let above = sorted_head text_cmp e.0 (keys_of es) up in
          let behind = sorted_head text_cmp n (meant_names xs) names in
          let same = same_first e es n r p xs above behind says in
          let f = first_said n r p xs (lookup (is_at (text_cmp n)) (e ∷ es)) behind (says n) in
          let is : f.0 ≡ e.1 = same_Some f.0 e.1
          (sym f.1 ∙ (ap (λ k. lookup (is_at (text_cmp k)) (e ∷ es)) (sym same) ∙ at_head e es)) in
          let said : TypeSays (out-TypeOfAttribute RawName e.1).ty (type_of_meaning p) =
          subst (λ a. TypeSays (out-TypeOfAttribute RawName a).ty (type_of_meaning p)) is f.2 in
          append_nothing (of_attribute visit e.1) (of_entries visit es)
          (attribute_walked visit e.1 ∙ type_gives p (out-TypeOfAttribute RawName e.1).ty said h.0 o.0)
          (entries_give xs es (sorted_tail text_cmp e.0 (keys_of es) up)
          (others_say e es n r p xs same above behind says) h.1 (sorted_tail text_cmp n (meant_names xs) names) o.1)

    tags_give : (tags : Option («Type» RawName)) (p : Option PlainType) → TagsSay tags (tags_of_meaning p)
        → TagsMeanThemselves s ns p → option_map_or (of_type visit) tags [] ≡ []
    tags_give None p says h = refl
    tags_give (Some t) None says h = absurd says
    tags_give (Some t) (Some p) says h = type_gives p t says h.1 h.0

    context_gives : (c : AttributesOrContext RawName) (xs : Attributes)
        → TypeSays c.0 (type_of_meaning (PlainType.Rec xs)) → MeanThemselves s ns xs
        → IsOrderedType (PlainType.Rec xs) → of_context visit c ≡ []
    context_gives c xs (r, loc, e, closed, up, each) h o =
        context_walked c (variant.Record r) loc e
        ∙ closed_walked r closed (entries_give xs (attributes_of r) up each h o.0 o.1)

  -- names that are written, each of which gives nothing
  pub names_give : (part : RawName → Part RawName) (P : List (List ℕ) → Type 0)
      → ((n : RawName) → P (components_of n.name) → visit (part n) ≡ []) → (names : List RawName)
      → (paths : List (List (List ℕ))) → written_paths names ≡ paths → AllByRecursion P paths
      → flat_map (λ n. visit (part n)) names ≡ []
  names_give part P none names paths same all = flat_nothing (λ n. visit (part n)) names
      (λ n h. none n (all_in P paths (components_of n.name) all
      (subst (IsIn (components_of n.name)) same (map_to (λ (x : RawName). components_of x.name) names n h))))

no_entries : (es : List (List ℕ × TypeOfAttribute RawName))
    → ((k : List ℕ) → lookup (is_at (text_cmp k)) es ≡ None) → has_none es ≡ true
no_entries [] h = refl
no_entries (e ∷ es) h = not_some e.1 (sym (at_head e es) ∙ h e.0)

empty_said : (t : «Type» RawName) → TypeSays t (type_of_meaning (PlainType.Rec meant.no_more)) → is_empty_type t ≡ true
empty_said t (r, loc, e, closed, up, each) =
    ap is_empty_type e
    ∙ (alike_type (shape.Variant (variant.Record r) loc)
    ∙ (ap (λ x. is_empty_outside (out-Type RawName x)) (sym (shape.rolls-Variant (variant.Record r) loc))
    ∙ (ap is_empty_outside (out-roll-Type RawName (Type-F.Variant (variant.Record r) loc))
    ∙ (ap (λ x. is_empty_shape (out-TypeVariant RawName x)) (sym (variant.rolls-Record r))
    ∙ (ap is_empty_shape (out-roll-TypeVariant RawName (TypeVariant-F.Record r))
    ∙ (alike_record r ∙ (λ i. no_entries (attributes_of r) each i && not (closed i))))))))

module _ {U : Type 0} (visit : Part RawName → List U) (s : Scope RawName) (ns : Option InternalName)
    (types : (n : RawName) (r : List (List ℕ) × ReferenceType) → s.means ns CommonOrEntity n ≡ Some r
    → visit (type_reference CommonOrEntity n) ≡ []) where
  module _ (P : List (List ℕ) → Type 0) (parents : (n : RawName) → P (components_of n.name) → visit (parent n) ≡ [])
      (e : EntityMeaning) (ancestors : AllByRecursion P e.ancestors)
      (ordered : IsOrderedType (PlainType.Rec e.attributes))
      (attributes : MeanThemselves s ns e.attributes) (tags : TagsMeanThemselves s ns e.tags) where
    kind_gives : (x : Bool) (k : EntityTypeKind RawName) (external : Bool) (choices : Option (List (List ℕ)))
        → KindSays x k (entity_as external choices e)
        → visit_where visit (x && not (is_bare_kind k)) external_not_bare ++ of_kind visit k ≡ []
    kind_gives x (Standard d) true choices h =
        let bare : is_bare_kind (Standard d) ≡ true = λ i. empty_said d.shape.0 h.2 i && is_none (h.3 i) in
        append_nothing (visit_where visit (x && not (is_bare_kind (Standard d))) external_not_bare)
        (of_kind visit (Standard d))
        (λ i. visit_where visit (h.0 i && not (bare i)) external_not_bare)
        (append_nothing (of_parents visit d.member_of_types) _
        (names_give visit (λ n. parent n) P parents d.member_of_types e.ancestors h.1 ancestors)
        (append_nothing (of_type visit d.shape.0) (option_map_or (of_type visit) d.tags [])
        (type_gives visit s ns types (PlainType.Rec meant.no_more) d.shape.0 h.2 tt (nothing_rises, tt))
        (ap (λ o. option_map_or (of_type visit) o []) h.3)))
    kind_gives x (Enum ids) true choices h = absurd h
    kind_gives x (Standard d) false None h =
        append_nothing (visit_where visit (x && not (is_bare_kind (Standard d))) external_not_bare)
        (of_kind visit (Standard d))
        (ap (λ b. visit_where visit (b && not (is_bare_kind (Standard d))) external_not_bare) h.0)
        (append_nothing (of_parents visit d.member_of_types) _
        (names_give visit (λ n. parent n) P parents d.member_of_types e.ancestors h.1 ancestors)
        (append_nothing (of_type visit d.shape.0) (option_map_or (of_type visit) d.tags [])
        (type_gives visit s ns types (PlainType.Rec e.attributes) d.shape.0 h.2 attributes ordered)
        (tags_give visit s ns types d.tags e.tags h.3 tags)))
    kind_gives x (Enum ids) false None h = absurd h
    kind_gives x (Standard d) false (Some cs) h = absurd h
    kind_gives x (Enum ids) false (Some cs) h =
        append_nothing (visit_where visit (x && not (is_bare_kind {N = RawName} (Enum ids))) external_not_bare)
        (of_kind visit (Enum ids))
        (ap (λ b. visit_where visit (b && not (is_bare_kind {N = RawName} (Enum ids))) external_not_bare) h.0) refl

    pub entity_gives : (d : EntityType RawName) → KindSays d.external d.kind (entity_as e.is_external e.choices e)
        → of_entity visit d ≡ []
    entity_gives d h = kind_gives d.external d.kind e.is_external e.choices h

  module _ (P : List (List ℕ) → Type 0) (Q : List (List ℕ) × List ℕ → Type 0)
      (principals : (n : RawName) → P (components_of n.name) → visit (principal n) ≡ [])
      (resources : (n : RawName) → P (components_of n.name) → visit (resource n) ≡ [])
      (above : (id : List ℕ) (ty : Option RawName) (k : List (List ℕ) × List ℕ) → Q k
      → option_map (λ (n : RawName). components_of n.name) ty ≡ Some k.0 → id ≡ k.1 → visit (action_parent id ty) ≡ [])
      (a : ActionMeaning) (ancestors : AllByRecursion Q a.ancestors) (named_principals : AllByRecursion P a.principals)
      (named_resources : AllByRecursion P a.resources) (ordered : IsOrderedType (PlainType.Rec a.context))
      (context : MeanThemselves s ns a.context) (applies : AppliesWhereOwn a.is_external a) where
    abbrev Reference : Type 0
    Reference = ActionEntityUID RawName as_written

    uids_give : (uids : List Reference) (targets : List (List (List ℕ) × List ℕ))
        → map written_ref uids ≡ map ref_of_meaning targets → AllByRecursion Q targets → of_uids visit uids ≡ []
    uids_give uids targets same all = flat_nothing (of_uid visit) uids (λ u h.
        let o = in_map ref_of_meaning targets (written_ref u)
        (subst (IsIn (written_ref u)) same (map_to written_ref uids u h)) in
        above u.id u.ty o.0 (all_in Q targets o.0 all o.1) (ap (λ (r : WrittenRef). r.ty) o.2)
        (ap (λ (r : WrittenRef). r.id) o.2))

    parents_give : (uids : Option (List Reference)) (targets : List (List (List ℕ) × List ℕ))
        → ParentsSay uids (map ref_of_meaning targets) → AllByRecursion Q targets
        → option_map_or (of_uids visit) uids [] ≡ []
    parents_give None [] says all = refl
    parents_give None (k ∷ ks) says all = absurd says
    parents_give (Some uids) [] says all = absurd says
    parents_give (Some uids) (k ∷ ks) says all = uids_give uids (k ∷ ks) says all

    spec_gives : (d : ApplySpec RawName) (ps rs : List (List (List ℕ))) (c : Attributes)
        → SpecSays d (members_said (members_of_meaning ps rs c)) → HasBothOrNeither ps rs c → AllByRecursion P ps
        → AllByRecursion P rs → MeanThemselves s ns c → IsOrderedType (PlainType.Rec c) → of_apply visit d ≡ []
    spec_gives d [] [] c h both all others means o =
        append_nothing (of_principals visit d.principal_types) _
        (names_give visit (λ n. principal n) P principals d.principal_types [] h.0 tt)
        (append_nothing (of_resources visit d.resource_types) (of_context visit d.context)
        (names_give visit (λ n. resource n) P resources d.resource_types [] h.1 tt)
        (context_gives visit s ns types d.context meant.no_more h.2 tt (nothing_rises, tt)))
    spec_gives d [] (r ∷ rs) c h both all others means o = absurd both
    spec_gives d (p ∷ ps) [] c h both all others means o = absurd both
    spec_gives d (p ∷ ps) (r ∷ rs) c h both all others means o =
        append_nothing (of_principals visit d.principal_types) _
        (names_give visit (λ n. principal n) P principals d.principal_types (p ∷ ps) h.0 all)
        (append_nothing (of_resources visit d.resource_types) (of_context visit d.context)
        (names_give visit (λ n. resource n) P resources d.resource_types (r ∷ rs) h.1 others)
        (context_gives visit s ns types d.context c h.2 means o))

    applied_gives : (x : Bool) (spec : Option (ApplySpec RawName)) (uids : Option (List Reference))
        (names : Option (List (List ℕ))) (external : Bool) → names ≡ None
        → AppliesSay x spec uids (action_as external a)
        → AppliesWhereOwn external a
        → visit_where visit (x && not (is_none names && is_none spec)) external_not_bare
        ++ (option_map_or (λ n. visit (action_attributes n)) names []
        ++ (option_map_or (of_uids visit) uids [] ++ option_map_or (of_apply visit) spec [])) ≡ []
    applied_gives x None uids names true none h own =
        let spec : Option (ApplySpec RawName) = None in
        append_nothing (visit_where visit (x && not (is_none names && is_none spec)) external_not_bare) _
        (λ i. visit_where visit (h.0 i && not (is_none (none i) && is_none spec)) external_not_bare)
        (append_nothing (option_map_or (λ n. visit (action_attributes n)) names []) _
        (ap (λ n. option_map_or (λ l. visit (action_attributes l)) n []) none)
        (append_nothing (option_map_or (of_uids visit) uids []) [] (parents_give uids a.ancestors h.1 ancestors) refl))
    applied_gives x (Some d) uids names true none h own = absurd h
    applied_gives x None uids names false none h own = absurd h
    applied_gives x (Some d) uids names false none h own =
        append_nothing (visit_where visit (x && not (is_none names && is_none (Some d))) external_not_bare) _
        (ap (λ b. visit_where visit (b && not (is_none names && is_none (Some d))) external_not_bare) h.0)
        (append_nothing (option_map_or (λ n. visit (action_attributes n)) names []) _
        (ap (λ n. option_map_or (λ l. visit (action_attributes l)) n []) none)
        (append_nothing (option_map_or (of_uids visit) uids []) (of_apply visit d)
        (parents_give uids a.ancestors h.1 ancestors)
        (spec_gives d a.principals a.resources a.context h.2 own named_principals named_resources context ordered)))

    pub action_gives : (d : ActionType RawName as_written) → d.attributes ≡ None
        → AppliesSay d.external d.applies_to d.member_of (action_as a.is_external a) → of_action visit d ≡ []
    action_gives d none h = applied_gives d.external d.applies_to d.member_of d.attributes a.is_external none h applies
