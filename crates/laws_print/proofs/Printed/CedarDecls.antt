-- What is written of a declaration, it says in the form that its text has.
use Rattle.std.proofs.Common.{◌≡◌, ℕ, Bool, true, false, List, [], ◌∷◌, map, Option, Some, None, option_map, refl, sym}
use Rattle.std.proofs.Common.{ap, ◌∙◌, subst}
use Rattle.std.specs.BTreeMap.{is_at}
use Rattle.std.specs.List.Sorted.{IsStrictlySortedBy}
use Rattle.std.specs.Map.{lookup, keys_of}
use Rattle.std.proofs.lemmas.Option.{same_Some}
use Rattle.cedar_data.specs.Span.{Span}
use Rattle.cedar_data.specs.Text.{text_cmp}
use Rattle.cedar_data.proofs.Orders.{nothing_rises}
use Rattle.cedar_identifiers.specs.Names.{components_of}
use Rattle.cedar_identifiers.specs.declared.raw_name.RawName.{RawName}
use Rattle.cedar_identifiers.specs.declared.unreserved_id.UnreservedId.{UnreservedId}
use Rattle.schema_syntax_tree.specs.declared.pr.PR.TheVariants.{Principal, Resource}
use Rattle.schema_json.specs.Shapes.{empty_record, record_type}
use Rattle.schema_json.specs.declared.types.Type.{«Type», Type-F, out-Type}
use Rattle.schema_json.specs.declared.types.TypeVariant.{TypeVariant}
use Rattle.schema_json.specs.declared.types.RecordType.{RecordType, RecordType-F, out-roll-RecordType}
use Rattle.schema_json.specs.declared.types.TypeOfAttribute.{TypeOfAttribute}
use Rattle.schema_json.specs.declared.common_type.CommonType.{CommonType}
use Rattle.schema_json.specs.declared.common_type.CommonTypeId.{CommonTypeId}
use Rattle.schema_json.specs.declared.entity_type.EntityType.{EntityType}
use Rattle.schema_json.specs.declared.entity_type.EntityTypeKind.{EntityTypeKind}
use Rattle.schema_json.specs.declared.entity_type.EntityTypeKind.TheVariants.{Standard, Enum}
use Rattle.schema_json.specs.declared.action_type.ActionEntityUID.{ActionEntityUID}
use Rattle.schema_json.specs.declared.action_type.ActionType.{ActionType}
use Rattle.schema_json.specs.declared.action_type.ApplySpec.{ApplySpec}
use Rattle.schema_json.specs.AsWritten.{as_written}
use Rattle.laws_written.specs.Written.{WrittenType, WrittenAttributes, path, set, rec, no_more, WrittenRef}
use Rattle.laws_written.specs.Written.{WrittenMember, types, context_path, context_record, WrittenDecl, common}
use Rattle.laws_written.specs.Written.{WrittenDeclared}
use Rattle.laws_translate.specs.TypesSay.{TypeSays}
use Rattle.laws_translate.specs.DeclarationsSay.{written_paths, TagsSay, KindSays, EntitySays, CommonIs, CommonSays}
use Rattle.laws_translate.specs.DeclarationsSay.{ContextSays, SpecSays, members_said, written_ref, ParentsSay}
use Rattle.laws_translate.specs.DeclarationsSay.{AppliesSay}
use Rattle.laws_translate.specs.DeclarationsSay.{ActionSays}
use Rattle.laws_translate.specs.FragmentsSay.{entities_of_decl, actions_of_decl, commons_of_decl}
use Rattle.schema_print_text.specs.PrintedTypes.{type_layer, variant_layer, record_layer, attribute_layer}
use Rattle.schema_print.specs.PrintedFragments.{paths_of_names, parent_type, printed_parent, printed_parents}
use Rattle.schema_print.specs.FragmentGroups.{ContextAs, TargetsAs, KindAs, EntityAs, CommonAs, SpecAs, AppliedAs}
use Rattle.schema_print.specs.FragmentGroups.{ActionAs}
use Rattle.laws_print.specs.Printed.CedarForm.{cedar_type, cedar_outside, cedar_context, cedar_common, cedar_kind}
use Rattle.laws_print.specs.Printed.CedarForm.{cedar_entity, cedar_parent, cedar_parents, cedar_spec, applied_to_none}
use Rattle.laws_print.specs.Printed.CedarForm.{cedar_applies, cedar_action}
use Rattle.laws_print.specs.Printed.Textual.{components_written, IsTextualType, AreTextualTags, IsBareType}
use Rattle.laws_print.specs.Printed.Textual.{IsTextualKind}
use Rattle.laws_print.specs.Printed.Textual.{IsWrittenRecord, IsTextualOutside, AreTargets, AppliesAsText}
use Rattle.laws_print.proofs.Printed.CedarTypes.{printed, view, type_says, textual_says, path_is}
use Rattle.laws_print.proofs.Printed.Folds.{Outer, type_made, name_bytes}

paths_bytes : (ns : List RawName) → paths_of_names components_written ns ≡ written_paths ns
paths_bytes [] = refl
paths_bytes (n ∷ ns) =
    let first = name_bytes n.name in
    let others = paths_bytes ns in
    λ i. first i ∷ others i

bare_says : (s : «Type» RawName) → IsBareType s → TypeSays (cedar_type s) (rec no_more)
bare_says s h = type_says (rec no_more) s (view s) h.1 h.0 (nothing_rises text_cmp, tt)

-- the names that a declaration gives
pub record NamesOf (d : WrittenDecl) (commons entities actions : List (List ℕ)) : Type 0 where
  pub of_commons : commons_of_decl d ≡ commons
  pub of_entities : entities_of_decl d ≡ entities
  pub of_actions : actions_of_decl d ≡ actions

names_at : (d e : WrittenDecl) (commons entities actions : List (List ℕ)) → d ≡ e
    → NamesOf e commons entities actions → NamesOf d commons entities actions
names_at d e commons entities actions h n = subst (λ x. NamesOf x commons entities actions) (sym h) n

kind_names : (x : Bool) (k : EntityTypeKind RawName) (name : List ℕ) (d : WrittenDecl)
    → KindAs components_written x k name d → NamesOf d [] (name ∷ []) []
kind_names true (Standard e) name d h = names_at d _ [] (name ∷ []) [] h
    (record { of_commons = refl; of_entities = refl; of_actions = refl })
kind_names true (Enum ids) name d h = names_at d _ [] (name ∷ []) [] h
    (record { of_commons = refl; of_entities = refl; of_actions = refl })
kind_names false (Enum ids) name d h = names_at d _ [] (name ∷ []) [] h
    (record { of_commons = refl; of_entities = refl; of_actions = refl })
kind_names false (Standard e) name d (xs, same, h) =
    names_at d _ [] (name ∷ []) [] h (record { of_commons = refl; of_entities = refl; of_actions = refl })

tags_say : (tags : Option («Type» RawName)) → AreTextualTags tags
    → TagsSay (option_map cedar_type tags) (option_map printed tags)
tags_say None h = tt
tags_say (Some s) h = textual_says s h

kind_says : (x : Bool) (k : EntityTypeKind RawName) (name : List ℕ) (d : WrittenDecl)
    → KindAs components_written x k name d → IsTextualKind x k → KindSays x (cedar_kind k) d
kind_says true (Standard e) name d h p =
    subst (KindSays true (cedar_kind (Standard e))) (sym h)
    (refl, sym (paths_bytes e.member_of_types), bare_says e.shape.0 p.0, ap (option_map cedar_type) p.1)
kind_says true (Enum ids) name d h p = absurd p
kind_says false (Enum ids) name d h p = subst (KindSays false (Enum ids)) (sym h) (refl, refl)
kind_says false (Standard e) name d (xs, same, h) p =
    subst (KindSays false (cedar_kind (Standard e))) (sym h) (
      refl,
      sym (paths_bytes e.member_of_types),
      subst (TypeSays (cedar_type e.shape.0)) same (textual_says e.shape.0 p.0),
      tags_say e.tags p.1,
    )

abbrev pub EntityEntry : Type 0
EntityEntry = UnreservedId × EntityType RawName

pub entity_names : (p : EntityEntry) (d : WrittenDeclared) → EntityAs components_written p d
    → NamesOf d.decl [] (p.0.id.text ∷ []) []
entity_names p d h = kind_names p.1.external p.1.kind p.0.id.text d.decl h.1

pub entity_says : (p : EntityEntry) (d : WrittenDeclared) → EntityAs components_written p d
    → IsTextualKind p.1.external p.1.kind → EntitySays (cedar_entity p.1) d
entity_says p d h k = (sym h.0, kind_says p.1.external p.1.kind p.0.id.text d.decl h.1 k)

abbrev pub CommonEntry : Type 0
CommonEntry = CommonTypeId × CommonType RawName

pub common_names : (p : CommonEntry) (d : WrittenDeclared) → CommonAs components_written p d
    → NamesOf d.decl (p.0.id.id.text ∷ []) [] []
common_names p d h = names_at d.decl (common p.0.id.id.text (printed p.1.ty)) (p.0.id.id.text ∷ []) [] [] h.1
    (record { of_commons = refl; of_entities = refl; of_actions = refl })

pub common_says : (p : CommonEntry) (d : WrittenDeclared) → CommonAs components_written p d → IsTextualType p.1.ty
    → CommonSays (cedar_common p.1) d
common_says p d h k = (sym h.0, subst (CommonIs (cedar_type p.1.ty)) (sym h.1) (textual_says p.1.ty k))

-- actions
abbrev Reference : Type 0
Reference = ActionEntityUID RawName as_written

parent_type_is : (ty : Option RawName) → option_map (λ (n : RawName). components_of n.name)
    (cedar_parent (record { id = []; ty = ty; typed = refl })).ty ≡ Some (parent_type components_written ty)
parent_type_is None = refl
parent_type_is (Some n) = ap Some (sym (name_bytes n.name))

parent_says : (r : Reference) → written_ref (cedar_parent r) ≡ printed_parent components_written r
parent_says r = let ty = parent_type_is r.ty in λ i. record { ty = ty i; id = r.id }

all_parents_say : (rs : List Reference) → map written_ref (map cedar_parent rs) ≡ map
    (printed_parent components_written) rs
all_parents_say [] = refl
all_parents_say (r ∷ rs) =
    let first = parent_says r in
    let others = all_parents_say rs in
    λ i. first i ∷ others i

parents_say : (rs : Option (List Reference)) → ParentsSay (cedar_parents rs) (printed_parents components_written rs)
parents_say None = tt
parents_say (Some []) = tt
parents_say (Some (r ∷ rs)) = all_parents_say (r ∷ rs)

-- contexts
pub context_at : (s : «Type» RawName) (o : Outer) → out-Type RawName s ≡ o → cedar_context s ≡ cedar_outside o s
context_at s o e = ap (λ x. cedar_outside x s) e

pub common_printed : (s : «Type» RawName) (n : RawName) (loc : Option Span)
    → out-Type RawName s ≡ Type-F.CommonTypeRef n loc → printed s ≡ path (components_of n.name)
common_printed s n loc e =
    type_made (type_layer components_written) (variant_layer components_written) (record_layer components_written)
    (attribute_layer components_written) s (Type-F.CommonTypeRef n loc) e ∙ ap path (name_bytes n.name)

abbrev IsNoRecord : WrittenType → Type 0
IsNoRecord (path p) = Unit {0}
IsNoRecord (set t) = Unit {0}
IsNoRecord (rec xs) = ⊥

bare_context : (s : «Type» RawName) (o : Outer) → out-Type RawName s ≡ o → IsBareType s
    → TypeSays (cedar_context s) (rec no_more)
bare_context s (Type-F.Variant v loc) e h = subst (λ c. TypeSays c (rec no_more))
    (sym (context_at s (Type-F.Variant v loc) e)) (bare_says s h)
bare_context s (Type-F.CommonTypeRef n loc) e h = absurd (subst IsNoRecord (sym (common_printed s n loc e) ∙ h.1) tt)

-- the context says what the member says
context_says : (s : «Type» RawName) (o : Outer) → out-Type RawName s ≡ o → IsTextualOutside o s → (t : WrittenType)
    → printed s ≡ t → (m : WrittenMember) → ContextAs t m
    → ContextSays (cedar_context s) (m ∷ [])
context_says s (Type-F.Variant v loc) e h (path p) w m so = absurd (subst IsWrittenRecord w h.0)
context_says s (Type-F.Variant v loc) e h (set t) w m so = absurd so
context_says s (Type-F.Variant v loc) e h (rec xs) w m so =
    subst (λ x. ContextSays (cedar_context s) (x ∷ [])) (sym so)
    (subst (λ c. TypeSays c (rec xs)) (sym (context_at s (Type-F.Variant v loc) e))
    (subst (TypeSays (cedar_type s)) w (textual_says s h.1)))
context_says s (Type-F.CommonTypeRef n loc) e h (path p) w m so =
    subst (λ x. ContextSays (cedar_context s) (x ∷ [])) (sym so) (
      n,
      loc,
      context_at s (Type-F.CommonTypeRef n loc) e,
      path_is (components_of n.name) p (sym (common_printed s n loc e) ∙ w),
    )
context_says s (Type-F.CommonTypeRef n loc) e h (set t) w m so = absurd so
context_says s (Type-F.CommonTypeRef n loc) e h (rec xs) w m so =
    absurd (subst IsNoRecord (sym (common_printed s n loc e) ∙ w) tt)

-- an action that applies to nothing
empty_says : TypeSays (record_type empty_record) (rec no_more)
empty_says =
    let made : RecordType-F RawName («Type» RawName) (TypeVariant RawName) (RecordType RawName)
    (TypeOfAttribute RawName) = record { attributes = []; additional_attributes = false } in
    let back = out-roll-RecordType RawName made in
    let none =
    ap (λ (r : RecordType-F RawName («Type» RawName) (TypeVariant RawName) (RecordType RawName)
    (TypeOfAttribute RawName)). r.attributes) back in (
      empty_record,
      None,
      refl,
      ap (λ (r : RecordType-F RawName («Type» RawName) (TypeVariant RawName) (RecordType RawName)
          (TypeOfAttribute RawName)). r.additional_attributes) back,
      subst (λ es. IsStrictlySortedBy text_cmp (keys_of es)) (sym none) (nothing_rises text_cmp),
      λ name. ap (lookup (is_at (text_cmp name))) none,
    )

-- members: the principals, the resources and the context
members_say : (spec : ApplySpec RawName) (ps rs : List (List (List ℕ))) (m : WrittenMember)
    → written_paths spec.principal_types ≡ ps → written_paths spec.resource_types ≡ rs
    → (t : WrittenType) → ContextAs t m → ContextSays spec.context.0 (m ∷ [])
    → SpecSays spec (types Principal ps ∷ types Resource rs ∷ m ∷ [])
members_say spec ps rs (types role qs) p r (rec xs) so c = not_context role qs xs so
  where
    not_context : {X : Type 0} (role : _) (qs : List (List (List ℕ))) (xs : WrittenAttributes)
        → types role qs ≡ context_record xs → X
    not_context role qs xs h = cc
members_say spec ps rs (types role qs) p r (path q) so c = not_context role qs q so
  where
    not_context : {X : Type 0} (role : _) (qs : List (List (List ℕ))) (q : List (List ℕ))
        → types role qs ≡ context_path q → X
    not_context role qs q h = cc
members_say spec ps rs m p r (set t) so c = absurd so
members_say spec ps rs (context_path q) p r t so c = (p, r, c)
members_say spec ps rs (context_record xs) p r t so c = (p, r, c)

targets_say : (s : ApplySpec RawName) (principals resources : List RawName) → s.principal_types ≡ principals
    → s.resource_types ≡ resources → AreTargets principals resources s.context.0
    → (ms : Option (List WrittenMember)) → TargetsAs (paths_of_names components_written principals)
    (paths_of_names components_written resources) (printed s.context.0) ms
    → SpecSays (cedar_spec s) (members_said ms)
targets_say s [] [] e f h ms so =
    subst (λ x. SpecSays (cedar_spec s) (members_said x)) (sym so)
    (ap written_paths e, ap written_paths f, bare_context s.context.0 (out-Type RawName s.context.0) refl h)
targets_say s [] (r ∷ rs) e f h ms so = absurd h
targets_say s (p ∷ ps) [] e f h ms so = absurd h
targets_say s (p ∷ ps) (r ∷ rs) e f h ms (m, c, so) =
    subst (λ x. SpecSays (cedar_spec s) (members_said x)) (sym so)
    (members_say (cedar_spec s) (paths_of_names components_written (p ∷ ps))
    (paths_of_names components_written (r ∷ rs)) m
    (ap written_paths e ∙ sym (paths_bytes (p ∷ ps))) (ap written_paths f ∙ sym (paths_bytes (r ∷ rs)))
    (printed s.context.0) c
    (context_says s.context.0 (out-Type RawName s.context.0) refl h (printed s.context.0) refl m c))

spec_says : (spec : Option (ApplySpec RawName)) → AppliesAsText false spec → (ms : Option (List WrittenMember))
    → SpecAs components_written spec ms
    → (made : ApplySpec RawName) → cedar_applies false spec ≡ Some made → SpecSays made (members_said ms)
spec_says None h ms so made e =
    subst (λ x. SpecSays x (members_said ms)) (same_Some applied_to_none made e)
    (subst (λ x. SpecSays applied_to_none (members_said x)) (sym so) (refl, refl, empty_says))
spec_says (Some s) h ms so made e =
    subst (λ x. SpecSays x (members_said ms)) (same_Some (cedar_spec s) made e)
    (targets_say s s.principal_types s.resource_types refl refl h ms so)

applies_say : (x : Bool) (spec : Option (ApplySpec RawName)) (parents : Option (List Reference)) (id : List ℕ)
    (d : WrittenDecl) → AppliedAs components_written x spec (printed_parents components_written parents) id d
    → AppliesAsText x spec → AppliesSay x (cedar_applies x spec) (cedar_parents parents) d
applies_say true None parents id d h k = subst (AppliesSay true None (cedar_parents parents)) (sym h)
    (refl, parents_say parents)
applies_say true (Some s) parents id d h k = absurd k
applies_say false None parents id d (ms, so, h) k =
    subst (AppliesSay false (Some applied_to_none) (cedar_parents parents)) (sym h)
    (refl, parents_say parents, spec_says None k ms so applied_to_none refl)
applies_say false (Some s) parents id d (ms, so, h) k =
    subst (AppliesSay false (Some (cedar_spec s)) (cedar_parents parents)) (sym h)
    (refl, parents_say parents, spec_says (Some s) k ms so (cedar_spec s) refl)

applied_names : (x : Bool) (spec : Option (ApplySpec RawName)) (parents : List WrittenRef) (id : List ℕ)
    (d : WrittenDecl) → AppliedAs components_written x spec parents id d → NamesOf d [] [] (id ∷ [])
applied_names true spec parents id d h = names_at d _ [] [] (id ∷ []) h
    (record { of_commons = refl; of_entities = refl; of_actions = refl })
applied_names false spec parents id d (ms, so, h) =
    names_at d _ [] [] (id ∷ []) h (record { of_commons = refl; of_entities = refl; of_actions = refl })

abbrev pub ActionEntry : Type 0
ActionEntry = List ℕ × ActionType RawName as_written

pub action_names : (p : ActionEntry) (d : WrittenDeclared) → ActionAs components_written p d
    → NamesOf d.decl [] [] (p.0 ∷ [])
action_names p d h = applied_names p.1.external p.1.applies_to
    (printed_parents components_written p.1.member_of) p.0 d.decl h.1

pub action_says : (p : ActionEntry) (d : WrittenDeclared) → ActionAs components_written p d
    → (p.1.attributes ≡ None) × AppliesAsText p.1.external p.1.applies_to → ActionSays (cedar_action p.1) d
action_says p d h k = (sym h.0, k.0, applies_say p.1.external p.1.applies_to p.1.member_of p.0 d.decl h.1 k.1)
