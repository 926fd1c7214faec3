-- The entries of a meaning are closed.
use Rattle.std.proofs.Common.{◌≡◌, ℕ, Bool, true, false, List, [], ◌∷◌, map, Contains, Option, Some, None, refl, sym}
use Rattle.std.proofs.Common.{ap, ◌∙◌, subst, true≢false}
use Rattle.std.specs.Prelude.{is_none}
use Rattle.std.specs.List.{AllByRecursion}
use Rattle.std.specs.List.Sorted.{IsStrictlySortedBy}
use Rattle.std.proofs.lemmas.Bool.{and_parts}
use Rattle.cedar_data.specs.Text.{text_cmp}
use Rattle.cedar_data.proofs.Options.{none_from_test}
use Rattle.cedar_data.proofs.Orders.{nothing_rises}
use Rattle.cedar_identifiers.specs.declared.eid.Eid.{Eid}
use Rattle.cedar_identifiers.specs.declared.internal_name.InternalName.{InternalName}
use Rattle.cedar_identifiers.specs.declared.name_text.NameText as named
use Rattle.cedar_identifiers.specs.declared.raw_name.RawName.{RawName}
use Rattle.cedar_names.specs.Meaning.{PlainType, Attributes, no_more, EntityMeaning, ActionMeaning, SchemaMeaning}
use Rattle.cedar_names.specs.Meaning as meant
use Rattle.cedar_names.specs.declared.extension_table.ExtensionTable.{ExtensionTable}
use Rattle.schema_json.specs.Shapes.{is_empty_type}
use Rattle.schema_json.specs.declared.action_type.ActionType.{ActionType}
use Rattle.schema_json.specs.declared.action_type.ApplySpec.{ApplySpec}
use Rattle.schema_json.specs.declared.entity_type.EntityTypeKind.{EntityTypeKind}
use Rattle.schema_json.specs.declared.entity_type.EntityTypeKind.TheVariants.{Standard, Enum}
use Rattle.schema_json.specs.declared.fragment.Fragment.{Fragment}
use Rattle.schema_json.specs.declared.types.Type.{«Type»}
use Rattle.laws_written.specs.PrintedDecls.{IsSome}
use Rattle.laws_translate.specs.MeantNames.{HasChoice}
use Rattle.schema_json_walk.specs.Bare.{is_bare_kind, is_bare_action}
use Rattle.schema_json_walk.specs.Parts.{principal, resource}
use Rattle.schema_json_walk.specs.Walk.{of_fragment}
use Rattle.schema_resolve_definitions.specs.Declarations.{name_of, declared}
use Rattle.schema_resolve_definitions.specs.Defined.{defined}
use Rattle.schema_resolve_definitions.specs.Tests.{Tests, tests_of}
use Rattle.schema_build_expand.specs.Expands.{Expands}
use Rattle.schema_build_expand.specs.Scope.{Scope}
use Rattle.schema_build_checks.specs.DeclaredAt.{ActionAt}
use Rattle.schema_build_checks.specs.WalkFaults.{unsupported}
use Rattle.schema_build_scope.specs.FragmentScope.{fragment_scope}
use Rattle.schema_build_hierarchy.specs.Declarations.{Declared, DeclaredEntity, declared_actions}
use Rattle.schema_build_hierarchy.specs.Rows.{undeclared_part, undeclared_uses, is_enum}
use Rattle.schema_build_items.specs.ActionKinds.{components_cmp, AreJust, IsMeantByOne, IsApplyMeaning}
use Rattle.schema_build_items.specs.Kinds.{TagsExpand, IsKindMeaning}
use Rattle.schema_build.specs.Meaning.{kind_meaning, apply_meaning, IsActionMeaning, FragmentMeaning}
use Rattle.laws_build.specs.Closure.Ordered.{IsOrderedType}
use Rattle.laws_build.specs.Closure.Kinds.{HasItsParts, HasBothOrNeither, AppliesWhereOwn}
use Rattle.laws_build.specs.Closure.Known.{meant_entities, meant_actions, AreKnownTypes, AreKnownTags}
use Rattle.laws_build.specs.Closure.Closed.{IsClosedEntity, IsClosedAction}
use Rattle.laws_build.specs.Closure.Formed.{ContextRises, IsFormed}
use Rattle.laws_build.specs.Closure.WellFormed.{TagsRise, IsKindFormed}
use Rattle.laws_build.proofs.Closure.Above.{ancestor_named, action_ancestor_named, enum_rootless}
use Rattle.laws_build.proofs.Closure.Bare.{empty_means, entity_bare, action_bare}
use Rattle.laws_build.proofs.Closure.Declared.{entity_declared, entity_stands, action_declared, action_stands}
use Rattle.laws_build.proofs.Closure.Formed.{rising_ordered, kind_formed, context_rises}
use Rattle.laws_build.proofs.Closure.Known.{known}
use Rattle.laws_build.proofs.Closure.Lists.{all_have, no_members}
use Rattle.laws_build.proofs.Closure.Undeclared.{target_named}
use Rattle.laws_build.proofs.Closure.Walked.{entity_none, action_none, principal_none, resource_none}

none_ordered : IsOrderedType (meant.Rec no_more)
none_ordered = (nothing_rises text_cmp, tt)

module _ {G : named.Ghosts RawName} (f : Fragment RawName G) (table : ExtensionTable) (m : SchemaMeaning)
    (mean : FragmentMeaning f table m) (is_formed : IsFormed f)
    (bare : of_fragment (λ ns part. unsupported part) f ≡ [])
    (undeclared : undeclared_uses (tests_of (defined f table)) f ≡ []) where
  abbrev scope : Scope RawName
  scope = fragment_scope f table

  -- what is expanded rises and is known
  record_closed : (ns : Option InternalName) (t : «Type» RawName) (xs : Attributes)
      → Expands RawName scope ns t (meant.Rec xs) → AreKnownTypes table m xs
  record_closed ns t xs h = known f table m mean ns t (meant.Rec xs) h

  tags_closed : (ns : Option InternalName) (tags : Option («Type» RawName)) (p : Option PlainType)
      → TagsExpand scope ns tags p → TagsRise tags → AreKnownTags table m p
  tags_closed ns None p e r = subst (AreKnownTags table m) (sym e) tt
  tags_closed ns (Some t) p (x, e, h) r =
      subst (AreKnownTags table m) (sym e) (rising_ordered f is_formed table ns t x h r, known f table m mean ns t x h)

  no_tags : (ns : Option InternalName) (tags : Option («Type» RawName)) (p : Option PlainType)
      → TagsExpand scope ns tags p → tags ≡ None → p ≡ None
  no_tags ns tags p h e = subst (λ o. TagsExpand scope ns o p) e h

  -- by kind
  parts_by : (e : EntityMeaning) (ns : Option InternalName) (kind : EntityTypeKind RawName) (external : Bool)
      (choices : Option (List (List ℕ))) → IsKindMeaning scope ns kind (kind_meaning e)
      → (external ≡ true → is_bare_kind kind ≡ true) → (is_enum kind ≡ true → e.ancestors ≡ [])
      → e.choices ≡ choices → HasItsParts external choices e
  parts_by e ns (Standard k) true choices km b none same =
      let both = and_parts (is_empty_type k.shape.0) (is_none k.tags) (b refl) in (
        empty_means scope ns k.shape.0 e.attributes both.0 km.0,
        no_tags ns k.tags e.tags km.1 (none_from_test k.tags both.1),
        sym same ∙ km.2,
      )
  parts_by e ns (Enum ids) true choices km b none same = absurd (true≢false (sym (b refl)))
  parts_by e ns kind false None km b none same = tt
  parts_by e ns (Standard k) false (Some cs) km b none same =
      absurd (let no : Some cs ≡ None = sym same ∙ km.2 in cc)
  parts_by e ns (Enum ids) false (Some cs) km b none same = (km.0, km.1, none refl)

  ordered_by : (e : EntityMeaning) (ns : Option InternalName) (kind : EntityTypeKind RawName)
      → IsKindMeaning scope ns kind (kind_meaning e) → IsKindFormed kind → IsOrderedType (meant.Rec e.attributes)
  ordered_by e ns (Standard k) km r = rising_ordered f is_formed table ns k.shape.0 (meant.Rec e.attributes) km.0 r.0
  ordered_by e ns (Enum ids) km r = subst (λ xs. IsOrderedType (meant.Rec xs)) (sym km.0) none_ordered

  attributes_by : (e : EntityMeaning) (ns : Option InternalName) (kind : EntityTypeKind RawName)
      → IsKindMeaning scope ns kind (kind_meaning e) → AreKnownTypes table m e.attributes
  attributes_by e ns (Standard k) km = record_closed ns k.shape.0 e.attributes km.0
  attributes_by e ns (Enum ids) km = subst (AreKnownTypes table m) (sym km.0) tt

  tags_by : (e : EntityMeaning) (ns : Option InternalName) (kind : EntityTypeKind RawName)
      → IsKindMeaning scope ns kind (kind_meaning e) → IsKindFormed kind → AreKnownTags table m e.tags
  tags_by e ns (Standard k) km r = tags_closed ns k.tags e.tags km.1 r.1
  tags_by e ns (Enum ids) km r = subst (AreKnownTags table m) (sym km.1) tt

  choices_by : (e : EntityMeaning) (ns : Option InternalName) (kind : EntityTypeKind RawName)
      → IsKindMeaning scope ns kind (kind_meaning e) → IsKindFormed kind → HasChoice e.choices
  choices_by e ns (Standard k) km r = subst HasChoice (sym km.2) tt
  choices_by e ns (Enum ids) km r = subst HasChoice (sym km.2) (seen_some ids r)
    where
      seen_some : (ids : List Eid) → IsSome ids → IsSome (map (λ c. c.0) ids)
      seen_some [] h = h
      seen_some (x ∷ xs) h = tt

  pub has_choice : (e : EntityMeaning) → Contains m.entities e → HasChoice e.choices
  has_choice e c =
      let (d, cd, is) = entity_declared f table m mean e c in
      choices_by e (name_of d.ns) d.ty.kind is.kind (kind_formed f is_formed table d (entity_stands f d cd))

  pub entity_closed : (e : EntityMeaning) → Contains m.entities e → IsClosedEntity table m e
  entity_closed e c =
      let (d, cd, is) = entity_declared f table m mean e c in
      let s = entity_stands f d cd in
      let ns = name_of d.ns in
      let r = kind_formed f is_formed table d s in
      let own : (d.ty.external ≡ true → is_bare_kind d.ty.kind ≡ true) =
      subst (λ (z : DeclaredEntity). z.ty.external ≡ true → is_bare_kind z.ty.kind ≡ true) s.is
      (entity_bare s.item.1 (entity_none (λ ns part. unsupported part) f bare d s)) in
      let rootless : (is_enum d.ty.kind ≡ true → e.ancestors ≡ []) = λ enum. no_members e.ancestors
      (λ b cb. enum_rootless f table m mean d cd enum b ((is.ancestors.just b).0 cb)) in
      record {
        parts = subst (λ x. HasItsParts x e.choices e) (sym is.is_external)
            (parts_by e ns d.ty.kind d.ty.external e.choices is.kind own rootless refl);
        ancestors_rise = is.ancestors.rising;
        ancestors = all_have (λ name. Contains (meant_entities m) name) e.ancestors
            (λ b cb. ancestor_named f table m mean undeclared _ b ((is.ancestors.just b).0 cb));
        ordered = ordered_by e ns d.ty.kind is.kind r;
        attributes = attributes_by e ns d.ty.kind is.kind;
        tags = tags_by e ns d.ty.kind is.kind r;
      }

  -- what an action applies to
  module _ (a : ActionMeaning) (d : Declared ActionAt (ActionType RawName G)) (c : Contains (declared_actions f) d)
      (is : IsActionMeaning f table d a) where
    abbrev all_tests : Tests
    all_tests = tests_of (defined f table)

    -- the entity types that are meant by names that mean something declared
    named_all : (names : List RawName) (found : List (List (List ℕ)))
        → AreJust components_cmp (IsMeantByOne all_tests d.ns names) found
        → ((p : RawName) → Contains names p
        → undeclared_part all_tests (tests_of (declared f)) d.ns (principal p) ≡ [])
        → AllByRecursion (λ name. Contains (meant_entities m) name) found
    named_all names found just quiet = all_have (λ name. Contains (meant_entities m) name) found
        (λ b cb.
        let (p, cp, e) = (just.just b).0 cb in
        target_named f table m mean d.ns p b (quiet p cp) e)

    -- another schema's action applies to nothing
    applies_by : (spec : Option (ApplySpec RawName)) → d.ty.applies_to ≡ spec
        → IsApplyMeaning all_tests scope d.ns spec (apply_meaning a) → (external : Bool) → d.ty.external ≡ external
        → HasBothOrNeither a.principals a.resources a.context → AppliesWhereOwn external a
    applies_by None e am true x filled = (am.0, am.1, am.2)
    applies_by (Some spec) e am true x filled =
        let s = action_stands f d c in
        let own : (d.ty.external ≡ true → is_bare_action d.ty ≡ true) =
        subst (λ (z : Declared ActionAt (ActionType RawName G)). z.ty.external ≡ true → is_bare_action z.ty ≡ true)
        s.is (action_bare s.item.1 (action_none (λ ns part. unsupported part) f bare d s)) in
        let both = and_parts (is_none d.ty.attributes) (is_none d.ty.applies_to) (own x) in
        absurd (let no : Some spec ≡ None = sym e ∙ none_from_test d.ty.applies_to both.1 in cc)
    applies_by spec e am false x filled = filled

    closed_by : (spec : Option (ApplySpec RawName)) → d.ty.applies_to ≡ spec
        → IsApplyMeaning all_tests scope d.ns spec (apply_meaning a) → ContextRises spec
        → AppliesWhereOwn a.is_external a → IsClosedAction table m a
    closed_by None e am r own = record {
      applies = own;
      ancestors_rise = is.ancestors.rising;
      ancestors = all_have (λ name. Contains (meant_actions m) name) a.ancestors
          (λ b cb. action_ancestor_named f table m mean _ b ((is.ancestors.just b).0 cb));
      principals_rise = subst (IsStrictlySortedBy components_cmp) (sym am.0) (nothing_rises components_cmp);
      principals = subst (AllByRecursion (λ name. Contains (meant_entities m) name)) (sym am.0) tt;
      resources_rise = subst (IsStrictlySortedBy components_cmp) (sym am.1) (nothing_rises components_cmp);
      resources = subst (AllByRecursion (λ name. Contains (meant_entities m) name)) (sym am.1) tt;
      ordered = subst (λ xs. IsOrderedType (meant.Rec xs)) (sym am.2) none_ordered;
      context = subst (AreKnownTypes table m) (sym am.2) tt;
    }
    closed_by (Some spec) e am r own =
        let s = action_stands f d c in
        let places : s.entry.0 ≡ d.ns = ap (λ (z : Declared ActionAt (ActionType RawName G)). z.ns) s.is in
        let applies : s.item.1.applies_to ≡ Some spec =
        ap (λ (z : Declared ActionAt (ActionType RawName G)). z.ty.applies_to) s.is ∙ e in
        let given = undeclared_part all_tests (tests_of (declared f)) in
        let walk = action_none given f undeclared d s in
        record {
          applies = own;
          ancestors_rise = is.ancestors.rising;
          ancestors = all_have (λ name. Contains (meant_actions m) name) a.ancestors
              (λ b cb. action_ancestor_named f table m mean _ b ((is.ancestors.just b).0 cb));
          principals_rise = am.0.rising;
          principals = named_all spec.principal_types a.principals am.0
              (λ p cp. ap (λ ns. given ns (principal p)) (sym places)
              ∙ principal_none (given s.entry.0) s.item.1 walk spec applies p cp);
          resources_rise = am.1.rising;
          resources = named_all spec.resource_types a.resources am.1
              (λ p cp. ap (λ ns. given ns (resource p)) (sym places)
              ∙ resource_none (given s.entry.0) s.item.1 walk spec applies p cp);
          ordered = rising_ordered f is_formed table (name_of d.ns) spec.context.0 (meant.Rec a.context) am.2 r;
          context = record_closed (name_of d.ns) spec.context.0 a.context am.2;
        }

  -- an action of which all is told
  pub action_closed : (a : ActionMeaning) → Contains m.actions a → HasBothOrNeither a.principals a.resources a.context
      → IsClosedAction table m a
  action_closed a c filled =
      let (d, cd, is) = action_declared f table m mean a c in
      let r = context_rises f is_formed table d (action_stands f d cd) in
      let own = subst (λ x. AppliesWhereOwn x a) (sym is.is_external)
      (applies_by a d cd is d.ty.applies_to refl is.applies d.ty.external refl filled) in
      closed_by a d cd is d.ty.applies_to refl is.applies r own
