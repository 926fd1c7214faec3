-- A fragment in order has a fault, or it has none and has a meaning.
use Rattle.std.proofs.Common.{◌≡◌, ℕ, Bool, true, false, List, [], ◌∷◌, refl, sym, ap, ◌∙◌}
use Rattle.std.proofs.Common.{Contains, inl, inr, ◌⊎◌, Option, Some, None, All, subst, arith}
use Rattle.std.proofs.lemmas.Bool.{or_right}
use Rattle.std.specs.Prelude.{not, if◌then◌else◌}
use Rattle.std.specs.Option.{is_some}
use Rattle.std.proofs.lemmas.List.Elements.{All-nil, All-cons, All-head, All-tail, Contains-append_right}
use Rattle.cedar_data.proofs.Lists.{contains_flat, contains_first}
use Rattle.cedar_identifiers.specs.Names.{components_of, has_cedar}
use Rattle.cedar_identifiers.specs.declared.conditional_name.ConditionalName.{ConditionalName}
use Rattle.cedar_identifiers.specs.declared.name.Name.{Name}
use Rattle.cedar_identifiers.specs.declared.name_text.NameText as named
use Rattle.cedar_identifiers.specs.declared.raw_name.RawName.{RawName}
use Rattle.cedar_names.specs.declared.entity_uid.EntityUID.{EntityUID}
use Rattle.cedar_names.specs.declared.extension_table.ExtensionTable.{ExtensionTable}
use Rattle.cedar_names.specs.Meaning.{SchemaMeaning}
use Rattle.cedar_identifiers.specs.declared.reference_type.ReferenceType.TheVariants.{Common, Entity}
use Rattle.schema_json.specs.Actions.{action_name}
use Rattle.schema_json.specs.Presence.{is_where_due}
use Rattle.schema_json.specs.declared.action_type.ActionEntityUID.{ActionEntityUID}
use Rattle.schema_json.specs.declared.fragment.Fragment.{Fragment}
use Rattle.schema_json.specs.declared.fragment.NamespaceDefinition.{NamespaceDefinition}
use Rattle.schema_json_walk.specs.Parts.{Part, type_reference, context_reference, parent, principal, resource}
use Rattle.schema_json_walk.specs.Parts.{action_parent, extension_type, open_record, action_attributes}
use Rattle.schema_json_walk.specs.Parts.{external_not_bare}
use Rattle.schema_json_walk.specs.Walk.{fragment_parts}
use Rattle.schema_json_walk.proofs.ByParts.{fragment_by_parts}
use Rattle.schema_resolve_definitions.specs.Declarations.{name_of, action_type, declared}
use Rattle.schema_resolve_definitions.specs.Defined.{defined}
use Rattle.schema_resolve_definitions.specs.Tests.{Tests, tests_of}
use Rattle.schema_resolve_targets.specs.Gathered.{uids}
use Rattle.schema_resolve_targets.specs.Qualified.{in_namespace, type_in_namespace}
use Rattle.schema_resolve_targets.specs.ReferenceParts.{by_reference}
use Rattle.schema_resolve_targets.specs.Targets.{unless, target, action_target}
use Rattle.schema_resolve_targets.specs.Undefined.{Undefined, actions_among}
use Rattle.schema_resolve_targets.specs.Undefined as found
use Rattle.schema_resolve_targets.specs.Untargeted.{untargeted_in}
use Rattle.schema_build_errors.specs.declared.schema_error.SchemaError.{SchemaError}
use Rattle.schema_build_errors.specs.declared.schema_error.SchemaError.TheVariants as error
use Rattle.schema_build_checks.specs.DeclaredAt.{ActionAt, actions_at_in_order, hiding_action, hiding_actions_in}
use Rattle.schema_build_checks.specs.DeclaredAt.{hiding_actions}
use Rattle.schema_build_checks.specs.DeclaredTwice.{ActionTypeDeclared, TypeHides, ActionHides}
use Rattle.schema_build_checks.specs.Least.{IsFirstLeast}
use Rattle.schema_build_checks.specs.Rows.{Never}
use Rattle.schema_build_checks.specs.WalkFaults.{HasUnknownExtension, HasUnsupported}
use Rattle.schema_build_expand.specs.Expands.{ExpandsOnce}
use Rattle.schema_build_expand.specs.Scope.{Scope, AreDeclaredOnce}
use Rattle.schema_build_scope.specs.CycleRow.{HasCommonCycle}
use Rattle.schema_build_scope.specs.FragmentScope.{fragment_scope}
use Rattle.schema_build_scope.specs.Parts.{IsAllKnown, AreTypesMeant}
use Rattle.schema_build_scope.specs.UndefinedRows.{HasUndefinedTypes, HasUndefinedActions, undefined_alone}
use Rattle.schema_build_scope.proofs.Known.{types_meant}
use Rattle.schema_build_hierarchy.specs.Declarations.{declared_entities, declared_actions}
use Rattle.schema_build_hierarchy.specs.Rows.{HasUndeclaredEntityTypes, HasActionCycle, HasExternalUnderEnum}
use Rattle.schema_build_hierarchy.proofs.Exact.{actions_total}
use Rattle.schema_build_hierarchy.proofs.UsesFree.{all_flat}
use Rattle.schema_build_items.specs.NoRecord.{HasNoRecord, HasNoRecordShape, HasNoRecordContext}
use Rattle.schema_build_parts.specs.BuildFaults.{BuildFault, ReferenceFault, TypeFault, MeaningFault}
use Rattle.schema_build_parts.specs.DeclarationFaults.{PartFault, DeclarationFault}
use Rattle.schema_build.specs.FaultsTold.{IsInOrder}
use Rattle.schema_build.specs.Meaning.{FragmentMeaning}
use Rattle.laws_build.proofs.Existence.Decided.{Decided, or_else_decided, first_least, none_least}
use Rattle.laws_build.proofs.Existence.DecidedMeanings.{shape_decided, context_decided, action_cycle_decided}
use Rattle.laws_build.proofs.Existence.DecidedMeanings.{external_decided}
use Rattle.laws_build.proofs.Existence.DecidedRows.{action_type_decided, type_hides_decided, extension_decided}
use Rattle.laws_build.proofs.Existence.DecidedRows.{feature_decided, undefined_types_decided, undeclared_decided}
use Rattle.laws_build.proofs.Existence.Meanings.{faultless_means}
use Rattle.laws_build.proofs.Existence.Reached.{first_or_later}
use Rattle.laws_build.proofs.Existence.Records.{qualified_free}
use Rattle.laws_build.proofs.Existence.Rows.{never_first, never_behind}
use Rattle.laws_build.proofs.Existence.Scoped.{once, types_expand, cycle_decided}

-- references to actions, each with a type
made : {G : named.Ghosts ConditionalName} (us : List (List ℕ × Option ConditionalName))
    → All (λ u. is_some u.1 ≡ true) us → (xs : List (ActionEntityUID ConditionalName G)) × (uids xs ≡ us)
made [] all = ([], refl)
made {G} (u ∷ us) all =
    let more = made {G = G} us (All-tail (λ (u : List ℕ × Option ConditionalName). is_some u.1 ≡ true) u us all) in
    let x : ActionEntityUID ConditionalName G =
    record {
      id = u.0;
      ty = u.1;
      typed = due G.TYPED u.1
          (All-head (λ (u : List ℕ × Option ConditionalName). is_some u.1 ≡ true) u us all);
    } in
    (x ∷ more.0, ap (λ l. u ∷ l) more.1)
  where
    due : (b : Bool) (o : Option ConditionalName) → is_some o ≡ true → is_where_due b o ≡ true
    due b o h = or_right (not b) (is_some o) h

-- a reference to an action has a type
abbrev HasType : Undefined → Type 0
HasType (found.type_reference c) = Unit {0}
HasType (found.action_reference id ty) = is_some ty ≡ true

all_typed : (us : List Undefined) → All HasType us
    → All (λ (u : List ℕ × Option ConditionalName). is_some u.1 ≡ true) (actions_among us)
all_typed [] all = All-nil (λ (u : List ℕ × Option ConditionalName). is_some u.1 ≡ true)
all_typed (found.type_reference c ∷ us) all = all_typed us (All-tail HasType (found.type_reference c) us all)
all_typed (found.action_reference id ty ∷ us) all =
    All-cons (λ (u : List ℕ × Option ConditionalName). is_some u.1 ≡ true) (id, ty) (actions_among us)
    (All-head HasType (found.action_reference id ty) us all)
    (all_typed us (All-tail HasType (found.action_reference id ty) us all))

unless_typed : {A : Type 0} (o : Option A) (u : Undefined) → HasType u → All HasType (unless o u)
unless_typed None u h = All-cons HasType u [] h (All-nil HasType)
unless_typed (Some a) u h = All-nil HasType

part_typed : (t : Tests) (ns : Option Name) (p : Part RawName)
    → All HasType (by_reference (untargeted_in t (name_of ns)) p)
part_typed t ns (type_reference kind name) =
    unless_typed (target t (in_namespace (name_of ns) kind name)) _ tt
part_typed t ns (context_reference name) = unless_typed (target t (in_namespace (name_of ns) Common name)) _ tt
part_typed t ns (parent name) = unless_typed (target t (in_namespace (name_of ns) Entity name)) _ tt
part_typed t ns (principal name) = unless_typed (target t (in_namespace (name_of ns) Entity name)) _ tt
part_typed t ns (resource name) = unless_typed (target t (in_namespace (name_of ns) Entity name)) _ tt
part_typed t ns (action_parent id ty) =
    unless_typed (action_target t id (Some (type_in_namespace (name_of ns) id ty)))
    (found.action_reference id (Some (type_in_namespace (name_of ns) id ty))) refl
part_typed t ns (extension_type name) = All-nil HasType
part_typed t ns open_record = All-nil HasType
part_typed t ns (action_attributes names) = All-nil HasType
part_typed t ns external_not_bare = All-nil HasType

module _ {G : named.Ghosts RawName} (f : Fragment RawName G) (table : ExtensionTable) where
  abbrev t : Tests
  t = tests_of (defined f table)

  found_typed : All HasType (undefined_alone f table)
  found_typed =
      subst (All HasType) (sym (fragment_by_parts (λ ns. by_reference (untargeted_in t (name_of ns))) f))
      (all_flat (λ e. by_reference (untargeted_in t (name_of e.0)) e.1) HasType (λ e. part_typed t e.0 e.1)
      (fragment_parts f))

  undefined_actions_decided : Decided (HasUndefinedActions f table)
  undefined_actions_decided = go (actions_among (undefined_alone f table)) refl
    where
      never : actions_among (undefined_alone f table) ≡ [] → Never (HasUndefinedActions f table)
      never none (error.ActionNotDefined e) h = h.1 none
      never none _ h = absurd h

      go : (us : List (List ℕ × Option ConditionalName)) → actions_among (undefined_alone f table) ≡ us
          → Decided (HasUndefinedActions f table)
      go [] is = inr (never is)
      go (u ∷ us) is =
          let xs = made (actions_among (undefined_alone f table)) (all_typed (undefined_alone f table) found_typed) in
          inl (
            error.ActionNotDefined (record { 0 = xs.0 }),
            (xs.1, λ none. (let h : u ∷ us ≡ [] = sym is ∙ none in cc)),
          )

  -- an action that hides another stands in a namespace
  hiding_free : (a : ActionAt) → Contains (hiding_actions (tests_of (declared f)) f) a
      → has_cedar (components_of a.ty) ≡ false
  hiding_free a c =
      let (b, cb, there) = contains_flat (hiding_actions_in (tests_of (declared f))) f.0 a c in
      in_block b there
    where
      one_of : (b : Bool) (x a : ActionAt) → has_cedar (components_of x.ty) ≡ false
          → Contains (if b then x ∷ [] else []) a → has_cedar (components_of a.ty) ≡ false
      one_of true x a free c = subst (λ (y : ActionAt). has_cedar (components_of y.ty) ≡ false) (only x a c) free
        where
          only : (x a : ActionAt) → Contains (x ∷ []) a → x ≡ a
          only x a c = elim (first_or_later x [] a c) [
            | inl same ↦ same
            | inr none ↦ absurd (omega (arith, none.1))
          ]
      one_of false x a free c = absurd (omega (arith, c.1))

      in_block : (b : Option Name × NamespaceDefinition RawName G)
          → Contains (hiding_actions_in (tests_of (declared f)) b) a → has_cedar (components_of a.ty) ≡ false
      in_block (None, n) c = absurd (omega (arith, c.1))
      in_block (Some ns, n) c =
          let (e, ce, there) = contains_flat (hiding_action (tests_of (declared f)) (Some ns)) n.actions a c in
          one_of _ (record { ty = action_type (Some ns); id = e.0; loc = e.1.loc }) a
          (qualified_free (Some ns) action_name refl) there

  action_hides_decided : Decided (ActionHides f)
  action_hides_decided = go (first_least actions_at_in_order actions_total (hiding_actions (tests_of (declared f)) f))
    where
      never : hiding_actions (tests_of (declared f)) f ≡ [] → Never (ActionHides f)
      never none (error.ActionShadowing e) (h, b) =
          none_least actions_at_in_order actions_total (hiding_actions (tests_of (declared f)) f) _ none h
      never none _ h = absurd h

      go : (hiding_actions (tests_of (declared f)) f ≡ []) ⊎ ((x : ActionAt) × IsFirstLeast actions_at_in_order
          (hiding_actions (tests_of (declared f)) f) x) → Decided (ActionHides f)
      go (inl none) = inr (never none)
      go (inr (x, h)) =
          let among : Contains (hiding_actions (tests_of (declared f)) f) x =
          subst (λ l. Contains l x) (sym h.among) (Contains-append_right h.before (x ∷ h.behind) x
          (contains_first x h.behind)) in
          let hiding : EntityUID = record {
            ty = record { name = x.ty; unreserved = hiding_free x among };
            eid = record { 0 = x.id };
            loc = x.loc;
          } in
          let hidden : EntityUID = record {
            ty = record { name = action_name; unreserved = refl };
            eid = record { 0 = x.id };
            loc = None;
          } in
          inl (error.ActionShadowing (record { shadowed_def = hidden; shadowing_def = hiding }), (h, refl))

  declaration_decided : Decided (DeclarationFault f table)
  declaration_decided =
      or_else_decided (ActionTypeDeclared f) _ (action_type_decided f)
      (λ n. or_else_decided (TypeHides f) _ (type_hides_decided f)
      (λ n. or_else_decided (ActionHides f) (PartFault f table) action_hides_decided
      (λ n. or_else_decided (HasUnknownExtension table f) (HasUnsupported f) (extension_decided f table)
      (λ n. feature_decided f))))

  reference_decided : Decided (ReferenceFault f table)
  reference_decided = or_else_decided (HasUndefinedTypes f table) (HasUndefinedActions f table)
      (undefined_types_decided f table) (λ n. undefined_actions_decided)

  module _ (ones : (s : Scope RawName) → AreDeclaredOnce s → ExpandsOnce s) where
    abbrev one : ExpandsOnce (fragment_scope f table)
    one = ones (fragment_scope f table) (once f table)

    meaning_decided : AreTypesMeant f table → Decided (MeaningFault f table)
    meaning_decided types =
        or_else_decided (HasUndeclaredEntityTypes t f) _ (undeclared_decided f table)
        (λ n. or_else_decided (TypeFault f table) _
        (or_else_decided (HasCommonCycle f table) (HasNoRecord f table) (cycle_decided f table)
        (λ acyclic. or_else_decided (HasNoRecordShape f table) (HasNoRecordContext f table)
        (shape_decided f table types (types_expand f table types acyclic) one)
        (λ n. context_decided f table types (types_expand f table types acyclic) one)))
        (λ fine. or_else_decided (HasActionCycle t (declared_actions f)) (HasExternalUnderEnum t (declared_entities f))
        (action_cycle_decided f table types
        (types_expand f table types (never_first (HasCommonCycle f table) (HasNoRecord f table) fine)) one)
        (λ n. external_decided f table types
        (types_expand f table types (never_first (HasCommonCycle f table) (HasNoRecord f table) fine)) one)))

    fault_decided : Decided (BuildFault f table)
    fault_decided =
        or_else_decided (DeclarationFault f table) _ declaration_decided
        (λ fine. or_else_decided (ReferenceFault f table) (MeaningFault f table) reference_decided
        (λ referred.
        let part : Never (PartFault f table) =
        never_behind (ActionHides f) (PartFault f table)
        (never_behind (TypeHides f) _ (never_behind (ActionTypeDeclared f) _ fine)) in
        let known : IsAllKnown f table = record {
          extensions = never_first (HasUnknownExtension table f) (HasUnsupported f) part;
          features = never_behind (HasUnknownExtension table f) (HasUnsupported f) part;
          types = never_first (HasUndefinedTypes f table) (HasUndefinedActions f table) referred;
        } in
        meaning_decided (types_meant f table known)))

    -- a fragment in order has a fault, or it has none and has a meaning
    pub fault_or_meaning : IsInOrder f → ((e : SchemaError) × BuildFault f table e) ⊎
        (Never (BuildFault f table) × ((m : SchemaMeaning) × FragmentMeaning f table m))
    fault_or_meaning order = elim fault_decided [
      | inl fault ↦ inl fault
      | inr never ↦ inr (never, faultless_means f table ones order never)
    ]
