-- A fragment that says what a generated text declares is without a build fault.
use Rattle.std.proofs.Common.{◌≡◌, ◌<◌, ◌≤◌, ℕ, Bool, true, false, not, cond, List, [], ◌∷◌}
use Rattle.std.proofs.Common.{codes}
use Rattle.std.proofs.Common.{length, map, filter, flat_map, Option, Some, None, is_some, Contains, refl, sym, ap, ◌∙◌}
use Rattle.std.proofs.Common.{subst, arith, true≢false, if◌then◌else◌}
use Rattle.std.specs.Option.{option_to_list, option_map_or}
use Rattle.std.specs.Str.{bytes_eq}
use Rattle.std.specs.declared.cmp.Ordering.{Ordering}
use Rattle.std.proofs.lemmas.List.Elements.{All-contains}
use Rattle.cedar_data.proofs.Lists.{nothing_is}
use Rattle.cedar_identifiers.specs.Names.{components_of}
use Rattle.cedar_identifiers.specs.declared.name.Name.{Name}
use Rattle.cedar_identifiers.specs.declared.raw_name.RawName.{RawName}
use Rattle.cedar_names.specs.Orders.{names_in_order}
use Rattle.cedar_names.specs.declared.extension_table.ExtensionTable.{ExtensionTable}
use Rattle.schema_json.specs.declared.action_type.ActionEntityUID.{ActionEntityUID}
use Rattle.schema_json.specs.declared.action_type.ApplySpec.{ApplySpec}
use Rattle.schema_json.specs.declared.entity_type.EntityTypeKind.{EntityTypeKind}
use Rattle.schema_json.specs.declared.entity_type.EntityTypeKind.TheVariants.{Standard, Enum}
use Rattle.schema_json.specs.declared.fragment.Fragment.{Fragment}
use Rattle.schema_json.specs.AsWritten.{as_written}
use Rattle.laws_written.specs.Written.{no_more}
use Rattle.laws_translate.specs.DeclarationsSay.{KindSays, AppliesSay}
use Rattle.laws_translate.specs.FragmentsSay.{FragmentSays}
use Rattle.schema_json_walk.specs.Parts.{parent}
use Rattle.schema_resolve_definitions.specs.Declarations.{name_of, declared}
use Rattle.schema_resolve_definitions.specs.Tests.{Tests, tests_of}
use Rattle.schema_resolve_targets.specs.ReferenceParts.{by_reference}
use Rattle.schema_resolve_targets.specs.Untargeted.{untargeted_in, undefined}
use Rattle.schema_resolve_targets.specs.Targets.{unless}
use Rattle.schema_resolve_targets.specs.Undefined.{types_among, actions_among}
use Rattle.schema_build_errors.specs.declared.schema_error.SchemaError.TheVariants as error
use Rattle.schema_build_errors.specs.declared.shape_errors.ContextOrShape.{ContextOrShape}
use Rattle.schema_build_errors.specs.declared.shape_errors.ContextOrShape.TheVariants.{ActionContext, EntityTypeShape}
use Rattle.schema_build_expand.specs.Scope.{Scope}
use Rattle.schema_build_checks.specs.DeclaredAt.{at_of, actions_at_in_order, called_action, called_actions, declared_at}
use Rattle.schema_build_checks.specs.DeclaredAt.{hiding_types_in, hiding_types, hiding_actions_in, hiding_actions}
use Rattle.schema_build_checks.specs.DeclaredTwice.{ActionTypeDeclared, TypeHides, ActionHides}
use Rattle.schema_build_checks.specs.Rows.{Never}
use Rattle.schema_build_checks.specs.WalkFaults.{unknown_extension, unsupported, HasUnknownExtension, HasUnsupported}
use Rattle.schema_build_scope.specs.Commons.{declared_commons, full_common_entry}
use Rattle.schema_build_scope.specs.CycleRow.{HasCommonCycle}
use Rattle.schema_build_scope.specs.FragmentScope.{fragment_scope}
use Rattle.schema_build_scope.specs.UndefinedRows.{HasUndefinedTypes, HasUndefinedActions}
use Rattle.schema_build_hierarchy.specs.Declarations.{entity_name, declared_entities, action_key}
use Rattle.schema_build_hierarchy.specs.Declarations.{declared_actions}
use Rattle.schema_build_hierarchy.specs.FirstUses.{IsFirstUse, AreFirstUses}
use Rattle.schema_build_hierarchy.specs.Parents.{action_parents, action_parents_in, IsActionAncestor}
use Rattle.schema_build_hierarchy.specs.Rows.{undeclared_part, undeclared_uses, HasUndeclaredEntityTypes}
use Rattle.schema_build_hierarchy.specs.Rows.{HasActionCycle, HasExternalUnderEnum}
use Rattle.schema_build_items.specs.NoRecord.{ShapeIsNoRecord, ContextIsNoRecord, IsLeastShape, IsLeastContext}
use Rattle.schema_build_items.specs.NoRecord.{HasNoRecordShape, HasNoRecordContext}
use Rattle.schema_build_parts.specs.BuildFaults.{BuildFault}
use Rattle.schema_build_parts.proofs.Rows.{never_else}
use Rattle.laws_build.proofs.Said.Members.{IsIn, in_from, flat_nothing}
use Rattle.laws_build.proofs.Said.Faultless.{no_least, no_about}
use Rattle.laws_build.specs.Generated.Declares.{attributes_of, entity_of_number, action_of_number, generated_items}
use Rattle.laws_build.specs.Generated.Said.{DeclaredAction, IsActionOf}
use Rattle.laws_build.proofs.Generated.Declared.{Block, id_text, block_is, entity_block, no_commons, entity_at}
use Rattle.laws_build.proofs.Generated.Declared.{action_at}
use Rattle.laws_build.proofs.Generated.Defined.{IsDeclaredName, own_there, t, entity_defined}
use Rattle.laws_build.proofs.Generated.Defined.{type_defined}
use Rattle.laws_build.proofs.Generated.Given.{no_parents, fragment_gives}
use Rattle.laws_build.proofs.Generated.Records.{record_said}

-- the first word is `Action`
abbrev head_is : List (List ℕ) → Bool
head_is [] = false
head_is (w ∷ ws) = bytes_eq w (codes "Action")

met : {A U : Type 0} (b : Bool) (a : A) (u : U) → b ≡ true → unless (cond b (Some a) None) u ≡ []
met b a u e = ap (λ c. unless (cond c (Some a) None) u) e

none_contained : {A : Type 0} (xs : List A) (x : A) → xs ≡ [] → Contains xs x → ⊥
none_contained xs x none h =
    let h' : Contains [] x = subst (λ l. Contains l x) none h in absurd (omega (arith, h'.1))

module _ (n : ℕ) (some : 1 ≤ n) (f : Fragment RawName as_written) (says : FragmentSays f (generated_items n))
    (table : ExtensionTable) where
  abbrev tests : Tests
  tests = t n some f says table

  abbrev scope : Scope RawName
  scope = fragment_scope f table

  -- no entity type is called `Action`
  none_called : called_actions f ≡ []
  none_called = flat_nothing (λ (b : Block). flat_map (called_action b.0) b.1.entity_types) f.0
      (λ b h. flat_nothing (called_action b.0) b.1.entity_types (λ x k.
      let of = entity_block n some f says b h x k in
      let full : id_text x.0 ∷ [] ≡ _ = sym (ap (λ s. entity_name (record {
        name = declared_at s x.0.id x.1.loc;
        ns = s;
        ty = x.1;
      })) (block_is n some f says b h).1) ∙ of.name in
      let off : bytes_eq (id_text x.0) (codes "Action") ≡ false =
      ap (λ p. head_is p) full in
      ap (λ c. if c then declared_at b.0 x.0.id x.1.loc ∷ [] else []) off))

  no_action_type : Never (ActionTypeDeclared f)
  no_action_type (error.ActionEntityTypeDeclared e) (name, first, loc) =
      no_least names_in_order (called_actions f) name none_called first
  no_action_type _ h = absurd h

  outside : (s : Name) → Some s ≡ None → ⊥
  outside s h = true≢false (ap is_some h)

  none_hides : hiding_types (tests_of (declared f)) f ≡ []
  none_hides = flat_nothing (hiding_types_in (tests_of (declared f))) f.0 by
    where
      by : (b : Block) → IsIn b f.0 → hiding_types_in (tests_of (declared f)) b ≡ []
      by (None, d) h = refl
      by (Some s, d) h = absurd (outside s (block_is n some f says (Some s, d) h).1)

  no_type_hides : Never (TypeHides f)
  no_type_hides (error.TypeShadowing e) (first, base) =
      no_least names_in_order (hiding_types (tests_of (declared f)) f) e.shadowing_def none_hides first
  no_type_hides _ h = absurd h

  none_hidden : hiding_actions (tests_of (declared f)) f ≡ []
  none_hidden = flat_nothing (hiding_actions_in (tests_of (declared f))) f.0 by
    where
      by : (b : Block) → IsIn b f.0 → hiding_actions_in (tests_of (declared f)) b ≡ []
      by (None, d) h = refl
      by (Some s, d) h = absurd (outside s (block_is n some f says (Some s, d) h).1)

  no_action_hides : Never (ActionHides f)
  no_action_hides (error.ActionShadowing e) (first, base) =
      no_least actions_at_in_order (hiding_actions (tests_of (declared f)) f) (at_of e.shadowing_def) none_hidden first
  no_action_hides _ h = absurd h

  no_unknown : Never (HasUnknownExtension table f)
  no_unknown = no_about _ _
      (fragment_gives n some f says (λ ns part. unknown_extension table part) (λ m h. refl) (λ m h. refl)
      (λ m h. refl) (λ m h. refl))

  none_unsupported : Never (HasUnsupported f)
  none_unsupported = no_about _ _
      (fragment_gives n some f says (λ ns part. unsupported part) (λ m h. refl) (λ m h. refl) (λ m h. refl)
      (λ m h. refl))

  none_undefined : undefined tests f ≡ []
  none_undefined = fragment_gives n some f says (λ ns. by_reference (untargeted_in tests (name_of ns)))
      (λ m h. met _ m.name _
      (type_defined n some f says table (components_of m.name) h))
      (λ m h. met _ m.name _
      (entity_defined n some f says table (components_of m.name) h))
      (λ m h. met _ m.name _
      (entity_defined n some f says table (components_of m.name) h))
      (λ m h. met _ m.name _
      (entity_defined n some f says table (components_of m.name) h))

  no_undefined_types : Never (HasUndefinedTypes f table)
  no_undefined_types (error.TypeNotDefined e) (names, some') = some' (ap types_among none_undefined)
  no_undefined_types _ h = absurd h

  no_undefined_actions : Never (HasUndefinedActions f table)
  no_undefined_actions (error.ActionNotDefined e) (names, some') = some' (ap actions_among none_undefined)
  no_undefined_actions _ h = absurd h

  -- each name of an entity type is the name of a declared one
  target_declared : (m : RawName) → IsDeclaredName n (components_of m.name)
      → undeclared_part tests (tests_of (declared f)) None (parent m) ≡ []
  target_declared m h =
      ap (λ b. filter (λ p. not ((tests_of (declared f)).is_entity (components_of p)))
      (option_to_list (cond b (Some m.name) None))) (entity_defined n some f says table (components_of m.name) h)
      ∙ ap (λ b. cond (not b) (m.name ∷ []) []) (own_there n some f says (components_of m.name) h)

  none_undeclared : undeclared_uses tests f ≡ []
  none_undeclared = fragment_gives n some f says (undeclared_part tests (tests_of (declared f))) (λ m h. refl)
      target_declared target_declared target_declared

  no_uses : {A : Type 0} (order : A → A → Ordering) (firsts : List A) → 0 < length firsts
      → AreFirstUses order [] firsts → ⊥
  no_uses order [] some' firsts = absurd (omega (arith, some'))
  no_uses order (x ∷ xs) some' firsts =
      let first = All-contains (IsFirstUse order []) (x ∷ xs) x firsts.first (0, omega arith, refl) in
      nothing_is [] x first.0 first.1

  seen_some : {A B : Type 0} (g : A → B) (xs : List A) → 0 < length xs → 0 < length (map g xs)
  seen_some g [] h = absurd (omega (arith, h))
  seen_some g (x ∷ xs) h = omega arith

  no_undeclared : Never (HasUndeclaredEntityTypes tests f)
  no_undeclared e (given, is, firsts, some') =
      no_uses names_in_order (map (λ (m : Name). m.name) given.types)
      (seen_some (λ (m : Name). m.name) given.types some')
      (subst (λ uses. AreFirstUses names_in_order uses (map (λ (m : Name). m.name) given.types)) none_undeclared firsts)

  pub none_common : declared_commons f ≡ []
  none_common = flat_nothing (λ (e : Block). map (full_common_entry e.0) e.1.common_types) f.0
      (λ e h. ap (map (full_common_entry e.0)) (no_commons n some f says e h))

  no_common_cycle : Never (HasCommonCycle f table)
  no_common_cycle (error.CycleInCommonTypeReferences e) h =
      none_contained _ e.ty (ap (map (λ x. x.0)) none_common) h.declared
  no_common_cycle _ h = absurd h

  shape_is_record : (i : ℕ) (ns : _) (x : Bool) (k : EntityTypeKind RawName) → KindSays x k (entity_of_number n i).decl
      → ShapeIsNoRecord scope ns k → ⊥
  shape_is_record i ns x (Standard d) h none = record_said scope ns d.shape.0 (attributes_of n i) h.2 none
  shape_is_record i ns x (Enum ids) h none = none

  context_is_record : (i : ℕ) (ns : _) (x : Bool) (spec : Option (ApplySpec RawName))
      (ps : Option (List (ActionEntityUID RawName as_written))) → AppliesSay x spec ps (action_of_number n i).decl
      → ContextIsNoRecord scope ns spec → ⊥
  context_is_record i ns x None ps h none = none
  context_is_record i ns x (Some d) ps h none = record_said scope ns d.context.0 no_more h.2.2 none

  least_shape : (c : ContextOrShape) → IsLeastShape scope f c → ⊥
  least_shape (EntityTypeShape name) (d, same, least) =
      let of = entity_at n some f says d (in_from (declared_entities f) d least.among) in
      shape_is_record of.number (name_of d.ns) d.ty.external d.ty.kind of.says.1 least.passes_too
  least_shape (ActionContext uid) h = h

  least_context : (c : ContextOrShape) → IsLeastContext scope f c → ⊥
  least_context (EntityTypeShape name) h = h
  least_context (ActionContext uid) (d, same, least) =
      let of = action_at n some f says d (in_from (declared_actions f) d least.among) in
      context_is_record of.number (name_of d.ns) d.ty.external d.ty.applies_to d.ty.member_of of.says.2
      least.passes_too

  no_shape : Never (HasNoRecordShape f table)
  no_shape (error.ContextOrShapeNotRecord e) h = least_shape e.ctx_or_shape h
  no_shape _ h = absurd h

  no_context : Never (HasNoRecordContext f table)
  no_context (error.ContextOrShapeNotRecord e) h = least_context e.ctx_or_shape h
  no_context _ h = absurd h

  -- no action has a parent
  none_above : (i : ℕ) (x : Bool) (spec : Option (ApplySpec RawName))
      (ps : Option (List (ActionEntityUID RawName as_written))) → AppliesSay x spec ps (action_of_number n i).decl
      → ps ≡ None
  none_above i x None ps h = absurd h
  none_above i x (Some d) ps h = no_parents ps h.1

  pub no_action_parents : (d : DeclaredAction) → IsActionOf n d → action_parents tests d ≡ []
  no_action_parents d of =
      ap (λ o. action_parents_in tests d.ns (option_map_or (λ uids. uids) o []))
      (none_above of.number d.ty.external d.ty.applies_to d.ty.member_of of.says.2)

  pub no_action_ancestor : (a b : List (List ℕ) × List ℕ) → IsActionAncestor tests (declared_actions f) a b → ⊥
  no_action_ancestor a b (c, rest, ((d, among, known, up), more)) =
      none_contained (action_parents tests d) c
      (no_action_parents d (action_at n some f says d (in_from (declared_actions f) d among))) up

  no_action_cycle : Never (HasActionCycle tests (declared_actions f))
  no_action_cycle e (d, is, least) = no_action_ancestor (action_key d) (action_key d) least.passes_too

  own_kind : (i : ℕ) (x : Bool) (k : EntityTypeKind RawName) → KindSays x k (entity_of_number n i).decl → x ≡ false
  own_kind i x (Standard d) h = h.0
  own_kind i x (Enum ids) h = absurd h

  no_external_under : Never (HasExternalUnderEnum tests (declared_entities f))
  no_external_under e (d, p, is, least, above) =
      let of = entity_at n some f says d (in_from (declared_entities f) d least.among) in
      true≢false (sym least.passes_too.0 ∙ own_kind of.number d.ty.external d.ty.kind of.says.1)

  pub faultless : Never (BuildFault f table)
  faultless =
      never_else _ _
      (never_else _ _ no_action_type (never_else _ _ no_type_hides (never_else _ _ no_action_hides
      (never_else _ _ no_unknown none_unsupported))))
      (never_else _ _ (never_else _ _ no_undefined_types no_undefined_actions)
      (never_else _ _ no_undeclared
      (never_else _ _ (never_else _ _ no_common_cycle (never_else _ _ no_shape no_context))
      (never_else _ _ no_action_cycle no_external_under))))
