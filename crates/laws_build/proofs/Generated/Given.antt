-- What a walk gives of a fragment that says what a generated text declares.
use Rattle.std.proofs.Common.{◌≡◌, inl, inr, ℕ, ◌<◌, ◌≤◌, ◌==◌, Bool, true, false, not, ◌&&◌, List, [], ◌∷◌, ◌++◌}
use Rattle.std.proofs.Common.{Option, Some, None, refl, sym, ap, ◌∙◌, subst, arith, if◌then◌else◌, ◌+◌, ◌*◌}
use Rattle.std.specs.List.{AllByRecursion}
use Rattle.std.specs.Option.{option_map_or}
use Rattle.std.proofs.lemmas.Nat.{mod_below}
use Rattle.schema_generate.specs.Generated.{parent_of, target_of, resource_of}
use Rattle.cedar_identifiers.specs.Names.{components_of}
use Rattle.cedar_identifiers.specs.declared.name.Name.{Name}
use Rattle.cedar_identifiers.specs.declared.raw_name.RawName.{RawName}
use Rattle.cedar_identifiers.specs.declared.reference_type.ReferenceType.TheVariants.{CommonOrEntity}
use Rattle.cedar_identifiers.specs.declared.unreserved_id.UnreservedId.{UnreservedId}
use Rattle.schema_json.specs.declared.action_type.ActionEntityUID.{ActionEntityUID}
use Rattle.schema_json.specs.declared.action_type.ActionType.{ActionType}
use Rattle.schema_json.specs.declared.action_type.ApplySpec.{ApplySpec}
use Rattle.schema_json.specs.declared.entity_type.EntityType.{EntityType}
use Rattle.schema_json.specs.declared.entity_type.EntityTypeKind.{EntityTypeKind}
use Rattle.schema_json.specs.declared.entity_type.EntityTypeKind.TheVariants.{Standard, Enum}
use Rattle.schema_json.specs.declared.fragment.Fragment.{Fragment}
use Rattle.schema_json.specs.declared.types.Type.{«Type»}
use Rattle.schema_json.specs.AsWritten.{as_written}
use Rattle.laws_written.specs.Written.{no_more}
use Rattle.laws_translate.specs.DeclarationsSay.{TagsSay, KindSays, EntitySays, ParentsSay, AppliesSay, ActionSays}
use Rattle.laws_translate.specs.FragmentsSay.{FragmentSays}
use Rattle.schema_json_walk.specs.Bare.{is_bare_kind, is_bare_action}
use Rattle.schema_json_walk.specs.Parts.{Part, type_reference, parent, principal, resource, action_attributes}
use Rattle.schema_json_walk.specs.Parts.{external_not_bare}
use Rattle.schema_json_walk.specs.Walk.{visit_where, of_type, of_parents, of_principals, of_resources, of_context}
use Rattle.schema_json_walk.specs.Walk.{of_kind, of_entity, of_apply, of_uids, of_action, each_value, of_common}
use Rattle.schema_json_walk.specs.Walk.{of_items, of_entry, of_fragment}
use Rattle.laws_build.proofs.Said.Members.{IsIn, flat_nothing, append_nothing}
use Rattle.laws_build.proofs.Said.Walking.{names_give}
use Rattle.laws_build.specs.Generated.Declares.{entity_path, parents_of, attributes_of, entity_of_number}
use Rattle.laws_build.specs.Generated.Declares.{action_of_number}
use Rattle.laws_build.specs.Generated.Declares.{generated_items}
use Rattle.laws_build.proofs.Generated.Declared.{Block, block_is, entity_block, action_block, no_commons}
use Rattle.laws_build.proofs.Generated.Defined.{IsDeclaredName, IsTypeName}
use Rattle.laws_build.proofs.Generated.Walked.{record_gives, context_gives}

pub no_tags : (o : Option («Type» RawName)) → TagsSay o None → o ≡ None
no_tags None h = refl
no_tags (Some t) h = absurd h

pub no_parents : (o : Option (List (ActionEntityUID RawName as_written))) → ParentsSay o [] → o ≡ None
no_parents None h = refl
no_parents (Some ps) h = absurd h

-- names of a number's declarations
pub parents_declared : (n i : ℕ) → i < n → AllByRecursion (IsDeclaredName n) (parents_of i)
parents_declared n i h = by (i == 0)
  where
    by : (b : Bool) → AllByRecursion (IsDeclaredName n) (if b then [] else entity_path (parent_of i) ∷ [])
    by true = tt
    by false = ((parent_of i, omega arith, refl), tt)

pub target_declared : (n i : ℕ) → 1 ≤ n → IsDeclaredName n (entity_path (target_of n i))
target_declared n i some = (target_of n i, mod_below (7 * i + 3) n some, refl)

pub resource_declared : (n i : ℕ) → 1 ≤ n → IsDeclaredName n (entity_path (resource_of n i))
resource_declared n i some = (resource_of n i, mod_below (5 * i + 1) n some, refl)

module _ {U : Type 0} (n : ℕ) (some : 1 ≤ n) (visit : Part RawName → List U)
    (types : (m : RawName) → IsTypeName n (components_of m.name) → visit (type_reference CommonOrEntity m) ≡ [])
    (parents : (m : RawName) → IsDeclaredName n (components_of m.name) → visit (parent m) ≡ [])
    (principals : (m : RawName) → IsDeclaredName n (components_of m.name) → visit (principal m) ≡ [])
    (resources : (m : RawName) → IsDeclaredName n (components_of m.name) → visit (resource m) ≡ [])
    (i : ℕ) (below : i < n) where
  quiet : (p : List (List ℕ)) → IsTypeName n p → (m : RawName) → components_of m.name ≡ p
      → visit (type_reference CommonOrEntity m) ≡ []
  quiet p h m e = types m (subst (IsTypeName n) (sym e) h)

  kind_gives : (x : Bool) (k : EntityTypeKind RawName) → KindSays x k (entity_of_number n i).decl
      → visit_where visit (x && not (is_bare_kind k)) external_not_bare ++ of_kind visit k ≡ []
  kind_gives x (Standard d) h =
      append_nothing (visit_where visit (x && not (is_bare_kind (Standard d))) external_not_bare)
      (of_kind visit (Standard d))
      (ap (λ b. visit_where visit (b && not (is_bare_kind (Standard d))) external_not_bare) h.0)
      (append_nothing (of_parents visit d.member_of_types) _
      (names_give visit (λ m. parent m) (IsDeclaredName n) parents d.member_of_types (parents_of i) h.1
      (parents_declared n i below))
      (append_nothing (of_type visit d.shape.0) (option_map_or (of_type visit) d.tags [])
      (record_gives visit d.shape.0 (attributes_of n i)
      (quiet _ (inl refl), (quiet _ (inr (target_declared n i some)), tt)) h.2)
      (ap (λ o. option_map_or (of_type visit) o []) (no_tags d.tags h.3))))
  kind_gives x (Enum ids) h = absurd h

  pub entity_gives : (x : EntityType RawName) → EntitySays x (entity_of_number n i) → of_entity visit x ≡ []
  entity_gives x s = kind_gives x.external x.kind s.1

  apply_gives : (x : Bool) (spec : Option (ApplySpec RawName)) (ps : Option (List (ActionEntityUID RawName as_written)))
      → AppliesSay x spec ps (action_of_number n i).decl
      → (x ≡ false) × (ps ≡ None) × (option_map_or (of_apply visit) spec [] ≡ [])
  apply_gives x None ps h = absurd h
  apply_gives x (Some d) ps h = (
    h.0,
    no_parents ps h.1,
    append_nothing (of_principals visit d.principal_types) _
        (names_give visit (λ m. principal m) (IsDeclaredName n) principals d.principal_types (entity_path i ∷ [])
        h.2.0 ((i, below, refl), tt))
        (append_nothing (of_resources visit d.resource_types) (of_context visit d.context)
        (names_give visit (λ m. resource m) (IsDeclaredName n) resources d.resource_types
        (entity_path (resource_of n i) ∷ []) h.2.1 (resource_declared n i some, tt))
        (context_gives visit d.context no_more tt h.2.2)),
  )

  pub action_gives : (a : ActionType RawName as_written) → ActionSays a (action_of_number n i) → of_action visit a ≡ []
  action_gives a s =
      let h = apply_gives a.external a.applies_to a.member_of s.2 in
      append_nothing (visit_where visit (a.external && not (is_bare_action a)) external_not_bare) _
      (ap (λ b. visit_where visit (b && not (is_bare_action a)) external_not_bare) h.0)
      (append_nothing (option_map_or (λ names. visit (action_attributes names)) a.attributes []) _
      (ap (λ o. option_map_or (λ names. visit (action_attributes names)) o []) s.1)
      (append_nothing (option_map_or (of_uids visit) a.member_of []) (option_map_or (of_apply visit) a.applies_to [])
      (ap (λ o. option_map_or (of_uids visit) o []) h.1) h.2))

module _ {U : Type 0} (n : ℕ) (some : 1 ≤ n) (f : Fragment RawName as_written)
    (says : FragmentSays f (generated_items n)) (visit : Option Name → Part RawName → List U)
    (types : (m : RawName) → IsTypeName n (components_of m.name)
    → visit None (type_reference CommonOrEntity m) ≡ [])
    (parents : (m : RawName) → IsDeclaredName n (components_of m.name) → visit None (parent m) ≡ [])
    (principals : (m : RawName) → IsDeclaredName n (components_of m.name) → visit None (principal m) ≡ [])
    (resources : (m : RawName) → IsDeclaredName n (components_of m.name) → visit None (resource m) ≡ []) where
  entity_walked : (b : Block) → IsIn b f.0 → (x : UnreservedId × EntityType RawName) → IsIn x b.1.entity_types
      → of_entity (visit b.0) x.1 ≡ []
  entity_walked b h x k =
      let of = entity_block n some f says b h x k in
      ap (λ s. of_entity (visit s) x.1) (block_is n some f says b h).1
      ∙ entity_gives n some (visit None) types parents principals resources of.number of.below x.1 of.says

  action_walked : (b : Block) → IsIn b f.0 → (x : List ℕ × ActionType RawName as_written) → IsIn x b.1.actions
      → of_action (visit b.0) x.1 ≡ []
  action_walked b h x k =
      let of = action_block n some f says b h x k in
      ap (λ s. of_action (visit s) x.1) (block_is n some f says b h).1
      ∙ action_gives n some (visit None) types parents principals resources of.number of.below x.1 of.says

  pub fragment_gives : of_fragment visit f ≡ []
  fragment_gives = flat_nothing (of_entry visit) f.0 (λ b h.
      append_nothing (each_value (of_common (visit b.0)) b.1.common_types) (of_items (visit b.0) b.1)
      (ap (each_value (of_common (visit b.0))) (no_commons n some f says b h))
      (append_nothing (each_value (of_entity (visit b.0)) b.1.entity_types)
      (each_value (of_action (visit b.0)) b.1.actions)
      (flat_nothing (λ x. of_entity (visit b.0) x.1) b.1.entity_types (entity_walked b h))
      (flat_nothing (λ x. of_action (visit b.0) x.1) b.1.actions (action_walked b h))))
