-- Actions, and their forms in a text, resolve alike, where one of them resolves.
use Rattle.std.proofs.Common.{◌≡◌, Bool, true, false, List, [], ◌∷◌, ◌++◌, map, Option, Some, None, refl, sym, ap, ◌∙◌}
use Rattle.std.specs.List.{AllByRecursion}
use Rattle.std.specs.Option.{option_map, option_map_or}
use Rattle.cedar_data.proofs.Every.{all_back}
use Rattle.cedar_identifiers.specs.declared.internal_name.InternalName.{InternalName}
use Rattle.cedar_identifiers.specs.declared.name_text.NameText as named
use Rattle.cedar_identifiers.specs.declared.raw_name.RawName.{RawName}
use Rattle.cedar_identifiers.specs.declared.reference_type.ReferenceType.TheVariants.{Entity}
use Rattle.schema_json.specs.Shapes.{empty_record, record_type}
use Rattle.schema_json.specs.declared.action_type.ActionEntityUID.{ActionEntityUID}
use Rattle.schema_json.specs.declared.action_type.ActionType.{ActionType}
use Rattle.schema_json.specs.declared.action_type.ApplySpec.{ApplySpec}
use Rattle.schema_json.specs.declared.types.Type.{«Type», out-Type, roll-Type, out-roll-Type}
use Rattle.schema_json.specs.declared.types.Type.TheOpen.{Type-F, TypeVariant-F, RecordType-F}
use Rattle.schema_json.specs.declared.types.Type.TheVariants as shape
use Rattle.schema_json.specs.declared.types.TypeVariant.{TypeVariant, roll-TypeVariant}
use Rattle.schema_json.specs.declared.types.RecordType.{RecordType, out-RecordType, out-roll-RecordType}
use Rattle.schema_json.specs.declared.types.TypeOfAttribute.{TypeOfAttribute}
use Rattle.schema_json.specs.declared.types.TypeVariant.TheVariants as variant
use Rattle.schema_json.specs.AsWritten.{as_written}
use Rattle.schema_json_walk.specs.Parts.{Part, external_not_bare, action_attributes, action_parent, open_record}
use Rattle.schema_json_walk.specs.Walk.{itself, visit_where, at_context, of_entries, of_context, of_principals}
use Rattle.schema_json_walk.specs.Walk.{of_resources, of_apply, of_uid, of_uids, of_action}
use Rattle.schema_json_walk.proofs.Layers.{record_walked, variant_walked}
use Rattle.schema_resolve_definitions.specs.Tests.{Tests}
use Rattle.schema_resolve.specs.Renamed.{Renaming, due_there, renamed, renamed_record, renamed_apply, renamed_uid}
use Rattle.schema_resolve.specs.Renamed.{renamed_action}
use Rattle.schema_resolve.specs.Resolved.{resolving_in, meant_type}
use Rattle.schema_resolve_targets.specs.Undefined.{Undefined}
use Rattle.schema_print.proofs.Tested.{none}
use Rattle.laws_print.specs.Printed.CedarForm.{cedar_spec, cedar_applies, cedar_parent, cedar_parents, cedar_action}
use Rattle.laws_print.specs.Printed.CedarForm.{type_or_action}
use Rattle.laws_print.specs.Resolving.Alike.{referred, referred_spec, referred_applies, list_or_empty}
use Rattle.laws_print.specs.Resolving.Alike.{referred_action}
use Rattle.laws_print.proofs.Resolving.References.{visit}
use Rattle.laws_print.proofs.Resolving.TypesAlike.{Good, KnowsPrimitives, referred_is, as_reference}
use Rattle.laws_print.proofs.Resolving.TypesAlike.{resolved_is, shape_resolved_is, record_resolved_is}
use Rattle.laws_print.proofs.Resolving.TypesAlike.{referred_record}
use Rattle.laws_print.proofs.Resolving.TypesAlike.{referred_record_is}
use Rattle.laws_print.proofs.Resolving.ItemsAlike.{both_found, second_none, beside_excess, context_alike}

module _ (t : Tests) (ns : Option InternalName) (knows : KnowsPrimitives t ns) where
  abbrev R : Renaming RawName InternalName
  R = resolving_in t ns

  abbrev v : Part RawName → List Undefined
  v = visit t ns

  abbrev Goods : List (Part RawName) → Type 0
  Goods parts = AllByRecursion (Good t ns) parts

  -- the parents of an action
  uid_found : (u : ActionEntityUID RawName as_written) → of_uid v u ≡ of_uid v (cedar_parent u)
  uid_found u = go u.ty
    where
      go : (ty : Option RawName) → v (action_parent u.id ty) ≡ v (action_parent u.id (Some (type_or_action ty)))
      go None = refl
      go (Some ty) = refl

  uids_found : (us : List (ActionEntityUID RawName as_written)) → of_uids v us ≡ of_uids v (map cedar_parent us)
  uids_found [] = refl
  uids_found (u ∷ us) = λ i. uid_found u i ++ uids_found us i

  parents_found : (o : Option (List (ActionEntityUID RawName as_written)))
      → none (option_map_or (of_uids v) o []) ≡ none (option_map_or (of_uids v) (cedar_parents o) [])
  parents_found None = refl
  parents_found (Some []) = refl
  parents_found (Some (u ∷ us)) = ap none (uids_found (u ∷ us))

  module _ {H : named.Ghosts InternalName} where
    uid_alike : (u : ActionEntityUID RawName as_written)
        → renamed_uid R (meant_type t ns) {G = as_written} {H = H} u
        ≡ renamed_uid R (meant_type t ns) {G = as_written} {H = H} (cedar_parent u)
    uid_alike u = λ i. record { id = u.id; ty = Some (go u.ty i); typed = due_there H.TYPED }
      where
        go : (ty : Option RawName) → meant_type t ns u.id ty ≡ meant_type t ns u.id (Some (type_or_action ty))
        go None = refl
        go (Some ty) = refl

    uids_alike : (us : List (ActionEntityUID RawName as_written))
        → map (renamed_uid R (meant_type t ns) {G = as_written} {H = H}) us
        ≡ map (renamed_uid R (meant_type t ns) {G = as_written} {H = H}) (map cedar_parent us)
    uids_alike [] = refl
    uids_alike (u ∷ us) = λ i. uid_alike u i ∷ uids_alike us i

    parents_alike : (o : Option (List (ActionEntityUID RawName as_written)))
        → list_or_empty (option_map (map (renamed_uid R (meant_type t ns) {G = as_written} {H = H})) o)
        ≡ list_or_empty (option_map (map (renamed_uid R (meant_type t ns) {G = as_written} {H = H})) (cedar_parents o))
    parents_alike None = refl
    parents_alike (Some []) = refl
    parents_alike (Some (u ∷ us)) = ap Some (uids_alike (u ∷ us))

  -- what an action applies to
  targets_found : (s : ApplySpec RawName) → Goods (of_apply itself s)
      → none (of_apply v s) ≡ none (of_apply v (cedar_spec s))
  targets_found s goods =
      let inner = all_back (Good t ns) (of_resources itself s.resource_types) _
      (all_back (Good t ns) (of_principals itself s.principal_types) _ goods) in
      both_found (of_principals v s.principal_types) _ (of_principals v s.principal_types) _ refl
      (both_found (of_resources v s.resource_types) _ (of_resources v s.resource_types) _ refl
      (context_alike t ns knows s.context.0 inner).found)

  targets_alike : (s : ApplySpec RawName) → Goods (of_apply itself s) → none (of_apply v s) ≡ true
      → referred_spec (renamed_apply R s) ≡ referred_spec (renamed_apply R (cedar_spec s))
  targets_alike s goods h =
      let inner = all_back (Good t ns) (of_resources itself s.resource_types) _
      (all_back (Good t ns) (of_principals itself s.principal_types) _ goods) in
      let rest = second_none (of_resources v s.resource_types) _
      (second_none (of_principals v s.principal_types) _ h) in
      let same = (context_alike t ns knows s.context.0 inner).alike rest in
      λ i. record {
        resource_types = map (R.name Entity) s.resource_types;
        principal_types = map (R.name Entity) s.principal_types;
        context = record { 0 = same i };
      }

  -- nothing is looked up of what applies to nothing
  empty_found : of_context v (record { 0 = record_type empty_record }) ≡ []
  empty_found =
      ap (at_context v) (ap (out-Type RawName) (sym (shape.rolls-Variant (variant.Record empty_record) None))
      ∙ out-roll-Type RawName (Type-F.Variant (variant.Record empty_record) None))
      ∙ variant_walked v empty_record ∙ record_walked v empty_record ∙ nothing_in
    where
      nothing_in : visit_where v (out-RecordType RawName empty_record).additional_attributes open_record
          ++ of_entries v (out-RecordType RawName empty_record).attributes ≡ []
      nothing_in = λ i. (let r = out-roll-RecordType RawName
          (record { attributes = []; additional_attributes = false }) i in
          visit_where v r.additional_attributes open_record ++ of_entries v r.attributes)

  empty_alike : referred (renamed R (record_type empty_record)) ≡ record_type empty_record
  empty_alike =
      ap (λ s. referred (renamed R s)) (sym (rolled RawName))
      ∙ ap referred (resolved_is t ns
      (Type-F.Variant (roll-TypeVariant RawName (TypeVariant-F.Record empty_record)) None)
      ∙ shape_resolved_is t ns (TypeVariant-F.Record empty_record) None)
      ∙ referred_is (TypeVariant-F.Record (renamed_record R empty_record)) None
      ∙ ap (λ r. as_reference (TypeVariant-F.Record r) None)
      (ap referred_record (record_resolved_is t ns none_of) ∙ referred_record_is none_of)
      ∙ rolled InternalName
    where
      none_of : {N : Type 0} → RecordType-F N («Type» N) (TypeVariant N) (RecordType N) (TypeOfAttribute N)
      none_of = record { attributes = []; additional_attributes = false }

      rolled : (N : Type 0) → roll-Type N
          (Type-F.Variant (roll-TypeVariant N (TypeVariant-F.Record empty_record)) None) ≡ record_type empty_record
      rolled N = ap (λ x. roll-Type N (Type-F.Variant x None)) (variant.rolls-Record empty_record)
          ∙ shape.rolls-Variant (variant.Record empty_record) None

  applies_found : (external : Bool) (o : Option (ApplySpec RawName)) → Goods (option_map_or (of_apply itself) o [])
      → none (option_map_or (of_apply v) o []) ≡ none (option_map_or (of_apply v) (cedar_applies external o) [])
  applies_found true o goods = refl
  applies_found false None goods = sym (ap none empty_found)
  applies_found false (Some s) goods = targets_found s goods

  applies_alike : (external : Bool) (o : Option (ApplySpec RawName)) → Goods (option_map_or (of_apply itself) o [])
      → none (option_map_or (of_apply v) o []) ≡ true
      → referred_applies external (option_map (renamed_apply R) o)
      ≡ referred_applies external (option_map (renamed_apply R) (cedar_applies external o))
  applies_alike true o goods h = refl
  applies_alike false None goods h =
      let same = sym empty_alike in
      λ i. Some (record { resource_types = []; principal_types = []; context = record { 0 = same i } })
  applies_alike false (Some s) goods h = ap Some (targets_alike s goods h)

  -- an action
  abbrev told_attributes : {U : Type 0} → (Part RawName → List U) → ActionType RawName as_written → List U
  told_attributes w a = option_map_or (λ names. w (action_attributes names)) a.attributes []

  abbrev told_parents : {U : Type 0} → (Part RawName → List U) → ActionType RawName as_written → List U
  told_parents w a = option_map_or (of_uids w) a.member_of []

  targets_good : (a : ActionType RawName as_written) → Goods (of_action itself a)
      → Goods (option_map_or (of_apply itself) a.applies_to [])
  targets_good a goods =
      all_back (Good t ns) (told_parents itself a) _
      (all_back (Good t ns) (told_attributes itself a) _
      (all_back (Good t ns) (visit_where itself _ external_not_bare) _ goods))

  pub action_found : (a : ActionType RawName as_written) → Goods (of_action itself a)
      → none (of_action v a) ≡ none (of_action v (cedar_action a))
  action_found a goods =
      beside_excess t ns knows _ _
      ∙ both_found (told_attributes v a) _ (told_attributes v a) _ refl
      (both_found (told_parents v a) _ (told_parents v (cedar_action a)) _ (parents_found a.member_of)
      (applies_found a.external a.applies_to (targets_good a goods)))
      ∙ sym (beside_excess t ns knows _ _)

  module _ {H : named.Ghosts InternalName} where
    abbrev pub resolved_action : ActionType RawName as_written → ActionType InternalName H
    resolved_action a = referred_action (renamed_action R (meant_type t ns) a)

    pub action_alike : (a : ActionType RawName as_written) → Goods (of_action itself a) → none (of_action v a) ≡ true
        → resolved_action a ≡ resolved_action (cedar_action a)
    action_alike a goods h =
        let parents = parents_alike {H = H} a.member_of in
        let rest = second_none (told_parents v a) _
        (second_none (told_attributes v a) _ (sym (beside_excess t ns knows _ _) ∙ h)) in
        let applies = applies_alike a.external a.applies_to (targets_good a goods) rest in
        λ i. record {
          attributes = a.attributes;
          applies_to = applies i;
          member_of = parents i;
          external = a.external;
          annotations = a.annotations;
          loc = a.loc;
        }
