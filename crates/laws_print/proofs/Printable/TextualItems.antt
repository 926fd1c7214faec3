-- Entity types and actions of a printable fragment are textual, where they are orderly.
use Rattle.std.proofs.Common.{◌≡◌, ℕ, Bool, true, false, not, ◌&&◌, List, [], ◌∷◌, ◌++◌, Option, Some, None, refl}
use Rattle.std.proofs.Common.{sym, subst}
use Rattle.std.specs.Cmp.{first_so, second_so}
use Rattle.std.specs.List.{AllByRecursion}
use Rattle.std.specs.Option.{is_none, option_map_or}
use Rattle.cedar_data.proofs.Every.{all_front, all_back}
use Rattle.cedar_data.proofs.Options.{none_from_test}
use Rattle.cedar_identifiers.specs.declared.raw_name.RawName.{RawName}
use Rattle.cedar_identifiers.specs.declared.unreserved_id.UnreservedId.{UnreservedId}
use Rattle.schema_json.specs.Shapes.{is_empty_type}
use Rattle.schema_json.specs.declared.action_type.ActionType.{ActionType}
use Rattle.schema_json.specs.declared.action_type.ApplySpec.{ApplySpec}
use Rattle.schema_json.specs.declared.common_type.CommonType.{CommonType}
use Rattle.schema_json.specs.declared.common_type.CommonTypeId.{CommonTypeId}
use Rattle.schema_json.specs.declared.entity_type.EntityType.{EntityType}
use Rattle.schema_json.specs.declared.entity_type.EntityTypeKind.{EntityTypeKind}
use Rattle.schema_json.specs.declared.entity_type.EntityTypeKind.TheVariants.{Standard, Enum}
use Rattle.schema_json.specs.declared.types.Type.{«Type», Type-F, out-Type}
use Rattle.schema_json.specs.AsWritten.{as_written}
use Rattle.laws_written.specs.Printed.{AreProperNotes}
use Rattle.schema_json_walk.specs.Bare.{is_bare_kind, is_bare_entity, is_bare_action}
use Rattle.schema_json_walk.specs.Parts.{Part, action_attributes, external_not_bare}
use Rattle.schema_json_walk.specs.Walk.{itself, each_value, visit_where, at_context, of_type, of_common, of_parents}
use Rattle.schema_json_walk.specs.Walk.{of_principals, of_resources, of_kind, of_entity, of_apply}
use Rattle.schema_json_walk.specs.Walk.{of_uids, of_action}
use Rattle.schema_print.specs.Collisions.{is_record_type}
use Rattle.schema_print.specs.Printable.{IsClosedPart, IsBare, IsWithoutAttributes, is_record_or_common}
use Rattle.schema_print.specs.Printable.{has_printable_context, are_whole_targets, has_whole_targets}
use Rattle.laws_print.specs.Printed.Textual.{IsTextualType, AreTextualTags, IsTextualKind, IsWrittenRecord}
use Rattle.laws_print.specs.Printed.Textual.{IsTextualOutside}
use Rattle.laws_print.specs.Printed.Textual.{AreTargets, AppliesAsText}
use Rattle.laws_print.specs.Printable.Orderly.{IsOrderlyType, AreOrderlyTags, IsOrderlyKind, HasOrderlyContext}
use Rattle.laws_print.proofs.Printable.ClosedTypes.{type_closed, outside_closed}
use Rattle.laws_print.proofs.Printable.RecordTypes.{Outer, written_as_record, empty_bare}

abbrev N : Type 0
N = RawName

abbrev Parts : Type 0
Parts = List (Part N)

abbrev AreClosed : Parts → Type 0
AreClosed = AllByRecursion IsClosedPart

abbrev AreBare : Parts → Type 0
AreBare = AllByRecursion IsBare

-- what another schema declares is bare, where the walk does not say otherwise
bare_where : (b : Bool) → AreBare (visit_where itself (true && not b) external_not_bare) → b ≡ true
bare_where true h = refl
bare_where false h = absurd h.0

tags_textual : (tags : Option («Type» N)) → AreClosed (option_map_or (of_type itself) tags []) → AreOrderlyTags tags
    → AreTextualTags tags
tags_textual None closed up = tt
tags_textual (Some s) closed up = (type_closed s closed, up)

kind_textual : (x : Bool) (k : EntityTypeKind N)
    → AreBare (visit_where itself (x && not (is_bare_kind k)) external_not_bare) → AreClosed (of_kind itself k)
    → IsOrderlyKind k → IsTextualKind x k
kind_textual true (Standard e) bare closed up =
    let both = bare_where (is_empty_type e.shape.0 && is_none e.tags) bare in (
      empty_bare e.shape.0 (first_so (is_empty_type e.shape.0) (is_none e.tags) both),
      none_from_test e.tags (second_so (is_empty_type e.shape.0) (is_none e.tags) both),
    )
kind_textual true (Enum choices) bare closed up = absurd bare.0
kind_textual false (Standard e) bare closed up =
    let shape = of_type itself e.shape.0 in
    let tags = option_map_or (of_type itself) e.tags [] in
    let inner = all_back IsClosedPart (of_parents itself e.member_of_types) (shape ++ tags) closed in (
      (type_closed e.shape.0 (all_front IsClosedPart shape tags inner), up.0),
      tags_textual e.tags (all_back IsClosedPart shape tags inner) up.1,
    )
kind_textual false (Enum choices) bare closed up = up

entity_textual : (e : EntityType N) → AreClosed (of_entity itself e) → AreBare (of_entity itself e)
    → IsOrderlyKind e.kind → IsTextualKind e.external e.kind
entity_textual e closed bare up =
    let there = visit_where itself (e.external && not (is_bare_entity e)) external_not_bare in
    kind_textual e.external e.kind (all_front IsBare there (of_kind itself e.kind) bare)
    (all_back IsClosedPart there (of_kind itself e.kind) closed) up

-- each entity type
pub entities_textual : (es : List (UnreservedId × EntityType N)) → AreClosed (each_value (of_entity itself) es)
    → AreBare (each_value (of_entity itself) es)
    → AllByRecursion (λ e. AreProperNotes e.1.annotations.0 × IsOrderlyKind e.1.kind) es
    → AllByRecursion (λ e. IsTextualKind e.1.external e.1.kind) es
entities_textual [] closed bare up = tt
entities_textual (e ∷ es) closed bare (here, more) =
    let first = of_entity itself e.1 in
    let rest = each_value (of_entity itself) es in (
      entity_textual e.1 (all_front IsClosedPart first rest closed) (all_front IsBare first rest bare) here.1,
      entities_textual es (all_back IsClosedPart first rest closed) (all_back IsBare first rest bare) more,
    )

-- each common type
pub commons_textual : (es : List (CommonTypeId × CommonType N)) → AreClosed (each_value (of_common itself) es)
    → AllByRecursion (λ e. AreProperNotes e.1.annotations.0 × IsOrderlyType e.1.ty) es
    → AllByRecursion (λ e. IsTextualType e.1.ty) es
commons_textual [] closed up = tt
commons_textual (e ∷ es) closed (here, more) =
    let first = of_type itself e.1.ty in
    let rest = each_value (of_common itself) es in (
      (type_closed e.1.ty (all_front IsClosedPart first rest closed), here.1),
      commons_textual es (all_back IsClosedPart first rest closed) more,
    )

-- a record, or a reference to a common type
abbrev pub record_or_common : «Type» N → Outer → Bool
record_or_common context (Type-F.Variant ty loc) = is_record_type context
record_or_common context (Type-F.CommonTypeRef name loc) = true

context_textual : (s : «Type» N) (o : Outer) → out-Type N s ≡ o → AreClosed (at_context itself o)
    → record_or_common s o ≡ true → IsOrderlyType s → IsTextualOutside o s
context_textual s (Type-F.Variant v loc) e closed test up =
    let as_record = written_as_record s test in
    (subst IsWrittenRecord (sym as_record.1) tt, (outside_closed s v loc e closed, up))
context_textual s (Type-F.CommonTypeRef name loc) e closed test up = tt

targets_textual : (principals resources : List N) (context : «Type» N)
    → AreClosed (at_context itself (out-Type N context))
    → is_record_or_common context ≡ true → are_whole_targets principals resources context ≡ true
    → IsOrderlyType context → AreTargets principals resources context
targets_textual [] [] context closed test whole up = empty_bare context whole
targets_textual [] (r ∷ rs) context closed test whole up = absurd (cc)
targets_textual (p ∷ ps) [] context closed test whole up = absurd (cc)
targets_textual (p ∷ ps) (r ∷ rs) context closed test whole up =
    context_textual context (out-Type N context) refl closed test up

applied_textual : (x : Bool) (names : Option (List (List ℕ))) (spec : Option (ApplySpec N))
    → AreBare (visit_where itself (x && not (is_none names && is_none spec)) external_not_bare)
    → AreClosed (option_map_or (of_apply itself) spec []) → has_printable_context spec ≡ true
    → has_whole_targets spec ≡ true → HasOrderlyContext spec → AppliesAsText x spec
applied_textual true names None bare closed test whole up = tt
applied_textual false names None bare closed test whole up = tt
applied_textual true names (Some spec) bare closed test whole up =
    let no : false ≡ true = second_so (is_none names) false (bare_where (is_none names && false) bare) in
    absurd (cc)
applied_textual false names (Some spec) bare closed test whole up =
    let context = at_context itself (out-Type N spec.context.0) in
    let resources = of_resources itself spec.resource_types in
    targets_textual spec.principal_types spec.resource_types spec.context.0
    (all_back IsClosedPart resources context
    (all_back IsClosedPart (of_principals itself spec.principal_types) (resources ++ context) closed))
    test whole up

no_attributes : (names : Option (List (List ℕ)))
    → AllByRecursion IsWithoutAttributes (option_map_or (λ names. itself (action_attributes names)) names [])
    → names ≡ None
no_attributes None h = refl
no_attributes (Some names) h = absurd h.0

abbrev Action : Type 0
Action = ActionType N as_written

-- an action has no attributes, and applies as its text says
abbrev IsTextualAction : Action → Type 0
IsTextualAction a = (a.attributes ≡ None) × AppliesAsText a.external a.applies_to

action_textual : (a : Action) → AreClosed (of_action itself a) → AreBare (of_action itself a)
    → AllByRecursion IsWithoutAttributes (of_action itself a) → has_printable_context a.applies_to ≡ true
    → has_whole_targets a.applies_to ≡ true → HasOrderlyContext a.applies_to → IsTextualAction a
action_textual a closed bare without test whole up =
    let there = visit_where itself (a.external && not (is_bare_action a)) external_not_bare in
    let names = option_map_or (λ names. itself (action_attributes names)) a.attributes [] in
    let parents = option_map_or (of_uids itself) a.member_of [] in
    let applied = option_map_or (of_apply itself) a.applies_to [] in
    let rest = names ++ (parents ++ applied) in (
      no_attributes a.attributes (all_front IsWithoutAttributes names (parents ++ applied)
          (all_back IsWithoutAttributes there rest without)),
      applied_textual a.external a.attributes a.applies_to (all_front IsBare there rest bare)
          (all_back IsClosedPart parents applied
          (all_back IsClosedPart names (parents ++ applied) (all_back IsClosedPart there rest closed)))
          test whole up,
    )

-- each action
pub actions_textual : (es : List (List ℕ × Action)) → AreClosed (each_value (of_action itself) es)
    → AreBare (each_value (of_action itself) es)
    → AllByRecursion IsWithoutAttributes (each_value (of_action itself) es)
    → AllByRecursion (λ e. has_printable_context e.1.applies_to ≡ true) es
    → AllByRecursion (λ e. has_whole_targets e.1.applies_to ≡ true) es
    → AllByRecursion (λ e. AreProperNotes e.1.annotations.0 × HasOrderlyContext e.1.applies_to) es
    → AllByRecursion (λ e. (e.1.attributes ≡ None) × AppliesAsText e.1.external e.1.applies_to) es
actions_textual [] closed bare without tests wholes up = tt
actions_textual (e ∷ es) closed bare without (test, tests) (whole, wholes) (here, more) =
    let first = of_action itself e.1 in
    let rest = each_value (of_action itself) es in (
      action_textual e.1 (all_front IsClosedPart first rest closed) (all_front IsBare first rest bare)
          (all_front IsWithoutAttributes first rest without) test whole here.1,
      actions_textual es (all_back IsClosedPart first rest closed) (all_back IsBare first rest bare)
          (all_back IsWithoutAttributes first rest without) tests wholes more,
    )
