-- What objects that fit their tables must keep, field after field.
use Rattle.std.proofs.Common.{◌≡◌, ℕ, List, [], ◌∷◌, ◌++◌, inl, inr, refl, ap, Result, sym, subst, ◌∙◌}
use Rattle.std.specs.Prelude.{codes, true}
use Rattle.std.specs.Result.{IsErrAnd}
use Rattle.serde_json.specs.Data.{object, Members}
use Rattle.serde_json.specs.Find.{get_member}
use Rattle.schema_json_shapes.specs.Tables.{namespace_fields, entity_type_fields, action_fields, applies_to_fields}
use Rattle.schema_json_shapes.specs.Tables.{action_id_fields}
use Rattle.schema_json_shapes.specs.Walk.{AllMet, demands, object_demands, is_there, namespace, namespace_member}
use Rattle.schema_json_shapes.specs.Walk.{entity_type, entity_type_member, action, action_member, applies_to}
use Rattle.schema_json_shapes.specs.Walk.{applies_to_member, action_id, action_id_member, Role, Demand}
use Rattle.schema_json_shapes.specs.declared.shape_fault.ShapeFault.{ShapeFault}
use Rattle.schema_json_shapes.specs.Reads.{IsDemandFault, ReadsValue}
use Rattle.schema_json_shapes.proofs.Order.{Rises, NamesRise, fields_demands, field_rows, in_rows}
use Rattle.schema_json_shapes.proofs.Tabled.{tabled, none_missing, needed_there}
use Rattle.schema_json_shapes.proofs.Demands.{rows, row_fails, rows_met, refused, IfFails, IfEachMet}

-- an object whose fields are read one after the other
module _ (r : Role) (label : List ℕ) (role : List ℕ → Role) (ns : List (List ℕ)) (ms : Members)
    (whole : demands r label (object ms) ≡ object_demands r label ms ++ fields_demands role ns ms) where
  abbrev own : List Demand
  own = object_demands r label ms

  is_whole : rows own (field_rows role ns ms) ≡ demands r label (object ms)
  is_whole = in_rows role own ns ms ∙ sym whole

  pub field_refused : {X : Type 0} (P : X → Type 0) (k : ℕ) (x : Result X ShapeFault) (e : ShapeFault)
      → IsErrAnd x (λ y. y ≡ e) → IfFails k own (field_rows role ns ms) e (ReadsValue x (demands r label (object ms)) P)
  field_refused P k x e h =
      row_fails k own (field_rows role ns ms) e _
      (λ f. refused x e (demands r label (object ms)) P h (subst (λ ds. IsDemandFault ds e) is_whole f))

  pub fields_met : IfEachMet own (field_rows role ns ms) (AllMet (demands r label (object ms)))
  fields_met = rows_met own (field_rows role ns ms) _ (λ h. subst AllMet is_whole h)

abbrev pub namespace_names : List (List ℕ)
namespace_names = codes "actions" ∷ codes "annotations" ∷ codes "commonTypes" ∷ codes "entityTypes" ∷ []

namespace_rise : NamesRise namespace_names
namespace_rise = ((refl, (refl, (refl, tt))), ((refl, (refl, tt)), ((refl, tt), (tt, tt))))

pub namespace_whole : (n : List ℕ) (ms : Members) → Rises ms → AllMet (object_demands namespace n ms)
    → demands namespace n (object ms) ≡ object_demands namespace n ms
    ++ fields_demands namespace_member namespace_names ms
namespace_whole n ms rises own =
    ap (λ t. object_demands namespace n ms ++ t)
    (tabled namespace_member namespace_names namespace_fields ms namespace_rise refl rises (own.0, (own.1.0, tt)))

abbrev pub entity_type_names : List (List ℕ)
entity_type_names = codes "annotations" ∷ codes "enum" ∷ codes "external" ∷ codes "memberOfTypes" ∷ codes "shape"
    ∷ codes "tags" ∷ []

entity_type_rise : NamesRise entity_type_names
entity_type_rise = (
  (refl, (refl, (refl, (refl, (refl, tt))))),
  ((refl, (refl, (refl, (refl, tt)))), ((refl, (refl, (refl, tt))), ((refl, (refl, tt)), ((refl, tt), (tt, tt))))),
)

pub entity_type_whole : (n : List ℕ) (ms : Members) → Rises ms → AllMet (object_demands entity_type n ms)
    → demands entity_type n (object ms) ≡ object_demands entity_type n ms
    ++ fields_demands entity_type_member entity_type_names ms
entity_type_whole n ms rises own =
    ap (λ t. object_demands entity_type n ms ++ t)
    (tabled entity_type_member entity_type_names entity_type_fields ms entity_type_rise refl rises
    (own.0, (own.1.0, tt)))

abbrev pub action_names : List (List ℕ)
action_names = codes "annotations" ∷ codes "appliesTo" ∷ codes "attributes" ∷ codes "external" ∷ codes "memberOf" ∷ []

action_rise : NamesRise action_names
action_rise = (
  (refl, (refl, (refl, (refl, tt)))),
  ((refl, (refl, (refl, tt))), ((refl, (refl, tt)), ((refl, tt), (tt, tt)))),
)

pub action_whole : (n : List ℕ) (ms : Members) → Rises ms → AllMet (object_demands action n ms)
    → demands action n (object ms) ≡ object_demands action n ms ++ fields_demands action_member action_names ms
action_whole n ms rises own = ap (λ t. object_demands action n ms ++ t)
    (tabled action_member action_names action_fields ms action_rise refl rises (own.0, (own.1.0, tt)))

abbrev pub applies_to_names : List (List ℕ)
applies_to_names = codes "context" ∷ codes "principalTypes" ∷ codes "resourceTypes" ∷ []

applies_to_rise : NamesRise applies_to_names
applies_to_rise = ((refl, (refl, tt)), ((refl, tt), (tt, tt)))

pub applies_to_whole : (n : List ℕ) (ms : Members) → Rises ms → AllMet (object_demands applies_to n ms)
    → demands applies_to n (object ms) ≡ object_demands applies_to n ms
    ++ fields_demands applies_to_member applies_to_names ms
applies_to_whole n ms rises own =
    ap (λ t. object_demands applies_to n ms ++ t)
    (tabled applies_to_member applies_to_names applies_to_fields ms applies_to_rise refl rises (own.0, (own.1.0, tt)))

abbrev pub action_id_names : List (List ℕ)
action_id_names = codes "id" ∷ codes "type" ∷ []

action_id_rise : NamesRise action_id_names
action_id_rise = ((refl, tt), (tt, tt))

pub action_id_whole : (n : List ℕ) (ms : Members) → Rises ms → AllMet (object_demands action_id n ms)
    → demands action_id n (object ms) ≡ object_demands action_id n ms
    ++ fields_demands action_id_member action_id_names ms
action_id_whole n ms rises own =
    ap (λ t. object_demands action_id n ms ++ t)
    (tabled action_id_member action_id_names action_id_fields ms action_id_rise refl rises (own.0, (own.1.0, tt)))

pub namespace_has_entityTypes : (n : List ℕ) (ms : Members) → AllMet (object_demands namespace n ms)
    → is_there (get_member (codes "entityTypes") ms) ≡ true
namespace_has_entityTypes n ms own =
    needed_there (codes "entityTypes") namespace_fields ms (inr (inl refl))
    (none_missing namespace_fields ms (own.0, (own.1.0, tt)))

pub namespace_has_actions : (n : List ℕ) (ms : Members) → AllMet (object_demands namespace n ms)
    → is_there (get_member (codes "actions") ms) ≡ true
namespace_has_actions n ms own =
    needed_there (codes "actions") namespace_fields ms (inr (inr (inl refl)))
    (none_missing namespace_fields ms (own.0, (own.1.0, tt)))

pub applies_to_has_resourceTypes : (n : List ℕ) (ms : Members) → AllMet (object_demands applies_to n ms)
    → is_there (get_member (codes "resourceTypes") ms) ≡ true
applies_to_has_resourceTypes n ms own =
    needed_there (codes "resourceTypes") applies_to_fields ms (inl refl)
    (none_missing applies_to_fields ms (own.0, (own.1.0, tt)))

pub applies_to_has_principalTypes : (n : List ℕ) (ms : Members) → AllMet (object_demands applies_to n ms)
    → is_there (get_member (codes "principalTypes") ms) ≡ true
applies_to_has_principalTypes n ms own =
    needed_there (codes "principalTypes") applies_to_fields ms (inr (inl refl))
    (none_missing applies_to_fields ms (own.0, (own.1.0, tt)))

pub action_id_has_id : (n : List ℕ) (ms : Members) → AllMet (object_demands action_id n ms)
    → is_there (get_member (codes "id") ms) ≡ true
action_id_has_id n ms own = needed_there (codes "id") action_id_fields ms (inl refl)
    (none_missing action_id_fields ms (own.0, (own.1.0, tt)))
