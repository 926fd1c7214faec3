-- The first reason, or that the meaning admits the value.
use Rattle.std.proofs.Common.{Option, Some, None}
use Rattle.std.specs.Prelude.{MatchOption}
use Rattle.cedar_names.specs.Meaning.{SchemaMeaning}
use Rattle.schema_inclusion_values.specs.Admits.{SchemaValue, an_entity, a_request, an_action, Admits}
use Rattle.schema_inclusion_values.specs.Whole.{IsWhole}
use Rattle.schema_inclusion_reasons.specs.Reasons.{Reason, IsFirstReason}
use Rattle.schema_inclusion_reasons.specs.FirstReason.{first_reason}
use Rattle.schema_inclusion_reasons.proofs.EntityReasons.{entity_replied}
use Rattle.schema_inclusion_reasons.proofs.RequestReasons.{request_replied, action_replied}

module _ (m : SchemaMeaning) (w : IsWhole m) where
  abbrev Reply : SchemaValue → Option Reason → Type 0
  Reply x found = MatchOption found (Admits m x) (IsFirstReason m x)

  pub replied : (x : SchemaValue) → Reply x (first_reason m x)
  replied (an_entity x) = entity_replied m w x
  replied (a_request x) = request_replied m w x
  replied (an_action x) = action_replied m w x

  of_reply : (x : SchemaValue) (o : Option Reason) → Reply x o → (Admits m x → ⊥) → (r : Reason) × IsFirstReason m x r
  of_reply x None h refused = absurd (refused h)
  of_reply x (Some r) h refused = (r, h)

  pub found : (x : SchemaValue) → (Admits m x → ⊥) → (r : Reason) × IsFirstReason m x r
  found x refused = of_reply x (first_reason m x) (replied x) refused
