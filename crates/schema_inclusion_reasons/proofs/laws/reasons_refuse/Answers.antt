use Rattle.cedar_names.specs.Meaning.{SchemaMeaning}
use Rattle.schema_inclusion_values.specs.Admits.{SchemaValue, an_entity, a_request, an_action, Admits}
use Rattle.schema_inclusion_values.specs.Whole.{IsWhole}
use Rattle.schema_inclusion_values.proofs.Settled.{whole}
use Rattle.schema_inclusion_reasons.specs.Reasons.{Reason, IsReason}
use Rattle.schema_inclusion_reasons.proofs.EntityReasons.{entity_refused}
use Rattle.schema_inclusion_reasons.proofs.RequestReasons.{request_refused, action_refused}
use Rattle.schema_inclusion_reasons.proofs.laws.reasons_refuse.Goals as goal

refused : (m : SchemaMeaning) → IsWhole m → (x : SchemaValue) (r : Reason) → IsReason m x r → Admits m x → ⊥
refused m w (an_entity x) r h a = entity_refused m w x r h a
refused m w (a_request x) r h a = request_refused m w x r h a
refused m w (an_action x) r h a = action_refused m w x r h a

pub returns : goal.returns
returns c = λ m s x r h a. refused m (whole m s) x r h a
