-- What a value is about: an entity, or the action of a request or of an action with one that is above it.
use Rattle.schema_inclusion_values.specs.Values.{Text, Name}
use Rattle.schema_inclusion_values.specs.Admits.{Action, SchemaValue, an_entity, a_request, an_action}

-- an entity by its type and id, the action of a request, or an action with one that is above it
pub data Subject : Type 0 where
  of_entity : Name × Text → Subject
  of_request : Action → Subject
  of_action : Action → Subject

-- what the value is about
abbrev pub subject : SchemaValue → Subject
subject (an_entity x) = of_entity (x.ty, x.id)
subject (a_request x) = of_request x.action
subject (an_action x) = of_action x.action
