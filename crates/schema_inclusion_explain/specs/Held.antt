-- What reasons in memory stand for.
use Rattle.std.specs.Prelude.{List, [], ◌∷◌}
use Rattle.cedar_identifiers.specs.Names.{components_of}
use Rattle.schema_inclusion_reasons.specs.Places.{Step, attr, member, Path}
use Rattle.schema_inclusion_reasons.specs.Misfits.{Shape, a_bool, a_long, a_string, a_set, a_record, entity_of}
use Rattle.schema_inclusion_reasons.specs.Misfits.{extension_of, Cause, is_required, is_unknown, is_reshaped, has_no_id}
use Rattle.schema_inclusion_reasons.specs.Misfits.{is_disordered}
use Rattle.schema_inclusion_explain.specs.declared.places.Step as steps
use Rattle.schema_inclusion_explain.specs.declared.places.Step.TheVariants as step
use Rattle.schema_inclusion_explain.specs.declared.places.Shape as shapes
use Rattle.schema_inclusion_explain.specs.declared.places.Shape.TheVariants as shape
use Rattle.schema_inclusion_explain.specs.declared.places.Cause as causes
use Rattle.schema_inclusion_explain.specs.declared.places.Cause.TheVariants as cause
use Rattle.schema_inclusion_explain.specs.declared.places.Found as found

-- a step in memory
abbrev pub held_step : steps.Step → Step
held_step (step.Attr n) = attr n
held_step (step.Member i) = member i

-- a shape in memory
abbrev pub held_shape : shapes.Shape → Shape
held_shape shape.Bool = a_bool
held_shape shape.Long = a_long
held_shape shape.Str = a_string
held_shape shape.Set = a_set
held_shape shape.Record = a_record
held_shape (shape.Entity n) = entity_of (components_of n.name)
held_shape (shape.Extension n) = extension_of n.id.text

-- a cause in memory
abbrev pub held_cause : causes.Cause → Cause
held_cause cause.Required = is_required
held_cause cause.Unknown = is_unknown
held_cause (cause.Reshaped was now) = is_reshaped (held_shape was) (held_shape now)
held_cause (cause.NoId n id) = has_no_id (components_of n.name) id
held_cause cause.Disordered = is_disordered

-- steps, the innermost first, before a path
abbrev pub outwards : List steps.Step → Path → Path
outwards [] p = p
outwards (s ∷ ss) p = outwards ss (held_step s ∷ p)

-- a place, by the steps to it, the innermost first, with a cause
abbrev pub held_found : found.Found → Path × Cause
held_found f = (outwards f.steps.items [], held_cause f.cause)
