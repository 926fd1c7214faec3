-- The cause of a fault of a value, and of a text.
use Rattle.std.proofs.Common.{◌≡◌, ◌⊎◌, false, inl, inr, refl}
use Rattle.serde_json.specs.Data.{Data}
use Rattle.serde_json.specs.Written.{has_float}
use Rattle.std.specs.Prelude.{[]}
use Rattle.schema_json_errors.specs.declared.json_fault.JsonFault.{JsonFault}
use Rattle.schema_json_shapes.specs.declared.shape_fault.ShapeFault.{ShapeFault}
use Rattle.schema_json_shapes.specs.declared.shape_fault.ShapeFault.TheVariants as shape
use Rattle.schema_json_shapes.specs.Walk.{fragment, demands}
use Rattle.schema_json_shapes.specs.Reads.{IsDemandFault}
use Rattle.schema_json_io.specs.Causes.{IsFirstJsonFault, IsValueCause, IsValueCauseBy}
use Rattle.schema_json_io.specs.Faults.{of_shape}

pub value_cause_by : (IsFirst : Data → JsonFault → Type 0) (d : Data) (fault : ShapeFault) → has_float d ≡ false
    → (fault ≡ shape.Memory) ⊎ IsFirst d (of_shape fault) → IsValueCauseBy IsFirst d (of_shape fault)
value_cause_by IsFirst d (shape.UnknownField name) w (inl m) = absurd (cc)
value_cause_by IsFirst d (shape.UnknownField name) w (inr h) = (w, h)
value_cause_by IsFirst d (shape.MissingField name) w (inl m) = absurd (cc)
value_cause_by IsFirst d (shape.MissingField name) w (inr h) = (w, h)
value_cause_by IsFirst d (shape.WrongType name) w (inl m) = absurd (cc)
value_cause_by IsFirst d (shape.WrongType name) w (inr h) = (w, h)
value_cause_by IsFirst d (shape.BadName role text fault) w (inl m) = absurd (cc)
value_cause_by IsFirst d (shape.BadName role text fault) w (inr h) = (w, h)
value_cause_by IsFirst d (shape.ReservedCommonType id) w (inl m) = absurd (cc)
value_cause_by IsFirst d (shape.ReservedCommonType id) w (inr h) = (w, h)
value_cause_by IsFirst d shape.EmptyEnum w (inl m) = absurd (cc)
value_cause_by IsFirst d shape.EmptyEnum w (inr h) = (w, h)
value_cause_by IsFirst d (shape.ExternalConflict fields) w (inl m) = absurd (cc)
value_cause_by IsFirst d (shape.ExternalConflict fields) w (inr h) = (w, h)
value_cause_by IsFirst d (shape.EnumConflict fields) w (inl m) = absurd (cc)
value_cause_by IsFirst d (shape.EnumConflict fields) w (inr h) = (w, h)
value_cause_by IsFirst d shape.AnnotationsOnEmptyNamespace w (inl m) = absurd (cc)
value_cause_by IsFirst d shape.AnnotationsOnEmptyNamespace w (inr h) = (w, h)
value_cause_by IsFirst d shape.Memory w h = tt

pub value_cause : (d : Data) (fault : ShapeFault) → has_float d ≡ false → IsDemandFault (demands fragment [] d) fault
    → IsValueCause d (of_shape fault)
value_cause d fault w (inl m) = value_cause_by IsFirstJsonFault d fault w (inl m)
value_cause d fault w (inr h) = value_cause_by IsFirstJsonFault d fault w (inr (fault, h, refl))
