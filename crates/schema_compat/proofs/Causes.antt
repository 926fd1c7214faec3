-- The cause of a refusal in the deprecated form.
use Rattle.std.proofs.Common.{◌≡◌, ◌⊎◌, false, inl, inr, None, refl, ap, ◌∙◌}
use Rattle.serde_json.specs.Data.{Data}
use Rattle.serde_json.specs.Written.{has_float}
use Rattle.schema_json_errors.specs.declared.json_error.JsonDeserializationError.{JsonDeserializationError}
use Rattle.schema_json_errors.specs.declared.json_fault.JsonFault.{JsonFault}
use Rattle.schema_json_errors.specs.declared.json_fault.JsonFault.TheVariants as cause
use Rattle.schema_json_shapes.specs.Reads.{IsDemandFault}
use Rattle.schema_json_shapes.specs.declared.shape_fault.ShapeFault.{ShapeFault}
use Rattle.schema_json_shapes.specs.declared.shape_fault.ShapeFault.TheVariants as shape
use Rattle.schema_json_io.specs.Advice.{beside}
use Rattle.schema_json_io.specs.Causes.{IsValueCauseBy}
use Rattle.schema_json_io.specs.Faults.{of_shape}
use Rattle.schema_json_io.proofs.Causes.{value_cause_by}
use Rattle.schema_compat_types.specs.declared.fragment.SchemaFragment.{SchemaFragment}
use Rattle.schema_compat_shapes.specs.OldParts.{IsFirstOldFault}
use Rattle.schema_compat_convert.specs.Demands.{asks_fragment}
use Rattle.schema_compat.specs.Causes.{IsReadFault, IsConversionError}

-- a fault of reading, told as one of JSON
pub read_cause : (d : Data) (fault : ShapeFault) → has_float d ≡ false
    → (fault ≡ shape.Memory) ⊎ IsFirstOldFault d fault → IsValueCauseBy IsReadFault d (of_shape fault)
read_cause d fault w (inl m) = value_cause_by IsReadFault d fault w (inl m)
read_cause d fault w (inr h) = value_cause_by IsReadFault d fault w (inr (fault, h, refl))

-- no advice is none, beside any fault
beside_none : (fault : JsonFault) → beside fault None ≡ None
beside_none cause.Memory = refl
beside_none _ = refl

pub conversion_error : (s : SchemaFragment) (fault : ShapeFault) (e : JsonDeserializationError)
    → e.fault ≡ of_shape fault → e.advice ≡ beside (of_shape fault) None → IsDemandFault (asks_fragment s) fault
    → IsConversionError s e
conversion_error s fault e is advised (inl m) = (advised ∙ beside_none (of_shape fault), inl (is ∙ ap of_shape m))
conversion_error s fault e is advised (inr h) = (advised ∙ beside_none (of_shape fault), inr (fault, h, is))
