-- What is said of schemas that have no fragment or no text.
use Rattle.std.specs.Prelude.{ℕ, List, codes}
use Rattle.schema_build_errors.specs.CapturedTexts.{captured_text}
use Rattle.schema_build_errors.specs.declared.recovery_error.RecoveryError.{RecoveryError}
use Rattle.schema_build_errors.specs.declared.recovery_error.RecoveryError.TheVariants.{UnknownElement, JoinedEntities}
use Rattle.schema_build_errors.specs.declared.recovery_error.RecoveryError.TheVariants.{Unsupported, Memory}
use Rattle.schema_build_errors.specs.declared.recovery_error.ToTextError.{ToTextError}
use Rattle.schema_build_errors.specs.declared.recovery_error.ToTextError.TheVariants.{Recovery, Captured}
use Rattle.schema_build_errors.specs.declared.recovery_error.ToTextError.TheVariants as to_text

-- what an error of recovery says
abbrev pub recovery_text : RecoveryError → List ℕ
recovery_text UnknownElement = codes "Set with unknown element type not supported"
recovery_text JoinedEntities = codes "Entity LUB with multiple types not supported"
recovery_text Unsupported = codes "Unsupported type for conversion"
recovery_text Memory = codes "out of memory"

-- what an error of printing a schema says
abbrev pub to_text_error_text : ToTextError → List ℕ
to_text_error_text (Recovery e) = recovery_text e
to_text_error_text (Captured e) = captured_text e
to_text_error_text to_text.Memory = codes "out of memory"
