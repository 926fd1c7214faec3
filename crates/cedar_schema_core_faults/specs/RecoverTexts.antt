-- What is said, advised and pointed to where nothing was recovered: what the fault that it came of says.
use Rattle.std.specs.Prelude.{ℕ, List, [], codes, Option, None}
use Rattle.cedar_data.specs.declared.label.Label.{Label}
use Rattle.schema_convert_errors.specs.ErrorTexts.{text_failure_text}
use Rattle.schema_convert_errors.specs.ErrorPlaces.{text_failure_help, text_failure_labels}
use Rattle.schema_build_errors.specs.CapturedTexts.{captured_text}
use Rattle.schema_build_errors.specs.SchemaErrorTexts.{schema_error_text, schema_error_help, schema_error_labels}
use Rattle.cedar_schema_core_faults.specs.declared.recover_error.RecoverError.{RecoverError}
use Rattle.cedar_schema_core_faults.specs.declared.recover_error.RecoverError.TheVariants.{Parse, Schema, Captured}
use Rattle.cedar_schema_core_faults.specs.declared.recover_error.RecoverError.TheVariants.{Memory}

-- what is said where nothing was recovered, in characters
abbrev pub recover_text : RecoverError → List ℕ
recover_text (Parse errors) = text_failure_text errors
recover_text (Schema e) = schema_error_text e
recover_text (Captured c) = captured_text c
recover_text Memory = codes "out of memory"

-- the advice on a source from which nothing was recovered
abbrev pub recover_help : RecoverError → List ℕ → Option (List ℕ)
recover_help (Parse errors) source = text_failure_help errors source
recover_help (Schema e) source = schema_error_help e
recover_help (Captured c) source = None
recover_help Memory source = None

-- the places that are pointed to where nothing was recovered
abbrev pub recover_labels : RecoverError → List Label
recover_labels (Parse errors) = text_failure_labels errors
recover_labels (Schema e) = schema_error_labels e
recover_labels (Captured c) = []
recover_labels Memory = []
