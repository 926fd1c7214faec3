-- What is said of two schema texts. Texts are their bytes.
use Rattle.std.specs.Prelude.{◌≢◌, ℕ, Bool, List, [], codes, if◌then◌else◌}
use Rattle.std.specs.Str.{encode_utf8_all}
use Rattle.cedar_names.specs.declared.extension_table.ExtensionTable.{ExtensionTable}
use Rattle.cedar_runs.specs.Reports.{Report}
use Rattle.cedar_runs.specs.declared.status.Status.TheVariants.{Done, Refused}
use Rattle.cedar_schema_core_faults.specs.Told.{fault_text}
use Rattle.cedar_schema_core_faults.specs.declared.recover_error.RecoverError.{RecoverError}
use Rattle.cedar_schema_core_faults.specs.declared.recover_error.RecoverError.TheVariants as recover
use Rattle.schema_same.specs.Same.{IsSameAnswer, HasMeaning, IsTextFault}

-- the report where both texts mean something
abbrev pub done_report : Bool → Report
done_report same = record {
  status = Done;
  out = encode_utf8_all (if same then codes "same\n" else codes "different\n");
  err = [];
}

-- the report where a text is no schema: which one goes to the output, and its faults to the error output
abbrev pub refused_report : List ℕ → List ℕ → RecoverError → Report
refused_report which text e = record {
  status = Refused;
  out = encode_utf8_all which;
  err = encode_utf8_all (fault_text text e);
}

-- what is said of two texts: whether they have one meaning, or the faults of the first one, or else of the second one
pub data IsSameReport (table : ExtensionTable) (first second : List ℕ) : Report → Type 0 where
  compared : (same : Bool) → IsSameAnswer first second table same → IsSameReport table first second (done_report same)
  first_refused : (e : RecoverError) → e ≢ recover.Memory → IsTextFault first table e
      → IsSameReport table first second (refused_report (codes "first\n") first e)
  second_refused : (e : RecoverError) → e ≢ recover.Memory → HasMeaning first table → IsTextFault second table e
      → IsSameReport table first second (refused_report (codes "second\n") second e)
