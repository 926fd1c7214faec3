-- What a schema text means, whether or not a name in it is captured. The text is its bytes.
use Rattle.std.specs.Prelude.{ℕ, List}
use Rattle.cedar_identifiers.specs.declared.raw_name.RawName.{RawName}
use Rattle.cedar_names.specs.Meaning.{SchemaMeaning}
use Rattle.cedar_names.specs.declared.extension_table.ExtensionTable.{ExtensionTable}
use Rattle.schema_json.specs.declared.fragment.Fragment.{Fragment}
use Rattle.schema_json.specs.AsWritten.{as_written}
use Rattle.schema_build.specs.Texts.{IsFragmentOf}
use Rattle.schema_build_checks.specs.Rows.{Never}
use Rattle.schema_build_parts.specs.BuildFaults.{BuildFault}
use Rattle.schema_build.specs.Meaning.{FragmentMeaning}

-- the text is translated to a fragment without a fault that has this meaning
pub record TextMeans (text : List ℕ) (table : ExtensionTable) (m : SchemaMeaning) : Type 0 where
  pub fragment : Fragment RawName as_written
  pub translated : IsFragmentOf text table fragment
  pub faultless : Never (BuildFault fragment table)
  pub means : FragmentMeaning fragment table m
