-- A fragment with the extension table that it stands under.
use Rattle.cedar_identifiers.specs.declared.name_text.NameText as named
use Rattle.cedar_identifiers.specs.declared.raw_name.RawName.{RawName}
use Rattle.cedar_names.specs.declared.extension_table.ExtensionTable.{ExtensionTable}
use Rattle.schema_json.specs.declared.fragment.Fragment.{Fragment}

-- a fragment with the extension table that it stands under
pub record FragmentUnder (G : named.Ghosts RawName) : Type 0 where
  pub fragment : Fragment RawName G
  pub table : ExtensionTable
