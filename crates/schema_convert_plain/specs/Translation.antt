-- What a tree is translated to.
use Rattle.std.specs.Prelude.{◌≡◌, List, []}
use Rattle.cedar_identifiers.specs.declared.raw_name.RawName.{RawName}
use Rattle.cedar_names.specs.declared.extension_table.ExtensionTable.{ExtensionTable}
use Rattle.schema_syntax_tree.specs.declared.annotated.Annotated.{Annotated}
use Rattle.schema_syntax_tree.specs.declared.namespace.Namespace.{Namespace}
use Rattle.schema_json.specs.declared.fragment.Fragment.{Fragment}
use Rattle.schema_json.specs.AsWritten.{as_written}
use Rattle.schema_convert_fragments.specs.Fragments.{fragment_of}
use Rattle.schema_convert_errors.specs.declared.warnings.SchemaWarning.{SchemaWarning}
use Rattle.schema_convert_openings.specs.Joined.{joined}
use Rattle.schema_convert_faults.specs.Faults.{translation_faults}
use Rattle.schema_convert_faults.specs.Shadowings.{shadowings}

-- the fragment of a tree without faults: that of its joined namespaces
abbrev pub translated : List (Annotated Namespace) → Fragment RawName as_written
translated tree = fragment_of (joined tree)

-- the tree has no fault, and this is its fragment, with these warnings
pub record IsTranslation (tree : List (Annotated Namespace)) (table : ExtensionTable)
    (fragment : Fragment RawName as_written) (warnings : List SchemaWarning) : Type 0 where
  pub lawful : translation_faults tree ≡ []
  pub is : fragment ≡ translated tree
  pub warned : warnings ≡ shadowings tree table
