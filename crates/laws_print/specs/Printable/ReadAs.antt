-- Texts that are read as a fragment, and fragments that resolve alike.
use Rattle.std.specs.Prelude.{◌≡◌, ◌↔◌, ℕ, List, []}
use Rattle.cedar_identifiers.specs.declared.raw_name.RawName.{RawName}
use Rattle.cedar_names.specs.declared.extension_table.ExtensionTable.{ExtensionTable}
use Rattle.schema_json.specs.declared.fragment.Fragment.{Fragment}
use Rattle.schema_json.specs.AsWritten.{as_written}
use Rattle.schema_convert_errors.specs.declared.warnings.SchemaWarning.{SchemaWarning}
use Rattle.schema_convert.specs.Translated.{IsTranslationOfText}
use Rattle.laws_translate.specs.BareFragments.{bare_fragment}
use Rattle.schema_resolve_definitions.specs.Defined.{defined}
use Rattle.schema_resolve_definitions.specs.Tests.{tests_of}
use Rattle.schema_resolve.specs.Resolved.{resolved}
use Rattle.schema_resolve_targets.specs.Untargeted.{undefined}
use Rattle.laws_print.specs.Resolving.Alike.{AreAlike, as_resolved}

-- The text has a tree, without a fault of its syntax and without a user fault, and the tree is translated without a
-- fault, to a fragment that is this one, places aside.
pub record IsReadAs (text : List ℕ) (table : ExtensionTable) (f : Fragment RawName as_written) : Type 0 where
  pub fragment : Fragment RawName as_written
  pub warnings : List SchemaWarning
  pub read : IsTranslationOfText text table fragment warnings
  pub same : bare_fragment fragment ≡ bare_fragment f

-- Under the table both define the same, each reference of the one means something exactly where each of the other does,
-- and then what both resolve to is alike.
pub record ResolveAlike (f g : Fragment RawName as_written) (table : ExtensionTable) : Type 0 where
  pub same_defined : defined f table ≡ defined g table
  pub found : (undefined (tests_of (defined f table)) f ≡ []) ↔ (undefined (tests_of (defined g table)) g ≡ [])
  pub alike : undefined (tests_of (defined f table)) f ≡ []
      → AreAlike {H = as_resolved} (resolved (tests_of (defined f table)) f) (resolved (tests_of (defined g table)) g)
