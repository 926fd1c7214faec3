-- What is built of the declarations of a fragment.
use Rattle.std.specs.Prelude.{map}
use Rattle.std.specs.List.{AllZip}
use Rattle.cedar_identifiers.specs.declared.raw_name.RawName.{RawName}
use Rattle.cedar_names.specs.declared.extension_table.ExtensionTable.{ExtensionTable}
use Rattle.schema_json.specs.declared.fragment.Fragment.{Fragment}
use Rattle.schema_json.specs.AsWritten.{as_written}
use Rattle.schema_build_scope.specs.FragmentScope.{fragment_scope}
use Rattle.schema_build_hierarchy.specs.Ancestors.{AreAncestorRows}
use Rattle.schema_build_hierarchy.specs.Declarations.{declared_entities, declared_actions, entity_name, action_key}
use Rattle.schema_build_hierarchy.specs.Entries.{AreEntities, AreActions, entity_of, action_of_entry}
use Rattle.schema_build_hierarchy.specs.Parents.{IsAncestor, IsActionAncestor}
use Rattle.schema_build_items.specs.ActionKinds.{IsActionKindBuilt, tests_alone}
use Rattle.schema_build_items.specs.Kinds.{IsKindBuilt}
use Rattle.schema_build_parts.specs.declared.parts.FragmentParts.{FragmentParts}

-- the parts hold what the fragment declares, in the order of names; each declaration is built as what it means, and its
-- row holds the ranks of its ancestors
pub record ArePartsOf (f : Fragment RawName as_written) (table : ExtensionTable) (p : FragmentParts) : Type 0 where
  pub entities : AreEntities (declared_entities f) p.entities.items
  pub actions : AreActions (declared_actions f) p.actions.items
  pub kinds : AllZip (IsKindBuilt (fragment_scope f table)) (map entity_of p.entities.items) p.kinds.items
  pub applied : AllZip (IsActionKindBuilt (tests_alone f table) (fragment_scope f table))
      (map action_of_entry p.actions.items) p.applied.items
  pub above : AreAncestorRows (IsAncestor (tests_alone f table) (declared_entities f))
      (map (λ e. entity_name (entity_of e)) p.entities.items) p.above.items
  pub above_actions : AreAncestorRows (IsActionAncestor (tests_alone f table) (declared_actions f))
      (map (λ e. action_key (action_of_entry e)) p.actions.items) p.above_actions.items
