-- A schema that is put together says what its fragment means.
use Rattle.std.proofs.Common.{◌≡◌, ◌<◌, ℕ, List, All, Vec, length, map, sym, subst}
use Rattle.std.specs.declared.alloc.Global.{Global}
use Rattle.std.proofs.lemmas.List.{length-map}
use Rattle.cedar_identifiers.specs.declared.name.Name.{Name}
use Rattle.cedar_identifiers.specs.declared.raw_name.RawName.{RawName}
use Rattle.cedar_names.specs.declared.entity_uid.EntityUID.{EntityUID}
use Rattle.cedar_names.specs.declared.extension_table.ExtensionTable.{ExtensionTable}
use Rattle.schema_json.specs.declared.fragment.Fragment.{Fragment}
use Rattle.schema_json.specs.AsWritten.{as_written}
use Rattle.schema_build_types.specs.declared.action.ValidatorActionId.{ValidatorActionId}
use Rattle.schema_build_types.specs.declared.entity_type.ValidatorEntityType.{ValidatorEntityType}
use Rattle.schema_build_expand.specs.Scope.{AreDeclaredOnce}
use Rattle.schema_build_scope.specs.FragmentScope.{fragment_scope}
use Rattle.schema_build_hierarchy.specs.Ancestors.{AreAncestorRows}
use Rattle.schema_build_hierarchy.specs.Declarations.{entity_name, action_key, declared_entities, declared_actions}
use Rattle.schema_build_hierarchy.specs.Entries.{entity_of, action_of_entry}
use Rattle.schema_build_hierarchy.specs.Parents.{IsAncestor, IsActionAncestor}
use Rattle.schema_build_items.specs.ActionKinds.{tests_alone}
use Rattle.schema_build_parts.specs.Parts.{ArePartsOf}
use Rattle.schema_build_parts.specs.declared.parts.FragmentParts.{FragmentParts}
use Rattle.schema_build.specs.Assembly.{AreEntitiesBuilt, AreActionsBuilt, HoldEntities, HoldActions}
use Rattle.schema_build.specs.Schemas.{Builds}
use Rattle.schema_build.proofs.Zipped.{rows_within}

module _ (f : Fragment RawName as_written) (table : ExtensionTable) (p : FragmentParts)
    (are : ArePartsOf f table p) where
  abbrev Within : ℕ → List (Vec ℕ Global) → Type 0
  Within n rows = All (λ (row : Vec ℕ Global). All (λ place. place < n) row.items) rows

  pub entities_within : (rows : List (Vec ℕ Global)) → rows ≡ p.above.items → Within (length p.entities.items) rows
  entities_within rows same = subst (Within (length p.entities.items)) (sym same)
      (rows_within (IsAncestor (tests_alone f table) (declared_entities f))
      (map (λ e. entity_name (entity_of e)) p.entities.items)
      p.above.items (length p.entities.items) (length-map p.entities.items (λ e. entity_name (entity_of e))) are.above)

  pub actions_within : (rows : List (Vec ℕ Global)) → rows ≡ p.above_actions.items
      → Within (length p.actions.items) rows
  actions_within rows same = subst (Within (length p.actions.items)) (sym same)
      (rows_within (IsActionAncestor (tests_alone f table) (declared_actions f))
      (map (λ e. action_key (action_of_entry e)) p.actions.items)
      p.above_actions.items (length p.actions.items)
      (length-map p.actions.items (λ e. action_key (action_of_entry e))) are.above_actions)

  pub entities_held : (rows : List (Vec ℕ Global)) → rows ≡ p.above.items
      → HoldEntities f table p.entities.items rows p.kinds.items
  entities_held rows same = record {
    entities = are.entities;
    rows = subst (AreAncestorRows (IsAncestor (tests_alone f table) (declared_entities f))
        (map (λ e. entity_name (entity_of e)) p.entities.items))
        (sym same) are.above;
    built = are.kinds;
  }

  pub actions_held : (rows : List (Vec ℕ Global)) → rows ≡ p.above_actions.items
      → HoldActions f table p.actions.items rows p.applied.items
  actions_held rows same = record {
    actions = are.actions;
    rows = subst (AreAncestorRows (IsActionAncestor (tests_alone f table) (declared_actions f))
        (map (λ e. action_key (action_of_entry e)) p.actions.items))
        (sym same) are.above_actions;
    built = are.applied;
  }

pub schema_built : (f : Fragment RawName as_written) (table : ExtensionTable)
    (entities : List (Name × ValidatorEntityType))
    (actions : List (EntityUID × ValidatorActionId)) → AreDeclaredOnce (fragment_scope f table)
    → AreEntitiesBuilt f table entities → AreActionsBuilt f table actions
    → Builds f table (record { entity_types = entities; actions = actions })
schema_built f table entities actions once es is =
    let (ms, mean, say) = es.1 in
    let (ns, apply, tell) = is.1 in (
      record { entities = ms; actions = ns },
      record { once = once; entities = mean; actions = apply },
      λ i. record { entities = (say i).entities; actions = (tell i).actions },
    )
