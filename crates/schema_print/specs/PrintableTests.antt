-- How the code tells whether a fragment is printable: a test of each namespace, and one of each part of the walk.
use Rattle.std.specs.Prelude.{ℕ, Bool, true, false, not, ◌&&◌, ◌||◌, List, ◌∷◌, [], ◌++◌, Option, Some, None}
use Rattle.std.specs.List.{list_all, list_any}
use Rattle.cedar_identifiers.specs.Candidates.{is_unqualified}
use Rattle.cedar_identifiers.specs.Names.{components_of}
use Rattle.cedar_identifiers.specs.declared.internal_name.InternalName.{InternalName}
use Rattle.cedar_identifiers.specs.declared.name.Name.{Name}
use Rattle.cedar_identifiers.specs.declared.name_text.NameText as named
use Rattle.cedar_identifiers.specs.declared.raw_name.RawName.{RawName}
use Rattle.cedar_identifiers.specs.declared.reference_type.ReferenceType.{ReferenceType}
use Rattle.cedar_identifiers.specs.declared.reference_type.ReferenceType.TheVariants.{Common, Entity, CommonOrEntity}
use Rattle.cedar_names.specs.declared.extension_table.ExtensionTable.{ExtensionTable}
use Rattle.schema_json.specs.Keywords.{is_keyword_name}
use Rattle.schema_json.specs.declared.action_type.ActionType.{ActionType}
use Rattle.schema_json.specs.declared.fragment.Fragment.{Fragment}
use Rattle.schema_json.specs.declared.fragment.NamespaceDefinition.{NamespaceDefinition}
use Rattle.schema_json_walk.specs.Parts.{Part}
use Rattle.schema_resolve_definitions.specs.Defined.{defined}
use Rattle.schema_resolve_definitions.specs.Tests.{Tests, tests_of}
use Rattle.schema_print.specs.Collisions.{is_shapeless, names_entity_type}
use Rattle.schema_print.specs.Printable.{IsClosedPart, IsBare, IsWithoutAttributes, IsInTable, IsMeantEitherWay}
use Rattle.schema_print.specs.Printable.{has_printable_context, has_whole_targets, is_annotated_where_named}

module _ {G : named.Ghosts RawName} where
  abbrev pub passes_action : ActionType RawName G → Bool
  passes_action a = has_printable_context a.applies_to && has_whole_targets a.applies_to

  -- no name of a named namespace stands for two things
  abbrev pub has_distinct_names : Option Name → NamespaceDefinition RawName G → Bool
  has_distinct_names None n = true
  has_distinct_names (Some ns) n = not (list_any (λ c. names_entity_type n.entity_types c.0.id.id.text) n.common_types)

  -- the test of a namespace: its names, its types and its actions
  abbrev pub passes_names : Option Name → NamespaceDefinition RawName G → Bool
  passes_names ns n = is_annotated_where_named ns n.annotations && has_distinct_names ns n

  abbrev pub passes_types : NamespaceDefinition RawName G → Bool
  passes_types n =
      list_all (λ t. not (is_shapeless t.1)) n.entity_types
      && list_all (λ c. not (is_keyword_name c.0.id.id.text)) n.common_types

  abbrev pub passes_items : NamespaceDefinition RawName G → Bool
  passes_items n = passes_types n && list_all (λ a. passes_action a.1) n.actions

  abbrev pub passes_block : Option Name → NamespaceDefinition RawName G → Bool
  passes_block ns n = passes_names ns n && passes_items n

  -- a part passes
  pub record IsPrintablePart (f : Fragment RawName G) (table : ExtensionTable) (ns : Option Name) (part : Part RawName)
      : Type 0 where
    pub closed : IsClosedPart part
    pub bare : IsBare part
    pub attributes : IsWithoutAttributes part
    pub extension : IsInTable table part
    pub reference : IsMeantEitherWay (tests_of (defined f table)) ns part

-- an unqualified name passes behind its namespace
abbrev pub passes_behind : (List (List ℕ) → Bool) → Option InternalName → InternalName → Bool
passes_behind passes None name = false
passes_behind passes (Some ns) name = is_unqualified name && passes (components_of ns ++ name.first.text ∷ [])

-- A reference means the same either way, by what its name is behind the namespace, a common type or an entity type, and
-- by what it is as it is written.
abbrev pub agrees : ReferenceType → Bool → Bool → Bool → Bool → Bool
agrees Common own_common own_entity common entity = own_common || (not own_entity && (common || not entity))
agrees Entity own_common own_entity common entity = not own_common && (own_entity || not common)
agrees CommonOrEntity own_common own_entity common entity = true

-- the test of a reference
abbrev pub agrees_in : Tests → Option InternalName → ReferenceType → InternalName → Bool
agrees_in t ns kind name =
    agrees kind (passes_behind t.is_common ns name) (passes_behind t.is_entity ns name)
    (t.is_common (components_of name))
    (t.is_entity (components_of name))
