-- The types that the entity types and actions of a fragment use: shapes, types of tags and contexts.
use Rattle.std.specs.Prelude.{List, [], ◌∷◌, ◌++◌, Option, Some, None}
use Rattle.std.specs.List.{flat_map}
use Rattle.cedar_identifiers.specs.declared.name.Name.{Name}
use Rattle.cedar_identifiers.specs.declared.name_text.NameText as named
use Rattle.cedar_identifiers.specs.declared.raw_name.RawName.{RawName}
use Rattle.schema_json.specs.declared.action_type.ApplySpec.{ApplySpec}
use Rattle.schema_json.specs.declared.entity_type.EntityTypeKind.{EntityTypeKind}
use Rattle.schema_json.specs.declared.entity_type.EntityTypeKind.TheVariants.{Standard, Enum}
use Rattle.schema_json.specs.declared.fragment.Fragment.{Fragment}
use Rattle.schema_json.specs.declared.fragment.NamespaceDefinition.{NamespaceDefinition}
use Rattle.schema_json.specs.declared.types.Type.{«Type»}
use Rattle.schema_resolve_definitions.specs.Declarations.{name_of}
use Rattle.schema_build_scope.specs.Commons.{TypeAt}

-- a type that is written in a namespace
abbrev pub type_at : Option Name → «Type» RawName → TypeAt
type_at ns ty = record { place = name_of ns; ty = ty }

-- the type of tags, where there are tags
abbrev pub used_by_tags : Option Name → Option («Type» RawName) → List TypeAt
used_by_tags ns None = []
used_by_tags ns (Some ty) = type_at ns ty ∷ []

-- the types of an entity type
abbrev pub used_by_kind : Option Name → EntityTypeKind RawName → List TypeAt
used_by_kind ns (Standard d) = type_at ns d.shape.0 ∷ used_by_tags ns d.tags
used_by_kind ns (Enum choices) = []

-- the context of an action, where it applies to something
abbrev pub used_by_apply : Option Name → Option (ApplySpec RawName) → List TypeAt
used_by_apply ns None = []
used_by_apply ns (Some a) = type_at ns a.context.0 ∷ []

module _ {G : named.Ghosts RawName} where
  -- the types that a namespace uses, entity types first
  abbrev pub used_in : Option Name × NamespaceDefinition RawName G → List TypeAt
  used_in e = flat_map (λ d. used_by_kind e.0 d.1.kind) e.1.entity_types
      ++ flat_map (λ d. used_by_apply e.0 d.1.applies_to) e.1.actions

  -- the types that a fragment uses
  abbrev pub used_types : Fragment RawName G → List TypeAt
  used_types f = flat_map used_in f.0
