-- What is said of types and actions that may not stand where they do.
use Rattle.std.specs.Prelude.{ℕ, List, ◌++◌, codes}
use Rattle.cedar_identifiers.specs.Names.{components_of, name_text}
use Rattle.cedar_names.specs.EntityTexts.{entity_text}
use Rattle.schema_build_errors.specs.declared.hierarchy_errors.ExternalWithEnumAncestorError.{ExternalWithEnumAncestorError}
use Rattle.schema_build_errors.specs.declared.hierarchy_errors.InvalidActionTypeError.{InvalidActionTypeError}
use Rattle.schema_build_errors.specs.declared.hierarchy_errors.EnumEntityInHierarchyError.{EnumEntityInHierarchyError}

-- what is said of an external type and of its ancestor
abbrev pub ancestor_message : List ℕ → List ℕ → List ℕ
ancestor_message external ancestor =
    (codes "external entity type `" ++ (external ++ codes "` cannot have the enum entity type `"))
    ++ (ancestor ++ codes "` as an ancestor")

-- what is said of an external entity type and of its enumerated ancestor
abbrev pub enum_ancestor_text : ExternalWithEnumAncestorError → List ℕ
enum_ancestor_text e = ancestor_message (name_text (components_of e.external_type.name))
    (name_text (components_of e.enum_type.name))

-- the advice where an external entity type has an enumerated ancestor
abbrev pub enum_ancestor_help : List ℕ
enum_ancestor_help = codes "external entity types cannot have any enum entity type as an ancestor"

-- what is said of an action with this text, whose type has another basename than `Action`
abbrev pub action_message : List ℕ → List ℕ
action_message action = codes "action `" ++ (action ++ codes "` has an entity type whose basename is not `Action`")

-- what is said of an action whose type has another basename than `Action`
abbrev pub action_type_text : InvalidActionTypeError → List ℕ
action_type_text e = action_message (entity_text e.uid)

-- what is said of an enumerated entity type and of its ancestor
abbrev pub enum_parent_text : EnumEntityInHierarchyError → List ℕ
enum_parent_text e =
    (codes "enum entity type `" ++ (name_text (components_of e.enum_type.name)
    ++ codes "` cannot be a descendant of `"))
    ++ (name_text (components_of e.parent_type.name) ++ codes "`")

-- the advice where an enumerated entity type has an ancestor
abbrev pub enum_parent_help : List ℕ
enum_parent_help = codes "enum entity types cannot have parents in the entity hierarchy"
