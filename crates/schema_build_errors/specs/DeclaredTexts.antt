-- What is said of declarations that a schema may not have.
use Rattle.std.specs.Prelude.{ℕ, List, ◌++◌, codes}
use Rattle.cedar_identifiers.specs.Names.{components_of, name_text}
use Rattle.cedar_names.specs.EntityTexts.{entity_text}
use Rattle.schema_build_errors.specs.declared.declared_errors.ActionEntityTypeDeclaredError.{ActionEntityTypeDeclaredError}
use Rattle.schema_build_errors.specs.declared.declared_errors.TypeShadowingError.{TypeShadowingError}
use Rattle.schema_build_errors.specs.declared.declared_errors.ActionShadowingError.{ActionShadowingError}

-- what is said of an entity type that is declared with the name `Action`
abbrev pub action_type_declared_text : ActionEntityTypeDeclaredError → List ℕ
action_type_declared_text e = codes "entity type `Action` declared in `entityTypes` list"

-- what is said of a definition and of the one that it hides
abbrev pub hidden_text : List ℕ → List ℕ → List ℕ
hidden_text shadowing shadowed =
    (codes "definition of `" ++ (shadowing ++ codes "` illegally shadows the existing definition of `"))
    ++ (shadowed ++ codes "`")

-- what is said of a type and of the one that it hides
abbrev pub type_shadowing_text : TypeShadowingError → List ℕ
type_shadowing_text e = hidden_text (name_text (components_of e.shadowing_def))
    (name_text (components_of e.shadowed_def))

-- the advice where a type hides another
abbrev pub type_shadowing_help : TypeShadowingError → List ℕ
type_shadowing_help e =
    codes "try renaming one of the definitions, or moving `"
    ++ (name_text (components_of e.shadowed_def) ++ codes "` to a different namespace")

-- what is said of an action and of the one that it hides
abbrev pub action_shadowing_text : ActionShadowingError → List ℕ
action_shadowing_text e = hidden_text (entity_text e.shadowing_def) (entity_text e.shadowed_def)

-- the advice where an action hides another
abbrev pub action_shadowing_help : ActionShadowingError → List ℕ
action_shadowing_help e =
    codes "try renaming one of the actions, or moving `"
    ++ (entity_text e.shadowed_def ++ codes "` to a different namespace")
