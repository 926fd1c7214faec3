-- What is said where a printed type would be read as another.
use Rattle.std.specs.Prelude.{ℕ, List, ◌++◌, codes}
use Rattle.std.specs.Str.{chars}
use Rattle.cedar_identifiers.specs.Names.{components_of, name_text}
use Rattle.schema_syntax_tokens.specs.Quotes.{quoted}
use Rattle.schema_build_errors.specs.declared.captured.CapturedItem.{CapturedItem}
use Rattle.schema_build_errors.specs.declared.captured.CapturedItem.TheVariants.{EntityType, Action}
use Rattle.schema_build_errors.specs.declared.captured.ReferenceCaptured.{ReferenceCaptured}

-- what the declaration is called
abbrev pub user_text : CapturedItem → List ℕ
user_text (EntityType id) = codes "entity type `" ++ (id.id.text ++ codes "`")
user_text (Action id) = codes "action `" ++ (chars (quoted id) ++ codes "`")

-- what is said of a namespace and of the declaration in it
abbrev pub captured_message : List ℕ → List ℕ → List ℕ
captured_message namespace user =
    ((codes "the type `Action` of the empty namespace is used in namespace `" ++ (namespace ++ codes "` by "))
    ++ (user ++ codes ", where it would be read as `"))
    ++ (namespace ++ codes "::Action`")

-- what is said of an entity type or action whose use of the type `Action` would be read as that of another type
abbrev pub captured_text : ReferenceCaptured → List ℕ
captured_text e = captured_message (name_text (components_of e.namespace.name)) (user_text e.item)
