-- What a reference to an action says: its type, where none is written, and its text.
use Rattle.std.specs.Prelude.{refl, ℕ, List, [], ◌++◌, Option, Some, None, codes}
use Rattle.std.specs.Str.{chars}
use Rattle.cedar_identifiers.specs.Names.{name_text}
use Rattle.cedar_identifiers.specs.declared.internal_name.InternalName.{InternalName}
use Rattle.cedar_identifiers.specs.declared.raw_name.RawName.{RawName}
use Rattle.schema_syntax_tokens.specs.Quotes.{quoted}

-- `Action`, without a place
abbrev pub action_name : InternalName
action_name = record { first = record { text = codes "Action"; word = refl }; others = []; loc = None }

-- the type as it is written, and `Action` where none is
abbrev pub written_type : Option RawName → InternalName
written_type None = action_name
written_type (Some ty) = ty.name

-- a type's text as it is written, and `Action` where none is
abbrev pub type_text : Option (List (List ℕ)) → List ℕ
type_text None = codes "Action"
type_text (Some components) = name_text components

-- the type, `::`, and the id as a string
abbrev pub action_uid_text : Option (List (List ℕ)) → List ℕ → List ℕ
action_uid_text ty id = type_text ty ++ (codes "::" ++ chars (quoted id))
