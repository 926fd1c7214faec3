-- How an entity is written.
use Rattle.std.specs.Prelude.{ℕ, List, ◌++◌, codes}
use Rattle.std.specs.Str.{chars}
use Rattle.schema_syntax_tokens.specs.Quotes.{quoted}
use Rattle.cedar_identifiers.specs.Names.{components_of, name_text}
use Rattle.cedar_names.specs.declared.entity_uid.EntityUID.{EntityUID}

-- the text of an entity: its type, `::`, and its id as a string
abbrev pub entity_text : EntityUID → List ℕ
entity_text uid = name_text (components_of uid.ty.name) ++ (codes "::" ++ chars (quoted uid.eid.0))
