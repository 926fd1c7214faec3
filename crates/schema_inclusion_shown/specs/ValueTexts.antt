-- What is written of a value that a schema can admit. Texts are their characters.
use Rattle.std.specs.Prelude.{Bool, true, false, List, [], ◌∷◌, ◌++◌, codes, if◌then◌else◌, map}
use Rattle.std.specs.Fmt.{signed_decimal}
use Rattle.std.specs.Str.{chars}
use Rattle.cedar_data.specs.Rows.{row_behind, separator_where}
use Rattle.cedar_identifiers.specs.Names.{name_text}
use Rattle.cedar_identifiers.specs.Words.{is_id}
use Rattle.schema_syntax_tokens.specs.Quotes.{quoted}
use Rattle.schema_inclusion_values.specs.Values.{Text, Name, Val, Vals, no_vals, val, Entries, no_entries, entry}
use Rattle.schema_inclusion_values.specs.Values as values
use Rattle.schema_inclusion_values.specs.Admits.{SchemaValue, an_entity, a_request, an_action}

-- a type, `::`, and an id as a string
abbrev pub entity_text : Name × Text → Text
entity_text uid = name_text uid.0 ++ (codes "::" ++ chars (quoted uid.1))

-- the name of an attribute or a tag: bare where it may be, and else a string
abbrev pub key_text : Text → Text
key_text name = if is_id name then name else chars (quoted name)

-- the texts of attributes in braces
abbrev pub braced : Entries → Text → Text
braced no_entries text = codes "{}"
braced (entry n v es) text = codes "{ " ++ (text ++ codes " }")

-- A value: `true`, `7`, a string, an entity, the one value of an extension type as `decimal(..)`, the members of a set
-- as `[a, b]`, and the attributes of a record as `{ name: value, name: value }`.
abbrev mutual
  pub value_text : Val → Text
  value_text (values.Truth true) = codes "true"
  value_text (values.Truth false) = codes "false"
  value_text (values.Number n) = signed_decimal n
  value_text (values.Str s) = chars (quoted s)
  value_text (values.Ref ty id) = entity_text (ty, id)
  value_text (values.Ext name) = name ++ codes "(..)"
  value_text (values.Set members) = codes "[" ++ (members_text false members ++ codes "]")
  value_text (values.Rec es) = braced es (entries_text false es)

  -- the members, with `, ` between two, and before the first where one stands before it
  pub members_text : Bool → Vals → Text
  members_text behind no_vals = []
  members_text behind (val v vs) = separator_where (codes ", ") behind ++ (value_text v ++ members_text true vs)

  -- the attributes, likewise
  pub entries_text : Bool → Entries → Text
  entries_text behind no_entries = []
  entries_text behind (entry n v es) = separator_where (codes ", ") behind
      ++ (key_text n ++ (codes ": " ++ (value_text v ++ entries_text true es)))

-- the attributes of a record behind these words, where there are any
abbrev pub record_behind : Text → Entries → Text
record_behind words no_entries = []
record_behind words (entry n v es) = words ++ value_text (values.Rec (entry n v es))

-- ` in [P::"a", P::"b"]` where there are parents
abbrev pub parents_text : List (Name × Text) → Text
parents_text [] = []
parents_text (p ∷ ps) = codes " in [" ++ (row_behind (codes ", ") false (map entity_text (p ∷ ps)) ++ codes "]")

-- An entity, with what it has of parents, attributes and tags; a request, with its context where it has attributes; an
-- action with one that it stands below.
abbrev pub schema_value_text : SchemaValue → Text
schema_value_text (an_entity x) = entity_text (x.ty, x.id) ++ (parents_text x.parents
    ++ (record_behind (codes " with ") x.attributes ++ record_behind (codes " tags ") x.tags))
schema_value_text (a_request x) = codes "request " ++ (entity_text x.action ++ (codes " with principal "
    ++ (name_text x.principal ++ (codes ", resource " ++ (name_text x.resource
    ++ record_behind (codes ", context ") x.context)))))
schema_value_text (an_action x) =
    codes "action " ++ (entity_text x.action ++ (codes " in " ++ entity_text x.ancestor))
