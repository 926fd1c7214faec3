-- The texts of a meaning, as their bytes: functions of the meaning alone.
use Rattle.std.specs.Prelude.{ℕ, zero, suc, ◌+◌, Bool, true, false, List, [], ◌∷◌, ◌++◌, Option, Some, None, map}
use Rattle.std.specs.Prelude.{filter, codes, if◌then◌else◌}
use Rattle.std.specs.BTreeSet.{insert_key}
use Rattle.std.specs.Cmp.Lexicographic.{slice_cmp}
use Rattle.cedar_data.specs.Text.{text_cmp}
use Rattle.schema_syntax_tokens.specs.Quotes.{quoted}
use Rattle.cedar_data.specs.Rows.{joined_by}
use Rattle.cedar_identifiers.specs.Words.{is_id}
use Rattle.cedar_identifiers.specs.Names.{name_text}
use Rattle.cedar_names.specs.Definitions.{same_name}
use Rattle.cedar_names.specs.Meaning.{PlainType, Attributes, no_more, attribute, EntityMeaning, ActionMeaning}
use Rattle.cedar_names.specs.Meaning.{SchemaMeaning}

abbrev pub line_end : List ℕ
line_end = 10 ∷ []

-- this many spaces
abbrev pub spaces : ℕ → List ℕ
spaces zero = []
spaces (suc n) = 32 ∷ spaces n

-- the last component of a name
abbrev pub basename : List (List ℕ) → List ℕ
basename [] = []
basename (c ∷ []) = c
basename (c ∷ d ∷ ds) = basename (d ∷ ds)

-- the components before it
abbrev pub namespace : List (List ℕ) → List (List ℕ)
namespace [] = []
namespace (c ∷ []) = []
namespace (c ∷ d ∷ ds) = c ∷ namespace (d ∷ ds)

-- an attribute's name is bare where it may be, and else a string
abbrev pub attribute_name : List ℕ → List ℕ
attribute_name name = if is_id name then name else quoted name

-- behind an attribute: a comma where others follow, and where a comma stands behind each member
abbrev pub comma_behind : Bool → Attributes → List ℕ
comma_behind true others = codes ","
comma_behind false no_more = []
comma_behind false (attribute name required ty others) = codes ","

-- behind the brace of a record, where attributes follow
abbrev pub break_before : Attributes → List ℕ
break_before no_more = []
break_before (attribute name required ty others) = line_end

-- A type at an indentation. The attributes of a record stand two deeper, each on a line of its own.
abbrev mutual
  pub type_text : Bool → ℕ → PlainType → List ℕ
  type_text closing base PlainType.Bool = codes "__cedar::Bool"
  type_text closing base PlainType.Long = codes "__cedar::Long"
  type_text closing base PlainType.String = codes "__cedar::String"
  type_text closing base (PlainType.Set element) = codes "Set<" ++ (type_text closing base element ++ codes ">")
  type_text closing base (PlainType.Rec attributes) =
      codes "{" ++ (break_before attributes ++ (lines_text closing base attributes ++ (spaces base ++ codes "}")))
  type_text closing base (PlainType.Entity name) = name_text name
  type_text closing base (PlainType.Ext name) = codes "__cedar::" ++ name

  pub lines_text : Bool → ℕ → Attributes → List ℕ
  lines_text closing base no_more = []
  lines_text closing base (attribute name required ty others) =
      spaces (base + 2) ++ (attribute_name name ++ ((if required then [] else codes "?") ++ (codes ": "
      ++ (type_text closing (base + 2) ty
      ++ (comma_behind closing others ++ (line_end ++ lines_text closing base others))))))

abbrev pub record_text : Bool → ℕ → Attributes → List ℕ
record_text closing base attributes = type_text closing base (PlainType.Rec attributes)

-- `[a, b]`
abbrev pub list_text : List (List ℕ) → List ℕ
list_text items = codes "[" ++ (joined_by (codes ", ") items ++ codes "]")

-- ` in [P, Q]` where there are ancestors
abbrev pub parents_text : List (List ℕ) → List ℕ
parents_text [] = []
parents_text (name ∷ names) = codes " in " ++ list_text (name ∷ names)

-- ` = ` and the record, where there are attributes
abbrev pub shape_text : Bool → ℕ → Attributes → List ℕ
shape_text closing base no_more = []
shape_text closing base (attribute name required ty others) =
    codes " = " ++ record_text closing base (attribute name required ty others)

-- ` tags ` and the type, where there are tags; the type stands at no indentation
abbrev pub tags_text : Bool → Option PlainType → List ℕ
tags_text closing None = []
tags_text closing (Some ty) = codes " tags " ++ type_text closing 0 ty

abbrev pub entity_ancestors_text : EntityMeaning → List ℕ
entity_ancestors_text entity = parents_text (map name_text entity.ancestors)

-- a standard entity type: its ancestors, its attributes and its tags, each where it has some
abbrev pub standard_head : Bool → ℕ → EntityMeaning → List ℕ
standard_head closing base entity =
    codes "entity " ++ (basename entity.name
    ++ (entity_ancestors_text entity ++ (shape_text closing base entity.attributes ++ tags_text closing entity.tags)))

-- an enum: its choices and nothing else
abbrev pub enum_head : EntityMeaning → List (List ℕ) → List ℕ
enum_head entity choices = codes "entity "
    ++ (basename entity.name ++ (codes " enum " ++ list_text (map quoted choices)))

-- an external entity type: its ancestors and nothing else
abbrev pub external_head : EntityMeaning → List ℕ
external_head entity = codes "external entity " ++ (basename entity.name ++ entity_ancestors_text entity)

-- the head of one that is not external
abbrev pub own_head : Bool → ℕ → EntityMeaning → Option (List (List ℕ)) → List ℕ
own_head closing base entity None = standard_head closing base entity
own_head closing base entity (Some choices) = enum_head entity choices

abbrev pub entity_type_text : Bool → ℕ → EntityMeaning → List ℕ
entity_type_text closing base entity =
    spaces base ++ ((if entity.is_external then external_head entity else own_head closing base entity entity.choices)
    ++ (codes ";" ++ line_end))

-- an action by its type and id
abbrev pub action_name_text : List (List ℕ) × List ℕ → List ℕ
action_name_text action = name_text action.0 ++ (codes "::" ++ quoted action.1)

abbrev pub context_text : Bool → ℕ → Attributes → List ℕ
context_text closing base no_more = codes "{}"
context_text closing base (attribute name required ty others) =
    record_text closing base (attribute name required ty others)

-- what an action applies to, where it has principals and resources
abbrev pub applies_text : Bool → ℕ → List (List (List ℕ)) → List (List (List ℕ)) → Attributes → List ℕ
applies_text closing base [] resources context = []
applies_text closing base (p ∷ ps) [] context = []
applies_text closing base (p ∷ ps) (r ∷ rs) context =
    codes " appliesTo {" ++ (line_end
    ++ (spaces (base + 2) ++ (codes "principal: " ++ (list_text (map name_text (p ∷ ps)) ++ (codes "," ++ (line_end
    ++ (spaces (base + 2) ++ (codes "resource: " ++ (list_text (map name_text (r ∷ rs)) ++ (codes "," ++ (line_end
    ++ (spaces (base + 2) ++ (codes "context: "
    ++ (context_text closing (base + 2) context ++ ((if closing then codes "," else []) ++ (line_end
    ++ (spaces base ++ codes "}")))))))))))))))))

-- the name and the ancestors of an action
abbrev pub action_head : ActionMeaning → List ℕ
action_head action = codes "action " ++ (quoted action.id ++ parents_text (map action_name_text action.ancestors))

-- an action: its ancestors, and what it applies to unless it is external
abbrev pub action_text : Bool → ℕ → ActionMeaning → List ℕ
action_text closing base action =
    spaces base
    ++ ((if action.is_external then codes "external " ++ action_head action
    else action_head action ++ applies_text closing base action.principals action.resources action.context)
    ++ (codes ";" ++ line_end))

-- the names in order, each once; the empty namespace comes first
abbrev pub in_order : List (List (List ℕ)) → List (List (List ℕ))
in_order [] = []
in_order (n ∷ ns) = insert_key (slice_cmp text_cmp) (in_order ns) n

-- the namespaces in which the meaning has an entity type or an action, in order, each once
abbrev pub namespaces : SchemaMeaning → List (List (List ℕ))
namespaces m = in_order (map (λ e. namespace e.name) m.entities ++ map (λ a. namespace a.ty) m.actions)

-- the entity types of a namespace, then its actions, with an empty line between two
abbrev pub items_text : Bool → ℕ → SchemaMeaning → List (List ℕ) → List ℕ
items_text closing base m n =
    joined_by line_end
    (map (entity_type_text closing base) (filter (λ e. same_name n (namespace e.name)) m.entities)
    ++ map (action_text closing base) (filter (λ a. same_name n (namespace a.ty)) m.actions))

-- the items of the empty namespace stand alone, and those of another in its braces
abbrev pub namespace_text : Bool → SchemaMeaning → List (List ℕ) → List ℕ
namespace_text closing m [] = items_text closing 0 m []
namespace_text closing m (c ∷ cs) =
    codes "namespace " ++ (name_text (c ∷ cs)
    ++ (codes " {" ++ (line_end ++ (items_text closing 2 m (c ∷ cs) ++ (codes "}" ++ line_end)))))

-- The namespaces with an item, with an empty line between two. Where it is `closing`, a comma stands behind each member
-- of a record and of an `appliesTo` block; else only between two.
abbrev pub schema_text : Bool → SchemaMeaning → List ℕ
schema_text closing m = joined_by line_end (map (namespace_text closing m) (namespaces m))

-- the canonical text: a comma behind each member
abbrev pub canonical_text : SchemaMeaning → List ℕ
canonical_text = schema_text true

-- the layout that came first: a comma between two members
abbrev pub first_layout : SchemaMeaning → List ℕ
first_layout = schema_text false
