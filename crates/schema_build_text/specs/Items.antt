-- Items that are lent: what they say, and their texts as the code adds them.
use Rattle.std.specs.Prelude.{ℕ, true, Option, Some, None, List, [], ◌∷◌, ◌++◌, codes, if◌then◌else◌}
use Rattle.cedar_identifiers.specs.Names.{components_of, name_text}
use Rattle.cedar_identifiers.specs.declared.internal_name.InternalName.{InternalName}
use Rattle.cedar_names.specs.CanonicalText.{namespace, line_end, spaces, external_head, own_head, entity_type_text}
use Rattle.cedar_names.specs.CanonicalText.{action_head}
use Rattle.cedar_names.specs.CanonicalText.{applies_text, action_text}
use Rattle.cedar_names.specs.Meaning.{EntityMeaning, ActionMeaning}
use Rattle.cedar_names.specs.Definitions.{same_name}
use Rattle.schema_build_types.specs.Content.{entity_content, action_content}
use Rattle.schema_build_text.specs.declared.items.Item.{Item}
use Rattle.schema_build_text.specs.declared.items.Item.TheVariants as lent
use Rattle.schema_build_text.specs.Readings.{entity_reading, action_reading}
use Rattle.schema_build_text.specs.Walk.{ItemContent, entity_type, action}

-- what the item says
abbrev pub item_content : Item → ItemContent
item_content (lent.EntityType name ty) = entity_type (entity_content (name.now, ty.now))
item_content (lent.Action uid a) = action (action_content (uid.now, a.now))

-- an entity type up to its semicolon
abbrev pub entity_declaration : ℕ → EntityMeaning → List ℕ
entity_declaration base e = if e.is_external then external_head e else own_head true base e e.choices

-- an action up to its semicolon
abbrev pub action_declaration : ℕ → ActionMeaning → List ℕ
action_declaration base a =
    if a.is_external then codes "external " ++ action_head a
    else action_head a ++ applies_text true base a.principals a.resources a.context

-- the text of an item at an indentation
abbrev pub item_text : ℕ → ItemContent → List ℕ
item_text base (entity_type e) = entity_type_text true base (entity_reading e)
item_text base (action a) = action_text true base (action_reading a)

-- the text of an item at an indentation, up to its semicolon
abbrev pub item_front : ℕ → ItemContent → List ℕ
item_front base (entity_type e) = spaces base ++ entity_declaration base (entity_reading e)
item_front base (action a) = spaces base ++ action_declaration base (action_reading a)

-- the end of an item
abbrev pub item_end : List ℕ
item_end = codes ";\n"

-- the items of the empty namespace stand at no indentation
abbrev pub base_in : List (List ℕ) → ℕ
base_in [] = 0
base_in (c ∷ cs) = 2

-- the head of a namespace, where it has a name
abbrev pub opening : List (List ℕ) → List ℕ
opening [] = []
opening (c ∷ cs) = codes "namespace " ++ (name_text (c ∷ cs) ++ codes " {\n")

-- the end of a namespace, where it has a name
abbrev pub closing : List (List ℕ) → List ℕ
closing [] = []
closing (c ∷ cs) = codes "}\n"

-- between an item of the one namespace and an item of the other
abbrev pub break_between : List (List ℕ) → List (List ℕ) → List ℕ
break_between m n = if same_name m n then line_end else closing m ++ (line_end ++ opening n)

-- before an item of this namespace, behind an item of the other where there is one
abbrev pub before_text : Option (List (List ℕ)) → List (List ℕ) → List ℕ
before_text None n = opening n
before_text (Some m) n = break_between m n

-- behind the last item, which is of this namespace where there is one
abbrev pub after_text : Option (List (List ℕ)) → List ℕ
after_text None = []
after_text (Some m) = closing m

-- before an item of this namespace, the end of the item before it included where there is one
abbrev pub break_text : Option (List (List ℕ)) → List (List ℕ) → List ℕ
break_text None n = opening n
break_text (Some m) n = item_end ++ break_between m n

-- behind the last item, which is of this namespace where there is one, its own end included
abbrev pub end_text : Option (List (List ℕ)) → List ℕ
end_text None = []
end_text (Some m) = item_end ++ closing m

-- the namespace of a name, where there is one
abbrev pub namespace_behind : Option InternalName → Option (List (List ℕ))
namespace_behind None = None
namespace_behind (Some name) = Some (namespace (components_of name))
