-- Kinds of types, and what they say.
use Rattle.std.specs.Prelude.{ℕ, Bool, List, Option, Some, None, ⊤}
use Rattle.std.specs.List.Sorted.{IsStrictlySortedBy}
use Rattle.std.specs.Map.{keys_of}
use Rattle.std.specs.Option.{option_copied}
use Rattle.cedar_data.specs.Text.{text_cmp}
use Rattle.cedar_identifiers.specs.Names.{components_of}
use Rattle.cedar_names.specs.Meaning.{PlainType, Attributes, no_more}
use Rattle.schema_build_types.specs.Content.{type_content, attributes_content}
use Rattle.schema_build_types.specs.declared.types.Type.{«Type»}
use Rattle.schema_build_text.specs.Readings.{plain_type, plain_attributes}
use Rattle.schema_inclusion_types.specs.declared.kinds.Kind.{Kind}
use Rattle.schema_inclusion_types.specs.declared.kinds.Kind.TheVariants as kind

-- attributes by their names, each with its type and its required mark
abbrev pub Attrs : Type 0
Attrs = List (List ℕ × («Type» × Bool))

-- the type that is said
abbrev pub plain : «Type» → PlainType
plain t = plain_type (type_content t)

-- the attributes that are said
abbrev pub plain_attrs : Attrs → Attributes
plain_attrs attrs = plain_attributes (attributes_content attrs)

-- the type of the members of a set
abbrev pub element_type : Option «Type» → PlainType
element_type None = PlainType.Rec no_more
element_type (Some t) = plain t

-- the type of a kind
abbrev pub kind_type : Kind → PlainType
kind_type kind.Bool = PlainType.Bool
kind_type kind.Long = PlainType.Long
kind_type kind.Str = PlainType.String
kind_type (kind.Set element) = PlainType.Set (element_type (option_copied element))
kind_type (kind.Rec attrs) = PlainType.Rec (plain_attrs attrs.now)
kind_type (kind.Entity name) = PlainType.Entity (components_of name.now.name)
kind_type (kind.Ext name) = PlainType.Ext name.now.id.text

-- the names of attributes rise
abbrev pub AreSorted : Attrs → Type 0
AreSorted attrs = IsStrictlySortedBy text_cmp (keys_of attrs)

-- the attributes rise by name, where the type is a record
abbrev pub AreKindSorted : Kind → Type 0
AreKindSorted (kind.Rec attrs) = AreSorted attrs.now
AreKindSorted _ = ⊤
