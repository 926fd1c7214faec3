-- The types of a tree, in a fragment.
use Rattle.std.specs.Prelude.{ℕ, List, map, Option, false}
use Rattle.cedar_data.specs.Span.{Span}
use Rattle.cedar_data.specs.Text.{text_cmp}
use Rattle.cedar_data.specs.Maps.{map_of}
use Rattle.cedar_data.specs.declared.node.Node.{Node}
use Rattle.cedar_identifiers.specs.declared.annotations.Annotations.{Annotations}
use Rattle.cedar_identifiers.specs.declared.raw_name.RawName.{RawName}
use Rattle.schema_syntax_tree.specs.declared.annotated.Annotated.{Annotated}
use Rattle.schema_syntax_tree.specs.declared.types.AttrDecl.{AttrDecl}
use Rattle.schema_syntax_tree.specs.declared.types.Type.{«Type»}
use Rattle.schema_syntax_tree.specs.declared.types.Type.TheOpen.{Type-F, AttrDecl-F}
use Rattle.schema_syntax_tree.specs.declared.types.Type.TheFolds.{fold-Type, fold-AttrDecl}
use Rattle.schema_json.specs.declared.types.Type.{«Type» as Shape}
use Rattle.schema_json.specs.declared.types.Type.TheVariants as shape
use Rattle.schema_json.specs.declared.types.TypeVariant.TheVariants as variant
use Rattle.schema_json.specs.declared.types.RecordType.{RecordType, roll-RecordType}
use Rattle.schema_json.specs.declared.types.TypeOfAttribute.{TypeOfAttribute, roll-TypeOfAttribute}
use Rattle.schema_convert_types.specs.Names.{raw_name_of}

-- an attribute of a record, by its name
abbrev pub AttributeEntry : Type 0
AttributeEntry = List ℕ × TypeOfAttribute RawName

-- the closed record of these attributes: of a name that stands twice the last counts
abbrev pub record_of : List AttributeEntry → RecordType RawName
record_of attributes = roll-RecordType RawName
    (record { attributes = map_of text_cmp attributes; additional_attributes = false })

-- a type of records, at this place
abbrev pub record_type : List AttributeEntry → Option Span → Shape RawName
record_type attributes loc = shape.Variant (variant.Record (record_of attributes)) loc

-- A type at a place, and an attribute with its annotations, from what their parts become. A name is a reference to a
-- common type or an entity type.
abbrev pub translated_type : Type-F (Option Span → Shape RawName) (Annotations → AttributeEntry) → Option Span
    → Shape RawName
translated_type (Type-F.Set element) loc = shape.Variant (variant.Set (element.node element.loc)) loc
translated_type (Type-F.Ident path) loc = shape.Variant (variant.EntityOrCommon (raw_name_of path)) loc
translated_type (Type-F.Record attributes) loc = record_type (map (λ a. a.node.item a.node.annotations) attributes) loc

abbrev pub translated_attribute : AttrDecl-F (Option Span → Shape RawName) (Annotations → AttributeEntry)
    → Annotations → AttributeEntry
translated_attribute a notes = (
  a.name.node,
  roll-TypeOfAttribute RawName
      (record { ty = a.ty.node a.ty.loc; annotations = notes; required = a.required }),
)

-- what a type becomes at this place
unfoldable pub type_at : «Type» → Option Span → Shape RawName
type_at = fold-Type (Option Span → Shape RawName) (Annotations → AttributeEntry) translated_type translated_attribute

-- what an attribute becomes beside these annotations
unfoldable pub attribute_beside : AttrDecl → Annotations → AttributeEntry
attribute_beside = fold-AttrDecl (Option Span → Shape RawName) (Annotations → AttributeEntry) translated_type
    translated_attribute

-- the type of a type of a tree, at a place
abbrev pub type_of : Node «Type» → Shape RawName
type_of n = type_at n.node n.loc

abbrev pub attribute_of : Node (Annotated AttrDecl) → AttributeEntry
attribute_of n = attribute_beside n.node.item n.node.annotations

-- what attributes become as a record
abbrev pub record_of_attributes : Node (List (Node (Annotated AttrDecl))) → Shape RawName
record_of_attributes n = record_type (map attribute_of n.node) n.loc
