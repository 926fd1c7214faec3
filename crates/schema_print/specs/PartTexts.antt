-- The texts of a fragment and of its parts, as bytes, with a comma behind each member.
use Rattle.std.specs.Prelude.{ℕ, true, List}
use Rattle.cedar_identifiers.specs.declared.name_text.NameText as named
use Rattle.schema_json.specs.declared.types.Type.{«Type»}
use Rattle.schema_json.specs.declared.types.RecordType.{RecordType}
use Rattle.schema_json.specs.declared.entity_type.EntityType.{EntityType}
use Rattle.schema_json.specs.declared.entity_type.StandardEntityType.{StandardEntityType}
use Rattle.schema_json.specs.declared.entity_type.AttributesOrContext.{AttributesOrContext}
use Rattle.schema_json.specs.declared.action_type.ActionType.{ActionType}
use Rattle.schema_json.specs.declared.fragment.Fragment.{Fragment}
use Rattle.schema_json.specs.declared.fragment.NamespaceDefinition.{NamespaceDefinition}
use Rattle.schema_json.specs.Shapes.{attributes_of}
use Rattle.schema_syntax_tokens.specs.Laid.{laid}
use Rattle.laws_written.specs.Written.{rec}
use Rattle.laws_written.specs.Printed.{type_pieces}
use Rattle.schema_print_text.specs.PrintedTypes.{printed_entries, printed_type_text}
use Rattle.schema_print.specs.PrintedFragments.{standard_pieces, entity_body_pieces, action_body_pieces, items_pieces}
use Rattle.schema_print.specs.PrintedFragments.{fragment_text}

module _ {N : Type 0} (names : N → List (List ℕ)) where
  -- the text of a type at an indentation
  abbrev pub type_part_text : ℕ → «Type» N → List ℕ
  type_part_text base t = printed_type_text names base t

  -- the text of a shape or a context at an indentation, which is that of its type
  abbrev pub shape_part_text : ℕ → AttributesOrContext N → List ℕ
  shape_part_text base s = printed_type_text names base s.0

  -- the text of a record at an indentation
  abbrev pub record_part_text : ℕ → RecordType N → List ℕ
  record_part_text base r = laid (type_pieces true base (rec (printed_entries names (attributes_of r))))

  -- what stands between the name of a standard entity type and its semicolon, at an indentation
  abbrev pub standard_part_text : ℕ → StandardEntityType N → List ℕ
  standard_part_text base e = laid (standard_pieces names true base e)

  -- what stands between the name of an entity type and its semicolon, at an indentation
  abbrev pub entity_type_part_text : ℕ → EntityType N → List ℕ
  entity_type_part_text base e = laid (entity_body_pieces names true base e)

  module _ {G : named.Ghosts N} where
    -- what stands between the name of an action and its semicolon, at an indentation
    abbrev pub action_part_text : ℕ → ActionType N G → List ℕ
    action_part_text base a = laid (action_body_pieces names true base a)

    -- the items of a namespace at an indentation, without the head, the braces and the annotations
    abbrev pub namespace_part_text : ℕ → NamespaceDefinition N G → List ℕ
    namespace_part_text base n = laid (items_pieces names true base n)

    -- the whole text of a fragment, whatever the indentation is
    abbrev pub fragment_part_text : ℕ → Fragment N G → List ℕ
    fragment_part_text base f = fragment_text names true f
