-- How a fragment is laid out, whatever its names and the types in it are: by the layout of what is written.
use Rattle.std.specs.Prelude.{ℕ, ◌+◌, Bool, true, false, List, [], ◌∷◌, ◌++◌, codes, map, Option, Some, None}
use Rattle.std.specs.Option.{option_map}
use Rattle.cedar_identifiers.specs.Names.{components_of}
use Rattle.cedar_identifiers.specs.declared.name.Name.{Name}
use Rattle.cedar_identifiers.specs.declared.name_text.NameText as named
use Rattle.cedar_identifiers.specs.declared.unreserved_id.UnreservedId.{UnreservedId}
use Rattle.cedar_names.specs.CanonicalText.{spaces}
use Rattle.schema_json.specs.declared.common_type.CommonType.{CommonType}
use Rattle.schema_json.specs.declared.common_type.CommonTypeId.{CommonTypeId}
use Rattle.schema_json.specs.declared.entity_type.EntityType.{EntityType}
use Rattle.schema_json.specs.declared.entity_type.EntityTypeKind.{EntityTypeKind}
use Rattle.schema_json.specs.declared.entity_type.EntityTypeKind.TheVariants.{Standard, Enum}
use Rattle.schema_json.specs.declared.entity_type.StandardEntityType.{StandardEntityType}
use Rattle.schema_json.specs.declared.action_type.ActionType.{ActionType}
use Rattle.schema_json.specs.declared.action_type.ActionEntityUID.{ActionEntityUID}
use Rattle.schema_json.specs.declared.action_type.ApplySpec.{ApplySpec}
use Rattle.schema_json.specs.declared.fragment.Fragment.{Fragment}
use Rattle.schema_json.specs.declared.fragment.NamespaceDefinition.{NamespaceDefinition}
use Rattle.schema_syntax_grammar.specs.declared.token_kind.TokenKind.TheVariants.{Comma, Colon, Equals, LBrace, RBrace}
use Rattle.schema_syntax_reader.specs.Leaves.{Notes}
use Rattle.schema_syntax_tokens.specs.Laid.{Piece, gap, laid}
use Rattle.laws_written.specs.Written.{WrittenType, path, set, rec, WrittenRef}
use Rattle.laws_written.specs.Printed.{word, mark, string, space, line_break, notes_pieces, path_pieces, type_pieces}
use Rattle.laws_written.specs.PrintedDecls.{bracketed, parents_pieces, string_pieces, ref_pieces, shape_pieces}
use Rattle.laws_written.specs.PrintedDecls.{tags_pieces, context_pieces, comma_behind_member, ended, joined_pieces}
use Rattle.schema_print_text.specs.PrintedTypes.{printed_name, printed_type}

-- ` = ` and the record where it has attributes; another type stands in the record's place
abbrev pub shape_type_pieces : Bool → ℕ → WrittenType → List Piece
shape_type_pieces closing base (rec xs) = shape_pieces closing base xs
shape_type_pieces closing base (path p) = space ∷ mark Equals (codes "=") ∷ space ∷ path_pieces p
shape_type_pieces closing base (set t) = space ∷ mark Equals (codes "=") ∷ space ∷ type_pieces closing base (set t)

-- an empty record has no space in its braces; another type stands as it is
abbrev pub context_type_pieces : Bool → ℕ → WrittenType → List Piece
context_type_pieces closing base (rec xs) = context_pieces closing base xs
context_type_pieces closing base (path p) = path_pieces p
context_type_pieces closing base (set t) = type_pieces closing base (set t)

-- what an action applies to, where it has both principals and resources
abbrev pub targets_pieces : Bool → ℕ → List (List (List ℕ)) → List (List (List ℕ)) → WrittenType → List Piece
targets_pieces closing base [] resources context = []
targets_pieces closing base (p ∷ ps) [] context = []
targets_pieces closing base (p ∷ ps) (r ∷ rs) context =
    space ∷ word (codes "appliesTo") ∷ space ∷ mark LBrace (codes "{") ∷ line_break
    ∷ gap (spaces (base + 2)) ∷ word (codes "principal") ∷ mark Colon (codes ":") ∷ space
    ∷ (bracketed path_pieces (p ∷ ps) ++ mark Comma (codes ",") ∷ line_break
    ∷ gap (spaces (base + 2)) ∷ word (codes "resource") ∷ mark Colon (codes ":") ∷ space
    ∷ (bracketed path_pieces (r ∷ rs) ++ mark Comma (codes ",") ∷ line_break
    ∷ gap (spaces (base + 2)) ∷ word (codes "context") ∷ mark Colon (codes ":") ∷ space
    ∷ (context_type_pieces closing (base + 2) context ++ (comma_behind_member {A = WrittenType} closing []
    ++ line_break ∷ gap (spaces base) ∷ mark RBrace (codes "}") ∷ []))))

abbrev pub external_pieces : Bool → List Piece
external_pieces true = word (codes "external") ∷ space ∷ []
external_pieces false = []

-- a common type
abbrev pub common_pieces : Bool → ℕ → Notes → List ℕ → WrittenType → List Piece
common_pieces closing base notes name t =
    notes_pieces base notes
    ++ gap (spaces base) ∷ word (codes "type") ∷ space ∷ word name ∷ space ∷ mark Equals (codes "=") ∷ space
    ∷ (type_pieces closing base t ++ ended)

-- an entity type or action, with what stands between its name and the semicolon
abbrev pub item_pieces : ℕ → Notes → Bool → List ℕ → Piece → List Piece → List Piece
item_pieces base notes external keyword name body =
    notes_pieces base notes
    ++ gap (spaces base) ∷ (external_pieces external ++ word keyword ∷ space ∷ name ∷ (body ++ ended))

module _ {N : Type 0} (names : N → List (List ℕ)) where
  -- the names as they are written
  abbrev pub paths_of_names : List N → List (List (List ℕ))
  paths_of_names ns = map (λ n. printed_name (names n)) ns

  abbrev pub standard_pieces : Bool → ℕ → StandardEntityType N → List Piece
  standard_pieces closing base e =
      parents_pieces path_pieces (paths_of_names e.member_of_types)
      ++ (shape_type_pieces closing base (printed_type names e.shape.0)
      ++ tags_pieces closing (option_map (printed_type names) e.tags))

  -- of an external entity type only the parents
  abbrev pub kind_pieces : Bool → ℕ → Bool → EntityTypeKind N → List Piece
  kind_pieces closing base true (Standard e) = parents_pieces path_pieces (paths_of_names e.member_of_types)
  kind_pieces closing base true (Enum choices) = []
  kind_pieces closing base false (Standard e) = standard_pieces closing base e
  kind_pieces closing base false (Enum choices) =
      space ∷ word (codes "enum") ∷ space ∷ bracketed string_pieces (map (λ c. c.0) choices)

  -- what stands between the name of an entity type and the semicolon
  abbrev pub entity_body_pieces : Bool → ℕ → EntityType N → List Piece
  entity_body_pieces closing base e = kind_pieces closing base e.external e.kind

  abbrev pub entity_pieces : Bool → ℕ → UnreservedId × EntityType N → List Piece
  entity_pieces closing base p =
      item_pieces base p.1.annotations.0 p.1.external (codes "entity") (word p.0.id.text)
      (entity_body_pieces closing base p.1)

  abbrev pub common_type_pieces : Bool → ℕ → CommonTypeId × CommonType N → List Piece
  common_type_pieces closing base p =
      common_pieces closing base p.1.annotations.0 p.0.id.id.text (printed_type names p.1.ty)

  abbrev pub spec_pieces : Bool → ℕ → Option (ApplySpec N) → List Piece
  spec_pieces closing base None = []
  spec_pieces closing base (Some s) =
      targets_pieces closing base (paths_of_names s.principal_types) (paths_of_names s.resource_types)
      (printed_type names s.context.0)

  -- an external action applies to nothing that is printed
  abbrev pub applied_pieces : Bool → ℕ → Bool → Option (ApplySpec N) → List Piece
  applied_pieces closing base true spec = []
  applied_pieces closing base false spec = spec_pieces closing base spec

  -- the type of an action parent, and `Action` where none is written
  abbrev pub parent_type : Option N → List (List ℕ)
  parent_type None = codes "Action" ∷ []
  parent_type (Some ty) = printed_name (names ty)

  module _ {G : named.Ghosts N} where
    abbrev pub printed_parent : ActionEntityUID N G → WrittenRef
    printed_parent a = record { ty = Some (parent_type a.ty); id = a.id }

    abbrev pub printed_parents : Option (List (ActionEntityUID N G)) → List WrittenRef
    printed_parents None = []
    printed_parents (Some parents) = map printed_parent parents

    -- what stands between the name of an action and the semicolon
    abbrev pub action_body_pieces : Bool → ℕ → ActionType N G → List Piece
    action_body_pieces closing base a =
        parents_pieces ref_pieces (printed_parents a.member_of) ++ applied_pieces closing base a.external a.applies_to

    abbrev pub action_pieces : Bool → ℕ → List ℕ × ActionType N G → List Piece
    action_pieces closing base p =
        item_pieces base p.1.annotations.0 p.1.external (codes "action") (string p.0)
        (action_body_pieces closing base p.1)

    -- the common types, the entity types and the actions of a namespace, with an empty line between two
    abbrev pub items_pieces : Bool → ℕ → NamespaceDefinition N G → List Piece
    items_pieces closing base n =
        joined_pieces (λ pieces. pieces)
        (map (common_type_pieces closing base) n.common_types
        ++ (map (entity_pieces closing base) n.entity_types ++ map (action_pieces closing base) n.actions))

    -- the items of the empty namespace stand alone, and those of another in its braces
    abbrev pub named_block : Bool → Option Name → NamespaceDefinition N G → List Piece
    named_block closing None n = items_pieces closing 0 n
    named_block closing (Some name) n =
        notes_pieces 0 n.annotations.0
        ++ word (codes "namespace") ∷ space ∷ (path_pieces (printed_name (components_of name.name))
        ++ space ∷ mark LBrace (codes "{") ∷ line_break
        ∷ (items_pieces closing 2 n ++ mark RBrace (codes "}") ∷ line_break ∷ []))

    abbrev pub block_pieces : Bool → Option Name × NamespaceDefinition N G → List Piece
    block_pieces closing p = named_block closing p.0 p.1

    abbrev pub fragment_pieces : Bool → Fragment N G → List Piece
    fragment_pieces closing f = joined_pieces (block_pieces closing) f.0

    -- The bytes of a fragment's text. Where it is `closing`, a comma stands behind each member of a record and of an
    -- `appliesTo` block; else only between two.
    abbrev pub fragment_text : Bool → Fragment N G → List ℕ
    fragment_text closing f = laid (fragment_pieces closing f)
