-- How declarations are laid out, each on lines of its own.
use Rattle.std.specs.Prelude.{◌≡◌, ℕ, ◌+◌, Bool, true, false, List, [], ◌∷◌, ◌++◌, Option, Some, None, codes}
use Rattle.std.specs.List.{AllByRecursion}
use Rattle.std.specs.Prelude.{map}
use Rattle.schema_syntax_grammar.specs.declared.token_kind.TokenKind.TheVariants.{Comma, Semi, Colon, PathSep, LBrace}
use Rattle.schema_syntax_grammar.specs.declared.token_kind.TokenKind.TheVariants.{RBrace, LBracket, RBracket, Equals}
use Rattle.schema_syntax_tokens.specs.Laid.{Piece, gap}
use Rattle.cedar_identifiers.specs.Words.{is_id}
use Rattle.cedar_names.specs.CanonicalText.{spaces}
use Rattle.schema_syntax_tree.specs.Words.{pr_text}
use Rattle.schema_syntax_reader.specs.Leaves.{Notes}
use Rattle.laws_written.specs.Written.{WrittenType, WrittenAttributes, rec, no_more, attribute, WrittenRef}
use Rattle.laws_written.specs.Written.{WrittenMember, types, context_path, context_record, WrittenDecl, entity, enum}
use Rattle.laws_written.specs.Written.{external_entity, action, external_action, common, WrittenDeclared}
use Rattle.laws_written.specs.Written.{WrittenItem, namespace, outside}
use Rattle.laws_written.specs.Printed.{word, mark, string, space, line_break, notes_pieces, path_pieces, type_pieces}
use Rattle.laws_written.specs.Printed.{IsProperPath, AreProperNotes, IsProperType, AreProperAttributes}

-- with a comma and a space between two
abbrev pub list_pieces : {A : Type 0} → (A → List Piece) → List A → List Piece
list_pieces f [] = []
list_pieces f (x ∷ []) = f x
list_pieces f (x ∷ y ∷ xs) = f x ++ mark Comma (codes ",") ∷ space ∷ list_pieces f (y ∷ xs)

-- `[a, b]`
abbrev pub bracketed : {A : Type 0} → (A → List Piece) → List A → List Piece
bracketed f xs = mark LBracket (codes "[") ∷ (list_pieces f xs ++ mark RBracket (codes "]") ∷ [])

-- ` in [a, b]` where there are parents
abbrev pub parents_pieces : {A : Type 0} → (A → List Piece) → List A → List Piece
parents_pieces f [] = []
parents_pieces f (x ∷ xs) = space ∷ word (codes "in") ∷ space ∷ bracketed f (x ∷ xs)

abbrev pub word_pieces : List ℕ → List Piece
word_pieces w = word w ∷ []

abbrev pub string_pieces : List ℕ → List Piece
string_pieces value = string value ∷ []

abbrev pub typed_pieces : Option (List (List ℕ)) → List ℕ → List Piece
typed_pieces None id = string id ∷ []
typed_pieces (Some p) id = path_pieces p ++ mark PathSep (codes "::") ∷ string id ∷ []

abbrev pub ref_pieces : WrittenRef → List Piece
ref_pieces r = typed_pieces r.ty r.id

abbrev pub shape_pieces : Bool → ℕ → WrittenAttributes → List Piece
shape_pieces closing base no_more = []
shape_pieces closing base (attribute ns n r t xs) =
    space ∷ mark Equals (codes "=") ∷ space ∷ type_pieces closing base (rec (attribute ns n r t xs))

abbrev pub tags_pieces : Bool → Option WrittenType → List Piece
tags_pieces closing None = []
tags_pieces closing (Some t) = space ∷ word (codes "tags") ∷ space ∷ type_pieces closing 0 t

-- an empty context has no space in its braces
abbrev pub context_pieces : Bool → ℕ → WrittenAttributes → List Piece
context_pieces closing base no_more = mark LBrace (codes "{") ∷ mark RBrace (codes "}") ∷ []
context_pieces closing base (attribute ns n r t xs) = type_pieces closing base (rec (attribute ns n r t xs))

abbrev pub member_pieces : Bool → ℕ → WrittenMember → List Piece
member_pieces closing base (types role ps) =
    word (pr_text role) ∷ mark Colon (codes ":") ∷ space ∷ bracketed path_pieces ps
member_pieces closing base (context_path p) = word (codes "context") ∷ mark Colon (codes ":") ∷ space ∷ path_pieces p
member_pieces closing base (context_record xs) =
    word (codes "context") ∷ mark Colon (codes ":") ∷ space ∷ context_pieces closing base xs

abbrev pub comma_behind_member : {A : Type 0} → Bool → List A → List Piece
comma_behind_member closing (x ∷ xs) = mark Comma (codes ",") ∷ []
comma_behind_member true [] = mark Comma (codes ",") ∷ []
comma_behind_member false [] = []

abbrev pub members_pieces : Bool → ℕ → List WrittenMember → List Piece
members_pieces closing base [] = []
members_pieces closing base (m ∷ ms) =
    gap (spaces (base + 2)) ∷ (member_pieces closing (base + 2) m
    ++ (comma_behind_member closing ms ++ line_break ∷ members_pieces closing base ms))

abbrev pub applies_pieces : Bool → ℕ → Option (List WrittenMember) → List Piece
applies_pieces closing base None = []
applies_pieces closing base (Some ms) =
    space ∷ word (codes "appliesTo") ∷ space ∷ mark LBrace (codes "{") ∷ line_break
    ∷ (members_pieces closing base ms ++ gap (spaces base) ∷ mark RBrace (codes "}") ∷ [])

abbrev pub ended : List Piece
ended = mark Semi (codes ";") ∷ line_break ∷ []

abbrev pub decl_pieces : Bool → ℕ → WrittenDecl → List Piece
decl_pieces closing base (entity names ps xs tags) =
    gap (spaces base) ∷ word (codes "entity") ∷ space
    ∷ (list_pieces word_pieces names
    ++ (parents_pieces path_pieces ps ++ (shape_pieces closing base xs ++ (tags_pieces closing tags ++ ended))))
decl_pieces closing base (enum names choices) =
    gap (spaces base) ∷ word (codes "entity") ∷ space
    ∷ (list_pieces word_pieces names
    ++ space ∷ word (codes "enum") ∷ space ∷ (bracketed string_pieces choices ++ ended))
decl_pieces closing base (external_entity names ps) =
    gap (spaces base) ∷ word (codes "external") ∷ space ∷ word (codes "entity") ∷ space
    ∷ (list_pieces word_pieces names ++ (parents_pieces path_pieces ps ++ ended))
decl_pieces closing base (action names rs ms) =
    gap (spaces base) ∷ word (codes "action") ∷ space
    ∷ (list_pieces string_pieces names ++ (parents_pieces ref_pieces rs ++ (applies_pieces closing base ms ++ ended)))
decl_pieces closing base (external_action names rs) =
    gap (spaces base) ∷ word (codes "external") ∷ space ∷ word (codes "action") ∷ space
    ∷ (list_pieces string_pieces names ++ (parents_pieces ref_pieces rs ++ ended))
decl_pieces closing base (common n t) =
    gap (spaces base) ∷ word (codes "type") ∷ space ∷ word n ∷ space ∷ mark Equals (codes "=") ∷ space
    ∷ (type_pieces closing base t ++ ended)

-- with an empty line between two
abbrev pub joined_pieces : {A : Type 0} → (A → List Piece) → List A → List Piece
joined_pieces f [] = []
joined_pieces f (x ∷ []) = f x
joined_pieces f (x ∷ y ∷ xs) = f x ++ line_break ∷ joined_pieces f (y ∷ xs)

-- a declaration behind its notes
abbrev pub declared_pieces : Bool → ℕ → WrittenDeclared → List Piece
declared_pieces closing base d = notes_pieces base d.notes ++ decl_pieces closing base d.decl

-- a namespace with its declarations; the one without a name has neither braces nor notes
pub record Group : Type 0 where
  pub notes : Notes
  pub name : Option (List (List ℕ))
  pub decls : List WrittenDeclared

abbrev pub namespace_pieces : Bool → Notes → Option (List (List ℕ)) → List WrittenDeclared → List Piece
namespace_pieces closing notes None ds = joined_pieces (declared_pieces closing 0) ds
namespace_pieces closing notes (Some p) ds =
    notes_pieces 0 notes ++ word (codes "namespace") ∷ space
    ∷ (path_pieces p ++ space ∷ mark LBrace (codes "{") ∷ line_break
    ∷ (joined_pieces (declared_pieces closing 2) ds ++ mark RBrace (codes "}") ∷ line_break ∷ []))

abbrev pub group_pieces : Bool → Group → List Piece
group_pieces closing g = namespace_pieces closing g.notes g.name g.decls

-- the namespaces laid out in turn, with an empty line between two
abbrev pub schema_pieces : Bool → List Group → List Piece
schema_pieces closing groups = joined_pieces (group_pieces closing) groups

abbrev pub namespace_items : Notes → Option (List (List ℕ)) → List WrittenDeclared → List WrittenItem
namespace_items notes None ds = map outside ds
namespace_items notes (Some p) ds = namespace notes p ds ∷ []

-- what is written of a namespace, or of the declarations outside of one
abbrev pub group_items : Group → List WrittenItem
group_items g = namespace_items g.notes g.name g.decls

-- the list has an item
abbrev pub IsSome : {A : Type 0} → List A → Type 0
IsSome [] = ⊥
IsSome (x ∷ xs) = Unit {0}

abbrev pub IsProperWord : List ℕ → Type 0
IsProperWord w = is_id w ≡ true

abbrev pub IsProperOptional : Option (List (List ℕ)) → Type 0
IsProperOptional None = Unit {0}
IsProperOptional (Some p) = IsProperPath p

abbrev pub IsProperRef : WrittenRef → Type 0
IsProperRef r = IsProperOptional r.ty

abbrev pub IsProperTags : Option WrittenType → Type 0
IsProperTags None = Unit {0}
IsProperTags (Some t) = IsProperType t

abbrev pub IsProperMember : WrittenMember → Type 0
IsProperMember (types role ps) = AllByRecursion IsProperPath ps
IsProperMember (context_path p) = IsProperPath p
IsProperMember (context_record xs) = AreProperAttributes xs

abbrev pub AreProperMembers : Option (List WrittenMember) → Type 0
AreProperMembers None = Unit {0}
AreProperMembers (Some ms) = IsSome ms × AllByRecursion IsProperMember ms

abbrev pub IsProperDecl : WrittenDecl → Type 0
IsProperDecl (entity names ps xs tags) =
    IsSome names × AllByRecursion IsProperWord names × AllByRecursion IsProperPath ps × AreProperAttributes xs
    × IsProperTags tags
IsProperDecl (enum names choices) = IsSome names × AllByRecursion IsProperWord names × IsSome choices
IsProperDecl (external_entity names ps) =
    IsSome names × AllByRecursion IsProperWord names × AllByRecursion IsProperPath ps
IsProperDecl (action names rs ms) = IsSome names × AllByRecursion IsProperRef rs × AreProperMembers ms
IsProperDecl (external_action names rs) = IsSome names × AllByRecursion IsProperRef rs
IsProperDecl (common n t) = IsProperWord n × IsProperType t

abbrev pub IsProperDeclared : WrittenDeclared → Type 0
IsProperDeclared d = AreProperNotes d.notes × IsProperDecl d.decl

-- the names in the group are names, its lists that must have an item have one, and its annotations rise
abbrev pub IsProperGroup : Group → Type 0
IsProperGroup g = AreProperNotes g.notes × IsProperOptional g.name × AllByRecursion IsProperDeclared g.decls
