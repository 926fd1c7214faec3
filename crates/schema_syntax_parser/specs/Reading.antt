-- Reading from left to right with one token of look-ahead, as functions on lists.
use Rattle.std.specs.Prelude.{◌≡◌, ℕ, zero, suc, ◌+◌, ◌-◌, length, take, List, [], ◌∷◌, ◌++◌, Bool, true, false, Option}
use Rattle.std.specs.Prelude.{Some, None, Result, Ok, Err, if◌then◌else◌}
use Rattle.cedar_data.specs.Span.{Span}
use Rattle.schema_syntax_grammar.specs.declared.token_kind.TokenKind.{TokenKind}
use Rattle.schema_syntax_grammar.specs.declared.token_kind.TokenKind.TheVariants.{KwNamespace, KwEntity, KwExternal}
use Rattle.schema_syntax_grammar.specs.declared.token_kind.TokenKind.TheVariants.{KwIn, KwType, KwSet, KwAppliesTo}
use Rattle.schema_syntax_grammar.specs.declared.token_kind.TokenKind.TheVariants.{KwAction, KwContext, KwTags, KwEnum}
use Rattle.schema_syntax_grammar.specs.declared.token_kind.TokenKind.TheVariants.{StringLit, At, Comma, Semi, Colon}
use Rattle.schema_syntax_grammar.specs.declared.token_kind.TokenKind.TheVariants.{PathSep, LParen, RParen, LBrace}
use Rattle.schema_syntax_grammar.specs.declared.token_kind.TokenKind.TheVariants.{RBrace, LBracket, RBracket, Less}
use Rattle.schema_syntax_grammar.specs.declared.token_kind.TokenKind.TheVariants.{Greater, Question, Equals}
use Rattle.schema_syntax_grammar.specs.Grammar.{is_word_kind, is_ident, same_kind, is_name_kind}
use Rattle.schema_syntax_tokens.specs.declared.token.Token.{Token}
use Rattle.schema_syntax_parser.specs.declared.stop.Stop.{Stop}
use Rattle.schema_syntax_parser.specs.declared.stop.Stop.TheVariants.{Memory, Mismatch}
use Rattle.schema_syntax_parser.specs.declared.syntax.PathSyntax.{PathSyntax}
use Rattle.schema_syntax_parser.specs.declared.syntax.AnnotationSyntax.{AnnotationSyntax}
use Rattle.schema_syntax_parser.specs.declared.syntax.TypeSyntax.{TypeSyntax}
use Rattle.schema_syntax_parser.specs.declared.syntax.TypeSyntax.TheVariants.{Path, Set, Record}
use Rattle.schema_syntax_parser.specs.declared.syntax.AttrSyntax.{AttrSyntax, roll-AttrSyntax}
use Rattle.schema_syntax_parser.specs.declared.syntax.AppSyntax.{AppSyntax}
use Rattle.schema_syntax_parser.specs.declared.syntax.AppSyntax.TheVariants.{Types, ContextPath, ContextRecord}
use Rattle.schema_syntax_parser.specs.declared.syntax.DeclSyntax.{DeclSyntax}
use Rattle.schema_syntax_parser.specs.declared.syntax.DeclSyntax.TheVariants.{Entity, Enum, ExternalEntity, Action}
use Rattle.schema_syntax_parser.specs.declared.syntax.DeclSyntax.TheVariants.{ExternalAction, Common}
use Rattle.schema_syntax_parser.specs.declared.syntax.DeclaredSyntax.{DeclaredSyntax}
use Rattle.schema_syntax_parser.specs.declared.syntax.ItemSyntax.{ItemSyntax}
use Rattle.schema_syntax_parser.specs.declared.syntax.ItemSyntax.TheVariants.{Namespace, Decl}
use Rattle.schema_syntax_parser.specs.Syntax.{is_role}
use Rattle.schema_syntax_tokens.specs.TokenLists.{whole_place}

infixl 10 ◌>>=◌
abbrev pub ◌>>=◌ : {A B : Type 0} → Option A → (A → Option B) → Option B
(Some x) >>= f = f x
None >>= f = None

-- What a function returned, seen by view, is what reading gives, unless memory ran out.
abbrev pub Fails : {Y : Type 0} → Stop → Option Y → Type 0
Fails Memory read = Unit {0}
Fails Mismatch read = read ≡ None

abbrev pub Gives : {X Y : Type 0} → (X → Y) → Result X Stop → Option Y → Type 0
Gives view (Ok x) read = read ≡ Some (view x)
Gives view (Err e) read = Fails e read

-- what was read, and what is behind it
abbrev pub Read : Type 0 → Type 0
Read A = Option (A × List Token)

-- one turn of a list: nothing more, its last item, or an item that others follow
pub data Turn (A : Type 0) : Type 0 where
  Done : List Token → Turn A
  Last : A → List Token → Turn A
  More : A → List Token → Turn A

abbrev pub after_turn : {A : Type 0} → (List Token → Read (List A)) → Turn A → Read (List A)
after_turn others (Done ts) = Some ([], ts)
after_turn others (Last x ts) = Some (x ∷ [], ts)
after_turn others (More x ts) = others ts >>= λ r. Some (x ∷ r.0, r.1)

-- at most so many items, turn by turn
unfoldable pub many_at : {A : Type 0} → (List Token → Option (Turn A)) → ℕ → List Token → Read (List A)
many_at turn zero ts = None
many_at turn (suc n) ts = turn ts >>= after_turn (many_at turn n)

abbrev pub all_at : {A : Type 0} → (List Token → Option (Turn A)) → List Token → Read (List A)
all_at turn ts = many_at turn (length ts + 1) ts

-- what was read before, and what is still read
abbrev pub with_items : {A : Type 0} → List A → Read (List A) → Read (List A)
with_items done read = read >>= λ r. Some (done ++ r.0, r.1)

-- the place of what stands before the rest
abbrev pub place_before : List Token → List Token → Span
place_before ts rest = whole_place (take (length ts - length rest) ts)

-- the token at the front
abbrev pub any_at : List Token → Read Token
any_at [] = None
any_at (t ∷ ts) = Some (t, ts)

-- the token at the front, if it is of the kind
abbrev pub token_at : TokenKind → List Token → Read Token
token_at k [] = None
token_at k (t ∷ ts) = if same_kind k t.kind then Some (t, ts) else None

-- the token at the front, if its kind is one of these
abbrev pub class_at : (TokenKind → Bool) → List Token → Read Token
class_at is [] = None
class_at is (t ∷ ts) = if is t.kind then Some (t, ts) else None

-- an item, and others where the separator follows
abbrev pub link_at : {A : Type 0} → TokenKind → A → List Token → Turn A
link_at separator x [] = Last x []
link_at separator x (s ∷ ts) = if same_kind separator s.kind then More x ts else Last x (s ∷ ts)

unfoldable pub chain_turn : TokenKind → (TokenKind → Bool) → List Token → Option (Turn Token)
chain_turn separator is ts = class_at is ts >>= λ t. Some (link_at separator t.0 t.1)

-- an item before the closing token, or before a comma
abbrev pub closed_at : {A : Type 0} → TokenKind → A → List Token → Option (Turn A)
closed_at close x [] = None
closed_at close x (e ∷ ts) = if same_kind close e.kind then Some (Last x ts) else if same_kind Comma e.kind then Some
    (More x ts) else None

unfoldable pub separated_turn : {A : Type 0} → TokenKind → (List Token → Read A) → List Token → Option (Turn A)
separated_turn close item [] = item [] >>= λ x. closed_at close x.0 x.1
separated_turn close item (t ∷ ts) =
    if same_kind close t.kind then Some (Done ts) else item (t ∷ ts) >>= λ x. closed_at close x.0 x.1

unfoldable pub path_at : List Token → Read PathSyntax
path_at ts = all_at (chain_turn PathSep is_ident) ts >>= λ r. Some
    (record { names = r.0; loc = place_before ts r.1 }, r.1)

unfoldable pub ref_at : List Token → Read PathSyntax
ref_at ts = all_at (chain_turn PathSep is_name_kind) ts >>= λ r. Some
    (record { names = r.0; loc = place_before ts r.1 }, r.1)

-- one item, or items in brackets
abbrev pub listed_at : (List Token → Read PathSyntax) → List Token → Read (List PathSyntax)
listed_at item [] = item [] >>= λ p. Some (p.0 ∷ [], p.1)
listed_at item (t ∷ ts) = if same_kind LBracket t.kind then all_at (separated_turn RBracket item) ts else item
    (t ∷ ts) >>= λ p. Some (p.0 ∷ [], p.1)

unfoldable pub types_at : List Token → Read (List PathSyntax)
types_at = listed_at path_at

unfoldable pub refs_at : List Token → Read (List PathSyntax)
refs_at = listed_at ref_at

abbrev pub parents_at : (List Token → Read (List PathSyntax)) → List Token → Read (List PathSyntax)
parents_at list [] = Some ([], [])
parents_at list (t ∷ ts) = if same_kind KwIn t.kind then list ts else Some ([], t ∷ ts)

-- an annotation behind its word
abbrev pub value_at : Token → List Token → Option (Turn AnnotationSyntax)
value_at k [] = Some (More (record { key = k; value = None }) [])
value_at k (o ∷ ts) =
    if same_kind LParen o.kind then (do
      v ← token_at StringLit ts
      c ← token_at RParen v.1
      Some (More (record { key = k; value = Some v.0 }) c.1))
    else Some (More (record { key = k; value = None }) (o ∷ ts))

unfoldable pub annotation_turn : List Token → Option (Turn AnnotationSyntax)
annotation_turn [] = Some (Done [])
annotation_turn (a ∷ ts) = if same_kind At a.kind then class_at is_word_kind ts >>= (λ k. value_at k.0 k.1) else Some
    (Done (a ∷ ts))

unfoldable pub annotations_at : List Token → Read (List AnnotationSyntax)
annotations_at ts = all_at annotation_turn ts

unfoldable pub mark_at : List Token → Bool × List Token
mark_at [] = (true, [])
mark_at (t ∷ ts) = if same_kind Question t.kind then (false, ts) else (true, t ∷ ts)

abbrev pub as_type : Read PathSyntax → Read TypeSyntax
as_type read = read >>= λ p. Some (Path p.0, p.1)

-- a type that begins with the word for a set, from what reads its element
unfoldable pub set_step : (List Token → Read TypeSyntax) → Token → List Token → Read TypeSyntax
set_step type_at t [] = as_type (path_at (t ∷ []))
set_step type_at t (o ∷ ts) =
    if same_kind Less o.kind then (do
      e ← type_at ts
      c ← token_at Greater e.1
      Some (Set e.0 (place_before (t ∷ o ∷ ts) c.1), c.1))
    else as_type (path_at (t ∷ o ∷ ts))

-- a type, from what reads an element and attributes
unfoldable pub whole_type_step : (List Token → Read TypeSyntax) → (List Token → Read (List AttrSyntax)) → List Token
    → Read TypeSyntax
whole_type_step type_at attrs_at [] = None
whole_type_step type_at attrs_at (t ∷ ts) =
    if same_kind LBrace t.kind then (attrs_at ts >>= λ r. Some (Record r.0 (place_before (t ∷ ts) r.1), r.1))
    else if same_kind KwSet t.kind then set_step type_at t ts
    else as_type (path_at (t ∷ ts))

-- an attribute, from what reads its type
unfoldable pub attr_step : (List Token → Read TypeSyntax) → List Token → Read AttrSyntax
attr_step type_at ts = do
  a ← annotations_at ts
  n ← class_at is_name_kind a.1
  c ← token_at Colon (mark_at n.1).1
  t ← type_at c.1
  Some (
    roll-AttrSyntax (record {
      annotations = a.0;
      name = n.0;
      required = (mark_at n.1).0;
      ty = t.0;
      loc = place_before a.1 t.1;
    }),
    t.1,
  )

unfoldable mutual
  -- a type, nested at most so deep
  pub type_at : ℕ → List Token → Read TypeSyntax
  type_at zero ts = None
  type_at (suc n) ts = whole_type_step (type_at n) (attrs_at n) ts

  -- attributes, and the closing brace
  pub attrs_at : ℕ → List Token → Read (List AttrSyntax)
  attrs_at zero ts = None
  attrs_at (suc n) ts = separated_turn RBrace (attr_step (type_at n)) ts >>= after_turn (attrs_at n)

-- attributes in braces, with the place of the braces
unfoldable pub record_at : List Token → Read (List AttrSyntax × Span)
record_at ts = do
  o ← token_at LBrace ts
  r ← attrs_at (length ts) o.1
  Some ((r.0, place_before ts r.1), r.1)

abbrev pub some_record : Read (List AttrSyntax × Span) → Read (Option (List AttrSyntax × Span))
some_record read = read >>= λ r. Some (Some r.0, r.1)

unfoldable pub shape_at : List Token → Read (Option (List AttrSyntax × Span))
shape_at [] = Some (None, [])
shape_at (t ∷ ts) =
    if same_kind Equals t.kind then some_record (record_at ts)
    else if same_kind LBrace t.kind then some_record (record_at (t ∷ ts))
    else Some (None, t ∷ ts)

unfoldable pub tags_at : List Token → Read (Option TypeSyntax)
tags_at [] = Some (None, [])
tags_at (t ∷ ts) = if same_kind KwTags t.kind then (type_at (length ts) ts >>= λ r. Some (Some r.0, r.1)) else Some
    (None, t ∷ ts)

-- what `context` is given, in the member that begins at whole
unfoldable pub context_at : List Token → List Token → Read AppSyntax
context_at whole [] = None
context_at whole (t ∷ ts) =
    if same_kind LBrace t.kind then
    (record_at (t ∷ ts) >>= λ r. Some (ContextRecord r.0.0 r.0.1 (place_before whole r.1), r.1))
    else (path_at (t ∷ ts) >>= λ p. Some (ContextPath p.0 (place_before whole p.1), p.1))

unfoldable pub app_at : List Token → Read AppSyntax
app_at ts = do
  w ← any_at ts
  c ← token_at Colon w.1
  if is_role w.0.kind then (types_at c.1 >>= λ r. Some (Types w.0 r.0 (place_before ts r.1), r.1)) else
      (if same_kind KwContext w.0.kind then context_at ts c.1 else None)

unfoldable pub applies_at : List Token → Read (Option (List AppSyntax × Span))
applies_at [] = Some (None, [])
applies_at (t ∷ ts) =
    if same_kind KwAppliesTo t.kind then (do
      o ← token_at LBrace ts
      r ← all_at (separated_turn RBrace app_at) o.1
      Some (Some (r.0, place_before ts r.1), r.1))
    else Some (None, t ∷ ts)

abbrev pub string_at : List Token → Read Token
string_at = token_at StringLit

-- the body of an enumerated entity type, behind `enum`
unfoldable pub enum_at : List Token → List Token → Read DeclSyntax
enum_at names ts = do
  o ← token_at LBracket ts
  r ← all_at (separated_turn RBracket string_at) o.1
  z ← token_at Semi r.1
  Some (Enum names r.0 (place_before ts r.1), z.1)

-- the body of another entity type, behind its names
unfoldable pub standard_at : List Token → List Token → Read DeclSyntax
standard_at names ts = do
  p ← parents_at types_at ts
  s ← shape_at p.1
  t ← tags_at s.1
  z ← token_at Semi t.1
  Some (Entity names p.0 s.0 t.0, z.1)

abbrev pub entity_body_at : List Token → List Token → Read DeclSyntax
entity_body_at names [] = standard_at names []
entity_body_at names (t ∷ ts) = if same_kind KwEnum t.kind then enum_at names ts else standard_at names (t ∷ ts)

-- a declaration behind its first word
unfoldable pub entity_at : List Token → Read DeclSyntax
entity_at ts = all_at (chain_turn Comma is_ident) ts >>= λ i. entity_body_at i.0 i.1

unfoldable pub external_entity_at : List Token → Read DeclSyntax
external_entity_at ts = do
  i ← all_at (chain_turn Comma is_ident) ts
  p ← parents_at types_at i.1
  z ← token_at Semi p.1
  Some (ExternalEntity i.0 p.0, z.1)

unfoldable pub external_action_at : List Token → Read DeclSyntax
external_action_at ts = do
  n ← all_at (chain_turn Comma is_name_kind) ts
  p ← parents_at refs_at n.1
  z ← token_at Semi p.1
  Some (ExternalAction n.0 p.0, z.1)

unfoldable pub action_at : List Token → Read DeclSyntax
action_at ts = do
  n ← all_at (chain_turn Comma is_name_kind) ts
  p ← parents_at refs_at n.1
  a ← applies_at p.1
  z ← token_at Semi a.1
  Some (Action n.0 p.0 a.0, z.1)

unfoldable pub common_at : List Token → Read DeclSyntax
common_at ts = do
  n ← class_at is_ident ts
  e ← token_at Equals n.1
  t ← type_at (length e.1) e.1
  z ← token_at Semi t.1
  Some (Common n.0 t.0, z.1)

unfoldable pub external_at : List Token → Read DeclSyntax
external_at ts = do
  w ← any_at ts
  if same_kind KwEntity w.0.kind then external_entity_at w.1 else
      (if same_kind KwAction w.0.kind then external_action_at w.1 else None)

unfoldable pub decl_at : List Token → Read DeclSyntax
decl_at ts = do
  w ← any_at ts
  if same_kind KwEntity w.0.kind then entity_at w.1 else
      (if same_kind KwExternal w.0.kind then external_at w.1 else
      (if same_kind KwAction w.0.kind then action_at w.1 else
      (if same_kind KwType w.0.kind then common_at w.1 else None)))

unfoldable pub declared_at : List Token → Read DeclaredSyntax
declared_at ts = do
  a ← annotations_at ts
  d ← decl_at a.1
  Some (record { annotations = a.0; decl = d.0; loc = place_before a.1 d.1 }, d.1)

unfoldable pub decl_turn : List Token → Option (Turn DeclaredSyntax)
decl_turn [] = declared_at [] >>= λ d. Some (More d.0 d.1)
decl_turn (t ∷ ts) = if same_kind RBrace t.kind then Some (Done ts) else declared_at (t ∷ ts) >>= λ d. Some
    (More d.0 d.1)

-- a namespace behind its annotations and its first word, which begins whole
unfoldable pub namespace_at : List AnnotationSyntax → List Token → List Token → Read ItemSyntax
namespace_at annotations whole ts = do
  p ← path_at ts
  o ← token_at LBrace p.1
  d ← all_at decl_turn o.1
  Some (Namespace annotations p.0 d.0 (place_before whole d.1), d.1)

-- a declaration in no namespace, behind its annotations
unfoldable pub outside_at : List AnnotationSyntax → List Token → Read ItemSyntax
outside_at annotations ts = decl_at ts >>= λ d. Some
    (Decl (record { annotations = annotations; decl = d.0; loc = place_before ts d.1 }), d.1)

abbrev pub item_body_at : List AnnotationSyntax → List Token → Read ItemSyntax
item_body_at annotations [] = outside_at annotations []
item_body_at annotations (t ∷ ts) =
    if same_kind KwNamespace t.kind then namespace_at annotations (t ∷ ts) ts else outside_at annotations (t ∷ ts)

unfoldable pub item_at : List Token → Read ItemSyntax
item_at ts = annotations_at ts >>= λ a. item_body_at a.0 a.1

unfoldable pub item_turn : List Token → Option (Turn ItemSyntax)
item_turn [] = Some (Done [])
item_turn (t ∷ ts) = item_at (t ∷ ts) >>= λ i. Some (More i.0 i.1)

-- all items
unfoldable pub items_at : List Token → Read (List ItemSyntax)
items_at ts = all_at item_turn ts
