-- The syntax of a list of tokens, one case for each production of the grammar: the tokens are those of the parts,
-- joined.
use Rattle.std.specs.Prelude.{◌≡◌, List, [], ◌∷◌, ◌++◌, Bool, true, false, Option, Some, None}
use Rattle.cedar_data.specs.Span.{Span}
use Rattle.schema_syntax_grammar.specs.declared.token_kind.TokenKind.{TokenKind}
use Rattle.schema_syntax_grammar.specs.declared.token_kind.TokenKind.TheVariants.{KwNamespace, KwEntity, KwExternal}
use Rattle.schema_syntax_grammar.specs.declared.token_kind.TokenKind.TheVariants.{KwIn, KwType, KwSet, KwAppliesTo}
use Rattle.schema_syntax_grammar.specs.declared.token_kind.TokenKind.TheVariants.{KwPrincipal, KwAction, KwResource}
use Rattle.schema_syntax_grammar.specs.declared.token_kind.TokenKind.TheVariants.{KwContext, KwTags, KwEnum, StringLit}
use Rattle.schema_syntax_grammar.specs.declared.token_kind.TokenKind.TheVariants.{At, Comma, Semi, Colon, PathSep}
use Rattle.schema_syntax_grammar.specs.declared.token_kind.TokenKind.TheVariants.{LParen, RParen, LBrace, RBrace}
use Rattle.schema_syntax_grammar.specs.declared.token_kind.TokenKind.TheVariants.{LBracket, RBracket, Less, Greater}
use Rattle.schema_syntax_grammar.specs.declared.token_kind.TokenKind.TheVariants.{Question, Equals}
use Rattle.schema_syntax_grammar.specs.Grammar.{is_word_kind, is_ident, is_name_kind, Sentence}
use Rattle.schema_syntax_tokens.specs.declared.token.Token.{Token}
use Rattle.schema_syntax_tokens.specs.TokenLists.{kinds_of, whole_place}
use Rattle.schema_syntax_parser.specs.declared.syntax.PathSyntax.{PathSyntax}
use Rattle.schema_syntax_parser.specs.declared.syntax.AnnotationSyntax.{AnnotationSyntax}
use Rattle.schema_syntax_parser.specs.declared.syntax.TypeSyntax.{TypeSyntax}
use Rattle.schema_syntax_parser.specs.declared.syntax.TypeSyntax.TheVariants.{Path, Set, Record}
use Rattle.schema_syntax_parser.specs.declared.syntax.AttrSyntax.{AttrSyntax, roll-AttrSyntax}
use Rattle.schema_syntax_parser.specs.declared.syntax.AppSyntax.{AppSyntax}
use Rattle.schema_syntax_parser.specs.declared.syntax.AppSyntax.TheVariants.{Types, ContextPath, ContextRecord}
use Rattle.schema_syntax_parser.specs.declared.syntax.DeclSyntax.{DeclSyntax}
use Rattle.schema_syntax_parser.specs.declared.syntax.DeclSyntax.TheVariants.{Entity, Enum, ExternalEntity, Action}
use Rattle.schema_syntax_parser.specs.declared.syntax.DeclSyntax.TheVariants.{ExternalAction, Common}
use Rattle.schema_syntax_parser.specs.declared.syntax.DeclaredSyntax.{DeclaredSyntax}
use Rattle.schema_syntax_parser.specs.declared.syntax.ItemSyntax.{ItemSyntax}
use Rattle.schema_syntax_parser.specs.declared.syntax.ItemSyntax.TheVariants.{Namespace, Decl}

-- names with one separator between two
pub data IsChain (separator : TokenKind) (is : TokenKind → Bool) : List Token → List Token → Type 0 where
  one : {t : Token} → is t.kind ≡ true → IsChain separator is (t ∷ []) (t ∷ [])
  more : {t s : Token} {u names : List Token} → is t.kind ≡ true → s.kind ≡ separator → IsChain separator is u names
      → IsChain separator is (t ∷ s ∷ u) (t ∷ names)

-- nothing, or items with a comma between two, and perhaps one behind the last
pub data AreSeparated {A : Type 0} (P : List Token → A → Type 0) : List Token → List A → Type 0 where
  none : AreSeparated P [] []
  last : {u : List Token} {x : A} → P u x → AreSeparated P u (x ∷ [])
  more : {u v : List Token} (c : Token) {x : A} {xs : List A} → P u x → c.kind ≡ Comma → AreSeparated P v xs
      → AreSeparated P (u ++ c ∷ v) (x ∷ xs)

-- one item, or such a list in brackets
pub data AreListed {A : Type 0} (P : List Token → A → Type 0) : List Token → List A → Type 0 where
  single : {u : List Token} {x : A} → P u x → AreListed P u (x ∷ [])
  listed : {o : Token} (c : Token) {u : List Token} {xs : List A} → o.kind ≡ LBracket → AreSeparated P u xs
      → c.kind ≡ RBracket → AreListed P (o ∷ (u ++ c ∷ [])) xs

-- any number of items
pub data AreMany {A : Type 0} (P : List Token → A → Type 0) : List Token → List A → Type 0 where
  none : AreMany P [] []
  more : {u v : List Token} {x : A} {xs : List A} → P u x → AreMany P v xs → AreMany P (u ++ v) (x ∷ xs)

-- Ident {'::' Ident}
pub data IsPath : List Token → PathSyntax → Type 0 where
  path : {u names : List Token} → IsChain PathSep is_ident u names
      → IsPath u (record { names = names; loc = whole_place u })

-- Name | Path '::' STR
pub data IsRef : List Token → PathSyntax → Type 0 where
  plain : {t : Token} → is_name_kind t.kind ≡ true
      → IsRef (t ∷ []) (record { names = t ∷ []; loc = whole_place (t ∷ []) })
  typed : {u names : List Token} (s q : Token) → IsChain PathSep is_ident u names → s.kind ≡ PathSep
      → q.kind ≡ StringLit
      → IsRef (u ++ s ∷ q ∷ []) (record { names = names ++ q ∷ []; loc = whole_place (u ++ s ∷ q ∷ []) })

-- ['in' Types] and ['in' Refs]
pub data AreParents (P : List Token → PathSyntax → Type 0) : List Token → List PathSyntax → Type 0 where
  no_parents : AreParents P [] []
  in_parents : {i : Token} {u : List Token} {ps : List PathSyntax} → i.kind ≡ KwIn → AreListed P u ps
      → AreParents P (i ∷ u) ps

-- {'@' Word ['(' STR ')']}
pub data AreAnnotations : List Token → List AnnotationSyntax → Type 0 where
  none : AreAnnotations [] []
  bare : {a k : Token} {u : List Token} {xs : List AnnotationSyntax} → a.kind ≡ At → is_word_kind k.kind ≡ true
      → AreAnnotations u xs → AreAnnotations (a ∷ k ∷ u) (record { key = k; value = None } ∷ xs)
  valued : {a k o v c : Token} {u : List Token} {xs : List AnnotationSyntax} → a.kind ≡ At
      → is_word_kind k.kind ≡ true → o.kind ≡ LParen → v.kind ≡ StringLit → c.kind ≡ RParen → AreAnnotations u xs
      → AreAnnotations (a ∷ k ∷ o ∷ v ∷ c ∷ u) (record { key = k; value = Some v } ∷ xs)

-- ['?']
pub data IsMark : List Token → Bool → Type 0 where
  no_mark : IsMark [] true
  question : {q : Token} → q.kind ≡ Question → IsMark (q ∷ []) false

mutual
  -- Path | 'Set' '<' Type '>' | Rec
  pub data IsType : List Token → TypeSyntax → Type 0 where
    path_type : {u : List Token} {p : PathSyntax} → IsPath u p → IsType u (Path p)
    set_type : {s o : Token} (c : Token) {u : List Token} {t : TypeSyntax} → s.kind ≡ KwSet → o.kind ≡ Less
        → IsType u t → c.kind ≡ Greater → IsType (s ∷ o ∷ (u ++ c ∷ [])) (Set t (whole_place (s ∷ o ∷ (u ++ c ∷ []))))
    record_type : {u : List Token} {xs : List AttrSyntax} → IsRecord u xs → IsType u (Record xs (whole_place u))

  -- '{' [Attr {',' Attr} [',']] '}'
  pub data IsRecord : List Token → List AttrSyntax → Type 0 where
    braces : {o : Token} (c : Token) {u : List Token} {xs : List AttrSyntax} → o.kind ≡ LBrace → AreAttrs u xs
        → c.kind ≡ RBrace → IsRecord (o ∷ (u ++ c ∷ [])) xs

  pub data AreAttrs : List Token → List AttrSyntax → Type 0 where
    no_attr : AreAttrs [] []
    last_attr : {u : List Token} {a : AttrSyntax} → IsAttr u a → AreAttrs u (a ∷ [])
    more_attrs : {u v : List Token} (c : Token) {a : AttrSyntax} {xs : List AttrSyntax} → IsAttr u a → c.kind ≡ Comma
        → AreAttrs v xs → AreAttrs (u ++ c ∷ v) (a ∷ xs)

  -- Anns Name ['?'] ':' Type
  pub data IsAttr : List Token → AttrSyntax → Type 0 where
    attr : (n c : Token) {a m u : List Token} {xs : List AnnotationSyntax} {required : Bool} {t : TypeSyntax}
        → AreAnnotations a xs → is_name_kind n.kind ≡ true → IsMark m required → c.kind ≡ Colon → IsType u t
        → IsAttr (a ++ n ∷ (m ++ c ∷ u))
        (roll-AttrSyntax (record {
          annotations = xs;
          name = n;
          required = required;
          ty = t;
          loc = whole_place (n ∷ (m ++ c ∷ u));
        }))

-- [['='] Rec]
pub data IsShape : List Token → Option (List AttrSyntax × Span) → Type 0 where
  no_shape : IsShape [] None
  bare_shape : {u : List Token} {xs : List AttrSyntax} → IsRecord u xs → IsShape u (Some (xs, whole_place u))
  equals_shape : {e : Token} {u : List Token} {xs : List AttrSyntax} → e.kind ≡ Equals → IsRecord u xs
      → IsShape (e ∷ u) (Some (xs, whole_place u))

-- ['tags' Type]
pub data AreTags : List Token → Option TypeSyntax → Type 0 where
  no_tags : AreTags [] None
  some_tags : {w : Token} {u : List Token} {t : TypeSyntax} → w.kind ≡ KwTags → IsType u t → AreTags (w ∷ u) (Some t)

-- STR
pub data IsStringToken : List Token → Token → Type 0 where
  string : {t : Token} → t.kind ≡ StringLit → IsStringToken (t ∷ []) t

-- `principal` or `resource`
abbrev pub is_role : TokenKind → Bool
is_role KwPrincipal = true
is_role KwResource = true
is_role _ = false

-- ('principal' | 'resource') ':' Types | 'context' ':' (Path | Rec)
pub data IsApp : List Token → AppSyntax → Type 0 where
  types : {w c : Token} {u : List Token} {ps : List PathSyntax} → is_role w.kind ≡ true → c.kind ≡ Colon
      → AreListed IsPath u ps → IsApp (w ∷ c ∷ u) (Types w ps (whole_place (w ∷ c ∷ u)))
  context_path : {w c : Token} {u : List Token} {p : PathSyntax} → w.kind ≡ KwContext → c.kind ≡ Colon → IsPath u p
      → IsApp (w ∷ c ∷ u) (ContextPath p (whole_place (w ∷ c ∷ u)))
  context_record : {w c : Token} {u : List Token} {xs : List AttrSyntax} → w.kind ≡ KwContext → c.kind ≡ Colon
      → IsRecord u xs → IsApp (w ∷ c ∷ u) (ContextRecord xs (whole_place u) (whole_place (w ∷ c ∷ u)))

-- ['appliesTo' '{' [App {',' App} [',']] '}']
pub data Applies : List Token → Option (List AppSyntax × Span) → Type 0 where
  no_applies : Applies [] None
  some_applies : {w o : Token} (c : Token) {u : List Token} {xs : List AppSyntax} → w.kind ≡ KwAppliesTo
      → o.kind ≡ LBrace → AreSeparated IsApp u xs → c.kind ≡ RBrace
      → Applies (w ∷ o ∷ (u ++ c ∷ [])) (Some (xs, whole_place (o ∷ (u ++ c ∷ []))))

-- a declaration without its annotations
pub data IsDecl : List Token → DeclSyntax → Type 0 where
  -- 'entity' Idents ['in' Types] [['='] Rec] ['tags' Type] ';'
  entity_decl : {e : Token} (z : Token) {i p s t names : List Token} {parents : List PathSyntax}
      {shape : Option (List AttrSyntax × Span)} {tags : Option TypeSyntax}
      → e.kind ≡ KwEntity → IsChain Comma is_ident i names → AreParents IsPath p parents → IsShape s shape
      → AreTags t tags → z.kind ≡ Semi
      → IsDecl (e ∷ (i ++ (p ++ (s ++ (t ++ z ∷ []))))) (Entity names parents shape tags)
  -- 'entity' Idents 'enum' '[' [STR {',' STR} [',']] ']' ';'
  enum_decl : {e : Token} (n o c z : Token) {i s names choices : List Token}
      → e.kind ≡ KwEntity → IsChain Comma is_ident i names → n.kind ≡ KwEnum → o.kind ≡ LBracket
      → AreSeparated IsStringToken s choices → c.kind ≡ RBracket → z.kind ≡ Semi
      → IsDecl (e ∷ (i ++ n ∷ o ∷ (s ++ c ∷ z ∷ []))) (Enum names choices (whole_place (o ∷ (s ++ c ∷ []))))
  -- 'external' 'entity' Idents ['in' Types] ';'
  external_entity : {x e : Token} (z : Token) {i p names : List Token} {parents : List PathSyntax}
      → x.kind ≡ KwExternal → e.kind ≡ KwEntity → IsChain Comma is_ident i names → AreParents IsPath p parents
      → z.kind ≡ Semi
      → IsDecl (x ∷ e ∷ (i ++ (p ++ z ∷ []))) (ExternalEntity names parents)
  -- 'action' Names ['in' Refs] ['appliesTo' '{' [App {',' App} [',']] '}'] ';'
  action_decl : {a : Token} (z : Token) {n r s names : List Token} {parents : List PathSyntax}
      {applies : Option (List AppSyntax × Span)}
      → a.kind ≡ KwAction → IsChain Comma is_name_kind n names → AreParents IsRef r parents → Applies s applies
      → z.kind ≡ Semi
      → IsDecl (a ∷ (n ++ (r ++ (s ++ z ∷ [])))) (Action names parents applies)
  -- 'external' 'action' Names ['in' Refs] ';'
  external_action : {x a : Token} (z : Token) {n r names : List Token} {parents : List PathSyntax}
      → x.kind ≡ KwExternal → a.kind ≡ KwAction → IsChain Comma is_name_kind n names → AreParents IsRef r parents
      → z.kind ≡ Semi
      → IsDecl (x ∷ a ∷ (n ++ (r ++ z ∷ []))) (ExternalAction names parents)
  -- 'type' Ident '=' Type ';'
  common_decl : {w n e : Token} (z : Token) {u : List Token} {t : TypeSyntax} → w.kind ≡ KwType
      → is_ident n.kind ≡ true → e.kind ≡ Equals → IsType u t → z.kind ≡ Semi
      → IsDecl (w ∷ n ∷ e ∷ (u ++ z ∷ [])) (Common n t)

-- Anns (Entity | Enum | ExtEntity | Action | ExtAction | Common)
pub data IsDeclared : List Token → DeclaredSyntax → Type 0 where
  declared : {a u : List Token} {xs : List AnnotationSyntax} {d : DeclSyntax} → AreAnnotations a xs → IsDecl u d
      → IsDeclared (a ++ u) (record { annotations = xs; decl = d; loc = whole_place u })

-- Anns 'namespace' Path '{' {Decl} '}' | Decl
pub data IsItem : List Token → ItemSyntax → Type 0 where
  namespace : (n o c : Token) {a p u : List Token} {xs : List AnnotationSyntax} {name : PathSyntax}
      {ds : List DeclaredSyntax}
      → AreAnnotations a xs → n.kind ≡ KwNamespace → IsPath p name → o.kind ≡ LBrace → AreMany IsDeclared u ds
      → c.kind ≡ RBrace
      → IsItem (a ++ n ∷ (p ++ o ∷ (u ++ c ∷ []))) (Namespace xs name ds (whole_place (n ∷ (p ++ o ∷ (u ++ c ∷ [])))))
  outside : {u : List Token} {d : DeclaredSyntax} → IsDeclared u d → IsItem u (Decl d)

-- {Item}
abbrev pub IsSyntax : List Token → List ItemSyntax → Type 0
IsSyntax tokens items = AreMany IsItem tokens items

-- the tokens are those of this item, and then the rest, whose kinds are those of a schema
pub record IsFirstItem (tokens : List Token) (item : ItemSyntax) (rest : List Token) : Type 0 where
  pub front : List Token
  pub split : tokens ≡ front ++ rest
  pub is : IsItem front item
  pub sentence : Sentence (kinds_of rest)
