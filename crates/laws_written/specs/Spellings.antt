-- Which lexemes say what: the grammar without places, one case for each production, over lawful words and strings.
use Rattle.std.specs.Prelude.{◌≡◌, ℕ, Bool, true, false, List, [], ◌∷◌, ◌++◌, Option, Some, None}
use Rattle.cedar_identifiers.specs.Words.{is_id}
use Rattle.schema_syntax_grammar.specs.Grammar.{is_ident}
use Rattle.schema_syntax_grammar.specs.declared.token_kind.TokenKind.{TokenKind}
use Rattle.schema_syntax_grammar.specs.declared.token_kind.TokenKind.TheVariants.{KwNamespace, KwEntity, KwExternal}
use Rattle.schema_syntax_grammar.specs.declared.token_kind.TokenKind.TheVariants.{KwIn, KwType, KwSet, KwAppliesTo}
use Rattle.schema_syntax_grammar.specs.declared.token_kind.TokenKind.TheVariants.{KwAction, KwContext, KwTags, KwEnum}
use Rattle.schema_syntax_grammar.specs.declared.token_kind.TokenKind.TheVariants.{StringLit, Comma, Semi, Colon}
use Rattle.schema_syntax_grammar.specs.declared.token_kind.TokenKind.TheVariants.{PathSep, LBrace, RBrace, LBracket}
use Rattle.schema_syntax_grammar.specs.declared.token_kind.TokenKind.TheVariants.{RBracket, Less, Greater, Question}
use Rattle.schema_syntax_grammar.specs.declared.token_kind.TokenKind.TheVariants.{Equals}
use Rattle.schema_syntax_tokens.specs.Escapes.{Unescapes}
use Rattle.schema_syntax_tokens.specs.Laid.{Lexeme}
use Rattle.schema_syntax_parser.specs.Syntax.{is_role}
use Rattle.schema_syntax_reader.specs.Trees.{role_of}
use Rattle.laws_written.specs.Written.{WrittenType, WrittenAttributes, path, set, rec, no_more, attribute}
use Rattle.laws_written.specs.Written.{WrittenRef, WrittenMember, types, context_path, context_record, WrittenDecl}
use Rattle.laws_written.specs.Written.{entity, enum, external_entity, action, external_action, common}
use Rattle.laws_written.specs.Written.{WrittenDeclared, WrittenItem, namespace, outside}
use Rattle.schema_syntax_reader.specs.Leaves.{Notes}
use Rattle.laws_written.specs.Notes.{SpellNotes}

-- a word that may be a name
pub record IsIdent (x : Lexeme) : Type 0 where
  pub ident : is_ident x.kind ≡ true
  pub id : is_id x.text ≡ true

-- a name: a word, or a string that stands for it
pub data SpellsName : Lexeme → List ℕ → Type 0 where
  bare : {x : Lexeme} → IsIdent x → SpellsName x x.text
  quoted : {x : Lexeme} (body : List ℕ) {value : List ℕ} → x.kind ≡ StringLit → x.text ≡ 34 ∷ (body ++ 34 ∷ [])
      → Unescapes body value → SpellsName x value

-- Ident {separator Ident}
pub data IsChainOf (separator : TokenKind) : List Lexeme → List (List ℕ) → Type 0 where
  one : {x : Lexeme} → IsIdent x → IsChainOf separator (x ∷ []) (x.text ∷ [])
  more : {x s : Lexeme} {u : List Lexeme} {names : List (List ℕ)} → IsIdent x → s.kind ≡ separator
      → IsChainOf separator u names → IsChainOf separator (x ∷ s ∷ u) (x.text ∷ names)

-- Name {',' Name}
pub data AreNamesOf : List Lexeme → List (List ℕ) → Type 0 where
  one_name : {x : Lexeme} {n : List ℕ} → SpellsName x n → AreNamesOf (x ∷ []) (n ∷ [])
  more_names : {x s : Lexeme} {u : List Lexeme} {n : List ℕ} {names : List (List ℕ)} → SpellsName x n → s.kind ≡ Comma
      → AreNamesOf u names → AreNamesOf (x ∷ s ∷ u) (n ∷ names)

abbrev pub SpellsPath : List Lexeme → List (List ℕ) → Type 0
SpellsPath = IsChainOf PathSep

-- nothing, or items with a comma between two, and perhaps one behind the last
pub data AreSeparatedOf {A : Type 0} (P : List Lexeme → A → Type 0) : List Lexeme → List A → Type 0 where
  no_item : AreSeparatedOf P [] []
  last_item : {u : List Lexeme} {x : A} → P u x → AreSeparatedOf P u (x ∷ [])
  more_items : {u v : List Lexeme} (c : Lexeme) {x : A} {xs : List A} → P u x → c.kind ≡ Comma → AreSeparatedOf P v xs
      → AreSeparatedOf P (u ++ c ∷ v) (x ∷ xs)

-- one item, or such a list in brackets
pub data AreListedOf {A : Type 0} (P : List Lexeme → A → Type 0) : List Lexeme → List A → Type 0 where
  single_item : {u : List Lexeme} {x : A} → P u x → AreListedOf P u (x ∷ [])
  listed_items : {o : Lexeme} (c : Lexeme) {u : List Lexeme} {xs : List A} → o.kind ≡ LBracket → AreSeparatedOf P u xs
      → c.kind ≡ RBracket → AreListedOf P (o ∷ (u ++ c ∷ [])) xs

pub data AreManyOf {A : Type 0} (P : List Lexeme → A → Type 0) : List Lexeme → List A → Type 0 where
  no_more_items : AreManyOf P [] []
  item_first : {u v : List Lexeme} {x : A} {xs : List A} → P u x → AreManyOf P v xs → AreManyOf P (u ++ v) (x ∷ xs)

pub data AreParentsOf {A : Type 0} (P : List Lexeme → A → Type 0) : List Lexeme → List A → Type 0 where
  no_parent : AreParentsOf P [] []
  some_parents : {i : Lexeme} {u : List Lexeme} {xs : List A} → i.kind ≡ KwIn → AreListedOf P u xs
      → AreParentsOf P (i ∷ u) xs

-- STR
pub data IsStringOf : List Lexeme → List ℕ → Type 0 where
  a_string : {x : Lexeme} (body : List ℕ) {value : List ℕ} → x.kind ≡ StringLit → x.text ≡ 34 ∷ (body ++ 34 ∷ [])
      → Unescapes body value → IsStringOf (x ∷ []) value

-- Name | Path '::' STR
pub data SpellsRef : List Lexeme → WrittenRef → Type 0 where
  plain_ref : {x : Lexeme} {n : List ℕ} → SpellsName x n → SpellsRef (x ∷ []) (record { ty = None; id = n })
  typed_ref : {u : List Lexeme} (s q : Lexeme) (body : List ℕ) {names : List (List ℕ)} {value : List ℕ}
      → SpellsPath u names → s.kind ≡ PathSep → q.kind ≡ StringLit → q.text ≡ 34 ∷ (body ++ 34 ∷ [])
      → Unescapes body value
      → SpellsRef (u ++ s ∷ q ∷ []) (record { ty = Some names; id = value })

mutual
  -- Path | 'Set' '<' Type '>' | Rec
  pub data SpellsType : List Lexeme → WrittenType → Type 0 where
    path_type : {u : List Lexeme} {p : List (List ℕ)} → SpellsPath u p → SpellsType u (path p)
    set_type : {s o : Lexeme} (c : Lexeme) {u : List Lexeme} {t : WrittenType} → s.kind ≡ KwSet → o.kind ≡ Less
        → SpellsType u t → c.kind ≡ Greater → SpellsType (s ∷ o ∷ (u ++ c ∷ [])) (set t)
    record_type : {u : List Lexeme} {xs : WrittenAttributes} → IsRecordOf u xs → SpellsType u (rec xs)

  -- '{' [Attr {',' Attr} [',']] '}'
  pub data IsRecordOf : List Lexeme → WrittenAttributes → Type 0 where
    braces : {o : Lexeme} (c : Lexeme) {u : List Lexeme} {xs : WrittenAttributes} → o.kind ≡ LBrace
        → AreAttributesOf u xs → c.kind ≡ RBrace → IsRecordOf (o ∷ (u ++ c ∷ [])) xs

  pub data AreAttributesOf : List Lexeme → WrittenAttributes → Type 0 where
    no_attribute : AreAttributesOf [] no_more
    last_attribute : {u : List Lexeme} {ns : Notes} {n : List ℕ} {r : Bool} {t : WrittenType}
        → IsAttributeOf u ns n r t → AreAttributesOf u (attribute ns n r t no_more)
    more_attributes : {u v : List Lexeme} (c : Lexeme) {ns : Notes} {n : List ℕ} {r : Bool} {t : WrittenType}
        {xs : WrittenAttributes}
        → IsAttributeOf u ns n r t → c.kind ≡ Comma → AreAttributesOf v xs
        → AreAttributesOf (u ++ c ∷ v) (attribute ns n r t xs)

  -- Anns Name ['?'] ':' Type
  pub data IsAttributeOf : List Lexeme → Notes → List ℕ → Bool → WrittenType → Type 0 where
    required : {a : List Lexeme} (x c : Lexeme) {u : List Lexeme} {ns : Notes} {n : List ℕ} {t : WrittenType}
        → SpellNotes a ns → SpellsName x n → c.kind ≡ Colon → SpellsType u t
        → IsAttributeOf (a ++ x ∷ c ∷ u) ns n true t
    optional : {a : List Lexeme} (x q c : Lexeme) {u : List Lexeme} {ns : Notes} {n : List ℕ} {t : WrittenType}
        → SpellNotes a ns → SpellsName x n → q.kind ≡ Question → c.kind ≡ Colon → SpellsType u t
        → IsAttributeOf (a ++ x ∷ q ∷ c ∷ u) ns n false t

-- [['='] Rec]
pub data SpellsShape : List Lexeme → WrittenAttributes → Type 0 where
  no_shape : SpellsShape [] no_more
  bare_shape : {u : List Lexeme} {xs : WrittenAttributes} → IsRecordOf u xs → SpellsShape u xs
  equals_shape : {e : Lexeme} {u : List Lexeme} {xs : WrittenAttributes} → e.kind ≡ Equals → IsRecordOf u xs
      → SpellsShape (e ∷ u) xs

-- ['tags' Type]
pub data SpellTags : List Lexeme → Option WrittenType → Type 0 where
  no_tags : SpellTags [] None
  some_tags : {w : Lexeme} {u : List Lexeme} {t : WrittenType} → w.kind ≡ KwTags → SpellsType u t
      → SpellTags (w ∷ u) (Some t)

-- ('principal' | 'resource') ':' Types | 'context' ':' (Path | Rec)
pub data IsMemberOf : List Lexeme → WrittenMember → Type 0 where
  types_of : {w c : Lexeme} {u : List Lexeme} {ps : List (List (List ℕ))} → is_role w.kind ≡ true → c.kind ≡ Colon
      → AreListedOf SpellsPath u ps → IsMemberOf (w ∷ c ∷ u) (types (role_of w.kind) ps)
  path_context : {w c : Lexeme} {u : List Lexeme} {p : List (List ℕ)} → w.kind ≡ KwContext → c.kind ≡ Colon
      → SpellsPath u p → IsMemberOf (w ∷ c ∷ u) (context_path p)
  record_context : {w c : Lexeme} {u : List Lexeme} {xs : WrittenAttributes} → w.kind ≡ KwContext → c.kind ≡ Colon
      → IsRecordOf u xs → IsMemberOf (w ∷ c ∷ u) (context_record xs)

-- ['appliesTo' '{' App {',' App} [','] '}']
pub data SpellsApplies : List Lexeme → Option (List WrittenMember) → Type 0 where
  no_applies : SpellsApplies [] None
  some_applies : {w o : Lexeme} (c : Lexeme) {u : List Lexeme} {m : WrittenMember} {ms : List WrittenMember}
      → w.kind ≡ KwAppliesTo → o.kind ≡ LBrace → AreSeparatedOf IsMemberOf u (m ∷ ms) → c.kind ≡ RBrace
      → SpellsApplies (w ∷ o ∷ (u ++ c ∷ [])) (Some (m ∷ ms))

-- a declaration
pub data SpellsDecl : List Lexeme → WrittenDecl → Type 0 where
  entity_of : {e : Lexeme} (z : Lexeme) {i p s t : List Lexeme} {names : List (List ℕ)}
      {parents : List (List (List ℕ))} {shape : WrittenAttributes} {tags : Option WrittenType}
      → e.kind ≡ KwEntity → IsChainOf Comma i names → AreParentsOf SpellsPath p parents → SpellsShape s shape
      → SpellTags t tags → z.kind ≡ Semi
      → SpellsDecl (e ∷ (i ++ (p ++ (s ++ (t ++ z ∷ []))))) (entity names parents shape tags)
  enum_of : {e : Lexeme} (n o c z : Lexeme) {i s : List Lexeme} {names : List (List ℕ)} {choice : List ℕ}
      {choices : List (List ℕ)}
      → e.kind ≡ KwEntity → IsChainOf Comma i names → n.kind ≡ KwEnum → o.kind ≡ LBracket
      → AreSeparatedOf IsStringOf s (choice ∷ choices) → c.kind ≡ RBracket → z.kind ≡ Semi
      → SpellsDecl (e ∷ (i ++ n ∷ o ∷ (s ++ c ∷ z ∷ []))) (enum names (choice ∷ choices))
  external_entity_of : {x e : Lexeme} (z : Lexeme) {i p : List Lexeme} {names : List (List ℕ)}
      {parents : List (List (List ℕ))}
      → x.kind ≡ KwExternal → e.kind ≡ KwEntity → IsChainOf Comma i names → AreParentsOf SpellsPath p parents
      → z.kind ≡ Semi
      → SpellsDecl (x ∷ e ∷ (i ++ (p ++ z ∷ []))) (external_entity names parents)
  action_of : {a : Lexeme} (z : Lexeme) {n r s : List Lexeme} {names : List (List ℕ)} {parents : List WrittenRef}
      {members : Option (List WrittenMember)}
      → a.kind ≡ KwAction → AreNamesOf n names → AreParentsOf SpellsRef r parents → SpellsApplies s members
      → z.kind ≡ Semi
      → SpellsDecl (a ∷ (n ++ (r ++ (s ++ z ∷ [])))) (action names parents members)
  external_action_of : {x a : Lexeme} (z : Lexeme) {n r : List Lexeme} {names : List (List ℕ)}
      {parents : List WrittenRef}
      → x.kind ≡ KwExternal → a.kind ≡ KwAction → AreNamesOf n names → AreParentsOf SpellsRef r parents
      → z.kind ≡ Semi
      → SpellsDecl (x ∷ a ∷ (n ++ (r ++ z ∷ []))) (external_action names parents)
  common_of : {w n e : Lexeme} (z : Lexeme) {u : List Lexeme} {t : WrittenType} → w.kind ≡ KwType → IsIdent n
      → e.kind ≡ Equals → SpellsType u t → z.kind ≡ Semi → SpellsDecl (w ∷ n ∷ e ∷ (u ++ z ∷ [])) (common n.text t)

-- Anns Decl
pub data SpellsDeclared : List Lexeme → WrittenDeclared → Type 0 where
  declared_of : {a u : List Lexeme} {ns : Notes} {d : WrittenDecl} → SpellNotes a ns → SpellsDecl u d
      → SpellsDeclared (a ++ u) (record { notes = ns; decl = d })

-- Anns 'namespace' Path '{' {Decl} '}' | Decl
pub data SpellsItem : List Lexeme → WrittenItem → Type 0 where
  namespace_of : {a : List Lexeme} (n o c : Lexeme) {p u : List Lexeme} {ns : Notes} {name : List (List ℕ)}
      {ds : List WrittenDeclared}
      → SpellNotes a ns → n.kind ≡ KwNamespace → SpellsPath p name → o.kind ≡ LBrace → AreManyOf SpellsDeclared u ds
      → c.kind ≡ RBrace
      → SpellsItem (a ++ n ∷ (p ++ o ∷ (u ++ c ∷ []))) (namespace ns name ds)
  outside_of : {u : List Lexeme} {d : WrittenDeclared} → SpellsDeclared u d → SpellsItem u (outside d)

-- the lexemes spell the items in turn
abbrev pub SpellsSchema : List Lexeme → List WrittenItem → Type 0
SpellsSchema = AreManyOf SpellsItem
