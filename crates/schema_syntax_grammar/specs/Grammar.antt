-- The grammar on the kinds of tokens, one case for each production. A list of kinds is the lists of its parts, joined.
use Rattle.std.specs.Prelude.{◌≡◌, ◌↔◌, ℕ, nat_eq, List, [], ◌∷◌, ◌++◌, Bool, true, false, IsTrue}
use Rattle.std.specs.List.{filter}
use Rattle.schema_syntax_grammar.specs.declared.token_kind.TokenKind.{TokenKind}
use Rattle.schema_syntax_grammar.specs.declared.token_kind.TokenKind.TheVariants.{KwNamespace, KwEntity, KwExternal}
use Rattle.schema_syntax_grammar.specs.declared.token_kind.TokenKind.TheVariants.{KwIn, KwType, KwSet, KwAppliesTo}
use Rattle.schema_syntax_grammar.specs.declared.token_kind.TokenKind.TheVariants.{KwPrincipal, KwAction, KwResource}
use Rattle.schema_syntax_grammar.specs.declared.token_kind.TokenKind.TheVariants.{KwContext, KwTags, KwEnum, Identifier}
use Rattle.schema_syntax_grammar.specs.declared.token_kind.TokenKind.TheVariants.{StringLit, At, Comma, Semi, Colon}
use Rattle.schema_syntax_grammar.specs.declared.token_kind.TokenKind.TheVariants.{PathSep, LParen, RParen, LBrace}
use Rattle.schema_syntax_grammar.specs.declared.token_kind.TokenKind.TheVariants.{RBrace, LBracket, RBracket, Less}
use Rattle.schema_syntax_grammar.specs.declared.token_kind.TokenKind.TheVariants.{Greater, Question, Equals, End}

-- the kind of a word
abbrev pub is_word_kind : TokenKind → Bool
is_word_kind KwNamespace = true
is_word_kind KwEntity = true
is_word_kind KwExternal = true
is_word_kind KwIn = true
is_word_kind KwType = true
is_word_kind KwSet = true
is_word_kind KwAppliesTo = true
is_word_kind KwPrincipal = true
is_word_kind KwAction = true
is_word_kind KwResource = true
is_word_kind KwContext = true
is_word_kind KwTags = true
is_word_kind KwEnum = true
is_word_kind Identifier = true
is_word_kind _ = false

-- the kind of a word that can be a name: any word but `in`
abbrev pub is_ident : TokenKind → Bool
is_ident KwIn = false
is_ident KwNamespace = true
is_ident KwEntity = true
is_ident KwExternal = true
is_ident KwType = true
is_ident KwSet = true
is_ident KwAppliesTo = true
is_ident KwPrincipal = true
is_ident KwAction = true
is_ident KwResource = true
is_ident KwContext = true
is_ident KwTags = true
is_ident KwEnum = true
is_ident Identifier = true
is_ident _ = false

-- the place of a kind in the order of all kinds
abbrev pub kind_number : TokenKind → ℕ
kind_number KwNamespace = 0
kind_number KwEntity = 1
kind_number KwExternal = 2
kind_number KwIn = 3
kind_number KwType = 4
kind_number KwSet = 5
kind_number KwAppliesTo = 6
kind_number KwPrincipal = 7
kind_number KwAction = 8
kind_number KwResource = 9
kind_number KwContext = 10
kind_number KwTags = 11
kind_number KwEnum = 12
kind_number Identifier = 13
kind_number StringLit = 14
kind_number At = 15
kind_number Comma = 16
kind_number Semi = 17
kind_number Colon = 18
kind_number PathSep = 19
kind_number LParen = 20
kind_number RParen = 21
kind_number LBrace = 22
kind_number RBrace = 23
kind_number LBracket = 24
kind_number RBracket = 25
kind_number Less = 26
kind_number Greater = 27
kind_number Question = 28
kind_number Equals = 29
kind_number End = 30

abbrev pub same_kind : TokenKind → TokenKind → Bool
same_kind a b = nat_eq (kind_number a) (kind_number b)

-- the kind of a word but `in`, or of a string
abbrev pub is_name_kind : TokenKind → Bool
is_name_kind StringLit = true
is_name_kind k = is_ident k

abbrev pub Kinds : Type 0
Kinds = List TokenKind

-- the parts of a schema
pub data Nonterminal : Type 0 where
  schema : Nonterminal
  item : Nonterminal
  decls : Nonterminal
  decl : Nonterminal
  bare_decl : Nonterminal
  idents : Nonterminal
  parents : Nonterminal
  shape : Nonterminal
  tags : Nonterminal
  strings : Nonterminal
  names : Nonterminal
  name : Nonterminal
  in_refs : Nonterminal
  applies : Nonterminal
  apps : Nonterminal
  app : Nonterminal
  types : Nonterminal
  paths : Nonterminal
  refs : Nonterminal
  ref_list : Nonterminal
  ref : Nonterminal
  ty : Nonterminal
  rec : Nonterminal
  attrs : Nonterminal
  attr : Nonterminal
  mark : Nonterminal
  path : Nonterminal
  anns : Nonterminal

-- the kinds are those of the part
pub data Phrase : Nonterminal → Kinds → Type 0 where
  -- {Item}
  no_item : Phrase schema []
  more_items : {a b : Kinds} → Phrase item a → Phrase schema b → Phrase schema (a ++ b)
  -- Anns 'namespace' Path '{' {Decl} '}' | Decl
  namespace_item : {a p d : Kinds} → Phrase anns a → Phrase path p → Phrase decls d
      → Phrase item (a ++ KwNamespace ∷ (p ++ LBrace ∷ (d ++ RBrace ∷ [])))
  decl_item : {a : Kinds} → Phrase decl a → Phrase item a
  no_decl : Phrase decls []
  more_decls : {a b : Kinds} → Phrase decl a → Phrase decls b → Phrase decls (a ++ b)
  -- Anns (Entity | Enum | ExtEntity | Action | ExtAction | Common)
  annotated : {a b : Kinds} → Phrase anns a → Phrase bare_decl b → Phrase decl (a ++ b)
  -- 'entity' Idents ['in' Types] [['='] Rec] ['tags' Type] ';'
  entity_decl : {i p s t : Kinds} → Phrase idents i → Phrase parents p → Phrase shape s → Phrase tags t
      → Phrase bare_decl (KwEntity ∷ (i ++ (p ++ (s ++ (t ++ Semi ∷ [])))))
  -- 'entity' Idents 'enum' '[' [STR {',' STR} [',']] ']' ';'
  enum_decl : {i s : Kinds} → Phrase idents i → Phrase strings s
      → Phrase bare_decl (KwEntity ∷ (i ++ KwEnum ∷ LBracket ∷ (s ++ RBracket ∷ Semi ∷ [])))
  -- 'external' 'entity' Idents ['in' Types] ';'
  external_entity : {i p : Kinds} → Phrase idents i → Phrase parents p
      → Phrase bare_decl (KwExternal ∷ KwEntity ∷ (i ++ (p ++ Semi ∷ [])))
  -- 'action' Names ['in' Refs] ['appliesTo' '{' [App {',' App} [',']] '}'] ';'
  action_decl : {n r a : Kinds} → Phrase names n → Phrase in_refs r → Phrase applies a
      → Phrase bare_decl (KwAction ∷ (n ++ (r ++ (a ++ Semi ∷ []))))
  -- 'external' 'action' Names ['in' Refs] ';'
  external_action : {n r : Kinds} → Phrase names n → Phrase in_refs r
      → Phrase bare_decl (KwExternal ∷ KwAction ∷ (n ++ (r ++ Semi ∷ [])))
  -- 'type' Ident '=' Type ';'
  common_decl : {i : TokenKind} {t : Kinds} → is_ident i ≡ true → Phrase ty t
      → Phrase bare_decl (KwType ∷ i ∷ Equals ∷ (t ++ Semi ∷ []))
  -- Ident {',' Ident}
  one_ident : {i : TokenKind} → is_ident i ≡ true → Phrase idents (i ∷ [])
  more_idents : {i : TokenKind} {a : Kinds} → is_ident i ≡ true → Phrase idents a → Phrase idents (i ∷ Comma ∷ a)
  -- ['in' Types]
  no_parents : Phrase parents []
  in_parents : {a : Kinds} → Phrase types a → Phrase parents (KwIn ∷ a)
  -- [['='] Rec]
  no_shape : Phrase shape []
  bare_shape : {a : Kinds} → Phrase rec a → Phrase shape a
  equals_shape : {a : Kinds} → Phrase rec a → Phrase shape (Equals ∷ a)
  -- ['tags' Type]
  no_tags : Phrase tags []
  some_tags : {a : Kinds} → Phrase ty a → Phrase tags (KwTags ∷ a)
  -- [STR {',' STR} [',']]
  no_string : Phrase strings []
  last_string : Phrase strings (StringLit ∷ [])
  more_strings : {a : Kinds} → Phrase strings a → Phrase strings (StringLit ∷ Comma ∷ a)
  -- Name {',' Name}
  one_name : {a : Kinds} → Phrase name a → Phrase names a
  more_names : {a b : Kinds} → Phrase name a → Phrase names b → Phrase names (a ++ Comma ∷ b)
  -- Ident | STR
  ident_name : {i : TokenKind} → is_ident i ≡ true → Phrase name (i ∷ [])
  string_name : Phrase name (StringLit ∷ [])
  -- ['in' Refs]
  no_refs : Phrase in_refs []
  some_refs : {a : Kinds} → Phrase refs a → Phrase in_refs (KwIn ∷ a)
  -- ['appliesTo' '{' [App {',' App} [',']] '}']
  no_applies : Phrase applies []
  some_applies : {a : Kinds} → Phrase apps a → Phrase applies (KwAppliesTo ∷ LBrace ∷ (a ++ RBrace ∷ []))
  no_app : Phrase apps []
  last_app : {a : Kinds} → Phrase app a → Phrase apps a
  more_apps : {a b : Kinds} → Phrase app a → Phrase apps b → Phrase apps (a ++ Comma ∷ b)
  -- ('principal' | 'resource') ':' Types | 'context' ':' (Path | Rec)
  principal_app : {a : Kinds} → Phrase types a → Phrase app (KwPrincipal ∷ Colon ∷ a)
  resource_app : {a : Kinds} → Phrase types a → Phrase app (KwResource ∷ Colon ∷ a)
  context_path : {a : Kinds} → Phrase path a → Phrase app (KwContext ∷ Colon ∷ a)
  context_record : {a : Kinds} → Phrase rec a → Phrase app (KwContext ∷ Colon ∷ a)
  -- Path | '[' [Path {',' Path} [',']] ']'
  one_type : {a : Kinds} → Phrase path a → Phrase types a
  listed_types : {a : Kinds} → Phrase paths a → Phrase types (LBracket ∷ (a ++ RBracket ∷ []))
  no_path : Phrase paths []
  last_path : {a : Kinds} → Phrase path a → Phrase paths a
  more_paths : {a b : Kinds} → Phrase path a → Phrase paths b → Phrase paths (a ++ Comma ∷ b)
  -- Ref | '[' [Ref {',' Ref} [',']] ']'
  one_ref : {a : Kinds} → Phrase ref a → Phrase refs a
  listed_refs : {a : Kinds} → Phrase ref_list a → Phrase refs (LBracket ∷ (a ++ RBracket ∷ []))
  no_ref : Phrase ref_list []
  last_ref : {a : Kinds} → Phrase ref a → Phrase ref_list a
  more_refs : {a b : Kinds} → Phrase ref a → Phrase ref_list b → Phrase ref_list (a ++ Comma ∷ b)
  -- Name | Path '::' STR
  plain_ref : {a : Kinds} → Phrase name a → Phrase ref a
  typed_ref : {a : Kinds} → Phrase path a → Phrase ref (a ++ PathSep ∷ StringLit ∷ [])
  -- Path | 'Set' '<' Type '>' | Rec
  path_type : {a : Kinds} → Phrase path a → Phrase ty a
  set_type : {a : Kinds} → Phrase ty a → Phrase ty (KwSet ∷ Less ∷ (a ++ Greater ∷ []))
  record_type : {a : Kinds} → Phrase rec a → Phrase ty a
  -- '{' [Attr {',' Attr} [',']] '}'
  braces : {a : Kinds} → Phrase attrs a → Phrase rec (LBrace ∷ (a ++ RBrace ∷ []))
  no_attr : Phrase attrs []
  last_attr : {a : Kinds} → Phrase attr a → Phrase attrs a
  more_attrs : {a b : Kinds} → Phrase attr a → Phrase attrs b → Phrase attrs (a ++ Comma ∷ b)
  -- Anns Name ['?'] ':' Type
  one_attr : {a n m t : Kinds} → Phrase anns a → Phrase name n → Phrase mark m → Phrase ty t
      → Phrase attr (a ++ (n ++ (m ++ Colon ∷ t)))
  no_mark : Phrase mark []
  question : Phrase mark (Question ∷ [])
  -- Ident {'::' Ident}
  one_step : {i : TokenKind} → is_ident i ≡ true → Phrase path (i ∷ [])
  more_steps : {i : TokenKind} {a : Kinds} → is_ident i ≡ true → Phrase path a → Phrase path (i ∷ PathSep ∷ a)
  -- {'@' Word ['(' STR ')']}
  no_ann : Phrase anns []
  bare_ann : {w : TokenKind} {a : Kinds} → is_word_kind w ≡ true → Phrase anns a → Phrase anns (At ∷ w ∷ a)
  valued_ann : {w : TokenKind} {a : Kinds} → is_word_kind w ≡ true → Phrase anns a
      → Phrase anns (At ∷ w ∷ LParen ∷ StringLit ∷ RParen ∷ a)

-- the kinds are those of a schema
abbrev pub Sentence : Kinds → Type 0
Sentence kinds = Phrase schema kinds

-- some kinds after these make a sentence
abbrev pub Viable : Kinds → Type 0
Viable kinds = (more : Kinds) × Sentence (kinds ++ more)

-- what may come next: a kind, or the end
abbrev pub MayFollow : Kinds → TokenKind → Type 0
MayFollow kinds End = Sentence kinds
MayFollow kinds k = Viable (kinds ++ k ∷ [])

-- exactly the kinds that may come next, in the order of all kinds
abbrev pub IsExpected : Kinds → Kinds → Kinds → Type 0
IsExpected all kinds list = (p : TokenKind → Bool) × ((k : TokenKind) → IsTrue (p k) ↔ MayFollow kinds k)
    × (list ≡ filter p all)
