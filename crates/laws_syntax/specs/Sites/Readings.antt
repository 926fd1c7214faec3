-- Which kinds of a derivation are read as words and strings, and which tokens these are.
use Rattle.std.specs.Prelude.{◌≡◌, Bool, true, false, List, [], ◌∷◌, ◌++◌}
use Rattle.schema_syntax_grammar.specs.declared.token_kind.TokenKind.{TokenKind}
use Rattle.schema_syntax_grammar.specs.declared.token_kind.TokenKind.TheVariants.{Identifier, StringLit}
use Rattle.schema_syntax_grammar.specs.Grammar.{is_word_kind, Kinds, Nonterminal, Phrase}
use Rattle.schema_syntax_grammar.specs.Grammar as G
use Rattle.schema_syntax_tokens.specs.declared.token.Token.{Token}

-- for each kind of the derivation, one case for each production: true where it is read as a word or as a string, and
-- false where it is a keyword or a mark that stands for itself
abbrev pub reads : {p : Nonterminal} {kinds : Kinds} → Phrase p kinds → List Bool
reads G.no_item = []
reads (G.more_items first rest) = reads first ++ reads rest
reads (G.namespace_item notes path decls) =
    reads notes ++ false ∷ (reads path ++ false ∷ (reads decls ++ false ∷ []))
reads (G.decl_item decl) = reads decl
reads G.no_decl = []
reads (G.more_decls first rest) = reads first ++ reads rest
reads (G.annotated notes decl) = reads notes ++ reads decl
reads (G.entity_decl names parents shape tags) =
    false ∷ (reads names ++ (reads parents ++ (reads shape ++ (reads tags ++ false ∷ []))))
reads (G.enum_decl names choices) = false ∷ (reads names ++ false ∷ false ∷ (reads choices ++ false ∷ false ∷ []))
reads (G.external_entity names parents) = false ∷ false ∷ (reads names ++ (reads parents ++ false ∷ []))
reads (G.action_decl names parents applies) =
    false ∷ (reads names ++ (reads parents ++ (reads applies ++ false ∷ [])))
reads (G.external_action names parents) = false ∷ false ∷ (reads names ++ (reads parents ++ false ∷ []))
reads (G.common_decl is type) = false ∷ true ∷ false ∷ (reads type ++ false ∷ [])
reads (G.one_ident is) = true ∷ []
reads (G.more_idents is rest) = true ∷ false ∷ reads rest
reads G.no_parents = []
reads (G.in_parents types) = false ∷ reads types
reads G.no_shape = []
reads (G.bare_shape record') = reads record'
reads (G.equals_shape record') = false ∷ reads record'
reads G.no_tags = []
reads (G.some_tags type) = false ∷ reads type
reads G.no_string = []
reads G.last_string = true ∷ []
reads (G.more_strings rest) = true ∷ false ∷ reads rest
reads (G.one_name name) = reads name
reads (G.more_names name rest) = reads name ++ false ∷ reads rest
reads (G.ident_name is) = true ∷ []
reads G.string_name = true ∷ []
reads G.no_refs = []
reads (G.some_refs refs) = false ∷ reads refs
reads G.no_applies = []
reads (G.some_applies apps) = false ∷ false ∷ (reads apps ++ false ∷ [])
reads G.no_app = []
reads (G.last_app app) = reads app
reads (G.more_apps app rest) = reads app ++ false ∷ reads rest
reads (G.principal_app types) = false ∷ false ∷ reads types
reads (G.resource_app types) = false ∷ false ∷ reads types
reads (G.context_path path) = false ∷ false ∷ reads path
reads (G.context_record record') = false ∷ false ∷ reads record'
reads (G.one_type path) = reads path
reads (G.listed_types paths) = false ∷ (reads paths ++ false ∷ [])
reads G.no_path = []
reads (G.last_path path) = reads path
reads (G.more_paths path rest) = reads path ++ false ∷ reads rest
reads (G.one_ref ref) = reads ref
reads (G.listed_refs refs) = false ∷ (reads refs ++ false ∷ [])
reads G.no_ref = []
reads (G.last_ref ref) = reads ref
reads (G.more_refs ref rest) = reads ref ++ false ∷ reads rest
reads (G.plain_ref name) = reads name
reads (G.typed_ref path) = reads path ++ false ∷ true ∷ []
reads (G.path_type path) = reads path
reads (G.set_type type) = false ∷ false ∷ (reads type ++ false ∷ [])
reads (G.record_type record') = reads record'
reads (G.braces attrs) = false ∷ (reads attrs ++ false ∷ [])
reads G.no_attr = []
reads (G.last_attr attr) = reads attr
reads (G.more_attrs attr rest) = reads attr ++ false ∷ reads rest
reads (G.one_attr notes name mark type) = reads notes ++ (reads name ++ (reads mark ++ false ∷ reads type))
reads G.no_mark = []
reads G.question = false ∷ []
reads (G.one_step is) = true ∷ []
reads (G.more_steps is rest) = true ∷ false ∷ reads rest
reads G.no_ann = []
reads (G.bare_ann is rest) = false ∷ true ∷ reads rest
reads (G.valued_ann is rest) = false ∷ true ∷ false ∷ true ∷ false ∷ reads rest

-- the tokens at the places where true stands, in order
abbrev pub picked : List Bool → List Token → List Token
picked (true ∷ more) (t ∷ tokens) = t ∷ picked more tokens
picked (false ∷ more) (t ∷ tokens) = picked more tokens
picked _ _ = []

-- the kind of a word or of a string
abbrev pub is_text_kind : TokenKind → Bool
is_text_kind StringLit = true
is_text_kind k = is_word_kind k

-- the kind of a word that is no keyword, or of a string
abbrev pub is_never_itself : TokenKind → Bool
is_never_itself Identifier = true
is_never_itself StringLit = true
is_never_itself _ = false

-- one truth value for each kind: true stands at words and strings alone, and at each identifier and each string
pub data AreReadings : List Bool → Kinds → Type 0 where
  none : AreReadings [] []
  text : {k : TokenKind} {bits : List Bool} {kinds : Kinds} → is_text_kind k ≡ true → AreReadings bits kinds
      → AreReadings (true ∷ bits) (k ∷ kinds)
  itself : {k : TokenKind} {bits : List Bool} {kinds : Kinds} → is_never_itself k ≡ false → AreReadings bits kinds
      → AreReadings (false ∷ bits) (k ∷ kinds)
