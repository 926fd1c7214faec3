-- A derivation says of each of its kinds how it is read.
use Rattle.std.proofs.Common.{◌≡◌, Bool, true, List, ◌∷◌, ◌++◌, refl}
use Rattle.schema_syntax_grammar.specs.declared.token_kind.TokenKind.{TokenKind}
use Rattle.schema_syntax_grammar.specs.declared.token_kind.TokenKind.TheVariants.{KwNamespace, KwEntity, KwExternal}
use Rattle.schema_syntax_grammar.specs.declared.token_kind.TokenKind.TheVariants.{KwIn, KwType, KwSet, KwAppliesTo}
use Rattle.schema_syntax_grammar.specs.declared.token_kind.TokenKind.TheVariants.{KwPrincipal, KwAction, KwResource}
use Rattle.schema_syntax_grammar.specs.declared.token_kind.TokenKind.TheVariants.{KwContext, KwTags, KwEnum, Identifier}
use Rattle.schema_syntax_grammar.specs.Grammar.{is_ident, is_word_kind, Kinds, Nonterminal, Phrase}
use Rattle.schema_syntax_grammar.specs.Grammar as G
use Rattle.laws_syntax.specs.Sites.Readings.{reads, is_text_kind, AreReadings, none, text, itself}

joins : {c d : List Bool} {a b : Kinds} → AreReadings c a → AreReadings d b → AreReadings (c ++ d) (a ++ b)
joins none s = s
joins (text h r) s = text h (joins r s)
joins (itself h r) s = itself h (joins r s)

word_text : (k : TokenKind) → is_word_kind k ≡ true → is_text_kind k ≡ true
word_text KwNamespace h = refl
word_text KwEntity h = refl
word_text KwExternal h = refl
word_text KwIn h = refl
word_text KwType h = refl
word_text KwSet h = refl
word_text KwAppliesTo h = refl
word_text KwPrincipal h = refl
word_text KwAction h = refl
word_text KwResource h = refl
word_text KwContext h = refl
word_text KwTags h = refl
word_text KwEnum h = refl
word_text Identifier h = refl
word_text _ h = cc

ident_text : (k : TokenKind) → is_ident k ≡ true → is_text_kind k ≡ true
ident_text KwNamespace h = refl
ident_text KwEntity h = refl
ident_text KwExternal h = refl
ident_text KwType h = refl
ident_text KwSet h = refl
ident_text KwAppliesTo h = refl
ident_text KwPrincipal h = refl
ident_text KwAction h = refl
ident_text KwResource h = refl
ident_text KwContext h = refl
ident_text KwTags h = refl
ident_text KwEnum h = refl
ident_text Identifier h = refl
ident_text _ h = cc

-- a word read as a name or as a key
ident : {k : TokenKind} {c : List Bool} {a : Kinds} → is_ident k ≡ true → AreReadings c a
    → AreReadings (true ∷ c) (k ∷ a)
ident {k} h r = text (ident_text k h) r

key : {k : TokenKind} {c : List Bool} {a : Kinds} → is_word_kind k ≡ true → AreReadings c a
    → AreReadings (true ∷ c) (k ∷ a)
key {k} h r = text (word_text k h) r

pub readings : {p : Nonterminal} {kinds : Kinds} (d : Phrase p kinds) → AreReadings (reads d) kinds
readings G.no_item = none
readings (G.more_items x y) = joins (readings x) (readings y)
readings (G.namespace_item x y z) =
    joins (readings x) (itself refl (joins (readings y) (itself refl (joins (readings z) (itself refl none)))))
readings (G.decl_item x) = readings x
readings G.no_decl = none
readings (G.more_decls x y) = joins (readings x) (readings y)
readings (G.annotated x y) = joins (readings x) (readings y)
readings (G.entity_decl x y z w) =
    itself refl
    (joins (readings x) (joins (readings y) (joins (readings z) (joins (readings w) (itself refl none)))))
readings (G.enum_decl x y) =
    itself refl
    (joins (readings x) (itself refl (itself refl (joins (readings y) (itself refl (itself refl none))))))
readings (G.external_entity x y) =
    itself refl (itself refl (joins (readings x) (joins (readings y) (itself refl none))))
readings (G.action_decl x y z) =
    itself refl (joins (readings x) (joins (readings y) (joins (readings z) (itself refl none))))
readings (G.external_action x y) =
    itself refl (itself refl (joins (readings x) (joins (readings y) (itself refl none))))
readings (G.common_decl h x) = itself refl (ident h (itself refl (joins (readings x) (itself refl none))))
readings (G.one_ident h) = ident h none
readings (G.more_idents h x) = ident h (itself refl (readings x))
readings G.no_parents = none
readings (G.in_parents x) = itself refl (readings x)
readings G.no_shape = none
readings (G.bare_shape x) = readings x
readings (G.equals_shape x) = itself refl (readings x)
readings G.no_tags = none
readings (G.some_tags x) = itself refl (readings x)
readings G.no_string = none
readings G.last_string = text refl none
readings (G.more_strings x) = text refl (itself refl (readings x))
readings (G.one_name x) = readings x
readings (G.more_names x y) = joins (readings x) (itself refl (readings y))
readings (G.ident_name h) = ident h none
readings G.string_name = text refl none
readings G.no_refs = none
readings (G.some_refs x) = itself refl (readings x)
readings G.no_applies = none
readings (G.some_applies x) = itself refl (itself refl (joins (readings x) (itself refl none)))
readings G.no_app = none
readings (G.last_app x) = readings x
readings (G.more_apps x y) = joins (readings x) (itself refl (readings y))
readings (G.principal_app x) = itself refl (itself refl (readings x))
readings (G.resource_app x) = itself refl (itself refl (readings x))
readings (G.context_path x) = itself refl (itself refl (readings x))
readings (G.context_record x) = itself refl (itself refl (readings x))
readings (G.one_type x) = readings x
readings (G.listed_types x) = itself refl (joins (readings x) (itself refl none))
readings G.no_path = none
readings (G.last_path x) = readings x
readings (G.more_paths x y) = joins (readings x) (itself refl (readings y))
readings (G.one_ref x) = readings x
readings (G.listed_refs x) = itself refl (joins (readings x) (itself refl none))
readings G.no_ref = none
readings (G.last_ref x) = readings x
readings (G.more_refs x y) = joins (readings x) (itself refl (readings y))
readings (G.plain_ref x) = readings x
readings (G.typed_ref x) = joins (readings x) (itself refl (text refl none))
readings (G.path_type x) = readings x
readings (G.set_type x) = itself refl (itself refl (joins (readings x) (itself refl none)))
readings (G.record_type x) = readings x
readings (G.braces x) = itself refl (joins (readings x) (itself refl none))
readings G.no_attr = none
readings (G.last_attr x) = readings x
readings (G.more_attrs x y) = joins (readings x) (itself refl (readings y))
readings (G.one_attr x y z w) =
    joins (readings x) (joins (readings y) (joins (readings z) (itself refl (readings w))))
readings G.no_mark = none
readings G.question = itself refl none
readings (G.one_step h) = ident h none
readings (G.more_steps h x) = ident h (itself refl (readings x))
readings G.no_ann = none
readings (G.bare_ann h x) = itself refl (key h (readings x))
readings (G.valued_ann h x) = itself refl (key h (itself refl (text refl (itself refl (readings x)))))
