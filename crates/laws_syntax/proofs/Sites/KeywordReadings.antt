-- How keywords are read at their places, by a derivation of each text.
use Rattle.std.proofs.Common.{◌≡◌, true, false, [], ◌∷◌, refl}
use Rattle.schema_syntax_grammar.specs.declared.token_kind.TokenKind.TheVariants.{KwEntity, KwIn, KwType, KwSet, At}
use Rattle.schema_syntax_grammar.specs.declared.token_kind.TokenKind.TheVariants.{Less, Greater, Equals, Semi}
use Rattle.schema_syntax_grammar.specs.Grammar.{Sentence}
use Rattle.schema_syntax_grammar.specs.Grammar as G
use Rattle.laws_syntax.specs.Sites.Readings.{reads}
use Rattle.laws_syntax.proofs.Sites.OneReading.{one_reading}

-- `entity type;`
entity_type : Sentence (KwEntity ∷ KwType ∷ Semi ∷ [])
entity_type =
    G.more_items (G.decl_item (G.annotated G.no_ann
    (G.entity_decl (G.one_ident refl) G.no_parents G.no_shape G.no_tags))) G.no_item

pub entity_type_reads : (d : Sentence (KwEntity ∷ KwType ∷ Semi ∷ [])) → reads d ≡ false ∷ true ∷ false ∷ []
unfolding entity_type
entity_type_reads d = one_reading _ d entity_type

-- `@in type Set = Set<Set>;`
set_type : Sentence (At ∷ KwIn ∷ KwType ∷ KwSet ∷ Equals ∷ KwSet ∷ Less ∷ KwSet ∷ Greater ∷ Semi ∷ [])
set_type =
    G.more_items (G.decl_item (G.annotated (G.bare_ann refl G.no_ann)
    (G.common_decl refl (G.set_type (G.path_type (G.one_step refl)))))) G.no_item

pub set_type_reads :
    (d : Sentence (At ∷ KwIn ∷ KwType ∷ KwSet ∷ Equals ∷ KwSet ∷ Less ∷ KwSet ∷ Greater ∷ Semi ∷ []))
    → reads d ≡ false ∷ true ∷ false ∷ true ∷ false ∷ false ∷ false ∷ true ∷ false ∷ false ∷ []
unfolding set_type
set_type_reads d = one_reading _ d set_type
