-- What is laid out reads back.
use Rattle.std.proofs.Common.{◌≡◌, ℕ, List, [], ◌∷◌, ◌++◌, refl, sym, ◌∙◌, subst, append_assoc}
use Rattle.std.specs.List.{All, AllZip}
use Rattle.std.proofs.lemmas.List.Elements.{All-nil, All-cons, All-head, All-tail}
use Rattle.cedar_data.proofs.Lists.{All-back}
use Rattle.schema_syntax_tokens.specs.Escapes.{Unescapes, BadEscape}
use Rattle.schema_syntax_tokens.specs.declared.token.Token.{Token}
use Rattle.schema_syntax_tokens.specs.Scans.{IsPlaced}
use Rattle.schema_syntax_tokens.specs.Laid.{Lexeme, Spells, HasLexemes}
use Rattle.schema_syntax_parser.specs.Syntax.{IsSyntax}
use Rattle.schema_syntax_parser.specs.declared.syntax.ItemSyntax.{ItemSyntax}
use Rattle.schema_syntax_tree.specs.declared.annotated.Annotated.{Annotated}
use Rattle.schema_syntax_tree.specs.declared.namespace.Namespace.{Namespace}
use Rattle.schema_syntax_reader.specs.Trees.{IsTreeOf}
use Rattle.schema_syntax_reader.specs.Sites.{Site, sites_of}
use Rattle.schema_syntax_reader.specs.UserFaults.{IsLawful}
use Rattle.laws_written.specs.Written.{WrittenItem}
use Rattle.laws_written.specs.Spellings.{SpellsSchema}
use Rattle.laws_written.specs.Lexemes.{lexemes_at}
use Rattle.laws_written.specs.Shows.{SaysItem}
use Rattle.laws_written.specs.Reads.{IsFaultless, ReadsSchema}
use Rattle.laws_written.specs.ReadsBack.{ReadsBack}
use Rattle.laws_written.proofs.Decls.{read_schema}
use Rattle.laws_written.proofs.SaidDecls.{back_schema}

pub lawful_so : (source : List ℕ) (items : List ItemSyntax) → All (IsFaultless source) (sites_of items)
    → IsLawful source items
lawful_so source items h fault end f =
    All-head (IsFaultless source) f.1 f.2
    (All-back (IsFaultless source) f.0 (f.1 ∷ f.2) (subst (All (IsFaultless source)) f.3 h)) fault end f.4

pub reads_back : ((body value : List ℕ) (at : ℕ) → Unescapes body value → BadEscape body at → ⊥)
    → (text : List ℕ) (u : List Lexeme) (w : List WrittenItem) → HasLexemes text u → SpellsSchema u w → ReadsBack text w
reads_back never_both text u w a h =
    let r = read_schema text never_both h a.tokens a.spells in
    record {
      tokens = a.tokens;
      scans = a.scans;
      items = r.syns;
      syntax = r.parsed;
      lawful = lawful_so text r.syns r.lawful;
      tree = r.nodes;
      is = r.are;
      says = r.says;
    }

-- tokens at their places spell the lexemes there
pub placed_spell : (text : List ℕ) (tokens : List Token) → All (IsPlaced text) tokens
    → Spells text tokens (lexemes_at text tokens)
placed_spell text [] h = tt
placed_spell text (t ∷ ts) h =
    ((refl, refl, (All-head (IsPlaced text) t ts h).form), placed_spell text ts (All-tail (IsPlaced text) t ts h))

pub faultless_all : (source : List ℕ) (items : List ItemSyntax) → IsLawful source items → (front rest : List Site)
    → sites_of items ≡ front ++ rest → All (IsFaultless source) rest
faultless_all source items h front [] e = All-nil (IsFaultless source)
faultless_all source items h front (s ∷ rest) e =
    All-cons (IsFaultless source) s rest (λ fault end f. h fault end (front, s, rest, e, f))
    (faultless_all source items h (front ++ s ∷ []) rest (e ∙ sym (append_assoc front (s ∷ []) rest)))

-- where two texts have the same lexemes, the second has a lawful syntax and a tree that says the same
pub same_lexemes : ((body value : List ℕ) (at : ℕ) → Unescapes body value → BadEscape body at → ⊥)
    → (source other : List ℕ) (ts us : List Token) (u : List Lexeme) (items : List ItemSyntax)
    (tree : List (Annotated Namespace))
    → Spells source ts u → Spells other us u → IsSyntax ts items → IsLawful source items
    → IsTreeOf source items tree → (w : List WrittenItem) × AllZip SaysItem tree w × ReadsSchema other us w
same_lexemes never_both source other ts us u items tree s o h l is =
    let r = back_schema source h tree is (faultless_all source items l [] (sites_of items) refl) u s in
    (r.written, r.says, read_schema other never_both r.spell us o)
