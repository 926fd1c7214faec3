-- The pieces of a text with a tree are those of a schema, so what is laid out of it stays and has a tree.
use Rattle.std.proofs.Common.{◌≡◌, ℕ, List, length, sym, subst, Result, Ok, Err}
use Rattle.std.specs.Result.{IfOk}
use Rattle.std.specs.List.{AllZip}
use Rattle.schema_syntax_grammar.specs.Grammar.{Sentence}
use Rattle.schema_syntax_tokens.specs.declared.token.Token.{Token}
use Rattle.schema_syntax_tokens.specs.Laid.{Lexeme, Spells, HasLexemes}
use Rattle.schema_syntax_tokens.specs.Scans.{Scans}
use Rattle.schema_syntax_tokens.specs.TokenLists.{kinds_of}
use Rattle.schema_syntax_parser.specs.Syntax.{IsSyntax}
use Rattle.schema_syntax_parser.specs.declared.syntax.ItemSyntax.{ItemSyntax}
use Rattle.schema_syntax_tree.specs.declared.annotated.Annotated.{Annotated}
use Rattle.schema_syntax_tree.specs.declared.namespace.Namespace.{Namespace}
use Rattle.schema_syntax_reader.specs.Trees.{IsTreeOf}
use Rattle.schema_syntax_reader.specs.UserFaults.{IsLawful}
use Rattle.laws_written.specs.Reads.{ReadsSchema}
use Rattle.laws_written.specs.Shows.{SaysItem}
use Rattle.laws_written.specs.Written.{WrittenItem}
use Rattle.laws_written.proofs.ReadingBack.{lawful_so}
use Rattle.schema_layout_pieces.specs.LaidOut.{HaveSamePieces}
use Rattle.schema_layout_pieces.specs.Pieces.{SourcePiece, IsPieces, kinds_among, lexemes_among}
use Rattle.schema_layout_texts.specs.Answers.{HasTree}

-- the pieces of the text, and that their kinds are those of a schema
abbrev pub SchemaPieces : List ℕ → Type 0
SchemaPieces text = (pieces : List SourcePiece) × IsPieces text pieces × Sentence (kinds_among pieces)

module _ (some : (text : List ℕ) (tokens : List Token) → Scans text tokens (length text)
    → (pieces : List SourcePiece) × IsPieces text pieces × (kinds_among pieces ≡ kinds_of tokens)) where
  pub schema_pieces : (text : List ℕ) → HasTree text → SchemaPieces text
  schema_pieces text tree =
      let found = some text tree.1.tokens tree.1.are.scans in
      (found.0, found.1, subst (λ ks. Sentence ks) (sym found.2) tree.1.are.sentence)

module _ (tokens_among : (text : List ℕ) (pieces : List SourcePiece) → IsPieces text pieces
    → HasLexemes text (lexemes_among pieces))
    (scan : (text : List ℕ) (ts us : List Token) (at bt : ℕ) → Scans text ts at → Scans text us bt
    → (ts ≡ us) × (at ≡ bt))
    (sentences : (tokens : List Token) (items : List ItemSyntax) → IsSyntax tokens items
    → Sentence (kinds_of tokens))
    (decide : (source other : List ℕ) (ts us : List Token) (u : List Lexeme) (items : List ItemSyntax)
    (tree : List (Annotated Namespace)) → Spells source ts u → Spells other us u → IsSyntax ts items
    → IsLawful source items → IsTreeOf source items tree
    → (w : List WrittenItem) × AllZip SaysItem tree w × ReadsSchema other us w) where
  -- a text with the pieces of one with a tree has a tree
  pub schema_again : (old new : List ℕ) → HasTree old → HaveSamePieces old new → HasTree new
  schema_again old new (tree, is) (pieces, p, q) =
      let first = tokens_among old pieces p in
      let second = tokens_among new pieces q in
      let one = (scan old first.tokens is.tokens (length old) (length old) first.scans is.are.scans).0 in
      let spells = subst (λ ts. Spells old ts (lexemes_among pieces)) one first.spells in
      let (w, says, r) = decide old new is.tokens second.tokens (lexemes_among pieces) is.tree.items tree spells
      second.spells is.tree.syntax is.tree.lawful is.tree.tree in (
        r.nodes,
        record {
          tokens = second.tokens;
          are = record { scans = second.scans; sentence = sentences second.tokens r.syns r.parsed };
          tree = record {
            items = r.syns;
            syntax = r.parsed;
            lawful = lawful_so new r.syns r.lawful;
            tree = r.are;
          };
        },
      )

-- what follows from two facts of a value follows where there is one
pub both : {T E : Type 0} (r : Result T E) (P Q R : T → Type 0) → ((x : T) → P x → Q x → R x) → IfOk r P → IfOk r Q
    → IfOk r R
both (Ok x) P Q R f p q = f x p q
both (Err e) P Q R f p q = tt
