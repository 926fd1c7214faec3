-- The first item of tokens whose kinds are those of a schema.
use Rattle.std.proofs.Common.{◌≡◌, ◌<◌, ◌+◌, ◌++◌, List, length, Some, None, refl, sym, ap, ◌∙◌, subst, arith}
use Rattle.std.proofs.Common.{length-append}
use Rattle.schema_syntax_grammar.specs.Grammar.{Sentence}
use Rattle.schema_syntax_tokens.specs.declared.token.Token.{Token}
use Rattle.schema_syntax_tokens.specs.TokenLists.{kinds_of}
use Rattle.schema_syntax_parser.specs.declared.syntax.ItemSyntax.{ItemSyntax}
use Rattle.schema_syntax_parser.specs.Syntax.{IsItem, IsSyntax, IsFirstItem}
use Rattle.schema_syntax_parser.specs.Reading.{Read, item_at}
use Rattle.schema_syntax_parser.proofs.Back.{FirstRead, first_read}
use Rattle.schema_syntax_parser.proofs.Heads.{item_length}
use Rattle.schema_syntax_parser.proofs.Made.{made}
use Rattle.schema_syntax_parser.proofs.Sentences.{sentence_of}

first_of : (tokens : List Token) → Sentence (kinds_of tokens) → 0 < length tokens → FirstRead tokens
first_of tokens s h = first_read (made s tokens refl).1 h

-- what is read is the first item
pub first_item : (tokens : List Token) (item : ItemSyntax) (rest : List Token) → Sentence (kinds_of tokens)
    → 0 < length tokens → item_at tokens ≡ Some (item, rest) → IsFirstItem tokens item rest
first_item tokens item rest s h e =
    let f = first_of tokens s h in
    let both = sym f.read ∙ e in
    let same : f.item ≡ item = ap (λ (o : Read ItemSyntax). elim o [ None ↦ f.item | Some r ↦ r.0 ]) both in
    let behind : f.rest ≡ rest = ap (λ (o : Read ItemSyntax). elim o [ None ↦ f.rest | Some r ↦ r.1 ]) both in
    record {
      front = f.front;
      split = f.split ∙ ap (λ r. f.front ++ r) behind;
      is = subst (IsItem f.front) same f.is;
      sentence = sentence_of (subst (λ r. IsSyntax r f.others) behind f.left);
    }

-- an item is read
pub no_mismatch : (tokens : List Token) → Sentence (kinds_of tokens) → 0 < length tokens → item_at tokens ≡ None → ⊥
no_mismatch tokens s h e = let read = (first_of tokens s h).read in cc

-- the rest is shorter
pub first_shorter : (tokens : List Token) (item : ItemSyntax) (rest : List Token) → IsFirstItem tokens item rest
    → length rest < length tokens
first_shorter tokens item rest f =
    let long = item_length f.is in
    let all : length tokens ≡ length f.front + length rest = ap length f.split ∙ length-append f.front rest in
    omega arith
