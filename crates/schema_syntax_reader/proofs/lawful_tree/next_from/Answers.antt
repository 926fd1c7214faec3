use Rattle.std.proofs.Common.{◌≡◌, ◌<◌, ◌-◌, length, drop, sym, ap, ◌∙◌, subst, arith}
use Rattle.std.proofs.lemmas.List.{length-drop}
use Rattle.schema_syntax_grammar.specs.Grammar.{Sentence}
use Rattle.schema_syntax_tokens.specs.TokenLists.{kinds_of}
use Rattle.schema_syntax_parser.specs.Syntax.{IsFirstItem}
use Rattle.schema_syntax_reader.proofs.ItemReads.{kept_after}
use Rattle.schema_syntax_reader.proofs.lawful_tree.next_from.Goals as goal

pub next_item-requires : goal.next_item-requires
next_item-requires c = record {
  sentence = subst (λ l. Sentence (kinds_of l)) (sym c.split_at.ensures.back) c.requires.sentence;
}

pub returns-in-None-clause-item : goal.returns-in-None-clause-item
returns-in-None-clause-item c =
    sym c.split_at.ensures.back ∙ (rw c.in-None.is at c.in_ok-next_item.ensures.item)

pub returns-in-Some-clause-item : goal.returns-in-Some-clause-item
returns-in-Some-clause-item c =
    let tokens = c.args.tokens.now in
    let rest = c.split_at.result.1.now in
    let after = c.in-Some.after.now in
    let first : IsFirstItem rest c.in-Some.item after = rw c.in-Some.is at c.in_ok-next_item.ensures.item in
    let shorter : length after < length rest = rw c.in-Some.is at c.in_ok-next_item.ensures.shorter in
    let size = ap length c.split_at.ensures.back in
    let dropped = length-drop c.args.at tokens in
    let same : drop (length tokens - length after) tokens ≡ after =
    kept_after tokens c.args.at rest c.in-Some.item after c.split_at.ensures.back first (length tokens - length after)
    (omega (arith, shorter, size, dropped)) in
    subst (λ l. IsFirstItem l c.in-Some.item (drop (length tokens - length after) tokens)) c.split_at.ensures.back
    (subst (λ l. IsFirstItem rest c.in-Some.item l) (sym same) first)

pub returns-in-Some-clause-behind : goal.returns-in-Some-clause-behind
returns-in-Some-clause-behind c =
    let tokens = c.args.tokens.now in
    let shorter : length c.in-Some.after.now < length c.split_at.result.1.now = rw c.in-Some.is at
    c.in_ok-next_item.ensures.shorter in
    let size = ap length c.split_at.ensures.back in
    let dropped = length-drop c.args.at tokens in
    (omega (arith, shorter, size, dropped), omega arith)
