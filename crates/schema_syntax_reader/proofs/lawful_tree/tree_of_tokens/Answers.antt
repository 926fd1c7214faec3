use Rattle.std.proofs.Common.{◌≡◌, ◌≤◌, [], length, drop, refl, sym, ap, subst, arith}
use Rattle.std.proofs.lemmas.Result.{err_from_is_err_and}
use Rattle.std.proofs.lemmas.List.{length-drop}
use Rattle.schema_syntax_grammar.specs.Grammar.{Sentence}
use Rattle.schema_syntax_tokens.specs.TokenLists.{kinds_of}
use Rattle.schema_syntax_parser.specs.Syntax.{IsFirstItem}
use Rattle.schema_syntax_parser.proofs.Sentences.{sentence_of}
use Rattle.schema_syntax_reader.proofs.ItemReads.{ReadItems, no_item_yet, next_is, one_scanned}
use Rattle.schema_syntax_reader.proofs.ItemReads.{one_more_item, stopped_at_item, all_items}
use Rattle.schema_syntax_reader.proofs.lawful_tree.tree_of_tokens.Goals as goal

pub loop-kept-init : goal.loop-kept-init
loop-kept-init c = (
  omega arith,
  no_item_yet c.args.text.now c.args.tokens.items _ _ c.requires.sentence refl c.new-namespaces.ensures.items,
)

pub next_from-requires-clause-in_range : goal.next_from-requires-clause-in_range
next_from-requires-clause-in_range c =
    subst (λ l. c.loop-kept.at ≤ length l) (sym c.as_slice.ensures.value) c.loop-kept.invariant.0

pub next_from-requires-clause-sentence : goal.next_from-requires-clause-sentence
next_from-requires-clause-sentence c =
    subst (λ l. Sentence (kinds_of (drop c.loop-kept.at l))) (sym c.as_slice.ensures.value)
    (sentence_of c.loop-kept.invariant.1.left)

pub kept_from-requires : goal.kept_from-requires
kept_from-requires c =
    subst (λ l. c.in-Some.behind ≤ length l) c.as_slice.ensures.value
    (rw c.in-Some.is at c.in_ok-raw.ensures.behind).1

pub item-requires : goal.item-requires
item-requires c =
    let kept = c.loop-kept.kept.items in
    let after = drop c.in-Some.behind kept in
    let first : IsFirstItem (drop c.loop-kept.at kept) c.in-Some.raw after =
    subst (λ l. IsFirstItem (drop c.loop-kept.at l) c.in-Some.raw (drop c.in-Some.behind l))
    c.as_slice.ensures.value (rw c.in-Some.is at c.in_ok-raw.ensures.item) in
    one_scanned c.args.text.now c.args.tokens.items c.in-Some.raw after c.loop-kept.namespaces.items
    (next_is c.args.text.now c.args.tokens.items (drop c.loop-kept.at kept) c.in-Some.raw after
    c.loop-kept.namespaces.items c.loop-kept.invariant.1 first)
    (length c.args.text.now) c.requires.scans c.requires.placed

pub returns-in_err-namespace-clause-fault : goal.returns-in_err-namespace-clause-fault
returns-in_err-namespace-clause-fault c =
    let kept = c.loop-kept.kept.items in
    let after = drop c.in-Some.behind kept in
    let first : IsFirstItem (drop c.loop-kept.at kept) c.in-Some.raw after =
    subst (λ l. IsFirstItem (drop c.loop-kept.at l) c.in-Some.raw (drop c.in-Some.behind l))
    c.as_slice.ensures.value (rw c.in-Some.is at c.in_ok-raw.ensures.item) in
    let p = err_from_is_err_and c.from_residual-in_err-namespace.result
    c.from_residual-in_err-namespace.ensures.1 in
    rw (p.1, p.2) (stopped_at_item c.args.text.now c.args.tokens.items c.in-Some.raw after
    c.loop-kept.namespaces.items
    (next_is c.args.text.now c.args.tokens.items (drop c.loop-kept.at kept) c.in-Some.raw after
    c.loop-kept.namespaces.items c.loop-kept.invariant.1 first)
    (length c.args.text.now) c.in_err-namespace.field-0.0 c.requires.scans c.requires.placed
    c.in_err-namespace.ensures)

pub loop-kept-smaller : goal.loop-kept-smaller
loop-kept-smaller c =
    let kept = c.loop-kept.kept.items in
    let further = rw c.in-Some.is at c.in_ok-raw.ensures.behind in
    let within : c.in-Some.behind ≤ length kept =
    subst (λ l. c.in-Some.behind ≤ length l) c.as_slice.ensures.value further.1 in
    let same = ap length c.in_ok-others.ensures.same in
    omega (arith, further.0, within, same, length-drop c.in-Some.behind kept, length-drop c.loop-kept.at kept)

pub loop-kept-preserved : goal.loop-kept-preserved
loop-kept-preserved c =
    let kept = c.loop-kept.kept.items in
    let after = drop c.in-Some.behind kept in
    let first : IsFirstItem (drop c.loop-kept.at kept) c.in-Some.raw after =
    subst (λ l. IsFirstItem (drop c.loop-kept.at l) c.in-Some.raw (drop c.in-Some.behind l))
    c.as_slice.ensures.value (rw c.in-Some.is at c.in_ok-raw.ensures.item) in (
      c.in_ok-others.ensures.in_range,
      subst (λ l. ReadItems c.args.text.now c.args.tokens.items l c.push.new.self.items)
          (sym c.in_ok-others.ensures.same)
          (one_more_item c.args.text.now c.args.tokens.items c.in-Some.raw after
          c.loop-kept.namespaces.items
          (next_is c.args.text.now c.args.tokens.items (drop c.loop-kept.at kept) c.in-Some.raw after
          c.loop-kept.namespaces.items c.loop-kept.invariant.1 first)
          c.in_ok-namespace.namespace _ c.in_ok-namespace.ensures.0 c.in_ok-namespace.ensures.1
          c.in_ok-push.ensures.items),
    )

pub returns-clause-tree : goal.returns-clause-tree
returns-clause-tree c =
    let end : drop c.loop-kept.at c.loop-kept.kept.items ≡ [] =
    subst (λ l. drop c.loop-kept.at l ≡ []) c.as_slice.ensures.value
    (rw c.in_default.is at c.in_ok-raw.ensures.item) in
    all_items c.args.text.now c.args.tokens.items _ c.loop-kept.namespaces.items _
    c.loop-kept.invariant.1 end c.from_vec.ensures
