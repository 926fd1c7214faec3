use Rattle.std.proofs.Common.{[], length, refl}
use Rattle.std.proofs.lemmas.Result.{err_from_is_err_and}
use Rattle.schema_syntax_parser.specs.Syntax.{IsFirstItem}
use Rattle.schema_syntax_parser.proofs.Sentences.{sentence_of}
use Rattle.schema_syntax_reader.proofs.ItemReads.{no_item_yet, next_is, one_scanned}
use Rattle.schema_syntax_reader.proofs.ItemReads.{one_more_item, stopped_at_item, all_items}
use Rattle.schema_layout_texts.proofs.texts.check_items.Goals as goal

pub loop-raw-init : goal.loop-raw-init
loop-raw-init c =
    ([], no_item_yet c.args.text.now c.args.tokens.now _ _ c.requires.sentence refl refl)

pub next_item-requires : goal.next_item-requires
next_item-requires c = record { sentence = sentence_of c.loop-raw.invariant.1.left }

pub item-requires : goal.item-requires
item-requires c =
    let first : IsFirstItem c.loop-raw.rest.now c.in-Some.raw c.in-Some.after.now =
    rw c.in-Some.is at c.in_ok-raw.ensures.item in
    one_scanned c.args.text.now c.args.tokens.now c.in-Some.raw c.in-Some.after.now c.loop-raw.invariant.0
    (next_is c.args.text.now c.args.tokens.now c.loop-raw.rest.now c.in-Some.raw c.in-Some.after.now
    c.loop-raw.invariant.0 c.loop-raw.invariant.1 first)
    (length c.args.text.now) c.requires.scans c.requires.placed

pub returns-in_err-namespace-clause-fault : goal.returns-in_err-namespace-clause-fault
returns-in_err-namespace-clause-fault c =
    let first : IsFirstItem c.loop-raw.rest.now c.in-Some.raw c.in-Some.after.now =
    rw c.in-Some.is at c.in_ok-raw.ensures.item in
    let p = err_from_is_err_and c.from_residual-in_err-namespace.result
    c.from_residual-in_err-namespace.ensures.1 in
    rw (p.1, p.2) (stopped_at_item c.args.text.now c.args.tokens.now c.in-Some.raw c.in-Some.after.now
    c.loop-raw.invariant.0
    (next_is c.args.text.now c.args.tokens.now c.loop-raw.rest.now c.in-Some.raw c.in-Some.after.now
    c.loop-raw.invariant.0 c.loop-raw.invariant.1 first)
    (length c.args.text.now) c.in_err-namespace.field-0.0 c.requires.scans c.requires.placed
    c.in_err-namespace.ensures)

pub loop-raw-preserved : goal.loop-raw-preserved
loop-raw-preserved c =
    let first : IsFirstItem c.loop-raw.rest.now c.in-Some.raw c.in-Some.after.now =
    rw c.in-Some.is at c.in_ok-raw.ensures.item in (
      _,
      one_more_item c.args.text.now c.args.tokens.now c.in-Some.raw c.in-Some.after.now c.loop-raw.invariant.0
          (next_is c.args.text.now c.args.tokens.now c.loop-raw.rest.now c.in-Some.raw c.in-Some.after.now
          c.loop-raw.invariant.0 c.loop-raw.invariant.1 first)
          c.in_ok-namespace.namespace _ c.in_ok-namespace.ensures.0 c.in_ok-namespace.ensures.1 refl,
    )

pub returns-clause-tree : goal.returns-clause-tree
returns-clause-tree c = (
  c.loop-raw.invariant.0,
  all_items c.args.text.now c.args.tokens.now _ c.loop-raw.invariant.0 _ c.loop-raw.invariant.1
      (rw c.in_default.is at c.in_ok-raw.ensures.item) refl,
)
