use Rattle.std.proofs.Common.{◌≡◌, ◌∷◌, ◌++◌, [], length, refl, rules, true}
use Rattle.std.proofs.lemmas.Result.{err_from_is_err_and}
use Rattle.schema_syntax_parser.specs.Syntax.{IsFirstItem}
use Rattle.schema_syntax_parser.proofs.Sentences.{sentence_of}
use Rattle.schema_syntax_reader.proofs.ItemReads.{no_item_yet, next_is, one_scanned, one_more_item}
use Rattle.schema_syntax_reader.proofs.ItemReads.{stopped_at_item}
use Rattle.schema_convert_plain.proofs.Readings.{found}
use Rattle.schema_convert_plain.proofs.reading.fragment_at_once.Goals as goal

pub loop-gathered-init : goal.loop-gathered-init
loop-gathered-init c = record {
  tree = [];
  read = no_item_yet c.args.text.now c.args.tokens.now c.args.tokens.now [] c.requires.sentence refl refl;
  is = c.new-gathered.ensures c.args.table.now;
}

pub next_item-requires : goal.next_item-requires
next_item-requires c = record { sentence = sentence_of c.loop-gathered.invariant.read.left }

pub push_item-requires : goal.push_item-requires
push_item-requires c =
    let first : IsFirstItem c.loop-gathered.rest.now c.in-Some.raw c.in-Some.after.now = rw c.in-Some.is at
    c.in_ok-raw.ensures.item in
    one_scanned c.args.text.now c.args.tokens.now c.in-Some.raw c.in-Some.after.now c.loop-gathered.invariant.tree
    (next_is c.args.text.now c.args.tokens.now c.loop-gathered.rest.now c.in-Some.raw c.in-Some.after.now
    c.loop-gathered.invariant.tree c.loop-gathered.invariant.read first)
    (length c.args.text.now) c.requires.scans c.requires.placed

pub returns-in_err-push_item-clause-fault : goal.returns-in_err-push_item-clause-fault
returns-in_err-push_item-clause-fault c =
    let first : IsFirstItem c.loop-gathered.rest.now c.in-Some.raw c.in-Some.after.now = rw c.in-Some.is at
    c.in_ok-raw.ensures.item in
    let p = err_from_is_err_and c.from_residual-in_err-push_item.result
    c.from_residual-in_err-push_item.ensures.1 in
    rw (p.1, p.2) (stopped_at_item c.args.text.now c.args.tokens.now c.in-Some.raw c.in-Some.after.now
    c.loop-gathered.invariant.tree
    (next_is c.args.text.now c.args.tokens.now c.loop-gathered.rest.now c.in-Some.raw c.in-Some.after.now
    c.loop-gathered.invariant.tree c.loop-gathered.invariant.read first)
    (length c.args.text.now) c.in_err-push_item.field-0.0 c.requires.scans c.requires.placed
    c.in_err-push_item.ensures.fault)

pub loop-gathered-preserved : goal.loop-gathered-preserved
loop-gathered-preserved c =
    let first : IsFirstItem c.loop-gathered.rest.now c.in-Some.raw c.in-Some.after.now = rw c.in-Some.is at
    c.in_ok-raw.ensures.item in
    let yes : c.in_ok-push_item.field-0 ≡ true = search rules in
    let tree = c.loop-gathered.invariant.tree in
    let added = c.in_ok-push_item.ensures.added yes in
    record {
      tree = tree ++ added.namespace ∷ [];
      read = one_more_item c.args.text.now c.args.tokens.now c.in-Some.raw c.in-Some.after.now tree
          (next_is c.args.text.now c.args.tokens.now c.loop-gathered.rest.now c.in-Some.raw c.in-Some.after.now tree
          c.loop-gathered.invariant.read first)
          added.namespace (tree ++ added.namespace ∷ []) added.is added.lawful refl;
      is = added.grown tree c.loop-gathered.invariant.is;
    }

pub returns-clause-found : goal.returns-clause-found
returns-clause-found c =
    let end : c.loop-gathered.rest.now ≡ [] = rw c.in_default.is at c.in_ok-raw.ensures.item in
    found c.args.text.now c.args.tokens.now c.args.table.now c.loop-gathered.rest.now c.loop-gathered.gathered
    c.in_ok-fragment.fragment c.loop-gathered.invariant end c.in_ok-fragment.ensures
