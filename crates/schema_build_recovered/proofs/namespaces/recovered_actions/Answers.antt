use Rattle.std.proofs.lemmas.Grind.{common_steps}
use Rattle.std.proofs.Common.{◌<◌, length, map, ap, sym, ◌∙◌, arith}
use Rattle.cedar_names.specs.Definitions.{same_name}
use Rattle.schema_build_recovered.specs.Places.{words_of}
use Rattle.schema_build_recovered.proofs.Halves.{action_key}
use Rattle.schema_build_recovered.proofs.Gathered.{lent_at, lent_long, passed, taken, lacking, all_made}
use Rattle.schema_build_recovered_types.proofs.Lacking.{refused}
use Rattle.schema_build_recovered.proofs.namespaces.recovered_actions.Goals.{then-are_one+in_ok-row+in_ok-push}
use Rattle.schema_build_recovered.proofs.namespaces.recovered_actions.Goals.{else-are_one}
use Rattle.schema_build_recovered.proofs.namespaces.recovered_actions.Goals as goal

pub returns-in_err-row-clause-lack : goal.returns-in_err-row-clause-lack
returns-in_err-row-clause-lack c =
    let items = c.args.actions.now.items in
    let xs = map (λ x. x.now) items in
    let item = c.index-entry.result.now in
    let within : c.loop-at.at < length xs = omega (arith, c.loop-at-test.true, c.len-at-end.ensures, lent_long items) in
    refused _ c.from_residual.result c.in_err-row.field-0.0 c.from_residual.ensures.1
    (lacking _ _ _ _ xs c.loop-at.at c.loop-at.rows.items item.now c.in_err-row.field-0.0 within
    (lent_at items c.loop-at.at item c.index-entry.ensures)
    (sym (c.are_one.ensures ∙ ap (same_name (words_of c.args.home.words))
    (c.namespace_of.ensures ∙ ap action_key c.entry.view_is)) ∙ c.if-are_one.true)
    c.in_err-row.ensures.lack c.loop-at.invariant)

pub loop-at-preserved : goal.loop-at-preserved
loop-at-preserved c =
    let items = c.args.actions.now.items in
    let xs = map (λ x. x.now) items in
    let item = c.index-entry.result.now in
    let within : c.loop-at.at < length xs = omega (arith, c.loop-at-test.true, c.len-at-end.ensures, lent_long items) in
    let here = lent_at items c.loop-at.at item c.index-entry.ensures in
    let told = sym (c.are_one.ensures
    ∙ ap (same_name (words_of c.args.home.words)) (c.namespace_of.ensures ∙ ap action_key c.entry.view_is)) in
    elim c.if-are_one.branch [
      | then-are_one+in_ok-row+in_ok-push w ↦
          rw (w.rows-is, w.in_ok-push.ensures.items)
          (taken _ _ _ _ xs c.loop-at.at c.loop-at.rows.items item.now w.in_ok-row.row within here
          (told ∙ w.if-are_one.true) w.in_ok-row.ensures.recovered w.in_ok-row.ensures.whole
          c.loop-at.invariant)
      | else-are_one w ↦
          rw w.rows-is
          (passed _ _ _ _ xs c.loop-at.at c.loop-at.rows.items item.now within here (told ∙ w.if-are_one.false)
          c.loop-at.invariant)
    ]

pub returns-clause-recovered : goal.returns-clause-recovered
returns-clause-recovered c =
    let items = c.args.actions.now.items in (
      c.loop-at.rows.items,
      all_made _ _ _ _ (map (λ x. x.now) items) c.loop-at.at c.loop-at.rows.items
          (omega (arith, c.loop-at-test.false, c.len-at-end.ensures, lent_long items)) c.loop-at.invariant,
      c.in_ok-from_entries.ensures.entries,
    )

pub returns-clause-whole : goal.returns-clause-whole
returns-clause-whole c = grind (arith, common_steps)
