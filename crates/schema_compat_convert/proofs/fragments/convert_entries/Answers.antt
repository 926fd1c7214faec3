use Rattle.std.proofs.Common.{◌≡◌, length, sym, ◌∙◌}
use Rattle.std.specs.List.{AllZip}
use Rattle.std.specs.Vec.Iter.{into_iter_items}
use Rattle.schema_json_shapes.proofs.Demands.{refused}
use Rattle.schema_compat_convert.specs.Demands.{asks_entry}
use Rattle.schema_compat_convert.specs.Converted.{EntryBecomes}
use Rattle.schema_compat_convert.proofs.Ahead.{first_fails, first_passes, none_ahead}
use Rattle.schema_compat_convert.proofs.fragments.convert_entries.Goals as goal

pub loop-name-preserved : goal.loop-name-preserved
loop-name-preserved c = record {
  ahead = first_passes asks_entry (AllZip EntryBecomes) (c.in-Some.name, c.in-Some.namespace) c.in_ok-entry.entry
      _ _ _ _ _ c.loop-name.invariant.ahead c.in-Some.ensures.steps.0 c.in_ok-entry.ensures.0
      (λ more h. (c.in_ok-entry.ensures.1, h)) c.in_ok-push.ensures.items;
}

pub returns-in_err-entry : goal.returns-in_err-entry
returns-in_err-entry c =
    let e = c.in_err-entry.field-0.0 in
    refused c.from_residual.result e _ _ c.from_residual.ensures.1
    (first_fails asks_entry (AllZip EntryBecomes) (c.in-Some.name, c.in-Some.namespace) _ _ _ _ e
    c.loop-name.invariant.ahead c.in-Some.ensures.steps.0 c.in_err-entry.ensures)

pub returns : goal.returns
returns c =
    let over : length (into_iter_items c.loop-name.name-iterator) ≡ 0 = sym c.loop-name.name-iterator.rest.ok.0
    ∙ c.in-None.ensures.steps.0 in
    none_ahead asks_entry (AllZip EntryBecomes) _ c.args.entries.items c.loop-name.out.items
    c.loop-name.invariant.ahead over tt
