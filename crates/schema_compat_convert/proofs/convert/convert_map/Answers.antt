use Rattle.std.proofs.Common.{◌≡◌, length, refl, sym, ◌∙◌, subst}
use Rattle.std.specs.List.Sorted.{IsStrictlySortedBy}
use Rattle.std.specs.Vec.Iter.{into_iter_items}
use Rattle.schema_json_shapes.proofs.Demands.{refused}
use Rattle.schema_compat_convert.specs.Converted.{ValuesBecome}
use Rattle.schema_compat_convert.proofs.Ahead.{first_fails, first_passes, none_ahead}
use Rattle.schema_compat_convert.proofs.Kept.{values_keys}
use Rattle.schema_compat_convert.proofs.convert.convert_map.Goals as goal

pub loop-key-preserved : goal.loop-key-preserved
loop-key-preserved g c = record {
  ahead = first_passes (λ e. g.V.Convert.asks e.1) (ValuesBecome g.V.Convert.Becomes) (c.in-Some.key, c.in-Some.value)
      (c.in-Some.key, c.in_ok-value.value) _ _ _ _ _ c.loop-key.invariant.ahead c.in-Some.ensures.steps.0
      c.in_ok-value.ensures.0 (λ more h. ((refl, c.in_ok-value.ensures.1), h)) c.in_ok-push.ensures.items;
}

pub returns-in_err-value : goal.returns-in_err-value
returns-in_err-value g c =
    let e = c.in_err-value.field-0.0 in
    refused c.from_residual.result e _ _ c.from_residual.ensures.1
    (first_fails (λ e. g.V.Convert.asks e.1) (ValuesBecome g.V.Convert.Becomes) (c.in-Some.key, c.in-Some.value)
    _ _ _ _ e c.loop-key.invariant.ahead c.in-Some.ensures.steps.0 c.in_err-value.ensures)

pub from_sorted_vec-requires : goal.from_sorted_vec-requires
from_sorted_vec-requires g c =
    let over : length (into_iter_items c.loop-key.key-iterator) ≡ 0 = sym c.loop-key.key-iterator.rest.ok.0
    ∙ c.in-None.ensures.steps.0 in
    let done = none_ahead (λ e. g.V.Convert.asks e.1) (ValuesBecome g.V.Convert.Becomes) _ c.args.map
    c.loop-key.out.items c.loop-key.invariant.ahead over tt in
    subst (IsStrictlySortedBy g.K.Ord.cmp)
    (sym (values_keys g.V.Convert.Becomes c.args.map c.loop-key.out.items done.1))
    c.into_vec-key-items.ensures.sorted

pub returns : goal.returns
returns g c =
    let over : length (into_iter_items c.loop-key.key-iterator) ≡ 0 = sym c.loop-key.key-iterator.rest.ok.0
    ∙ c.in-None.ensures.steps.0 in
    let done = none_ahead (λ e. g.V.Convert.asks e.1) (ValuesBecome g.V.Convert.Becomes) _ c.args.map
    c.loop-key.out.items c.loop-key.invariant.ahead over tt in (
      done.0,
      (
        c.into_vec-key-items.ensures.sorted,
        subst (ValuesBecome g.V.Convert.Becomes c.args.map)
            (sym c.from_sorted_vec.ensures) done.1,
      ),
    )
