use Rattle.std.proofs.Common.{sym, ap, ◌∙◌, refl, rules, arith, length}
use Rattle.std.specs.Vec.Iter.{into_iter_items}
use Rattle.std.proofs.lemmas.List.{nil_from_length}
use Rattle.schema_syntax_reader.proofs.Readings.{stops, none_read, next_fits, one_more_read, stopped_at_part, all_read}
use Rattle.schema_syntax_reader.proofs.parts.each.Goals as goal

pub loop-raw-init : goal.loop-raw-init
loop-raw-init g c = (
  none_read c.args.text.now g.P.Part.sites (g.P.Part.stands_for c.args.text.now) c.args.raws.items _ _ (search rules)
      (search rules),
  search rules,
)

pub read-requires : goal.read-requires
read-requires g c κs = (
  (refl, tt),
  next_fits c.args.text.now g.P.Part.sites (g.P.Part.stands_for c.args.text.now) c.args.raws.items
      (into_iter_items c.loop-raw.raw-iterator) c.in-Some.raw (into_iter_items c.next.new.self)
      c.in-Some.ensures.steps.0 c.loop-raw.items.items c.loop-raw.invariant.0
      (g.P.Part.fits c.args.text.now) c.requires,
)

pub returns-in_err-item : goal.returns-in_err-item
returns-in_err-item g c =
    stops c.args.text.now _ c.from_residual-in_err-item.result _ c.from_residual-in_err-item.ensures.1 _
    (stopped_at_part c.args.text.now g.P.Part.sites (g.P.Part.stands_for c.args.text.now) c.args.raws.items
    (into_iter_items c.loop-raw.raw-iterator) c.in-Some.raw (into_iter_items c.next.new.self)
    c.in-Some.ensures.steps.0 c.loop-raw.items.items c.loop-raw.invariant.0 c.in_err-item.field-0.0
    c.in_err-item.ensures)

pub loop-raw-preserved : goal.loop-raw-preserved
loop-raw-preserved g c =
    let next = ap length c.in-Some.ensures.steps.0 in
    let push = c.push_reserved.ensures in (
      one_more_read c.args.text.now g.P.Part.sites (g.P.Part.stands_for c.args.text.now) c.args.raws.items
          (into_iter_items c.loop-raw.raw-iterator) c.in-Some.raw (into_iter_items c.next.new.self)
          c.in-Some.ensures.steps.0 c.loop-raw.items.items c.loop-raw.invariant.0
          c.push_reserved.new.self.items c.in_ok-item.item c.in_ok-item.ensures.0 c.in_ok-item.ensures.1 push.items,
      omega (arith, next, c.loop-raw.invariant.1, push.len, push.capacity),
    )

pub push_reserved-requires : goal.push_reserved-requires
push_reserved-requires g c =
    let next = ap length c.in-Some.ensures.steps.0 in omega (arith, next, c.loop-raw.invariant.1)

pub returns : goal.returns
returns g c =
    all_read c.args.text.now g.P.Part.sites (g.P.Part.stands_for c.args.text.now) c.args.raws.items
    (into_iter_items c.loop-raw.raw-iterator) c.loop-raw.items.items
    (nil_from_length _ (sym c.loop-raw.raw-iterator.rest.ok.0 ∙ c.in-None.ensures.steps.0)) c.loop-raw.invariant.0
