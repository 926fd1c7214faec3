use Rattle.std.proofs.Common.{◌∷◌, refl, sym, ap, ◌∙◌}
use Rattle.schema_syntax_reader.proofs.Readings.{stops, first_fits, first_stops, others_stop, first_and_others}
use Rattle.schema_syntax_reader.proofs.parts.some.Goals as goal

pub read-requires : goal.read-requires
read-requires g c κs = (
  (refl, tt),
  (first_fits (g.P.Part.fits c.args.text.now) c.args.raws c.into_parts-first.result.0 c.into_parts-first.result.1.items
      c.into_parts-first.ensures c.requires).0,
)

pub returns-in_err-head : goal.returns-in_err-head
returns-in_err-head g c =
    stops c.args.text.now _ c.from_residual.result _ c.from_residual.ensures.1 _
    (first_stops c.args.text.now g.P.Part.sites (g.P.Part.stands_for c.args.text.now) c.args.raws
    c.into_parts-first.result.0 c.into_parts-first.result.1.items c.into_parts-first.ensures c.in_err-head.field-0.0
    c.in_err-head.ensures)

pub all-requires : goal.all-requires
all-requires g c κs =
    let split = c.into_parts-first.ensures ∙ ap (λ l. c.into_parts-first.result.0 ∷ l) (sym c.from_vec.ensures) in (
      (refl, tt),
      (first_fits (g.P.Part.fits c.args.text.now) c.args.raws c.into_parts-first.result.0 c.from_vec.result split
          c.requires).1,
    )

pub returns-in_err-tail : goal.returns-in_err-tail
returns-in_err-tail g c =
    let split = c.into_parts-first.ensures ∙ ap (λ l. c.into_parts-first.result.0 ∷ l) (sym c.from_vec.ensures) in
    stops c.args.text.now _ c.from_residual-in_err-tail.result _ c.from_residual-in_err-tail.ensures.1 _
    (others_stop c.args.text.now g.P.Part.sites (g.P.Part.stands_for c.args.text.now) c.args.raws
    c.into_parts-first.result.0 c.from_vec.result split c.in_err-tail.field-0.0 c.in_ok-head.ensures.1
    c.in_err-tail.ensures)

pub returns : goal.returns
returns g c =
    let split = c.into_parts-first.ensures ∙ ap (λ l. c.into_parts-first.result.0 ∷ l) (sym c.from_vec.ensures) in
    first_and_others c.args.text.now g.P.Part.sites (g.P.Part.stands_for c.args.text.now) c.args.raws
    c.into_parts-first.result.0 c.from_vec.result split c.in_ok-head.head c.in_ok-tail.tail.items _
    c.in_ok-head.ensures.0 c.in_ok-head.ensures.1 c.in_ok-tail.ensures.0 c.in_ok-tail.ensures.1 c.from_parts.ensures
