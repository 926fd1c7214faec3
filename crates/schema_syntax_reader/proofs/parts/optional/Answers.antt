use Rattle.std.proofs.Common.{◌≡◌, [], refl, sym, ◌∙◌, subst, Some}
use Rattle.std.specs.List.{All, AllZip, flat_map}
use Rattle.std.proofs.lemmas.List.Elements.{All-nil}
use Rattle.schema_syntax_reader.specs.Placed.{NoSiteFault}
use Rattle.schema_syntax_reader.specs.Stops.{IsStopped}
use Rattle.schema_syntax_reader.specs.Trees.{IsOptional}
use Rattle.schema_syntax_reader.proofs.Chosen.{optional_none, optional_some}
use Rattle.schema_syntax_reader.proofs.Readings.{Faultless, stops}
use Rattle.schema_syntax_reader.proofs.parts.optional.Goals as goal

pub returns-in-None : goal.returns-in-None
returns-in-None g c =
    let none : c.args.raws ≡ [] = sym c.into_vec.ensures ∙ c.in-None.ensures.none in (
      optional_none c.args.text.now (AllZip (g.P.Part.stands_for c.args.text.now)) c.args.raws none,
      subst (λ l. Faultless c.args.text.now (flat_map g.P.Part.sites l)) (sym none)
          (All-nil (NoSiteFault c.args.text.now)),
    )

pub some-requires : goal.some-requires
some-requires g c κs =
    let same : c.in-Some.raws ≡ c.args.raws = c.in-Some.ensures.some.0 ∙ c.into_vec.ensures in (
      (refl, tt),
      subst (All (g.P.Part.fits c.args.text.now)) (sym same) c.requires,
    )

pub returns-in_err-items-in-Some : goal.returns-in_err-items-in-Some
returns-in_err-items-in-Some g c =
    let same : c.in-Some.raws ≡ c.args.raws = c.in-Some.ensures.some.0 ∙ c.into_vec.ensures in
    stops c.args.text.now _ c.from_residual.result _ c.from_residual.ensures.1 _
    (subst (λ l. IsStopped c.args.text.now (flat_map g.P.Part.sites l) c.in_err-items-in-Some.field-0.0) same
    c.in_err-items-in-Some.ensures)

pub returns-in_ok-items-in-Some : goal.returns-in_ok-items-in-Some
returns-in_ok-items-in-Some g c =
    let same : c.in-Some.raws ≡ c.args.raws = c.in-Some.ensures.some.0 ∙ c.into_vec.ensures in
    subst (λ l. IsOptional c.args.text.now (AllZip (g.P.Part.stands_for c.args.text.now)) l
    (Some c.in_ok-items-in-Some.items) × Faultless c.args.text.now (flat_map g.P.Part.sites l)) same (
      optional_some c.args.text.now (AllZip (g.P.Part.stands_for c.args.text.now)) c.in-Some.raws _
          c.in-Some.ensures.some.1 c.in_ok-items-in-Some.ensures.0,
      c.in_ok-items-in-Some.ensures.1,
    )
