use Rattle.std.proofs.Common.{◌≡◌, [], refl, sym, ◌∙◌, subst, Some}
use Rattle.std.specs.List.{All}
use Rattle.schema_syntax_parser.specs.Syntax.{IsApp}
use Rattle.schema_syntax_reader.specs.Placed.{IsScanned}
use Rattle.schema_syntax_reader.specs.Sites.{apps_sites}
use Rattle.schema_syntax_reader.specs.Stops.{IsStopped}
use Rattle.schema_syntax_reader.specs.Trees.{AppliesOf}
use Rattle.schema_syntax_reader.proofs.Chosen.{apps_some, apps_empty, apps_faultless}
use Rattle.schema_syntax_reader.proofs.Readings.{Faultless, stops}
use Rattle.schema_syntax_reader.proofs.actions.members.Goals as goal

pub returns-in_default : goal.returns-in_default
returns-in_default c =
    let none : c.args.raws ≡ [] = sym c.into_vec.ensures ∙ (rw c.in_default.is at c.from_vec.ensures.none) in
    apps_empty c.args.text.now c.args.raws c.args.braces c.empty_list.result none (c.empty_list.ensures c.args.text.now)

pub some-requires : goal.some-requires
some-requires c κs =
    let same : c.in-Some.raws ≡ c.args.raws = (rw c.in-Some.is at c.from_vec.ensures.some).0 ∙ c.into_vec.ensures in (
      (refl, tt),
      subst (All (IsScanned IsApp c.args.text.now)) (sym same) c.requires,
    )

pub returns-in_err-node : goal.returns-in_err-node
returns-in_err-node c =
    let some = rw c.in-Some.is at c.from_vec.ensures.some in
    let same : c.in-Some.raws ≡ c.args.raws = some.0 ∙ c.into_vec.ensures in
    stops c.args.text.now _ c.from_residual.result _ c.from_residual.ensures.1 _
    (subst (λ l. IsStopped c.args.text.now (apps_sites l c.args.braces) c.in_err-node.field-0.0) same
    (apps_some c.args.text.now c.in-Some.raws c.args.braces c.in_err-node.field-0.0 some.1 c.in_err-node.ensures))

pub returns : goal.returns
returns c =
    let some = rw c.in-Some.is at c.from_vec.ensures.some in
    let same : c.in-Some.raws ≡ c.args.raws = some.0 ∙ c.into_vec.ensures in
    subst (λ l. AppliesOf c.args.text.now (Some (l, c.args.braces))
    (Some (record { node = c.in_ok-node.node; loc = Some c.args.braces }))
    × Faultless c.args.text.now (apps_sites l c.args.braces)) same (
      (c.in_ok-node.ensures.0, refl),
      apps_faultless c.args.text.now c.in-Some.raws c.args.braces some.1 c.in_ok-node.ensures.1,
    )
