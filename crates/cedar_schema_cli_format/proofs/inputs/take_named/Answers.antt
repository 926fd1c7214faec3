use Rattle.std.proofs.Common.{◌∙◌, refl, sym, subst}
use Rattle.cedar_schema_cli_inputs.specs.Inputs.{GivesIf}
use Rattle.cedar_schema_cli_format.proofs.Outcomes.{on_ok}
use Rattle.cedar_schema_cli_format.proofs.inputs.take_named.Goals as goal

pub returns-then-is_standard-clause-takes : goal.returns-then-is_standard-clause-takes
returns-then-is_standard-clause-takes g c =
    let files = g.F.Files.files c.args.files.now in
    let given = c.args.standard.now in
    let so = sym c.is_standard.ensures ∙ c.if-is_standard.true in
    on_ok c.take_given.result _ _ (λ takes. record {
      given = given;
      gives = subst (λ at. GivesIf at files given c.args.name.now given) (sym so) refl;
      takes = takes;
    }) c.take_given.ensures

pub returns-clause-takes : goal.returns-clause-takes
returns-clause-takes g c =
    let files = g.F.Files.files c.args.files.now in
    let so = sym c.is_standard.ensures ∙ c.if-is_standard.false in
    on_ok c.take_file.result _ _ (λ found. record {
      given = found.given;
      gives = subst (λ at. GivesIf at files c.args.standard.now c.args.name.now found.given) (sym so) found.read;
      takes = found.takes;
    }) c.take_file.ensures.takes
