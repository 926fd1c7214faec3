use Rattle.std.proofs.Common.{◌∙◌, refl, sym, subst}
use Rattle.std.proofs.lemmas.Result.{IfOk-weaker}
use Rattle.cedar_schema_cli_inputs.specs.Inputs.{GivesIf}
use Rattle.cedar_schema_cli_check.proofs.inputs.check_named.Goals as goal

pub returns-then-is_standard-clause-status : goal.returns-then-is_standard-clause-status
returns-then-is_standard-clause-status g c =
    let files = g.F.Files.files c.args.files.now in
    let given = c.args.standard.now in
    let so = sym c.is_standard.ensures ∙ c.if-is_standard.true in
    IfOk-weaker c.check_given.result _ _ (λ status adds. record {
      given = given;
      gives = subst (λ at. GivesIf at files given c.args.name.now given) (sym so) refl;
      adds = adds;
    }) c.check_given.ensures

pub returns-clause-status : goal.returns-clause-status
returns-clause-status g c =
    let files = g.F.Files.files c.args.files.now in
    let so = sym c.is_standard.ensures ∙ c.if-is_standard.false in
    IfOk-weaker c.check_file.result _ _ (λ status found. record {
      given = found.0;
      gives = subst (λ at. GivesIf at files c.args.standard.now c.args.name.now found.0) (sym so) found.1;
      adds = found.2;
    }) c.check_file.ensures.status
