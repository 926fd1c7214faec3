use Rattle.std.proofs.Common.{sym, subst, ap, ◌∙◌}
use Rattle.std.proofs.lemmas.Result.{IfOk-weaker}
use Rattle.schema_resolve_definitions.specs.Declarations.{alone}
use Rattle.schema_build_checks.specs.WalkFaults.{NamesExtension}
use Rattle.schema_build_checks.proofs.walk_faults.unknown.Goals as goal

pub returns : goal.returns
returns c =
    IfOk-weaker c.new.result _ (NamesExtension c.args.id)
    (λ told same. subst (NamesExtension c.args.id) (sym same) (c.alone-name.ensures ∙ ap alone c.into_id.ensures))
    c.new.ensures
