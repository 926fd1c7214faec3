use Rattle.std.proofs.Common.{ap, ◌∙◌}
use Rattle.schema_build_types.specs.declared.types.Type.TheVariants as built
use Rattle.schema_build_recovered.proofs.Contexts.{open_lacking, set_lacking, simple_lacking}
use Rattle.schema_build_recovered.proofs.actions.recovered_context.Goals as goal

pub returns-then-more-clause-lack : goal.returns-then-more-clause-lack
returns-then-more-clause-lack c =
    open_lacking c.args.context.now c.in-Record.attrs c.in-Record.more c.in-Record.is c.if-more.true

pub returns-in-Some-clause-lack : goal.returns-in-Some-clause-lack
returns-in-Some-clause-lack c =
    set_lacking c.args.context.now c.in-Some.field-0 (c.in-Set.is ∙ ap built.Set c.in-Some.is)

pub returns-in-Never-clause-lack : goal.returns-in-Never-clause-lack
returns-in-Never-clause-lack c = simple_lacking c.args.context.now c.in-Never.is
