use Rattle.std.proofs.Common.{◌∙◌, ◌++◌, ap, map}
use Rattle.cedar_identifiers.specs.Names.{components_of}
use Rattle.schema_resolve_definitions.specs.Defined.{names_of_builtin}
use Rattle.schema_resolve_definitions.specs.Tests.{tests_of}
use Rattle.schema_resolve_definitions.proofs.Sets.{next_given, all_given}
use Rattle.schema_resolve_definitions.proofs.defined.push_extensions.Goals as goal

pub loop-extension-preserved : goal.loop-extension-preserved
loop-extension-preserved c =
    let t = tests_of c.args.defs.now in
    next_given (λ n. names_of_builtin t n.id.text) c.args.extensions.now c.loop-extension.extension-index
    c.extension-item.result (map components_of c.args.names.now.items) _ _ c.loop-extension-test.true
    c.extension-item.is c.loop-extension.invariant
    (c.in_ok-push_builtin.ensures ∙ ap
    (λ id. map components_of c.loop-extension.names.items ++ names_of_builtin t id.text) c.in_ok-id.ensures)

pub returns : goal.returns
returns c = all_given (λ n. names_of_builtin (tests_of c.args.defs.now) n.id.text) c.args.extensions.now
    c.loop-extension.extension-index (map components_of c.args.names.now.items) _ c.loop-extension-test.false
    c.loop-extension.invariant
