use Rattle.std.proofs.Common.{◌∙◌, ◌||◌, ap, sym}
use Rattle.cedar_identifiers.specs.Names.{components_of}
use Rattle.cedar_names.specs.Definitions.{among}
use Rattle.schema_resolve_definitions.specs.Tests.{tests_of}
use Rattle.schema_resolve_definitions.proofs.Builtins.{one_named, both_named}
use Rattle.schema_resolve_definitions.proofs.defined.push_builtin.Goals as goal

pub returns-in_ok-push-2 : goal.returns-in_ok-push-2
returns-in_ok-push-2 c =
    let by_name = ap (λ x. among c.args.defs.now.commons (components_of x) || among c.args.defs.now.entities
    (components_of x)) c.alone-plain.ensures in
    both_named (tests_of c.args.defs.now) c.args.id.text _ _ _ c.in_ok-full.full c.alone-plain.result
    c.in_ok-full.ensures (ap components_of c.alone-plain.ensures) c.in_ok-push.ensures.items
    c.in_ok-push-2.ensures.items (sym by_name ∙ sym c.is_hidden.ensures ∙ c.if-not-is_hidden.true)

pub returns-else-not-is_hidden : goal.returns-else-not-is_hidden
returns-else-not-is_hidden c =
    let by_name = ap (λ x. among c.args.defs.now.commons (components_of x) || among c.args.defs.now.entities
    (components_of x)) c.alone-plain.ensures in
    one_named (tests_of c.args.defs.now) c.args.id.text _ _ c.in_ok-full.full c.in_ok-full.ensures
    c.in_ok-push.ensures.items (sym by_name ∙ sym c.is_hidden.ensures ∙ c.if-not-is_hidden.false)
