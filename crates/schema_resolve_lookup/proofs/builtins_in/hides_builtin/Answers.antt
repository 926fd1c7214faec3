use Rattle.std.proofs.Common.{sym, ◌∙◌, ap, codes}
use Rattle.std.specs.List.{list_any}
use Rattle.cedar_data.proofs.Lists.{list_any-map}
use Rattle.cedar_names.specs.Tables.{table_names}
use Rattle.schema_resolve_definitions.specs.Declarations.{declared}
use Rattle.schema_resolve_definitions.specs.Defined.{is_hidden}
use Rattle.schema_resolve_definitions.specs.Tests.{tests_of}
use Rattle.schema_resolve_lookup.proofs.Builtin.{past_three}
use Rattle.schema_resolve_lookup.proofs.builtins_in.hides_builtin.Goals as goal

pub returns : goal.returns
returns c =
    let hidden = is_hidden (tests_of (declared c.args.searched.now.fragment.now)) in
    c.hides_extension.ensures ∙ ap (list_any (λ n. hidden n.id.text)) c.as_slice.ensures.items
    ∙ sym (list_any-map hidden (λ n. n.id.text) c.args.table.now.names)
    ∙ past_three (hidden (codes "Bool")) (hidden (codes "Long")) (hidden (codes "String"))
    (list_any hidden (table_names c.args.table.now)) (sym c.in_ok-hides_primitive.ensures ∙ c.if-branch.false)
