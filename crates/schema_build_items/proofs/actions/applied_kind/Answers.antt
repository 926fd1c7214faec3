use Rattle.std.proofs.Common.{sym, subst}
use Rattle.schema_build_scope.specs.FragmentScope.{fragment_scope}
use Rattle.schema_build_items.specs.ActionKinds.{tests_alone}
use Rattle.schema_build_items.proofs.Applied.{IsJustMeant, applied_made}
use Rattle.schema_build_items.proofs.actions.applied_kind.Goals as goal

pub returns-in-Record-clause-some : goal.returns-in-Record-clause-some
returns-in-Record-clause-some c =
    let f = c.args.names.now.fragment in
    let table = c.args.names.now.table in
    let t = tests_alone f table in
    let d = c.args.applies.now in
    let principals : IsJustMeant t c.args.ns.now d.principal_types c.from_vec.result =
    subst (IsJustMeant t c.args.ns.now d.principal_types) (sym c.from_vec.ensures)
    (subst (λ l. IsJustMeant t c.args.ns.now l c.in_ok-principals-in-Record.principals.items) c.as_slice.ensures
    c.in_ok-principals-in-Record.ensures) in
    let resources : IsJustMeant t c.args.ns.now d.resource_types c.from_vec-in-Record.result =
    subst (IsJustMeant t c.args.ns.now d.resource_types) (sym c.from_vec-in-Record.ensures)
    (subst (λ l. IsJustMeant t c.args.ns.now l c.in_ok-resources-in-Record.resources.items)
    c.as_slice-in-Record.ensures c.in_ok-resources-in-Record.ensures) in
    applied_made t (fragment_scope f table) c.args.ns.now d c.in_ok-context.context c.in-Record.attrs c.in-Record.more
    c.from_vec.result c.from_vec-in-Record.result c.in-Record.is c.in_ok-context.ensures principals resources
