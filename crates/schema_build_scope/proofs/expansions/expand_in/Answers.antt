use Rattle.std.proofs.Common.{All, sym, subst}
use Rattle.std.specs.Prelude.{IfOk}
use Rattle.schema_json_walk.specs.Walk.{parts}
use Rattle.schema_resolve_definitions.specs.Declarations.{name_of}
use Rattle.schema_build_expand.specs.Targets.{AreExpanded, IsReady, ExpandsTo}
use Rattle.schema_build_scope.specs.FragmentScope.{fragment_scope}
use Rattle.schema_build_scope.proofs.expansions.expand_in.Goals as goal

pub expand_type-requires-clause-done : goal.expand_type-requires-clause-done
expand_type-requires-clause-done c =
    subst (λ n. AreExpanded (fragment_scope n.fragment n.table) c.args.done.now) (sym c.in_namespace.ensures.names)
    c.requires.done

pub expand_type-requires-clause-ready : goal.expand_type-requires-clause-ready
expand_type-requires-clause-ready c =
    let s = fragment_scope c.args.names.now.fragment c.args.names.now.table in
    subst (λ n. All (IsReady (fragment_scope n.fragment n.table) c.args.done.now
    (name_of c.in_namespace.result.ns.now)) (parts c.args.ty.now))
    (sym c.in_namespace.ensures.names)
    (subst (λ p. All (IsReady s c.args.done.now (name_of p)) (parts c.args.ty.now)) (sym c.in_namespace.ensures.place)
    c.requires.ready)

pub returns : goal.returns
returns c =
    subst (λ p. ExpandsTo (fragment_scope c.args.names.now.fragment c.args.names.now.table) (name_of p)
    c.args.ty.now c.in_ok-expanded.expanded) c.in_namespace.ensures.place
    (subst (λ n. ExpandsTo (fragment_scope n.fragment n.table) (name_of c.in_namespace.result.ns.now) c.args.ty.now
    c.in_ok-expanded.expanded) c.in_namespace.ensures.names c.in_ok-expanded.ensures)
