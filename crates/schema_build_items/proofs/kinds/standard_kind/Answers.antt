use Rattle.schema_resolve_definitions.specs.Declarations.{name_of}
use Rattle.schema_build_scope.specs.FragmentScope.{fragment_scope}
use Rattle.schema_build_items.proofs.Made.{standard_made}
use Rattle.schema_build_items.proofs.kinds.standard_kind.Goals as goal

pub returns-in-Record-clause-some : goal.returns-in-Record-clause-some
returns-in-Record-clause-some c =
    standard_made (fragment_scope c.args.names.now.fragment c.args.names.now.table) (name_of c.args.ns.now)
    c.args.standard.now c.in_ok-shape.shape c.in-Record.attrs c.in-Record.more c.in_ok-tags-in-Record.tags
    c.in-Record.is
    c.in_ok-shape.ensures c.in_ok-tags-in-Record.ensures
