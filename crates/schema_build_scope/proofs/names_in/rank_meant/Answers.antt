use Rattle.std.proofs.Common.{subst}
use Rattle.cedar_data.specs.Halving.{IsHit, IsGap}
use Rattle.cedar_names.specs.Orders.{names_in_order}
use Rattle.schema_resolve_definitions.specs.Declarations.{name_of}
use Rattle.schema_resolve_targets.specs.Tried.{candidate}
use Rattle.schema_build_scope.specs.LentCommons.{lent_type}
use Rattle.schema_build_scope.proofs.Found.{hit_ranked, gap_undeclared}
use Rattle.schema_build_scope.proofs.names_in.rank_meant.Goals as goal

pub returns-in-Ok : goal.returns-in-Ok
returns-in-Ok c =
    let full = candidate (name_of c.args.ns.now) c.args.name.now c.args.is_own in
    hit_ranked c.args.names.now.fragment c.args.names.now.table lent_type c.commons.result.now c.commons.ensures.entries
    full c.in-Ok.rank
    (subst (λ n. IsHit names_in_order n c.commons.result.now c.in-Ok.rank) (c.before-2.ensures c.args.name.now)
    c.in-Ok.ensures.found)

pub returns-in-Err : goal.returns-in-Err
returns-in-Err c =
    let full = candidate (name_of c.args.ns.now) c.args.name.now c.args.is_own in
    gap_undeclared c.args.names.now.fragment c.args.names.now.table lent_type c.commons.result.now
    c.commons.ensures.entries
    full c.in-Err.field-0
    (subst (λ n. IsGap names_in_order n c.commons.result.now c.in-Err.field-0 c.in-Err.field-0)
    (c.before-2.ensures c.args.name.now) c.in-Err.ensures.absent)
