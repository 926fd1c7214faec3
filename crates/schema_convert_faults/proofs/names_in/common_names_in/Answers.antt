use Rattle.std.proofs.Common.{refl}
use Rattle.schema_convert_faults.specs.NamesIn.{common_names_in, commons_of}
use Rattle.schema_convert_openings.proofs.Gathered.{more_at, over_at}
use Rattle.schema_convert_faults.proofs.names_in.common_names_in.Goals as goal

pub loop-decl-preserved : goal.loop-decl-preserved
loop-decl-preserved c =
    more_at common_names_in (λ d. commons_of d.item.node) refl (λ x xs. refl) _ _ c.args.decls.now
    c.loop-decl.decl-index c.decl-item.result _ c.loop-decl.invariant c.loop-decl-test.true c.decl-item.is
    c.in_ok-push_common.ensures

pub returns : goal.returns
returns c = over_at common_names_in (λ d. commons_of d.item.node) refl (λ x xs. refl) _ c.args.decls.now
    c.loop-decl.decl-index _ c.loop-decl.invariant c.loop-decl-test.false
