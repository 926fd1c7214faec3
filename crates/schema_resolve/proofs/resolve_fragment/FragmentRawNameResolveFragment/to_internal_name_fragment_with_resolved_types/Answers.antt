use Rattle.std.proofs.Common.{◌≡◌, IfOk, subst, ap}
use Rattle.schema_resolve_definitions.specs.Tests.{tests_of}
use Rattle.schema_resolve.specs.Resolved.{resolved}
use Rattle.schema_resolve.proofs.resolve_fragment.FragmentRawNameResolveFragment.to_internal_name_fragment_with_resolved_types.Goals as goal

pub returns-clause-out : goal.returns-clause-out
returns-clause-out c =
    rw c.or_error.ensures (subst (λ t. IfOk c.rename_fragment.result
    (λ out. out ≡ resolved {H = Rattle.cedar_identifiers.specs.contracts.name_text.InternalNameNameText.TheImpl.ghosts} t
    c.args.self.now)) (ap tests_of c.in_ok-defs.ensures) c.rename_fragment.ensures.out)

pub returns-clause-defined : goal.returns-clause-defined
returns-clause-defined c = rw
    (c.or_error.ensures, ← (ap tests_of c.in_ok-defs.ensures)) c.rename_fragment.ensures.defined

pub returns-clause-err : goal.returns-clause-err
returns-clause-err c = rw (c.or_error.ensures, ← (ap tests_of c.in_ok-defs.ensures)) c.rename_fragment.ensures.err
