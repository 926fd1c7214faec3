use Rattle.std.proofs.Common.{◌∙◌, sym}
use Rattle.cedar_identifiers.specs.Names.{components_of}
use Rattle.cedar_identifiers.specs.declared.reference_type.ReferenceType.TheVariants.{CommonOrEntity}
use Rattle.schema_resolve_definitions.specs.Tests.{tests_of}
use Rattle.schema_resolve.specs.Designated.{undesignated_type}
use Rattle.schema_resolve_targets.proofs.Candidates.{none_defined}
use Rattle.schema_resolve.proofs.designator.look_up.Goals as goal

pub returns-in_ok-new-in-None-clause-err : goal.returns-in_ok-new-in-None-clause-err
returns-in_ok-new-in-None-clause-err c =
    c.in_ok-new-in-None.ensures.named (undesignated_type (tests_of c.args.defs.now) CommonOrEntity c.args.name.now)
    (rw (none_defined (tests_of c.args.defs.now) CommonOrEntity (components_of c.args.name.now)
    (sym c.kind_of.ensures ∙ c.in-None.is)) c.in_ok-error-in-None.ensures)
