use Rattle.std.proofs.Common.{◌∙◌, sym}
use Rattle.std.specs.Option.{option_copied}
use Rattle.schema_resolve_definitions.specs.Tests.{tests_of}
use Rattle.schema_resolve_targets.proofs.Candidates.{own_found, plain_found, none_found}
use Rattle.schema_resolve_targets.proofs.tried.find_type.Goals as goal

pub returns-in-Some-clause-first : goal.returns-in-Some-clause-first
returns-in-Some-clause-first c =
    own_found (tests_of c.args.defs.now) (option_copied c.args.ns) c.args.kind c.args.name.now c.in-Some.is_common
    (sym c.own_kind.ensures ∙ c.in-Some.is)

pub returns-in-Some-kind_of-clause-first : goal.returns-in-Some-kind_of-clause-first
returns-in-Some-kind_of-clause-first c =
    plain_found (tests_of c.args.defs.now) (option_copied c.args.ns) c.args.kind c.args.name.now
    c.in-Some-kind_of.is_common (sym c.own_kind.ensures ∙ c.in-None.is) (sym c.kind_of.ensures ∙ c.in-Some-kind_of.is)

pub returns-in-None-kind_of-clause-first : goal.returns-in-None-kind_of-clause-first
returns-in-None-kind_of-clause-first c =
    none_found (tests_of c.args.defs.now) (option_copied c.args.ns) c.args.kind c.args.name.now
    (sym c.own_kind.ensures ∙ c.in-None.is) (sym c.kind_of.ensures ∙ c.in-None-kind_of.is)
