use Rattle.std.proofs.Common.{sym, ◌∙◌}
use Rattle.std.specs.Option.{option_copied}
use Rattle.schema_resolve_definitions.specs.Tests.{tests_of}
use Rattle.schema_build_scope.proofs.Meanings.{own_meant, plain_meant, none_meant}
use Rattle.schema_build_scope.proofs.meant.find_meant.Goals as goal

pub returns-in-Some : goal.returns-in-Some
returns-in-Some c =
    own_meant (tests_of c.args.defs.now) (option_copied c.args.ns) c.args.kind c.args.name.now c.in-Some.is_common
    (sym c.own_kind.ensures ∙ c.in-Some.is)

pub returns-in-Some-kind_of : goal.returns-in-Some-kind_of
returns-in-Some-kind_of c =
    plain_meant (tests_of c.args.defs.now) (option_copied c.args.ns) c.args.kind c.args.name.now
    c.in-Some-kind_of.is_common (sym c.own_kind.ensures ∙ c.in-None.is) (sym c.kind_of.ensures ∙ c.in-Some-kind_of.is)

pub returns-in-None-kind_of : goal.returns-in-None-kind_of
returns-in-None-kind_of c =
    none_meant (tests_of c.args.defs.now) (option_copied c.args.ns) c.args.kind c.args.name.now
    (sym c.own_kind.ensures ∙ c.in-None.is) (sym c.kind_of.ensures ∙ c.in-None-kind_of.is)
