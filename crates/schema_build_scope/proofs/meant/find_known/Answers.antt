use Rattle.std.proofs.Common.{◌∙◌, sym, ap, Bool, false, Some}
use Rattle.std.specs.Option.{option_copied}
use Rattle.schema_resolve_definitions.specs.Tests.{tests_of}
use Rattle.schema_build_scope.specs.Meant.{meant_candidate}
use Rattle.schema_build_scope.proofs.Meanings.{own_meant, plain_meant, known_meant}
use Rattle.schema_build_scope.proofs.meant.find_known.Goals as goal

pub returns-in-Some : goal.returns-in-Some
returns-in-Some c =
    own_meant (tests_of c.args.defs.now) (option_copied c.args.ns) c.args.kind c.args.name.now c.in-Some.is_common
    (sym c.own_kind.ensures ∙ c.in-Some.is)

pub returns-in-None : goal.returns-in-None
returns-in-None c =
    let t = tests_of c.args.defs.now in
    let ns = option_copied c.args.ns in
    let none = sym c.own_kind.ensures ∙ c.in-None.is in
    let found = known_meant t ns c.args.kind c.args.name.now none c.requires in
    ap (λ (b : Bool). Some (meant_candidate ns c.args.name.now.name (record { is_own = false; is_common = b })))
    (c.is_known_common.ensures found.0 found.1)
    ∙ plain_meant t ns c.args.kind c.args.name.now found.0 none found.1
