use Rattle.std.proofs.Common.{refl, sym, ◌∙◌, append-nil}
use Rattle.schema_resolve_definitions.specs.Tests.{tests_of}
use Rattle.schema_build_hierarchy.proofs.ActionTypes.{ends_otherwise}
use Rattle.schema_build_hierarchy.proofs.use_finder.UseFinder.meet.Goals as goal

pub returns-then-not-is_named_action : goal.returns-then-not-is_named_action
returns-then-not-is_named_action c =
    rw (ends_otherwise (tests_of c.args.self.now.defs.now) (tests_of c.args.self.now.own) c.args.self.now.whole
    c.args.ns.now c.args.name.now (sym c.is_named_action.ensures ∙ c.if-not-is_named_action.true))
    (record { defs = refl; own = refl; uses = sym (append-nil c.args.self.now.uses.items) })
