use Rattle.std.proofs.Common.{[], ◌∷◌, ◌++◌, not, refl, sym, ap, ◌∙◌, append-nil}
use Rattle.std.specs.Option.{option_copied}
use Rattle.schema_resolve_targets.specs.Gathered.{uids}
use Rattle.schema_resolve_targets.specs.Qualified.{in_namespace}
use Rattle.schema_resolve_targets.specs.Undefined.{type_reference}
use Rattle.schema_resolve_targets.proofs.Gathering.{missed}
use Rattle.schema_resolve_targets.proofs.gather.Gatherer.meet_type.Goals as goal

pub returns-in_ok-push : goal.returns-in_ok-push
returns-in_ok-push c =
    let ns = option_copied c.name_of-ns.result in
    rw (← c.name_of-ns.ensures)
    (rw (missed _ c.find_type.result _ (type_reference (in_namespace ns c.args.kind c.args.name.now))
    (c.is_none.ensures ∙ ap not c.if-is_none.true) c.find_type.ensures.first)
    record {
      defs = refl;
      types = c.in_ok-push.ensures.items
          ∙ ap (λ x. c.args.self.now.types.items ++ x ∷ [])
          (c.in_ok-undefined.ensures ∙ ap (in_namespace ns c.args.kind) c.in_ok-name.ensures);
      actions = sym (append-nil (uids c.args.self.now.actions.items));
    })
