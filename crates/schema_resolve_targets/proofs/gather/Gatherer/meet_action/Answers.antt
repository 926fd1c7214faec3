use Rattle.std.proofs.Common.{◌≡◌, Some, find, not, refl, sym, ap, ◌∙◌, append-nil}
use Rattle.std.specs.Option.{option_copied, option_map}
use Rattle.cedar_identifiers.specs.Candidates.{candidates}
use Rattle.cedar_identifiers.specs.declared.raw_name.RawName.{RawName}
use Rattle.cedar_identifiers.specs.declared.reference_type.ReferenceType.TheVariants.{Entity}
use Rattle.schema_json.specs.Actions.{written_type}
use Rattle.schema_resolve_definitions.specs.Tests.{tests_of}
use Rattle.schema_resolve_targets.specs.Gathered.{uids}
use Rattle.schema_resolve_targets.specs.Qualified.{in_namespace, type_in_namespace}
use Rattle.schema_resolve_targets.specs.Targets.{is_action}
use Rattle.schema_resolve_targets.specs.Tried.{candidate}
use Rattle.schema_resolve_targets.specs.Undefined.{action_reference}
use Rattle.schema_resolve_targets.proofs.Gathering.{missed, uids_more}
use Rattle.schema_resolve_targets.proofs.gather.Gatherer.meet_action.Goals as goal

pub returns-in_ok-push : goal.returns-in_ok-push
returns-in_ok-push c =
    let ns = option_copied c.name_of-ns.result in
    let t = tests_of c.args.self.now.defs.now in
    let found : option_map (candidate ns c.in_ok-ty.ty.name) c.find_action.result
    ≡ find (is_action t c.args.id.now) (candidates ns (written_type c.args.ty.now))
    = c.find_action.ensures ∙ ap (λ (name : RawName). find (is_action t c.args.id.now) (candidates ns name.name))
    c.in_ok-ty.ensures in
    rw (← c.name_of-ns.ensures)
    (rw (missed _ c.find_action.result _
    (action_reference c.args.id.now (Some (type_in_namespace ns c.args.id.now c.args.ty.now)))
    (c.is_none.ensures ∙ ap not c.if-is_none.true) found)
    record {
      defs = refl;
      types = sym (append-nil c.args.self.now.types.items);
      actions = ap uids c.in_ok-push.ensures.items
          ∙ uids_more c.args.self.now.actions.items c.with_type.result (c.with_type.ensures.id ∙ c.in_ok-id.ensures)
          (c.with_type.ensures.ty ∙ ap Some (c.in_ok-ty-2.ensures ∙ ap (in_namespace ns Entity) c.in_ok-ty.ensures));
    })
