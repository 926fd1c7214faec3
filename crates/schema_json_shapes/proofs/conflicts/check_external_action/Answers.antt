use Rattle.std.proofs.Common.{inl, inr, sym, ◌∙◌}
use Rattle.serde_json.specs.View.{members_view}
use Rattle.schema_json_shapes.specs.declared.shape_fault.ShapeFault.TheVariants.{ExternalConflict}
use Rattle.schema_json_shapes.specs.Walk.{present, is_given, not_external_action}
use Rattle.schema_json_shapes.proofs.Beside.{conflict_named, no_conflict, asked}
use Rattle.schema_json_shapes.proofs.conflicts.check_external_action.Goals as goal

pub returns-in-Some : goal.returns-in-Some
returns-in-Some c =
    let ns = present is_given not_external_action (members_view c.args.members.now.entries) in
    let e = c.in-Some.ensures.some in
    inr (inl (asked _ _ _ (sym c.is_external.ensures ∙ c.if-not-is_external.false)
    (conflict_named ExternalConflict ns c.in-Some.fields (e.0 ∙ c.in_ok-given.ensures) e.1)))

pub returns-in-None : goal.returns-in-None
returns-in-None c =
    let ns = present is_given not_external_action (members_view c.args.members.now.entries) in (
      (
        asked _ _ _ (sym c.is_external.ensures ∙ c.if-not-is_external.false)
            (no_conflict ExternalConflict ns c.in_ok-given.field-0.items c.in_ok-given.ensures c.in-None.ensures.none),
        tt,
      ),
      tt,
    )
