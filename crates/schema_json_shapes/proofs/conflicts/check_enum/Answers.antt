use Rattle.std.proofs.Common.{inl, inr, sym, ◌∙◌}
use Rattle.serde_json.specs.View.{members_view}
use Rattle.schema_json_shapes.specs.declared.shape_fault.ShapeFault.TheVariants.{EnumConflict}
use Rattle.schema_json_shapes.specs.Walk.{present, is_there, not_enum}
use Rattle.schema_json_shapes.proofs.Beside.{conflict_named, no_conflict, asked}
use Rattle.schema_json_shapes.proofs.conflicts.check_enum.Goals as goal

pub returns-in-Some : goal.returns-in-Some
returns-in-Some c =
    let ns = present is_there not_enum (members_view c.args.members.now.entries) in
    let e = c.in-Some.ensures.some in
    inr (inl (asked _ _ _ (sym c.is_there.ensures ∙ c.if-not-is_there.false)
    (conflict_named EnumConflict ns c.in-Some.fields (e.0 ∙ c.in_ok-there.ensures) e.1)))

pub returns-in-None : goal.returns-in-None
returns-in-None c =
    let ns = present is_there not_enum (members_view c.args.members.now.entries) in (
      (
        asked _ _ _ (sym c.is_there.ensures ∙ c.if-not-is_there.false)
            (no_conflict EnumConflict ns c.in_ok-there.field-0.items c.in_ok-there.ensures c.in-None.ensures.none),
        tt,
      ),
      tt,
    )
