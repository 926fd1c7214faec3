use Rattle.std.proofs.Common.{subst, ◌∙◌}
use Rattle.serde_json.specs.View.{members_view}
use Rattle.serde_json.specs.Find.{get_member}
use Rattle.schema_json_shapes.specs.Said.{IsOptional, IsType}
use Rattle.schema_json_shapes.proofs.EntityKinds.{shape_some, shape_none}
use Rattle.schema_json_shapes.proofs.entity_types.shape_at.Goals as goal

pub returns-in-Some : goal.returns-in-Some
returns-in-Some c =
    let o = get_member c.args.name.now (members_view c.args.members.now.entries) in
    (c.in_ok-ty.ensures.0, shape_some o c.in-Some.ty (subst (IsOptional IsType o) c.in-Some.is c.in_ok-ty.ensures.1))

pub returns-in-None : goal.returns-in-None
returns-in-None c =
    let o = get_member c.args.name.now (members_view c.args.members.now.entries) in (
      c.in_ok-ty.ensures.0,
      shape_none o c.into_inner.result
          (subst (IsOptional IsType o) c.in-None.is c.in_ok-ty.ensures.1) (c.into_inner.ensures ∙ c.default.ensures),
    )
