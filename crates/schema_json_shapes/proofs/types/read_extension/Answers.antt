use Rattle.std.proofs.Common.{sym, subst}
use Rattle.std.specs.Prelude.{codes}
use Rattle.serde_json.specs.View.{view, members_view}
use Rattle.schema_json_shapes.specs.declared.name_role.NameRole.TheVariants as role
use Rattle.schema_json_shapes.specs.Walk.{AllMet, named}
use Rattle.schema_json_shapes.specs.Reads.{field_demands}
use Rattle.schema_json_shapes.proofs.Saying.{extension_says}
use Rattle.schema_json_shapes.proofs.types.read_extension.Goals as goal

pub returns : goal.returns
returns c =
    let ms = members_view c.args.members.now.entries in
    let there = c.needed-value.ensures in (
      subst (λ o. AllMet (field_demands (named role.ExtensionType) (codes "name") o)) (sym there)
          c.in_ok-name.ensures.0,
      extension_says ms (view c.needed-value.result.now) c.in_ok-name.name c.requires.word there c.in_ok-name.ensures.1,
    )
