use Rattle.std.proofs.Common.{sym, subst}
use Rattle.serde_json.specs.View.{members_view}
use Rattle.schema_compat_types.specs.declared.types.SchemaTypeVariant.TheVariants as variant
use Rattle.schema_compat_shapes.specs.OldTypes.{SaysOldVariant, old_extension}
use Rattle.schema_compat_shapes.proofs.types.read_extension.Goals as goal

pub returns : goal.returns
returns c =
    let ms = members_view c.args.members.now.entries in
    subst (λ n. SaysOldVariant ms (variant.Extension n)) (sym c.in_ok-name.ensures)
    (old_extension ms c.text_in.result.now c.requires.word c.text_in.ensures)
