use Rattle.std.proofs.Common.{◌∙◌, ap, Some}
use Rattle.schema_json.proofs.Same.{action_same}
use Rattle.schema_resolve.proofs.rename_items.rename_uid.Goals as goal

pub returns-clause-out : goal.returns-clause-out
returns-clause-out g c =
    action_same g.row.M.Denot g.M.NameText c.with_type.result _ (c.with_type.ensures.id ∙ c.in_ok-clone_in.ensures)
    (c.with_type.ensures.ty ∙ ap Some c.in_ok-ty.ensures.name)
