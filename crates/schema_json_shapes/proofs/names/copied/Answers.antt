use Rattle.std.proofs.Common.{ap, ◌∙◌}
use Rattle.std.specs.Str.{chars}
use Rattle.schema_json_shapes.proofs.names.copied.Goals as goal

pub returns : goal.returns
returns c = (c.in_ok-role.ensures ∙ ap chars c.as_str.ensures, c.in_ok-text.ensures)
