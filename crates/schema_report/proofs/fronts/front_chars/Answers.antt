use Rattle.std.proofs.Common.{ap, ◌∙◌}
use Rattle.std.specs.Str.{chars}
use Rattle.schema_report.proofs.FrontLemmas.{seam_boundary, front_chars_are}
use Rattle.schema_report.proofs.fronts.front_chars.Goals as goal

pub split_at-requires : goal.split_at-requires
split_at-requires c = seam_boundary _ _ _ c.past_chars-rest.ensures.cut

pub returns : goal.returns
returns c = ap chars c.split_at.ensures.front ∙ front_chars_are _ _ _ c.utf8.text c.past_chars-rest.ensures.cut
