use Rattle.std.proofs.Common.{◌≡◌, drop}
use Rattle.schema_inclusion_values.specs.Ids.{has_text}
use Rattle.schema_inclusion_check.specs.Told.{texts_now}
use Rattle.schema_inclusion_check.proofs.choices.has_text.Given as goal

abbrev pub invariant-loop-other : goal.invariant-loop-other
invariant-loop-other l = has_text (texts_now l.ids) l.id ≡ has_text (texts_now (drop l.other-index l.ids)) l.id
