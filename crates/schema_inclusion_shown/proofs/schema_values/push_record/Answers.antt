use Rattle.std.proofs.Common.{ap, sym, ◌∙◌}
use Rattle.std.proofs.lemmas.Result.{on_ok_weaker}
use Rattle.schema_inclusion_values.specs.Seen.{entries_value}
use Rattle.schema_inclusion_shown.specs.ValueTexts.{record_behind}
use Rattle.schema_inclusion_shown.proofs.Growing.{then, so}
use Rattle.schema_inclusion_shown.proofs.Rowed.{behind_filled}
use Rattle.schema_inclusion_shown.proofs.schema_values.push_record.Goals as goal

pub returns : goal.returns
returns c = on_ok_weaker c.push_entries.result
    (λ e. so (then c.in_ok-push.ensures e)
    (behind_filled c.args.words.now c.as_slice-attrs.result.now (sym c.is_empty.ensures ∙ c.if-is_empty.false)
    ∙ ap (λ es. record_behind c.args.words.now (entries_value es)) c.as_slice-attrs.ensures)) c.push_entries.ensures
