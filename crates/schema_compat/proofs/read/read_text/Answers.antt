use Rattle.std.proofs.Common.{sym, ◌∙◌}
use Rattle.serde_json.specs.View.{view}
use Rattle.schema_json_keys.proofs.Numberless.{no_float}
use Rattle.schema_compat.proofs.read.read_text.Goals as goal
use Rattle.schema_compat.proofs.read.read_text.Goals.{else-found-via-then-found+else-has_float}
use Rattle.schema_compat.proofs.read.read_text.Goals.{else-found-via-else-found}

pub read_whole-requires : goal.read_whole-requires
read_whole-requires c =
    elim c.else-found.branch [
      | else-found-via-then-found+else-has_float w ↦ sym w.has_float.ensures ∙ w.if-has_float.false
      | else-found-via-else-found w ↦ no_float c.args.text.now (view c.args.value.now) c.requires
          (c.in_ok-found.ensures.numbers w.if-found.false)
    ]
