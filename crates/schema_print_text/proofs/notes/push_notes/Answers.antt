use Rattle.std.proofs.Common.{ap}
use Rattle.std.proofs.lemmas.List.{at_drop_all}
use Rattle.schema_syntax_tokens.specs.Laid.{laid}
use Rattle.laws_written.specs.Printed.{notes_pieces}
use Rattle.schema_print_text.specs.Growing.{then, so, begun, round, adds_all}
use Rattle.schema_print_text.proofs.Laying.{note_step}
use Rattle.schema_print_text.proofs.notes.push_notes.Goals as goal

pub loop-key-init : goal.loop-key-init
loop-key-init c = begun c.args.text.now _

pub loop-key-preserved : goal.loop-key-preserved
loop-key-preserved c =
    round
    (then c.in_ok-push_spaces.ensures
    (then c.in_ok-push.ensures (then (so c.in_ok-push-2.ensures c.as_str.ensures)
    (then c.in_ok-push_value.ensures c.in_ok-push-3.ensures))))
    c.loop-key.invariant
    (note_step c.args.base _ c.loop-key.key-index c.loop-key-item.result c.loop-key-test.true c.loop-key-item.is)

pub returns : goal.returns
returns c =
    so (adds_all c.loop-key.invariant
    (at_drop_all (λ ns. laid (notes_pieces c.args.base ns)) _ c.loop-key.key-index c.loop-key-test.false))
    (ap (λ ns. laid (notes_pieces c.args.base ns)) c.as_slice-key-items.ensures.entries)
