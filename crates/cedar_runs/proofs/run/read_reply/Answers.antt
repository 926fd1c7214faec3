use Rattle.cedar_runs.specs.Reports.{read_fault_report, too_long_report}
use Rattle.cedar_runs.specs.Runs.{AsksToRead, IsReported, device, planned, read_fault}
use Rattle.cedar_runs.proofs.Planned.{so, cut_short, input_reported}
use Rattle.cedar_runs.proofs.run.read_reply.Goals as goal

pub returns-in-Ok-clause-reported : goal.returns-in-Ok-clause-reported
returns-in-Ok-clause-reported g c = λ words asks own.
    let source = device g.S.Source.left g.S.Source.faults c.args.source.now c.read_input.new.source in
    input_reported (AsksToRead g.P.Program.asks g.P.Program.reads words) (g.P.Program.planned words) source
    c.input_reply.result c.deref.result.now c.in-Ok.bytes.items c.deref.ensures.value
    (c.args.command.now, asks, own) c.in-Ok.ensures.whole c.in-Ok.ensures.end
    (c.read_input.ensures.steady (λ e. cc)) (c.input_reply.ensures words asks own)

pub returns-in-Err-Failed-clause-reported : goal.returns-in-Err-Failed-clause-reported
returns-in-Err-Failed-clause-reported g c = λ words asks own.
    let source = device g.S.Source.left g.S.Source.faults c.args.source.now c.read_input.new.source in
    so (IsReported (AsksToRead g.P.Program.asks g.P.Program.reads words) (g.P.Program.planned words) source)
    c.line.result read_fault_report
    (read_fault (c.args.command.now, asks, own)
    (c.read_input.ensures.failed (rw c.in-Err-Failed.field-0-is at c.in-Err-Failed.is))) c.line.ensures

pub returns-in-Err-TooLong-clause-reported : goal.returns-in-Err-TooLong-clause-reported
returns-in-Err-TooLong-clause-reported g c = λ words asks own.
    let source = device g.S.Source.left g.S.Source.faults c.args.source.now c.read_input.new.source in
    let reads = AsksToRead g.P.Program.asks g.P.Program.reads words in
    let long = c.read_input.ensures.too_long (rw c.in-Err-TooLong.field-0-is at c.in-Err-TooLong.is) in
    so (IsReported reads (g.P.Program.planned words) source) c.too_long.result too_long_report
    (planned long.0 long.1 (c.long_inputs.ensures words long.0 c.args.command.now asks own long.2)
    (cut_short reads source (c.args.command.now, asks, own))
    (c.read_input.ensures.steady (λ e. cc))) c.too_long.ensures
