use Rattle.std.proofs.Common.{refl, arith}
use Rattle.cedar_runs.specs.Reports.{report_of}
use Rattle.cedar_runs.specs.Runs.{delivered, wanted_memory}
use Rattle.cedar_runs.proofs.Planned.{completes, within_out, within_err}
use Rattle.cedar_runs.proofs.run.run_program.Goals as goal

pub returns-in-Ok-clause-run : goal.returns-in-Ok-clause-run
returns-in-Ok-clause-run g c = delivered (report_of c.in-Ok.reply) c.in-Ok.ensures.reported c.deliver.ensures.delivered

pub returns-in-Ok-clause-completes : goal.returns-in-Ok-clause-completes
returns-in-Ok-clause-completes g c = λ bytes plan left is none.
    completes _ _ _ (c.one_plan.ensures _) bytes left plan is _ _ c.deliver.result
    (delivered (report_of c.in-Ok.reply) c.in-Ok.ensures.reported c.deliver.ensures.delivered) none

pub returns-in-Err-clause-run : goal.returns-in-Err-clause-run
returns-in-Err-clause-run g c = wanted_memory c.prepare.ensures.unread refl refl

pub returns-in-Ok-clause-out_sure : goal.returns-in-Ok-clause-out_sure
returns-in-Ok-clause-out_sure g c = λ bytes plan left is room.
    c.deliver.ensures.out_sure (let k = within_out _ _ _ (c.one_plan.ensures _) bytes left plan is
    (report_of c.in-Ok.reply) c.in-Ok.ensures.reported in omega arith)

pub returns-in-Ok-clause-err_sure : goal.returns-in-Ok-clause-err_sure
returns-in-Ok-clause-err_sure g c = λ bytes plan left is room line.
    c.deliver.ensures.err_sure (within_err _ _ _ (c.one_plan.ensures _) bytes left plan is (report_of c.in-Ok.reply) _
    c.in-Ok.ensures.reported room line)
