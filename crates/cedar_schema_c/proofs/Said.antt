-- A reply says what its report says.
use Rattle.std.proofs.Common.{◌≡◌, Result, sym, subst}
use Rattle.std.specs.Result.{IfOk}
use Rattle.std.specs.declared.alloc.AllocError.{AllocError}
use Rattle.std.proofs.lemmas.Result.{IfOk-weaker}
use Rattle.cedar_runs.specs.Reports.{Report, report_of}
use Rattle.cedar_runs.specs.declared.reply.Reply.{Reply}

pub so : (P : Report → Type 0) (r : Result Reply AllocError) (report : Report) → P report
    → IfOk r (λ reply. report_of reply ≡ report) → IfOk r (λ reply. P (report_of reply))
so P r report h is = IfOk-weaker r _ _ (λ reply e. subst P (sym e) h) is
