-- What a program reports, and what follows from how its run went.
use Rattle.std.proofs.Common.{◌≡◌, ◌≤◌, ◌⊎◌, ℕ, List, [], length, Result, Option, Some, None, inl, inr, refl, sym}
use Rattle.std.proofs.Common.{ap, ◌∙◌, subst, arith, MatchOption}
use Rattle.std.specs.Result.{IfOk}
use Rattle.std.specs.declared.alloc.AllocError.{AllocError}
use Rattle.std.proofs.lemmas.Result.{IfOk-weaker}
use Rattle.cedar_io.specs.Input.{HadLeft}
use Rattle.cedar_io.specs.Outside.{Rose, IsEnd}
use Rattle.cedar_runs.specs.declared.reply.Reply.{Reply}
use Rattle.cedar_runs.specs.declared.status.Status.{Status}
use Rattle.cedar_runs.specs.declared.status.Status.TheVariants.{TooLong, Memory}
use Rattle.cedar_runs.specs.Reports.{Report, report_of, read_fault_report}
use Rattle.cedar_runs.specs.Runs.{Device, LeftAs, IsReported, planned, read_fault, whole, out_failed}
use Rattle.cedar_runs.specs.Runs.{err_failed, IsRun, delivered, wanted_memory, NoneCounted}

-- some bytes were left
pub had_some : (o : Option (List ℕ)) → (bytes : List ℕ) × HadLeft o bytes
had_some None = ([], tt)
had_some (Some left) = (left, refl)

-- what was left is what is told
told : (o : Option (List ℕ)) (all bytes : List ℕ) → o ≡ Some all → HadLeft o bytes → all ≡ bytes
told None all bytes e h = cc
told (Some left) all bytes e h = let same : left ≡ all = cc in sym same ∙ h

-- the reply says what the report says
pub so : (P : Report → Type 0) (r : Result Reply AllocError) (report : Report) → P report
    → IfOk r (λ reply. report_of reply ≡ report) → IfOk r (λ reply. P (report_of reply))
so P r report h is = IfOk-weaker r _ _ (λ reply e. subst P (sym e) h) is

-- the words ask for no command, where none is found
pub none_asked : {C : Type 0} (Asks : C → Type 0) (found : Option C) → found ≡ None
    → MatchOption found ((c : C) → Asks c → ⊥) Asks → (c : C) → Asks c → ⊥
none_asked {C} Asks found is h = subst (λ o. MatchOption o ((c : C) → Asks c → ⊥) Asks) is h

-- the words ask for the command that is found
pub is_asked : {C : Type 0} (Asks : C → Type 0) (found : Option C) (c : C) → found ≡ Some c
    → MatchOption found ((d : C) → Asks d → ⊥) Asks → Asks c
is_asked {C} Asks found c is h = subst (λ o. MatchOption o ((d : C) → Asks d → ⊥) Asks) is h

-- a command that is not found to have a reply of its own reads the input
pub reads_none : (R : Type 0) (P : Reply → Type 0) (own : Option Reply) → own ≡ None → MatchOption own R P → R
reads_none R P own is h = subst (λ o. MatchOption o R P) is h

-- and what is found is a reply of its own
pub own_some : (R : Type 0) (P : Reply → Type 0) (own : Option Reply) (reply : Reply) → own ≡ Some reply
    → MatchOption own R P → P reply
own_some R P own reply is h = subst (λ o. MatchOption o R P) is h

module _ (Reads : Type 0) (source : Device) where
  -- where the input is not read, the source stands as before
  pub unread : (Reads → ⊥) → source.Same → (status : Status) → LeftAs Reads source status
  unread none same status = record { unread = λ h. same; end = λ r h. absurd (none r) }

  -- where the whole input was read, the source is at its end
  at_end : Reads → IsEnd source.after → (status : Status) → LeftAs Reads source status
  at_end reads end status = record { unread = λ h. absurd (h reads); end = λ r h. end }

  -- where the input is too long
  pub cut_short : Reads → LeftAs Reads source TooLong
  cut_short reads = record { unread = λ h. absurd (h reads); end = λ r h. absurd (h refl) }

module _ (Reads : Type 0) (Plan : List ℕ → Report → Type 0) (source : Device) where
  -- the reply for the whole input
  pub input_reported : (r : Result Reply AllocError) (lent bytes : List ℕ) → lent ≡ bytes → Reads
      → HadLeft source.before bytes → IsEnd source.after → source.faults_after ≡ source.faults_before
      → IfOk r (λ reply. Plan lent (report_of reply))
      → IfOk r (λ reply. IsReported Reads Plan source (report_of reply))
  input_reported r lent bytes same reads had end steady h =
      IfOk-weaker r _ _ (λ reply p. planned bytes had (subst (λ b. Plan b (report_of reply)) same p)
      (at_end Reads source reads end (report_of reply).status) steady) h

  module _ (one : (bytes : List ℕ) (report other : Report) → Plan bytes report → Plan bytes other → report ≡ other)
      (bytes : List ℕ) (left : source.before ≡ Some bytes) (plan : Report) (is : Plan bytes plan) where
    -- the report is the plan
    is_plan : (all : List ℕ) (report : Report) → HadLeft source.before all → Plan all report → report ≡ plan
    is_plan all report had p =
        one bytes report plan (subst (λ b. Plan b report) (sym (told source.before bytes all left had)) p) is

    -- the report is the plan, where no read failed
    same_report : (report : Report) → IsReported Reads Plan source report
        → (report ≡ plan) ⊎ (report ≡ read_fault_report)
    same_report report (planned all had p l s) = inl (is_plan all report had p)
    same_report report (read_fault i w) = inr refl

    -- with no fault, the status is that of the plan, or out of memory
    pub completes : (out err : Device) (status : Status) → IsRun Reads Plan source out err status
        → NoneCounted source out err → (status ≡ plan.status) ⊎ (status ≡ Memory)
    completes out err status (delivered report (planned all had p l s) (whole o e)) n =
        inl (ap (λ r. r.status) (is_plan all report had p))
    completes out err status (delivered report (read_fault i w) (whole o e)) n = absurd (n.none_read w)
    completes out err status (delivered report h (out_failed f s)) n = absurd (n.none_out f.counted)
    completes out err status (delivered report h (err_failed o f)) n = absurd (n.none_err f.counted)
    completes out err status (wanted_memory u o e) n = inr refl

    -- to the output goes no more than the plan has
    pub within_out : (report : Report) → IsReported Reads Plan source report → length report.out ≤ length plan.out
    within_out report h = elim (same_report report h) [
      | inl e ↦ let k : length report.out ≡ length plan.out = ap (λ r. length r.out) e in omega arith
      | inr e ↦ let k : length report.out ≡ 0 = ap (λ r. length r.out) e in omega arith
    ]

    -- and to the error output no more than that, or the line of a read fault
    pub within_err : (report : Report) (n : ℕ) → IsReported Reads Plan source report → length plan.err ≤ n
        → (Rose source.faults_before source.faults_after → length read_fault_report.err ≤ n) → length report.err ≤ n
    within_err report n (planned all had p l s) a b =
        let e = is_plan all report had p in
        let k : length report.err ≡ length plan.err = ap (λ r. length r.err) e in omega arith
    within_err report n (read_fault i w) a b = b w
