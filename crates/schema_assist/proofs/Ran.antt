-- What a run that is done wrote.
use Rattle.std.proofs.Common.{◌≡◌, ℕ, List, refl}
use Rattle.cedar_runs.specs.declared.status.Status.{Status}
use Rattle.cedar_runs.specs.declared.status.Status.TheVariants.{Done, Refused, Usage, ReadFault, WriteFault}
use Rattle.cedar_runs.specs.declared.status.Status.TheVariants.{NotText, TooLong, Memory}
use Rattle.cedar_runs.specs.Reports.{Report, IsTextReport, too_long, not_text, answered}
use Rattle.cedar_runs.specs.Runs.{Device, AsksToRead, LeftAs, IsReported, planned, read_fault, TookWhole, IsDelivered}
use Rattle.cedar_runs.specs.Runs.{whole, out_failed, err_failed, delivered, wanted_memory}
use Rattle.cedar_io.specs.Input.{HadLeft}
use Rattle.schema_assist.specs.Plans.{Asks, Reads, IsAssistAnswer, done, no_place, fault, IsAssistPlan, usage, asked}
use Rattle.schema_assist.specs.Runs.{IsAssistRun, AssistedWhole}
use Rattle.schema_assist.specs.declared.run.AssistAt.{AssistAt}

refused_done : Refused ≡ Done → ⊥
refused_done e = cc

usage_done : Usage ≡ Done → ⊥
usage_done e = cc

read_fault_done : ReadFault ≡ Done → ⊥
read_fault_done e = cc

write_fault_done : WriteFault ≡ Done → ⊥
write_fault_done e = cc

not_text_done : NotText ≡ Done → ⊥
not_text_done e = cc

too_long_done : TooLong ≡ Done → ⊥
too_long_done e = cc

memory_done : Memory ≡ Done → ⊥
memory_done e = cc

done_too_long : Done ≡ TooLong → ⊥
done_too_long e = cc

module _ (words : List (List ℕ)) (source out err : Device) where
  answered_done : (c : AssistAt) → Asks words c → (bytes : List ℕ) (report : Report) → HadLeft source.before bytes
      → source.faults_after ≡ source.faults_before → IsAssistAnswer c.place c.table bytes report
      → LeftAs (AsksToRead Asks Reads words) source report.status → TookWhole out report.out
      → TookWhole err report.err → report.status ≡ Done → AssistedWhole words source out err
  answered_done c a bytes report had still (no_place h) l o e d = absurd (refused_done d)
  answered_done c a bytes report had still (fault error h) l o e d = absurd (refused_done d)
  answered_done c a bytes report had still (done known found h i) l o e d = record {
    command = c;
    asks = a;
    text = bytes;
    known = known;
    assistance = found;
    read = had;
    end = l.end (c, a, tt) done_too_long;
    steady = still;
    names_known = h;
    stands = i;
    written = o.took;
    silent = e.nothing refl;
  }

  text_done : (c : AssistAt) → Asks words c → (bytes : List ℕ) (report : Report) → HadLeft source.before bytes
      → source.faults_after ≡ source.faults_before → IsTextReport (IsAssistAnswer c.place c.table) bytes report
      → LeftAs (AsksToRead Asks Reads words) source report.status → TookWhole out report.out
      → TookWhole err report.err → report.status ≡ Done → AssistedWhole words source out err
  text_done c a bytes report had still (too_long h) l o e d = absurd (too_long_done d)
  text_done c a bytes report had still (not_text s h) l o e d = absurd (not_text_done d)
  text_done c a bytes report had still (answered s u h) l o e d = answered_done c a bytes report had still h l o e d

  planned_done : (bytes : List ℕ) (report : Report) → HadLeft source.before bytes
      → source.faults_after ≡ source.faults_before → IsAssistPlan words bytes report
      → LeftAs (AsksToRead Asks Reads words) source report.status → TookWhole out report.out
      → TookWhole err report.err → report.status ≡ Done → AssistedWhole words source out err
  planned_done bytes report had still (usage h) l o e d = absurd (usage_done d)
  planned_done bytes report had still (asked c a h) l o e d = text_done c a bytes report had still h l o e d

  delivered_done : (status : Status) (report : Report)
      → IsReported (AsksToRead Asks Reads words) (IsAssistPlan words) source report
      → IsDelivered out err report status → status ≡ Done → AssistedWhole words source out err
  delivered_done status report (planned bytes had p l still) (whole o e) d =
      planned_done bytes report had still p l o e d
  delivered_done status report (read_fault i w) (whole o e) d = absurd (read_fault_done d)
  delivered_done status report h (out_failed f s) d = absurd (write_fault_done d)
  delivered_done status report h (err_failed o f) d = absurd (write_fault_done d)

  pub run_done : (status : Status) → IsAssistRun words source out err status → status ≡ Done
      → AssistedWhole words source out err
  run_done status (delivered report h k) d = delivered_done status report h k d
  run_done status (wanted_memory u o e) d = absurd (memory_done d)
