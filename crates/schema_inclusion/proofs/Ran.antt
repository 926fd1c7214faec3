-- What a run that is done wrote.
use Rattle.std.proofs.Common.{◌≡◌, ℕ, List, refl}
use Rattle.cedar_runs.specs.declared.status.Status.{Status}
use Rattle.cedar_runs.specs.declared.status.Status.TheVariants.{Done, Refused, Usage, ReadFault, WriteFault}
use Rattle.cedar_runs.specs.declared.status.Status.TheVariants.{TooLong, Memory}
use Rattle.cedar_runs.specs.Reports.{Report}
use Rattle.cedar_runs.specs.Runs.{Device, AsksToRead, LeftAs, IsReported, planned, read_fault, TookWhole, IsDelivered}
use Rattle.cedar_runs.specs.Runs.{whole, out_failed, err_failed, delivered, wanted_memory}
use Rattle.cedar_io.specs.Input.{HadLeft}
use Rattle.schema_inclusion.specs.Plans.{Asks, Reads, AreTwoTexts, IsTextsReport, compared, old_refused, new_refused}
use Rattle.schema_inclusion.specs.Plans.{IsInclusionReport, too_long, not_two, two, IsInclusionPlan, usage, asked}
use Rattle.schema_inclusion.specs.Plans.{IsInclusionRun, ComparedBoth}
use Rattle.schema_inclusion.specs.declared.run.Include.{Include}

refused_done : Refused ≡ Done → ⊥
refused_done e = cc

usage_done : Usage ≡ Done → ⊥
usage_done e = cc

read_fault_done : ReadFault ≡ Done → ⊥
read_fault_done e = cc

write_fault_done : WriteFault ≡ Done → ⊥
write_fault_done e = cc

too_long_done : TooLong ≡ Done → ⊥
too_long_done e = cc

memory_done : Memory ≡ Done → ⊥
memory_done e = cc

done_too_long : Done ≡ TooLong → ⊥
done_too_long e = cc

module _ (words : List (List ℕ)) (source out err : Device) where
  texts_done : (c : Include) → Asks words c → (bytes : List ℕ) (report : Report) → HadLeft source.before bytes
      → source.faults_after ≡ source.faults_before → (old new : List ℕ) → AreTwoTexts bytes old new
      → IsTextsReport c.table old new report → LeftAs (AsksToRead Asks Reads words) source report.status
      → TookWhole out report.out → TookWhole err report.err → report.status ≡ Done → ComparedBoth words source out err
  texts_done c a bytes report had still old new texts (compared found h) l o e d = record {
    command = c;
    asks = a;
    bytes = bytes;
    old_text = old;
    new_text = new;
    found = found;
    read = had;
    end = l.end (c, a, tt) done_too_long;
    steady = still;
    texts = texts;
    answer = h;
    written = o.took;
    silent = e.nothing refl;
  }
  texts_done c a bytes report had still old new texts (old_refused f n h) l o e d = absurd (refused_done d)
  texts_done c a bytes report had still old new texts (new_refused f n m h) l o e d = absurd (refused_done d)

  answered_done : (c : Include) → Asks words c → (bytes : List ℕ) (report : Report) → HadLeft source.before bytes
      → source.faults_after ≡ source.faults_before → IsInclusionReport c.table bytes report
      → LeftAs (AsksToRead Asks Reads words) source report.status → TookWhole out report.out
      → TookWhole err report.err → report.status ≡ Done → ComparedBoth words source out err
  answered_done c a bytes report had still (too_long h) l o e d = absurd (too_long_done d)
  answered_done c a bytes report had still (not_two s n) l o e d = absurd (refused_done d)
  answered_done c a bytes report had still (two s old new texts h) l o e d =
      texts_done c a bytes report had still old new texts h l o e d

  planned_done : (bytes : List ℕ) (report : Report) → HadLeft source.before bytes
      → source.faults_after ≡ source.faults_before → IsInclusionPlan words bytes report
      → LeftAs (AsksToRead Asks Reads words) source report.status → TookWhole out report.out
      → TookWhole err report.err → report.status ≡ Done → ComparedBoth words source out err
  planned_done bytes report had still (usage h) l o e d = absurd (usage_done d)
  planned_done bytes report had still (asked c a h) l o e d = answered_done c a bytes report had still h l o e d

  delivered_done : (status : Status) (report : Report)
      → IsReported (AsksToRead Asks Reads words) (IsInclusionPlan words) source report
      → IsDelivered out err report status → status ≡ Done → ComparedBoth words source out err
  delivered_done status report (planned bytes had p l still) (whole o e) d =
      planned_done bytes report had still p l o e d
  delivered_done status report (read_fault i w) (whole o e) d = absurd (read_fault_done d)
  delivered_done status report h (out_failed f s) d = absurd (write_fault_done d)
  delivered_done status report h (err_failed o f) d = absurd (write_fault_done d)

  pub run_done : (status : Status) → IsInclusionRun words source out err status → status ≡ Done
      → ComparedBoth words source out err
  run_done status (delivered report h k) d = delivered_done status report h k d
  run_done status (wanted_memory u o e) d = absurd (memory_done d)
