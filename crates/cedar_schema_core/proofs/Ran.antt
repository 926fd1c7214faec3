-- What follows from how a run went.
use Rattle.std.proofs.Common.{◌≡◌, ℕ, List, Some, refl, sym, subst, MatchOption}
use Rattle.cedar_runs.specs.declared.status.Status.{Status}
use Rattle.cedar_runs.specs.declared.status.Status.TheVariants.{Done, Refused, Usage, ReadFault, WriteFault}
use Rattle.cedar_runs.specs.declared.status.Status.TheVariants.{NotText, TooLong, Memory}
use Rattle.cedar_schema_core.specs.declared.command.Command.{Command}
use Rattle.cedar_io.specs.Input.{HadLeft}
use Rattle.cedar_schema_core.specs.Commands.{Asks, own_text, ReadsInput}
use Rattle.cedar_runs.specs.Reports.{Report, too_long, not_text, answered}
use Rattle.cedar_schema_core.specs.Plan.{IsAnswer, refused, done, IsInputPlan, IsPlan, usage, asked, made}
use Rattle.cedar_runs.specs.Runs.{Device, LeftAs, IsReported, planned, read_fault, TookWhole, IsDelivered, whole}
use Rattle.cedar_runs.specs.Runs.{out_failed, err_failed, delivered, wanted_memory}
use Rattle.cedar_schema_core.specs.Run.{AsksForInput, IsToolRun, Completed, ReadWhole, WorksOn}
use Rattle.cedar_schema_core.proofs.OnePlan.{no_reader}

-- these statuses are not `Done`
refused_done : Refused ≡ Done → ⊥
refused_done e = cc

usage_done : Usage ≡ Done → ⊥
usage_done e = cc

read_fault_done : ReadFault ≡ Done → ⊥
read_fault_done e = cc

write_fault_done : WriteFault ≡ Done → ⊥
write_fault_done e = cc

not_text_done : NotText ≡ Done → ⊥
not_text_done e = cc

too_long_done : TooLong ≡ Done → ⊥
too_long_done e = cc

memory_done : Memory ≡ Done → ⊥
memory_done e = cc

done_too_long : Done ≡ TooLong → ⊥
done_too_long e = cc

module _ (words : List (List ℕ)) (source out err : Device) where
  abbrev pub CompletedBy : Type 0
  CompletedBy = (c : Command) × Asks words c × Completed c source out err

  works_read : (c : Command) (bytes : List ℕ) → ReadsInput c → ReadWhole source bytes → WorksOn c source bytes
  works_read c bytes r h =
      subst (λ o. MatchOption o (ReadWhole source bytes) (λ own. (own ≡ bytes) × source.Same)) (sym r) h

  works_own : (c : Command) (text : List ℕ) → own_text c ≡ Some text → source.Same → WorksOn c source text
  works_own c text own same =
      subst (λ o. MatchOption o (ReadWhole source text) (λ own. (own ≡ text) × source.Same)) (sym own) (refl, same)

  answered_done : (c : Command) → Asks words c → ReadsInput c → (bytes : List ℕ) (report : Report)
      → HadLeft source.before bytes → source.faults_after ≡ source.faults_before
      → IsAnswer c bytes report → LeftAs (AsksForInput words) source report.status → TookWhole out report.out
      → TookWhole err report.err
      → report.status ≡ Done → CompletedBy
  answered_done c a r bytes report had still (refused f n h) l o e d = absurd (refused_done d)
  answered_done c a r bytes report had still (done text w h) l o e d = (
    c,
    a,
    record {
      bytes = bytes;
      text = text;
      warnings = w;
      works = works_read c bytes r (record { read = had; end = l.end (c, a, r) done_too_long; steady = still });
      writes = h;
      written = o.took;
      warned = e.took;
      silent = λ none. e.nothing (rw none refl);
    },
  )

  planned_done : (c : Command) → Asks words c → ReadsInput c → (bytes : List ℕ) (report : Report)
      → HadLeft source.before bytes → source.faults_after ≡ source.faults_before
      → IsInputPlan c bytes report → LeftAs (AsksForInput words) source report.status → TookWhole out report.out
      → TookWhole err report.err → report.status ≡ Done → CompletedBy
  planned_done c a r bytes report had still (too_long h) l o e d = absurd (too_long_done d)
  planned_done c a r bytes report had still (not_text s h) l o e d = absurd (not_text_done d)
  planned_done c a r bytes report had still (answered s u h) l o e d =
      answered_done c a r bytes report had still h l o e d

  reported_done : (bytes : List ℕ) (report : Report) → HadLeft source.before bytes
      → source.faults_after ≡ source.faults_before → IsPlan words bytes report
      → LeftAs (AsksForInput words) source report.status → TookWhole out report.out → TookWhole err report.err
      → report.status ≡ Done → CompletedBy
  reported_done bytes report had still (usage h) l o e d = absurd (usage_done d)
  reported_done bytes report had still (asked c a r p) l o e d = planned_done c a r bytes report had still p l o e d
  reported_done bytes report had still (made c a text own written w h) l o e d = (
    c,
    a,
    record {
      bytes = text;
      text = written;
      warnings = w;
      works = works_own c text own (l.unread (λ r. no_reader words c text a own r.0 r.1 r.2));
      writes = h;
      written = o.took;
      warned = e.took;
      silent = λ none. e.nothing (rw none refl);
    },
  )

  delivered_done : (status : Status) (report : Report) → IsReported (AsksForInput words) (IsPlan words) source report
      → IsDelivered out err report status → status ≡ Done → CompletedBy
  delivered_done status report (planned bytes had p l still) (whole o e) d =
      reported_done bytes report had still p l o e d
  delivered_done status report (read_fault i w) (whole o e) d = absurd (read_fault_done d)
  delivered_done status report h (out_failed f s) d = absurd (write_fault_done d)
  delivered_done status report h (err_failed o f) d = absurd (write_fault_done d)

  -- done means that a command was asked for, and that what it writes of the input's meaning was written
  pub completed : (status : Status) → IsToolRun words source out err status → status ≡ Done → CompletedBy
  completed status (delivered report h k) d = delivered_done status report h k d
  completed status (wanted_memory u o e) d = absurd (memory_done d)
