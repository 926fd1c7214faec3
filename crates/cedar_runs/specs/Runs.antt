-- What a run did. A source or a sink is known by what it tells before and after.
use Rattle.std.specs.Prelude.{◌≡◌, ◌≢◌, ℕ, List, [], Option}
use Rattle.cedar_io.specs.Outside.{Rose, IsEnd, Appends, AppendsPart}
use Rattle.cedar_io.specs.Input.{HadLeft}
use Rattle.cedar_runs.specs.declared.status.Status.{Status}
use Rattle.cedar_runs.specs.declared.status.Status.TheVariants.{WriteFault, TooLong, Memory}
use Rattle.cedar_runs.specs.Reports.{Report, read_fault_report}

-- a source or a sink before and after: what it tells, its count of faults, and that it stands as before
pub record Device : Type 1 where
  pub before : Option (List ℕ)
  pub after : Option (List ℕ)
  pub faults_before : ℕ
  pub faults_after : ℕ
  pub Same : Type 0

-- the source or sink that was old and is new, by what its kind tells and counts
abbrev pub device : {D : Type 0} → (D → Option (List ℕ)) → (D → ℕ) → D → D → Device
device told faults old new = record
    { before = told old; after = told new; faults_before = faults old; faults_after = faults new; Same = new ≡ old }

-- the words ask for a command that reads the input
abbrev pub AsksToRead : {C : Type 0} → (List (List ℕ) → C → Type 0) → (C → Type 0) → List (List ℕ) → Type 0
AsksToRead {C} asks reads words = (c : C) × asks words c × reads c

-- the text was taken whole; where there is none the sink stands as before
pub record TookWhole (sink : Device) (text : List ℕ) : Type 0 where
  pub took : Appends sink.before text sink.after
  pub nothing : text ≡ [] → sink.Same

-- the sink failed, and took a front of the text that isn't all of it
pub record FailedWithin (sink : Device) (text : List ℕ) : Type 0 where
  pub took : AppendsPart sink.before text sink.after
  pub counted : Rose sink.faults_before sink.faults_after

-- how the texts of a report were written: both whole, or a sink failed, which ended the run
pub data IsDelivered (out err : Device) (report : Report) : Status → Type 0 where
  whole : TookWhole out report.out → TookWhole err report.err → IsDelivered out err report report.status
  out_failed : FailedWithin out report.out → err.Same → IsDelivered out err report WriteFault
  err_failed : TookWhole out report.out → FailedWithin err report.err → IsDelivered out err report WriteFault

-- no count of faults rose
pub record NoneCounted (source out err : Device) : Type 0 where
  pub none_read : Rose source.faults_before source.faults_after → ⊥
  pub none_out : Rose out.faults_before out.faults_after → ⊥
  pub none_err : Rose err.faults_before err.faults_after → ⊥

-- Reads: the input is to be read. So the source stands as before where the input is not to be read, and at its end
-- where it was read whole
pub record LeftAs (Reads : Type 0) (source : Device) (status : Status) : Type 0 where
  pub unread : (Reads → ⊥) → source.Same
  pub end : Reads → status ≢ TooLong → IsEnd source.after

-- Plan: which report is planned for the bytes of the input
module _ (Reads : Type 0) (Plan : List ℕ → Report → Type 0) where
  -- the report: the plan for the bytes that were left, and no read failed; or a read fault, which was counted
  pub data IsReported (source : Device) : Report → Type 0 where
    planned : (bytes : List ℕ) → HadLeft source.before bytes → {report : Report} → Plan bytes report
        → LeftAs Reads source report.status → source.faults_after ≡ source.faults_before → IsReported source report
    read_fault : Reads → Rose source.faults_before source.faults_after → IsReported source read_fault_report

  -- the run, by its cause: a report was delivered, or memory was out before the first write
  pub data IsRun (source out err : Device) : Status → Type 0 where
    delivered : (report : Report) → {status : Status} → IsReported source report
        → IsDelivered out err report status → IsRun source out err status
    wanted_memory : ((Reads → ⊥) → source.Same) → out.Same → err.Same → IsRun source out err Memory
