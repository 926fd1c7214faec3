-- What a run of the formatter did.
use Rattle.std.specs.Prelude.{◌≡◌, ℕ, List}
use Rattle.cedar_io.specs.Outside.{IsEnd, Appends}
use Rattle.cedar_io.specs.Input.{HadLeft}
use Rattle.cedar_runs.specs.declared.status.Status.{Status}
use Rattle.cedar_runs.specs.Runs.{Device, AsksToRead, IsRun}
use Rattle.schema_layout_pieces.specs.LaidOut.{IsLaidOut, HaveSamePieces}
use Rattle.schema_layout_texts.specs.Answers.{HasTree, StaysLaidOut}
use Rattle.schema_layout.specs.Plans.{Asks, Reads, IsLayoutPlan}

-- the run, by its cause: what is planned for the words and the input was written, or a device failed, or memory was out
-- before the first write
abbrev pub IsLayoutRun : List (List ℕ) → Device → Device → Device → Status → Type 0
IsLayoutRun words source out err status = IsRun (AsksToRead Asks Reads words) (IsLayoutPlan words) source out err status

-- The whole input was read and no read failed, and the output took the input laid out, and nothing else: a schema with
-- the same tokens and comments, which stays as it is when it is laid out again. The error output stands as before.
pub record LaidOutWhole (source out err : Device) : Type 0 where
  pub text : List ℕ
  pub new : List ℕ
  pub read : HadLeft source.before text
  pub end : IsEnd source.after
  pub steady : source.faults_after ≡ source.faults_before
  pub laid : IsLaidOut text new
  pub pieces : HaveSamePieces text new
  pub schema : HasTree new
  pub fixed : StaysLaidOut new
  pub written : Appends out.before new out.after
  pub silent : err.Same
