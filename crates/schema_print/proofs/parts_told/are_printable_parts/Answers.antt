use Rattle.std.proofs.Common.{refl}
use Rattle.std.proofs.lemmas.Bool.{false≢true}
use Rattle.schema_json_walk.specs.Walk.{fragment_parts}
use Rattle.schema_print.specs.PrintableTests.{IsPrintablePart}
use Rattle.schema_print.proofs.Tested.{all_taken, one_refused}
use Rattle.schema_print.proofs.parts_told.are_printable_parts.Goals as goal

pub returns-in-Ok : goal.returns-in-Ok
returns-in-Ok c = (
  λ h. all_taken (λ s e. IsPrintablePart s.fragment.now s.table.now e.0 e.1) _ _ (fragment_parts c.args.fragment.now)
      c.in-Ok.ensures.taken,
  λ h. refl,
)

pub returns-in-Err : goal.returns-in-Err
returns-in-Err c = (
  λ h. absurd (false≢true h),
  λ all. absurd (one_refused (λ s e. IsPrintablePart s.fragment.now s.table.now e.0 e.1) _
      (fragment_parts c.args.fragment.now) _ c.in-Err.ensures.refused all),
)
