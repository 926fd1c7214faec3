use Rattle.std.proofs.Common.{refl, sym, subst}
use Rattle.schema_syntax.specs.ParseAnswers.{IsErrorOf, syntax}
use Rattle.schema_syntax.specs.SyntaxFaults.{IsSyntaxFault}
use Rattle.schema_syntax.proofs.schema_parser.refused.Goals as goal

pub returns-in-Fault : goal.returns-in-Fault
returns-in-Fault c text h =
    let s : IsSyntaxFault text c.in-Fault.fault = rw c.in-Fault.is at h in
    rw c.only.ensures (
      c.error_of.result,
      refl,
      subst (IsErrorOf text) (sym c.error_of.ensures)
          (syntax c.in-Fault.fault s),
    )
