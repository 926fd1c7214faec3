use Rattle.laws_print.specs.Resolving.Alike.{as_resolved}
use Rattle.laws_print.proofs.Resolving.Printables.{same_defined, found_alike, resolved_with}
use Rattle.laws_print.proofs.resolution.printable_fragments_resolve_alike.Goals as goal

pub returns : goal.returns
returns c = record {
  same_defined = λ f table. same_defined f table;
  found = λ f table printable. found_alike f table printable;
  alike = λ f table printable h. resolved_with f table printable as_resolved h;
}
