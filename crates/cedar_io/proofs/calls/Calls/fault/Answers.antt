use Rattle.std.proofs.Common.{refl}
use Rattle.cedar_io.proofs.calls.Calls.fault.Goals as goal

pub returns : goal.returns
returns c = rw c.saturating_add-self.ensures refl
