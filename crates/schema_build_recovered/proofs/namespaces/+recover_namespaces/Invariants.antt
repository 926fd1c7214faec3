use Rattle.std.proofs.Common.{length}
use Rattle.schema_build_recovered.proofs.namespaces.+recover_namespaces.Given as goal

abbrev pub decreases-recover_namespaces : goal.decreases-recover_namespaces
decreases-recover_namespaces l = length l.namespaces.now
