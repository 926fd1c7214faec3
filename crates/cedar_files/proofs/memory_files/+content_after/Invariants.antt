use Rattle.std.proofs.Common.{length}
use Rattle.cedar_files.proofs.memory_files.+content_after.Given as goal

abbrev pub decreases-content_after : goal.decreases-content_after
decreases-content_after l = length l.changes.now
