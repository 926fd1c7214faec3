use Rattle.schema_registry.proofs.Meanings.{same_entry}
use Rattle.schema_registry.proofs.laws.entries_are_meanings.Goals as goal

pub returns : goal.returns
returns c = same_entry
