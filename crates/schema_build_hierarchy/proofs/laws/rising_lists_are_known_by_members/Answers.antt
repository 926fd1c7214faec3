use Rattle.schema_build_hierarchy.proofs.KnownByMembers.{known_by_members}
use Rattle.schema_build_hierarchy.proofs.laws.rising_lists_are_known_by_members.Goals as goal

pub returns : goal.returns
returns g c = known_by_members
