use Rattle.std.proofs.Common.{refl}
use Rattle.schema_build_types.specs.Standing.{schema_as_built}
use Rattle.schema_build_text.proofs.Uncaptured.{none_alone, uncaptured}
use Rattle.schema_build_text.proofs.laws.captured_items_are_beside_named_actions.Goals as goal

pub returns : goal.returns
returns c = record { empty = λ s. refl; alone = none_alone; all = λ m f. uncaptured (schema_as_built m) f }
