-- What an optional part of a value gives.
use Rattle.std.specs.Prelude.{List, [], Option, Some, None}

-- what an optional part gives
abbrev pub if_there : {A U : Type 0} → (A → List U) → Option A → List U
if_there u None = []
if_there u (Some a) = u a
