-- What a visitor refuses.
use Rattle.std.specs.Prelude.{◌≡◌, List, [], ◌∷◌}
use Rattle.schema_build_checks.specs.declared.refused.Refused.{Refused}
use Rattle.schema_build_checks.specs.declared.refused.Refused.TheVariants.{First, Memory}

-- it is the first of these
abbrev pub IsHead : {U : Type 0} → List U → U → Type 0
IsHead [] u = ⊥
IsHead (first ∷ others) u = u ≡ first

-- a visitor refuses the first that the part gives it; memory may be out at any time
abbrev pub Refuses : {S P U : Type 0} → (S → P → List U) → S → P → Refused U → Type 0
Refuses gives before part (First u) = IsHead (gives before part) u
Refuses gives before part Memory = Unit {0}
