-- A text reads as one name, or has one fault.
use Rattle.std.specs.Prelude.{◌≡◌, ◌≢◌, ℕ, List}
use Rattle.cedar_identifiers.specs.NameReading.{ReadsAs, NameFaultOf}
use Rattle.cedar_identifiers.specs.declared.name_kind.NameKind.{NameKind}
use Rattle.cedar_identifiers.specs.declared.name_fault.NameFault.{NameFault}
use Rattle.cedar_identifiers.specs.declared.name_fault.NameFault.TheVariants.{Memory}

-- a text reads as one name at most
abbrev pub OneName : List ℕ → Type 0
OneName text = (kind : NameKind) (v w : List (List ℕ)) → ReadsAs kind text v → ReadsAs kind text w → v ≡ w

-- a text that reads as a name has no fault, but that memory may be out
abbrev pub NoFault : List ℕ → Type 0
NoFault text = (kind : NameKind) (w : List (List ℕ)) (f : NameFault) → ReadsAs kind text w
    → NameFaultOf kind text f → f ≡ Memory

-- a text has one fault at most, but that memory may be out
abbrev pub OneFault : List ℕ → Type 0
OneFault text = (kind : NameKind) (f g : NameFault) → f ≢ Memory → g ≢ Memory → NameFaultOf kind text f
    → NameFaultOf kind text g → f ≡ g
