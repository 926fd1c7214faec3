-- What a reader answers.
use Rattle.std.specs.Prelude.{◌≡◌, ◌⊎◌, ℕ, List, [], Option, Some, None, Result, MatchResult, ⊤}
use Rattle.serde_json.specs.Data.{Data}
use Rattle.schema_json_shapes.specs.declared.shape_fault.ShapeFault.{ShapeFault}
use Rattle.schema_json_shapes.specs.declared.shape_fault.ShapeFault.TheVariants.{Memory}
use Rattle.schema_json_shapes.specs.Walk.{Role, Demand, demands, AllMet, FirstUnmet}

-- memory was out, or this is the fault of the first demand that is not met
abbrev pub IsDemandFault : List Demand → ShapeFault → Type 0
IsDemandFault ds e = (e ≡ Memory) ⊎ FirstUnmet ds e

-- all demands are met and the answer says so, or it is the fault of the first that is not
abbrev pub ReadsValue : {A : Type 0} → Result A ShapeFault → List Demand → (A → Type 0) → Type 0
ReadsValue r ds Says = MatchResult r (λ x. AllMet ds × Says x) (IsDemandFault ds)

-- nothing is asked of the answer
abbrev pub Any : {A : Type 0} → A → Type 0
Any x = ⊤

-- what a field must keep, where it is there
abbrev pub field_demands : Role → List ℕ → Option Data → List Demand
field_demands r n None = []
field_demands r n (Some d) = demands r n d
