-- A common type that reaches itself by references, by its rank.
use Rattle.std.specs.Prelude.{◌≡◌, ◌≤◌, ℕ, List, Some, slice_get}
use Rattle.schema_build_graph.specs.declared.order_fault.OrderFault.{OrderFault}
use Rattle.schema_build_graph.specs.declared.order_fault.OrderFault.TheVariants.{Cycle, Memory}
use Rattle.schema_build_expand.specs.Scope.{Scope, DeclaredType}
use Rattle.schema_build_scope.specs.TypeReaches.{TypeReaches}

module _ {N : Type 0} where
  -- the declared common type of the rank reaches itself, and none of a lesser rank does
  pub record IsLeastRoundRank (s : Scope N) (v : ℕ) : Type 0 where
    pub ty : DeclaredType N
    pub here : slice_get s.commons v ≡ Some ty
    pub round : TypeReaches s ty.name ty.name
    pub least : (u : ℕ) (other : DeclaredType N) → slice_get s.commons u ≡ Some other
        → TypeReaches s other.name other.name
        → v ≤ u

  -- the fault names the least rank that reaches itself; memory may be out at any time
  abbrev pub IsRoundFault : Scope N → OrderFault → Type 0
  IsRoundFault s (Cycle v) = IsLeastRoundRank s v
  IsRoundFault s Memory = Unit {0}

  -- no common type reaches itself
  abbrev pub NoneReachesItself : Scope N → Type 0
  NoneReachesItself s = (name : List (List ℕ)) → TypeReaches s name name → ⊥
