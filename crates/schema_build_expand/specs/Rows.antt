-- Which declared common types refer to which, by ranks.
use Rattle.std.specs.Prelude.{◌≡◌, ◌≤◌, ℕ, true, List, Vec, length, All, Option, Some, IsSome, slice_get}
use Rattle.std.specs.Borrow.{Bor}
use Rattle.std.specs.declared.alloc.Global.{Global}
use Rattle.cedar_identifiers.specs.declared.internal_name.InternalName.{InternalName}
use Rattle.schema_json.specs.declared.types.Type.{«Type»}
use Rattle.schema_json_walk.specs.Parts.{Part, type_reference, extension_type}
use Rattle.schema_json_walk.specs.Walk.{parts}
use Rattle.schema_build_graph.specs.declared.order_fault.OrderFault.{OrderFault}
use Rattle.schema_build_graph.specs.declared.order_fault.OrderFault.TheVariants.{Cycle, Memory}
use Rattle.schema_build_graph.specs.Paths.{Reaches}
use Rattle.schema_build_expand.specs.Scope.{Scope, in_table}
use Rattle.schema_build_expand.specs.Ranks.{AreMeantRanks, RefersTo}

module _ {N R : Type 0} where
  -- the row of each rank holds the ranks that its type refers to
  pub record AreMeantRows (s : Scope N) (place : R → Option InternalName) (commons : List (R × Bor («Type» N)))
      (rows : List (Vec ℕ Global)) : Type 0 where
    pub same : length rows ≡ length commons
    pub each : (k : ℕ) (row : Vec ℕ Global) → slice_get rows k ≡ Some row
        → (c : R × Bor («Type» N)) → slice_get commons k ≡ Some c
        → AreMeantRanks s (place c.0) (parts c.1.now) row.items

  -- the type of one rank holds a reference that means the other
  abbrev pub RefersBy : Scope N → (R → Option InternalName) → List (R × Bor («Type» N)) → ℕ → ℕ → Type 0
  RefersBy s place commons a b = (c : R × Bor («Type» N)) × (slice_get commons a ≡ Some c)
      × RefersTo s (place c.0) (parts c.1.now) b

  -- the rank reaches itself by references, and no lesser one does
  pub record IsLeastRound (s : Scope N) (place : R → Option InternalName) (commons : List (R × Bor («Type» N)))
      (v : ℕ) : Type 0 where
    pub round : Reaches (RefersBy s place commons) v v
    pub least : (u : ℕ) → Reaches (RefersBy s place commons) u u → v ≤ u

  -- no rank reaches itself by references
  abbrev pub NoneRound : Scope N → (R → Option InternalName) → List (R × Bor («Type» N)) → Type 0
  NoneRound s place commons = (v : ℕ) → Reaches (RefersBy s place commons) v v → ⊥

  -- the fault names the least rank that reaches itself by references; memory may be out at any time
  abbrev pub IsCycleFault : Scope N → (R → Option InternalName) → List (R × Bor («Type» N)) → OrderFault → Type 0
  IsCycleFault s place commons (Cycle v) = IsLeastRound s place commons v
  IsCycleFault s place commons Memory = Unit {0}

module _ {N : Type 0} where
  -- a part that may stand in a type: a reference that means something, an extension type of the table
  abbrev pub IsMeant : Scope N → Option InternalName → Part N → Type 0
  IsMeant s ns (type_reference kind name) = IsSome (s.means ns kind name)
  IsMeant s ns (extension_type name) = in_table s name.id.text ≡ true
  IsMeant s ns _ = ⊥

  -- each part of the types is a reference that means something or an extension type of the table
  abbrev pub AreMeant : {R : Type 0} → Scope N → (R → Option InternalName) → List (R × Bor («Type» N)) → Type 0
  AreMeant {R} s place commons = (k : ℕ) (c : R × Bor («Type» N)) → slice_get commons k ≡ Some c
      → All (IsMeant s (place c.0)) (parts c.1.now)
