-- The entries of a map as what is written by name.
use Rattle.std.specs.Prelude.{ℕ, List, Option, Some, None, map}
use Rattle.std.specs.BTreeMap.{is_at}
use Rattle.std.specs.List.Sorted.{IsStrictlySortedBy}
use Rattle.std.specs.Map.{lookup}
use Rattle.std.specs.declared.cmp.Ordering.{Ordering}
use Rattle.cedar_data.specs.Maps.{last_at}
use Rattle.cedar_data.specs.Text.{text_cmp}

-- what is found says what is written, and nothing is found where nothing is written
abbrev pub FoundSays : {V W : Type 0} → (V → W → Type 0) → Option V → Option W → Type 0
FoundSays Says None None = Unit {0}
FoundSays Says (Some v) (Some w) = Says v w
FoundSays Says _ _ = ⊥

-- The names rise, and each name has beside it what says what is written of it.
pub record EntriesSay {K N V W : Type 0} (order : N → N → Ordering) (name : K → N) (Says : V → W → Type 0)
    (entries : List (K × V)) (written : N → Option W) : Type 0 where
  pub rising : IsStrictlySortedBy order (map (λ e. name e.0) entries)
  pub each : (n : N) → FoundSays Says (lookup (λ k. is_at (order n) (name k)) entries) (written n)

-- what is written last beside a name
abbrev pub last_written : {W : Type 0} → List (List ℕ × W) → List ℕ → Option W
last_written written name = last_at (is_at (text_cmp name)) written
