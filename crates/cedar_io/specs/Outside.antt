-- Where bytes come from and where they go.
use Rattle.std.specs.Prelude.{◌≡◌, ◌≢◌, ◌⊎◌, ◌<◌, ◌+◌, ◌-◌, ◌^◌, ◌++◌, ℕ, List, [], Option, Some, None, Bool, nat_le}
use Rattle.std.specs.Prelude.{min, length, Contains, if◌then◌else◌}
use Rattle.std.specs.List.{list_all}

-- the count of faults rose, or stands at its last value
abbrev pub Rose : ℕ → ℕ → Type 0
Rose before after = (before < after) ⊎ (after ≡ 2 ^ 64 - 1)

-- these bytes were taken from the front of what was left, where that is told
abbrev pub Took : Option (List ℕ) → List ℕ → Option (List ℕ) → Type 0
Took None bytes after = after ≡ None
Took (Some left) bytes after = (rest : List ℕ) × (left ≡ bytes ++ rest) × (after ≡ Some rest)

-- nothing is left, where that is told
abbrev pub IsEnd : Option (List ℕ) → Type 0
IsEnd None = Unit {0}
IsEnd (Some left) = left ≡ []

-- these bytes were taken after what was taken before, where that is told
abbrev pub Appends : Option (List ℕ) → List ℕ → Option (List ℕ) → Type 0
Appends None bytes after = after ≡ None
Appends (Some taken) bytes after = after ≡ Some (taken ++ bytes)

-- a front of these bytes was taken after what was taken before, and not all of them
abbrev pub AppendsPart : Option (List ℕ) → List ℕ → Option (List ℕ) → Type 0
AppendsPart before bytes after =
    (part : List ℕ) × (rest : List ℕ) × (bytes ≡ part ++ rest) × (rest ≢ []) × Appends before part after

-- a source in memory: the bytes still to come, the calls made, the numbers of the calls that fail, and the faults
pub record SourceState : Type 0 where
  pub left : List ℕ
  pub calls : ℕ
  pub failing : List ℕ
  pub faults : ℕ

-- a source in memory that never fails: the bytes still to come
pub record SteadyState : Type 0 where
  pub left : List ℕ

-- a sink in memory: the bytes taken, the room that is left, the calls made, the numbers of the calls that fail, and the
-- faults
pub record SinkState : Type 0 where
  pub taken : List ℕ
  pub room : ℕ
  pub calls : ℕ
  pub failing : List ℕ
  pub faults : ℕ

-- a count one higher, up to its last value
abbrev pub counted : ℕ → ℕ
counted count = min (count + 1) (2 ^ 64 - 1)

-- after so many calls, the number of the next one is listed
abbrev pub IsListed : ℕ → List ℕ → Type 0
IsListed calls failing = (calls + 1 < 2 ^ 64) × Contains failing (calls + 1)

-- no room is left for bytes that are there
abbrev pub IsFull : ℕ → List ℕ → Type 0
IsFull room bytes = (room ≡ 0) × (0 < length bytes)

-- after so many calls, none of the listed ones is still to come
abbrev pub none_to_come : ℕ → List ℕ → Bool
none_to_come calls failing = list_all (λ k. nat_le k calls) failing

-- the room that is left, where no listed call is still to come
abbrev pub sure_room : SinkState → ℕ
sure_room s = if none_to_come s.calls s.failing then s.room else 0
