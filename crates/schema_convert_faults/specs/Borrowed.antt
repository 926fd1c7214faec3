-- Entries whose keys and values are borrowed.
use Rattle.std.specs.Prelude.{Option, option_map}
use Rattle.std.specs.Borrow.{Bor}

-- what an entry points to
abbrev pub entry_now : {K X : Type 0} → Bor K × Bor X → K × X
entry_now e = (e.0.now, e.1.now)

-- what an entry points to whose key may be absent
abbrev pub optional_now : {K X : Type 0} → Option (Bor K) × Bor X → Option K × X
optional_now e = (option_map (λ k. k.now) e.0, e.1.now)
