-- The first reason, part by part of a value.
use Rattle.std.proofs.Common.{◌≡◌, ◌+◌, ◌<◌, ℕ, zero, suc, Option, Some, None, inl, inr, refl, arith}
use Rattle.std.specs.Prelude.{◌⊎◌, MatchOption}
use Rattle.schema_inclusion_values.specs.Lost.{or_else}
use Rattle.schema_inclusion_reasons.specs.Places.{PathBefore}
use Rattle.schema_inclusion_reasons.specs.Reasons.{Reason, part_of, path_of, ReasonBefore}

less_or_same : (a k : ℕ) → a < k + 1 → (a < k) ⊎ (a ≡ k)
less_or_same zero zero h = inr refl
less_or_same zero (suc k) h = inl (omega arith)
less_or_same (suc a) zero h = absurd (omega arith)
less_or_same (suc a) (suc k) h = go (less_or_same a k (omega arith))
  where
    go : (a < k) ⊎ (a ≡ k) → (suc a < suc k) ⊎ (suc a ≡ suc k)
    go (inl l) = inl (omega arith)
    go (inr e) = inr (omega arith)

module _ (Local : Reason → Type 0) where
  -- it is a reason, and none stands before it
  abbrev pub FirstOf : Reason → Type 0
  FirstOf r = Local r × ((s : Reason) → ReasonBefore s r → Local s → ⊥)

  abbrev pub Answered : Type 0 → Option Reason → Type 0
  Answered Good found = MatchOption found Good FirstOf

  -- there is no reason in the parts before this one
  abbrev pub Clear : ℕ → Type 0
  Clear k = (s : Reason) → part_of s < k → Local s → ⊥

  -- it is the first reason in the part
  abbrev pub FirstIn : ℕ → Reason → Type 0
  FirstIn k r = (part_of r ≡ k) × Local r
      × ((s : Reason) → part_of s ≡ k → PathBefore (path_of s) (path_of r) → Local s → ⊥)

  -- the part is good, or the first reason in it is found
  abbrev pub Staged : ℕ → Type 0 → Option Reason → Type 0
  Staged k Good found = MatchOption found Good (FirstIn k)

  first_of : (k : ℕ) (r : Reason) → Clear k → FirstIn k r → FirstOf r
  first_of k r clear h = (h.1, go)
    where
      go : (s : Reason) → ReasonBefore s r → Local s → ⊥
      go s (inl b) g = let e = h.0 in clear s (omega arith) g
      go s (inr b) g = let e = h.0 in let f = b.0 in h.2 s (omega arith) b.1 g

  clear_more : (k : ℕ) → Clear k → ((s : Reason) → part_of s ≡ k → Local s → ⊥) → Clear (k + 1)
  clear_more k clear deny s lt h = go (less_or_same (part_of s) k lt)
    where
      go : (part_of s < k) ⊎ (part_of s ≡ k) → ⊥
      go (inl l) = clear s l h
      go (inr e) = deny s e h

  -- the part, and those behind it
  pub chain : (k : ℕ) (Good More : Type 0) (found rest : Option Reason) → Clear k → Staged k Good found
      → (Good → (s : Reason) → part_of s ≡ k → Local s → ⊥)
      → (Clear (k + 1) → Answered More rest) → Answered (Good × More) (or_else found rest)
  chain k Good More None None clear h deny behind = (h, behind (clear_more k clear (deny h)))
  chain k Good More None (Some r) clear h deny behind = behind (clear_more k clear (deny h))
  chain k Good More (Some r) rest clear h deny behind = first_of k r clear h

  -- the last part
  pub last : (k : ℕ) (Good : Type 0) (found : Option Reason) → Clear k → Staged k Good found → Answered Good found
  last k Good None clear h = h
  last k Good (Some r) clear h = first_of k r clear h
