-- Comparing a name with one that is given in parts.
use Rattle.std.proofs.Common.{◌≡◌, ℕ, ◌+◌, ◌<◌, ◌≤◌, List, [], ◌∷◌, ◌++◌, length, drop, get_or, Ordering, sym, ap, ◌∙◌}
use Rattle.std.proofs.Common.{arith}
use Rattle.std.specs.declared.cmp.Ordering.TheVariants.{Equal, Greater}
use Rattle.std.specs.Ordering.{ordering_then}
use Rattle.std.specs.Cmp.Lexicographic.{slice_cmp}

module _ {K : Type 0} (R : K → K → Ordering) (name space : List K) (last : K) where
  -- the comparison is that of what is left of both
  abbrev pub IsLeft : ℕ → Type 0
  IsLeft at = (at ≤ length name)
      × (slice_cmp R name (space ++ last ∷ []) ≡ slice_cmp R (drop at name) (drop at space ++ last ∷ []))

-- two components at least are more than one that is the first of them
pub longer : {K : Type 0} (R : K → K → Ordering) (xs : List K) (last own : K) → 1 < length xs → own ≡ get_or xs 0 own
    → R own last ≡ Equal → Greater ≡ slice_cmp R xs (last ∷ [])
longer R [] last own l at e = absurd (omega arith)
longer R (x ∷ []) last own l at e = absurd (omega arith)
longer R (x ∷ y ∷ xs) last own l at e = sym (ap (λ a. ordering_then a Greater) (ap (λ k. R k last) (sym at) ∙ e))
