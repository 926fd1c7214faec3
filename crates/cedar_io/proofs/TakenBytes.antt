-- Bytes that are taken of a source piece by piece.
use Rattle.std.proofs.Common.{◌≡◌, ℕ, ◌<◌, ◌++◌, List, length, Option, Some, None, refl, sym, ◌∙◌, ap, arith}
use Rattle.std.proofs.Common.{append_assoc, length-append}
use Rattle.cedar_io.specs.Outside.{Took}
use Rattle.cedar_io.specs.Input.{HadLeft}

pub took_more : (o p q : Option (List ℕ)) (a b : List ℕ) → Took o a p → Took p b q → Took o (a ++ b) q
took_more None None q a b s t = t
took_more None (Some l) q a b s t = cc
took_more (Some l) None q a b s t = cc s.2
took_more (Some l) (Some m) q a b s t =
    let e : m ≡ s.0 = cc (s.2) in (t.0, s.1 ∙ ap (λ r. a ++ r) (sym e ∙ t.1) ∙ sym (append_assoc a b t.0), t.2)

-- where more was taken than an input may have, more was left
pub had_longer : (o p : Option (List ℕ)) (bytes : List ℕ) (n : ℕ) → Took o bytes p → n < length bytes
    → (all : List ℕ) × HadLeft o all × (n < length all)
had_longer None p bytes n t h = (bytes, tt, h)
had_longer (Some left) p bytes n t h = (left, refl, omega (arith, ap length t.1, length-append bytes t.0))
