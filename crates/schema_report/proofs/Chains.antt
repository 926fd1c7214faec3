-- What is added to a text step by step.
use Rattle.std.proofs.Common.{◌≡◌, ℕ, List, ◌++◌, ap, ◌∙◌, append_assoc}

-- a first step, and the others after it
pub step : {b c : List ℕ} (a x rest : List ℕ) → b ≡ a ++ x → c ≡ b ++ rest → c ≡ a ++ (x ++ rest)
step a x rest first others = others ∙ ap (λ l. l ++ rest) first ∙ append_assoc a x rest
