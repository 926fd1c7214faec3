-- What one comparison costs, and what it leaves.
use Rattle.std.proofs.Common.{◌≡◌, ℕ, Bool, true, false, suc, ◌+◌, ◌-◌, ◌*◌, ◌^◌, ◌<◌, ◌≤◌, ap, ◌∙◌, arith}
use Rattle.std.proofs.Math.Nat.{pow-succ', mul-le-mul_left, mul_comm, mul_assoc}
use Rattle.cedar_names.specs.Searches.{IsSpent, one_if}

-- what was counted from old to now left w items of n
pub record IsCost (counts : Bool) (old now w n : ℕ) : Type 0 where
  pub counted : old ≤ now
  pub left : 2 ^ (now - old) * w ≤ n
  pub cost : 2 ^ (now - old) ≤ 2 * n + 1
  pub some : w < n → old + one_if counts ≤ now

one_more : (old now : ℕ) → old ≤ now → (now + 1) - old ≡ suc (now - old)
one_more old now h = omega arith

-- twice as many comparisons times half as many items
times : (p w v : ℕ) → 2 * v ≤ w → (2 * p) * v ≤ p * w
times p w v h =
    let more : p * (2 * v) ≤ p * w = mul-le-mul_left p h in
    let same : (2 * p) * v ≡ p * (2 * v) = ap (λ x. x * v) (mul_comm 2 p) ∙ mul_assoc p 2 v in
    omega (arith, more, same)

at_least : (p w : ℕ) → 0 < w → p ≤ p * w
at_least p w h =
    let more : p * 1 ≤ p * w = mul-le-mul_left p h in
    omega (arith, more)

-- at least one item was left, and at most half of them is
pub halved : (counts : Bool) (old now new w v n : ℕ) → new ≡ now + one_if counts → IsCost counts old now w n → 0 < w
    → 2 * v ≤ w → IsCost counts old new v n
halved false old now new w v n is c some half = record {
  counted = omega (arith, c.counted);
  left =
      (let same : new ≡ now = omega arith in
      let fewer : 2 ^ (now - old) * v ≤ 2 ^ (now - old) * w = mul-le-mul_left (2 ^ (now - old)) (omega arith) in
      rw same (omega (arith, fewer, c.left)));
  cost = (let same : new ≡ now = omega arith in rw same c.cost);
  some = λ h. omega (arith, c.counted);
}
halved true old now new w v n is c some half =
    let twice : 2 ^ (new - old) ≡ 2 * 2 ^ (now - old) = ap (λ x. 2 ^ (x - old)) is
    ∙ ap (λ s. 2 ^ s) (one_more old now c.counted) ∙ pow-succ' 2 (now - old) in
    record {
      counted = omega (arith, c.counted);
      left = rw twice (let h = times (2 ^ (now - old)) w v half in omega (arith, h, c.left));
      cost = rw twice (let h = at_least (2 ^ (now - old)) w some in omega (arith, h, c.left));
      some = λ h. omega (arith, c.counted);
    }

nothing : (old : ℕ) → old - old ≡ 0
nothing old = omega arith

pub none_yet : (counts : Bool) (old n : ℕ) → IsCost counts old old (n - 0) n
none_yet counts old n = record {
  counted = omega arith;
  left = rw (nothing old) (omega arith);
  cost = rw (nothing old) (omega arith);
  some = λ h. absurd (omega arith);
}

-- the search ended with nothing left
pub all_spent : (counts : Bool) (old now w n : ℕ) → IsCost counts old now w n → w ≡ 0 → IsSpent counts old now n
all_spent counts old now w n c none = record { counted = c.counted; cost = c.cost; some = λ h. c.some (omega arith) }
