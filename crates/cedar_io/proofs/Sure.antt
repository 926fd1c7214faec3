-- The room that is sure, from one call to the next.
use Rattle.std.proofs.Common.{◌≡◌, ℕ, ◌+◌, ◌≤◌, List, Bool, true, false, arith, nat_le, cond, refl}
use Rattle.std.proofs.lemmas.List.Sums.{AllPass-from_list_all, list_all-from_AllPass}
use Rattle.std.proofs.lemmas.List.Elements.{All-weaker}
use Rattle.std.proofs.lemmas.Bool.Decides.{nat_tests}
use Rattle.cedar_io.specs.Outside.{SinkState, none_to_come, sure_room}

-- a number that was reached stays reached
le_later : (k calls calls' : ℕ) → calls ≤ calls' → nat_le k calls ≡ true → nat_le k calls' ≡ true
le_later k calls calls' h e = grind (arith, nat_tests)

-- once none is to come, none comes later
none_later : (calls calls' : ℕ) (failing : List ℕ) → calls ≤ calls' → none_to_come calls failing ≡ true
    → none_to_come calls' failing ≡ true
none_later calls calls' failing h e =
    list_all-from_AllPass (λ k. nat_le k calls') failing
    (All-weaker (λ k. nat_le k calls ≡ true) (λ k. nat_le k calls' ≡ true) (λ k p. le_later k calls calls' h p)
    failing (AllPass-from_list_all (λ k. nat_le k calls) failing e))

-- what is sure falls by at most what was taken
sure_falls : (before after : Bool) (room rest n : ℕ) → (before ≡ true → after ≡ true) → room ≤ rest + n
    → cond before room 0 ≤ cond after rest 0 + n
sure_falls true true room rest n keeps h = h
sure_falls true false room rest n keeps h = absurd (let e : false ≡ true = keeps refl in cc)
sure_falls false true room rest n keeps h = omega arith
sure_falls false false room rest n keeps h = omega arith

-- a sink's sure room after a call that is counted, and that took n bytes
pub sure_falls_at : (before : SinkState) (rest calls n : ℕ) (failing : List ℕ) → before.calls ≤ calls
    → failing ≡ before.failing → before.room ≤ rest + n
    → sure_room before ≤ cond (none_to_come calls failing) rest 0 + n
sure_falls_at before rest calls n failing later same room =
    rw same (sure_falls (none_to_come before.calls before.failing) (none_to_come calls before.failing) before.room
    rest n (none_later before.calls calls before.failing later) room)
