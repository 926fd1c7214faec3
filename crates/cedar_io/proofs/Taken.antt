-- Bytes that are taken from the front of a list.
use Rattle.std.proofs.Common.{◌≡◌, ℕ, ◌+◌, ◌≤◌, ◌++◌, List, length, take, drop, sym, ◌∙◌, ap, arith, length-drop}
use Rattle.std.proofs.lemmas.List.{take-append-drop, take_at, drop-drop, length-take-le}

-- what stood at a place is what was copied from it and what stands after
pub split_at_place : (bytes buf copied : List ℕ) (at n : ℕ) → at + n ≤ length bytes → copied ≡ take n (drop at bytes)
    → drop at bytes ≡ take n (copied ++ drop n buf) ++ drop (at + n) bytes
split_at_place bytes buf copied at n h e =
    let long : length copied ≡ n = ap length e
    ∙ length-take-le n (drop at bytes) (omega (arith, length-drop at bytes)) in
    rw (take_at copied (drop n buf) n long, e, ← drop-drop n at bytes) (sym (take-append-drop n (drop at bytes)))
