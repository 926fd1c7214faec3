-- What follows where a call succeeds or fails.
use Rattle.std.proofs.Common.{Result, Ok, Err, OnOk, OnErr}

pub on_ok : {A E : Type 0} (r : Result A E) (P Q : Type 0) → (P → Q) → OnOk r P → OnOk r Q
on_ok (Ok x) P Q f h = f h
on_ok (Err e) P Q f h = tt

-- what holds in any case holds where it fails
pub in_any_case : {A E : Type 0} (r : Result A E) (P : Type 0) → P → OnErr r P
in_any_case (Ok x) P h = tt
in_any_case (Err e) P h = h
