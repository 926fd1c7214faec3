-- A text that a sink takes piece by piece.
use Rattle.std.proofs.Common.{◌≡◌, ℕ, ◌+◌, ◌<◌, ◌++◌, List, length, take, drop, Option, Some, None, sym, ◌∙◌, ap, subst}
use Rattle.std.proofs.Common.{arith, append_assoc, length-drop, take-add, ◌-◌, Result, Ok, Err}
use Rattle.std.specs.Result.{OnErr}
use Rattle.std.proofs.lemmas.List.{take-append-drop, take_all}
use Rattle.cedar_io.specs.Outside.{Appends, AppendsPart}

appends_more : (o p q : Option (List ℕ)) (a b : List ℕ) → Appends o a p → Appends p b q → Appends o (a ++ b) q
appends_more None None q a b s t = t
appends_more None (Some l) q a b s t = cc
appends_more (Some l) None q a b s t = cc
appends_more (Some l) (Some m) q a b s t = t ∙ ap (λ x. Some (x ++ b)) (let e : m ≡ l ++ a = cc in e)
    ∙ ap Some (append_assoc l a b)

pub appends_take : (o p q : Option (List ℕ)) (bytes : List ℕ) (at n : ℕ) → Appends o (take at bytes) p
    → Appends p (take n (drop at bytes)) q → Appends o (take (at + n) bytes) q
appends_take o p q bytes at n s t =
    subst (λ x. Appends o x q) (sym (take-add at n bytes))
    (appends_more o p q (take at bytes) (take n (drop at bytes)) s t)

pub appends_part : (o p q : Option (List ℕ)) (bytes : List ℕ) (at : ℕ) → at < length bytes
    → Appends o (take at bytes) p → q ≡ p → AppendsPart o bytes q
appends_part o p q bytes at h s e = (
  take at bytes,
  drop at bytes,
  sym (take-append-drop at bytes),
  (λ none. let l : length (drop at bytes) ≡ 0 = ap length none in omega (arith, length-drop at bytes)),
  subst
      (λ r. Appends o (take at bytes) r) (sym e) s,
)

pub on_err : {T E P : Type 0} (r : Result T E) → P → OnErr r P
on_err (Ok x) p = tt
on_err (Err e) p = p

pub piece : (bytes : List ℕ) (at : ℕ) → take (length bytes - at) (drop at bytes) ≡ drop at bytes
piece bytes at = take_all (length bytes - at) (drop at bytes) (omega (arith, length-drop at bytes))
