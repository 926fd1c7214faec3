-- One more entry put into a map.
use Rattle.std.proofs.Common.{◌≡◌, Bool, true, false, List, ◌∷◌, Option, Some, None, cond, refl, sym, ap, ◌∙◌}
use Rattle.std.specs.declared.cmp.Ordering.{Ordering}
use Rattle.std.specs.Cmp.{IsTotalOrder}
use Rattle.std.specs.Option.{option_or}
use Rattle.std.specs.BTreeMap.{is_at}
use Rattle.cedar_data.specs.Maps.{last_at}
use Rattle.cedar_data.proofs.Orders.{is_eq_turned}

or_then : {X : Type 0} (a : Option X) (t : Bool) (v : X) (old : Option X)
    → option_or (option_or a (cond t (Some v) None)) old ≡ option_or a (cond t (Some v) old)
or_then None true v old = refl
or_then None false v old = refl
or_then (Some x) t v old = refl

pub last_more : {K X : Type 0} (R : K → K → Ordering) → IsTotalOrder R
    → (q k : K) (v : X) (rest : List (K × X)) (old new : Option X) → new ≡ cond (is_at (R k) q) (Some v) old
    → option_or (last_at (is_at (R q)) rest) new ≡ option_or (last_at (is_at (R q)) ((k, v) ∷ rest)) old
last_more R total q k v rest old new is =
    ap (option_or (last_at (is_at (R q)) rest)) (is ∙ ap (λ t. cond t (Some v) old) (is_eq_turned total k q))
    ∙ sym (or_then (last_at (is_at (R q)) rest) (is_at (R q) k) v old)
