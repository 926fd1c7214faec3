-- Lists whose items are gathered one after the other.
use Rattle.std.proofs.Common.{◌≡◌, List, [], ◌∷◌, ◌++◌, length, sym, ap, ◌∙◌, append-nil, arith}

-- nothing is gathered of no items
pub none_gathered : {A B : Type 0} (f : List A → List B) (done : List B) (left : List A) (all : List B)
    → done ++ f left ≡ all → length left ≡ 0 → f [] ≡ [] → done ≡ all
none_gathered f done [] all h e n = sym (append-nil done) ∙ (ap (λ l. done ++ l) (sym n) ∙ h)
none_gathered f done (x ∷ left) all h e n = absurd (omega arith)
