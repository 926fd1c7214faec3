-- Lists in order by what is seen of their items.
use Rattle.std.proofs.Common.{◌≡◌, List, [], ◌∷◌, map, Ordering, refl}
use Rattle.std.specs.declared.cmp.Ordering.TheVariants.{Less}
use Rattle.std.specs.List.Sorted.{IsStrictlySortedBy}
use Rattle.cedar_data.proofs.Orders.{rises_seen}
use Rattle.cedar_data.proofs.Every.{all_unmapped}

pub sorted_seen : {A B : Type 0} (f : A → B) (R : B → B → Ordering) (xs : List A)
    → IsStrictlySortedBy (λ a b. R (f a) (f b)) xs
    → IsStrictlySortedBy R (map f xs)
sorted_seen f R xs up = rises_seen f (λ a b. R (f a) (f b)) R (λ a b. refl) xs up

pub sorted_back : {A B : Type 0} (f : A → B) (R : B → B → Ordering) (xs : List A) → IsStrictlySortedBy R (map f xs)
    → IsStrictlySortedBy (λ a b. R (f a) (f b)) xs
unfolding IsStrictlySortedBy
sorted_back f R [] up = tt
sorted_back f R (x ∷ xs) up = (all_unmapped (λ y. R (f x) y ≡ Less) f xs up.0, sorted_back f R xs up.1)
