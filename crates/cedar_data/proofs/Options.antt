-- What may be absent.
use Rattle.std.proofs.Common.{◌≡◌, true, Option, Some, None, is_none, option_map, refl}
use Rattle.std.specs.Option.{option_or}
use Rattle.std.proofs.lemmas.Option.{same_Some}

pub or_none : {X : Type 0} (o : Option X) → option_or o None ≡ o
or_none None = refl
or_none (Some x) = refl

pub seen_of : {X Y : Type 0} (f : X → Y) (o : Option X) (y : Y) → option_map f o ≡ Some y
    → (x : X) × (o ≡ Some x) × (f x ≡ y)
seen_of f None y e = absurd (cc)
seen_of f (Some x) y e = (x, refl, same_Some (f x) y e)

pub none_from_test : {X : Type 0} (o : Option X) → is_none o ≡ true → o ≡ None
none_from_test None h = refl
none_from_test (Some x) h = absurd (cc)
