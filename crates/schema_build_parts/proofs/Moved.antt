-- Facts of two and of three values, moved along equations.
use Rattle.std.proofs.Common.{◌≡◌, subst}

pub moved : {A B : Type 0} (P : A → B → Type 0) {a c : A} {b d : B} → a ≡ c → b ≡ d → P a b → P c d
moved P {a} {c} {b} {d} p q h = subst (λ x. P x d) p (subst (P a) q h)

pub moved_thrice : {A B C : Type 0} (P : A → B → C → Type 0) {a x : A} {b y : B} {c z : C} → a ≡ x → b ≡ y → c ≡ z
    → P a b c → P x y z
moved_thrice P {a} {x} {b} {y} {c} {z} p q r h = subst (λ u. P u y z) p (moved (P a) q r h)
