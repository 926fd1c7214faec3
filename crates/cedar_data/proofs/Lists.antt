-- Lists that are joined or mapped, and what stands in them.
use Rattle.std.proofs.Common.{◌≡◌, zero, suc, Bool, true, ◌||◌, cond, List, [], ◌∷◌, ◌++◌, map, find}
use Rattle.std.proofs.Common.{All, Contains, Some, refl, sym, ap, ◌∙◌, subst, inl, inr, arith}
use Rattle.std.specs.List.{flat_map, list_any}
use Rattle.std.proofs.lemmas.Bool.{cases_Bool}
use Rattle.std.proofs.lemmas.List.{get_or-map, length-map}
use Rattle.std.proofs.lemmas.List.Elements.{All-nil, All-cons, All-head, All-tail, All-weaker, All-contains_itself}
use Rattle.std.proofs.lemmas.List.Elements.{Contains-append_cases, Contains-append_right}
use Rattle.std.proofs.lemmas.Option.{same_Some}

-- lists that are joined
pub nothing_is : {X Z : Type 0} (xs : List X) (x : X) (ys : List X) → [] ≡ xs ++ x ∷ ys → Z
nothing_is [] x ys e = absurd (cc)
nothing_is (w ∷ xs) x ys e = absurd (cc)

pub empty_before : {X : Type 0} (xs ys : List X) → xs ++ ys ≡ [] → xs ≡ []
empty_before [] ys e = refl
empty_before (x ∷ xs) ys e = absurd (cc)

pub empty_behind : {X : Type 0} (xs ys : List X) → xs ++ ys ≡ [] → ys ≡ []
empty_behind [] ys e = e
empty_behind (x ∷ xs) ys e = absurd (cc)

-- lists that are mapped
pub map-map : {X Y Z : Type 0} (f : Y → Z) (g : X → Y) (xs : List X) → map f (map g xs) ≡ map (λ x. f (g x)) xs
map-map f g [] = refl
map-map f g (x ∷ xs) = ap (λ l. f (g x) ∷ l) (map-map f g xs)

pub flat_joined : {X Y : Type 0} (f : X → List Y) (xs : List X) → flat_map (λ ys. ys) (map f xs) ≡ flat_map f xs
flat_joined f [] = refl
flat_joined f (x ∷ xs) = ap (λ l. f x ++ l) (flat_joined f xs)

pub list_any-map : {X Y : Type 0} (p : Y → Bool) (f : X → Y) (xs : List X)
    → list_any p (map f xs) ≡ list_any (λ x. p (f x)) xs
list_any-map p f [] = refl
list_any-map p f (x ∷ xs) = ap (λ b. p (f x) || b) (list_any-map p f xs)

-- what stands in a list
pub contains_first : {X : Type 0} (x : X) (xs : List X) → Contains (x ∷ xs) x
contains_first x xs = (0, omega arith, refl)

pub contains_later : {X : Type 0} (x : X) (xs : List X) (y : X) → Contains xs y → Contains (x ∷ xs) y
contains_later x xs y c = Contains-append_right (x ∷ []) xs y c

pub contains_map : {X Y : Type 0} (f : X → Y) (xs : List X) (x : X) → Contains xs x → Contains (map f xs) (f x)
contains_map f xs x (k, h, e) = (k, omega (arith, length-map xs f), get_or-map f xs k x (f x) h ∙ ap f e)

pub contains_unmap : {X Y : Type 0} (f : X → Y) (xs : List X) (y : Y) → Contains (map f xs) y
    → (x : X) × Contains xs x × (f x ≡ y)
contains_unmap f [] y c = absurd (omega (arith, c.1))
contains_unmap f (x ∷ xs) y (zero, h, e) = (x, (0, omega arith, refl), e)
contains_unmap f (x ∷ xs) y (suc k, h, e) =
    let r = contains_unmap f xs y (k, omega arith, e) in
    (r.0, (suc r.1.0, omega (arith, r.1.1), r.1.2), r.2)

pub contains_flat : {X Y : Type 0} (f : X → List Y) (xs : List X) (y : Y) → Contains (flat_map f xs) y
    → (x : X) × Contains xs x × Contains (f x) y
contains_flat f [] y c = absurd (omega (arith, c.1))
contains_flat f (x ∷ xs) y c = elim (Contains-append_cases (f x) (flat_map f xs) y c) [
  | inl here ↦ (x, contains_first x xs, here)
  | inr there ↦ (let r = contains_flat f xs y there in (r.0, contains_later x xs r.0 r.1, r.2))
]

-- what gives nothing of a list gives nothing of what stands in it
pub empty_in : {X Y : Type 0} (f : X → List Y) (xs : List X) (x : X) → Contains xs x → flat_map f xs ≡ [] → f x ≡ []
empty_in f [] x c e = absurd (omega (arith, c.1))
empty_in f (y ∷ ys) x (zero, h, is) e = subst (λ z. f z ≡ []) is (empty_before (f y) (flat_map f ys) e)
empty_in f (y ∷ ys) x (suc k, h, is) e = empty_in f ys x (k, omega arith, is) (empty_behind (f y) (flat_map f ys) e)

-- what holds of all that stands in a list holds at each place, also in a part of it
pub all_of : {X : Type 0} (P : X → Type 0) (xs : List X) → ((x : X) → Contains xs x → P x) → All P xs
all_of P xs each = All-weaker (Contains xs) P each xs (All-contains_itself xs)

pub All-front : {X : Type 0} (P : X → Type 0) (xs ys : List X) → All P (xs ++ ys) → All P xs
All-front P [] ys h = All-nil P
All-front P (x ∷ xs) ys h = All-cons P x xs (All-head P x (xs ++ ys) h) (All-front P xs ys (All-tail P x (xs ++ ys) h))

pub All-back : {X : Type 0} (P : X → Type 0) (xs ys : List X) → All P (xs ++ ys) → All P ys
All-back P [] ys h = h
All-back P (x ∷ xs) ys h = All-back P xs ys (All-tail P x (xs ++ ys) h)

-- what is found passes
pub found_passes : {X : Type 0} (p : X → Bool) (xs : List X) (x : X) → find p xs ≡ Some x → p x ≡ true
found_passes p [] x e = absurd (cc)
found_passes {X} p (y ∷ ys) x e = elim (cases_Bool (p y)) [
  | inl hit ↦ subst (λ z. p z ≡ true) (same_Some y x (sym (ap (λ b. cond b (Some y) (find p ys)) hit) ∙ e)) hit
  | inr miss ↦ found_passes p ys x (sym (ap (λ b. cond b (Some y) (find p ys)) miss) ∙ e)
]
