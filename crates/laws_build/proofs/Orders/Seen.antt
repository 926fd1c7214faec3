-- Lists that are the same as they are seen.
use Rattle.std.proofs.Common.{◌≡◌, List, [], ◌∷◌, ◌++◌, map, Contains, refl, sym, ap, ◌∙◌, subst}
use Rattle.std.specs.List.{flat_map}
use Rattle.std.proofs.lemmas.List.{map-append}
use Rattle.cedar_data.proofs.Lists.{contains_map, contains_unmap}

-- each of the one has one of the other that is seen the same
pub matched : {A B : Type 0} (seen : A → B) (xs ys : List A) → map seen xs ≡ map seen ys → (x : A) → Contains xs x
    → (y : A) × Contains ys y × (seen x ≡ seen y)
matched seen xs ys e x c =
    let (y, cy, s) = contains_unmap seen ys (seen x) (subst (λ l. Contains l (seen x)) e (contains_map seen xs x c)) in
    (y, cy, sym s)

-- lists of two makes, each item seen the same
pub map_seen : {A B C D : Type 0} (h : A → C) (k : B → D) (g : C → D) (p : A → B) → ((x : A) → g (h x) ≡ k (p x))
    → (xs : List A) → map g (map h xs) ≡ map k (map p xs)
map_seen h k g p e [] = refl
map_seen h k g p e (x ∷ xs) = λ i. e x i ∷ map_seen h k g p e xs i

pub map_same : {A C D : Type 0} (h : A → C) (g : C → D) (p : A → D) → ((x : A) → g (h x) ≡ p x)
    → (xs : List A) → map g (map h xs) ≡ map p xs
map_same h g p e [] = refl
map_same h g p e (x ∷ xs) = λ i. e x i ∷ map_same h g p e xs i

pub flat_seen : {A B C D : Type 0} (h : A → C) (k : B → D) (g : C → List D) (p : A → List B)
    → ((x : A) → g (h x) ≡ map k (p x)) → (xs : List A) → flat_map g (map h xs) ≡ map k (flat_map p xs)
flat_seen h k g p e [] = refl
flat_seen h k g p e (x ∷ xs) =
    (λ i. e x i ++ flat_seen h k g p e xs i) ∙ sym (map-append k (p x) (flat_map p xs))

pub flat_same : {A C D : Type 0} (h : A → C) (g : C → List D) (p : A → List D)
    → ((x : A) → g (h x) ≡ p x) → (xs : List A) → flat_map g (map h xs) ≡ flat_map p xs
flat_same h g p e [] = refl
flat_same h g p e (x ∷ xs) = λ i. e x i ++ flat_same h g p e xs i

-- what is given of each is seen
pub flat_mapped : {A B D : Type 0} (k : B → D) (p : A → List B) (xs : List A)
    → flat_map (λ x. map k (p x)) xs ≡ map k (flat_map p xs)
flat_mapped k p [] = refl
flat_mapped k p (x ∷ xs) = ap (λ l. map k (p x) ++ l) (flat_mapped k p xs) ∙ sym (map-append k (p x) (flat_map p xs))

pub none_seen : {A B : Type 0} (seen : A → B) (xs : List A) → map seen xs ≡ [] → xs ≡ []
none_seen seen [] e = refl
none_seen seen (x ∷ xs) e = cc
