-- Members of lists: lists that rise are known by them, and a list that holds as many distinct ones as it is long holds
-- no other.
use Rattle.std.proofs.Common.{◌≡◌, ◌⊎◌, suc, List, [], ◌∷◌, length, Ordering, inl, inr, refl, sym, ap, ◌∙◌, subst}
use Rattle.std.proofs.Common.{arith}
use Rattle.std.specs.List.{AllByRecursion}
use Rattle.std.specs.List.Sorted.{IsStrictlySortedBy}
use Rattle.std.specs.Cmp.{IsTotalOrder}
use Rattle.std.specs.Ordering.{ordering_reverse}
use Rattle.std.specs.declared.cmp.Ordering.TheVariants.{Less, Greater}
use Rattle.std.proofs.lemmas.Map.Keys.{sorted_head, sorted_tail}

module _ {A : Type 0} where
  abbrev pub In : A → List A → Type 0
  In x [] = ⊥
  In x (y ∷ ys) = (x ≡ y) ⊎ In x ys

  abbrev pub AllIn : List A → List A → Type 0
  AllIn [] ys = Unit {0}
  AllIn (x ∷ xs) ys = In x ys × AllIn xs ys

  abbrev pub Apart : List A → Type 0
  Apart [] = Unit {0}
  Apart (x ∷ xs) = (In x xs → ⊥) × Apart xs

  -- the list without a member
  abbrev pub without : (x : A) (ys : List A) → In x ys → List A
  without x [] h = []
  without x (y ∷ ys) (inl e) = ys
  without x (y ∷ ys) (inr h) = y ∷ without x ys h

  pub shorter : (x : A) (ys : List A) (h : In x ys) → suc (length (without x ys h)) ≡ length ys
  shorter x [] h = absurd h
  shorter x (y ∷ ys) (inl e) = refl
  shorter x (y ∷ ys) (inr h) = ap suc (shorter x ys h)

  pub kept : (x z : A) (ys : List A) (h : In x ys) → (z ≡ x → ⊥) → In z ys → In z (without x ys h)
  kept x z [] h other there = absurd h
  kept x z (y ∷ ys) (inl e) other (inl f) = absurd (other (f ∙ sym e))
  kept x z (y ∷ ys) (inl e) other (inr there) = there
  kept x z (y ∷ ys) (inr h) other (inl f) = inl f
  kept x z (y ∷ ys) (inr h) other (inr there) = inr (kept x z ys h other there)

  all_kept : (x : A) (xs ys : List A) (h : In x ys) → (In x xs → ⊥) → AllIn xs ys → AllIn xs (without x ys h)
  all_kept x [] ys h out all = tt
  all_kept x (z ∷ xs) ys h out (there, all) =
      (kept x z ys h (λ e. out (inl (sym e))) there, all_kept x xs ys h (λ k. out (inr k)) all)

  -- as many distinct members as the list is long are all members
  pub no_other : ((x y : A) → (x ≡ y) ⊎ (x ≡ y → ⊥)) → (xs ys : List A) → length ys ≡ length xs → Apart xs
      → AllIn xs ys → (z : A) → In z ys → In z xs
  no_other same [] [] e apart all z there = absurd there
  no_other same [] (y ∷ ys) e apart all z there = absurd (omega (arith, e))
  no_other same (x ∷ xs) ys e (out, apart) (here, all) z there =
      elim (same z x) [
        | inl f ↦ inl f
        | inr f ↦ inr (no_other same xs (without x ys here)
            (let k : suc (length (without x ys here)) ≡ length ys = shorter x ys here in omega (arith, e, k)) apart
            (all_kept x xs ys here out all) z (kept x z ys here f there))
      ]

  module _ {R : A → A → Ordering} (o : IsTotalOrder R) where
    pub less_itself : (x : A) → R x x ≡ Less → ⊥
    less_itself x h = let e : Less ≡ Greater = sym h ∙ (o.antisymm x x ∙ ap ordering_reverse h) in cc

    less_back : (x y : A) → R x y ≡ Less → R y x ≡ Less → ⊥
    less_back x y h k = less_itself x (o.trans x y x h k)

    pub above : (x z : A) (xs : List A) → AllByRecursion (λ y. R x y ≡ Less) xs → In z xs → R x z ≡ Less
    above x z [] all there = absurd there
    above x z (y ∷ xs) (h, all) (inl e) = subst (λ w. R x w ≡ Less) (sym e) h
    above x z (y ∷ xs) (h, all) (inr there) = above x z xs all there

    tails : (x y : A) (xs ys : List A) → x ≡ y → AllByRecursion (λ z. R x z ≡ Less) xs
        → ((z : A) → In z (x ∷ xs) → In z (y ∷ ys)) → (z : A) → In z xs → In z ys
    tails x y xs ys e up into z there =
        elim (into z (inr there)) [
          | inl f ↦ absurd (less_itself x (subst (λ w. R x w ≡ Less) (f ∙ sym e) (above x z xs up there)))
          | inr k ↦ k
        ]

    heads : (x y : A) (xs ys : List A) → AllByRecursion (λ z. R x z ≡ Less) xs → AllByRecursion (λ z. R y z ≡ Less) ys
        → In x (y ∷ ys) → In y (x ∷ xs) → x ≡ y
    heads x y xs ys up down (inl e) k = e
    heads x y xs ys up down (inr h) (inl e) = sym e
    heads x y xs ys up down (inr h) (inr k) = absurd (less_back x y (above x y xs up k) (above y x ys down h))

    -- two lists that rise and have the same members are the same
    pub same_rising : (xs ys : List A) → IsStrictlySortedBy R xs → IsStrictlySortedBy R ys
        → ((z : A) → In z xs → In z ys) → ((z : A) → In z ys → In z xs) → xs ≡ ys
    same_rising [] [] up down into back = refl
    same_rising [] (y ∷ ys) up down into back = absurd (back y (inl refl))
    same_rising (x ∷ xs) [] up down into back = absurd (into x (inl refl))
    same_rising (x ∷ xs) (y ∷ ys) up down into back =
        let first = sorted_head R x xs up in
        let second = sorted_head R y ys down in
        let e : x ≡ y = heads x y xs ys first second (into x (inl refl)) (back y (inl refl)) in
        let more : xs ≡ ys = same_rising xs ys (sorted_tail R x xs up) (sorted_tail R y ys down)
        (tails x y xs ys e first into) (tails y x ys xs (sym e) second back) in
        λ i. e i ∷ more i
