-- The first uses of a list.
use Rattle.std.proofs.Common.{◌≡◌, false, cond, List, [], ◌∷◌, Contains, Ordering, refl, sym, ap, ◌∙◌, subst, inl, inr}
use Rattle.std.specs.Prelude.{◌⊎◌, filter}
use Rattle.std.specs.declared.cmp.Ordering.TheVariants.{Less, Equal, Greater}
use Rattle.std.specs.Cmp.{IsTotalOrder}
use Rattle.std.specs.List.{AllByRecursion}
use Rattle.std.specs.List.Sorted.{IsStrictlySortedBy}
use Rattle.std.specs.Ordering.{is_eq, ordering_reverse, match_ordering}
use Rattle.std.proofs.lemmas.Cmp.{tied_itself}
use Rattle.std.proofs.lemmas.List.Elements.{All-from_recursion}
use Rattle.cedar_data.proofs.Lists.{contains_first, contains_later}
use Rattle.cedar_data.proofs.Orders.{all_above}
use Rattle.schema_build_hierarchy.specs.FirstUses.{IsFirstUse, HasAlike, AreFirstUses}
use Rattle.schema_build_hierarchy.proofs.Once.{contains_cases}
use Rattle.laws_build.proofs.Closure.Lists.{has_none}

module _ {A : Type 0} {R : A → A → Ordering} (o : IsTotalOrder R) where
  -- the item in its place, and in place of one that is alike
  abbrev put : A → List A → List A
  put x [] = x ∷ []
  put x (y ∷ ys) = match_ordering (R x y) (x ∷ y ∷ ys) (x ∷ ys) (y ∷ put x ys)

  abbrev pub firsts : List A → List A
  firsts [] = []
  firsts (x ∷ xs) = put x (firsts xs)

  abbrev placed : A → A → List A → Ordering → List A
  placed x y ys c = match_ordering c (x ∷ y ∷ ys) (x ∷ ys) (y ∷ put x ys)

  put_is : (x y : A) (ys : List A) (c : Ordering) → R x y ≡ c → put x (y ∷ ys) ≡ placed x y ys c
  put_is x y ys c e = ap (placed x y ys) e

  back : (x y : A) → R x y ≡ Greater → R y x ≡ Less
  back x y e = o.antisymm y x ∙ ap ordering_reverse e

  -- what holds of the item and of all holds when it is put there
  all_put : (P : A → Type 0) (x : A) (ys : List A) → P x → AllByRecursion P ys → AllByRecursion P (put x ys)
  all_put P x [] p h = (p, tt)
  all_put P x (y ∷ ys) p h = by_case (R x y) refl (all_put P x ys p h.1)
    where
      by_case : (c : Ordering) → R x y ≡ c → AllByRecursion P (put x ys) → AllByRecursion P (put x (y ∷ ys))
      by_case Less e more = subst (AllByRecursion P) (sym (put_is x y ys Less e)) (p, h)
      by_case Equal e more = subst (AllByRecursion P) (sym (put_is x y ys Equal e)) (p, h.1)
      by_case Greater e more = subst (AllByRecursion P) (sym (put_is x y ys Greater e)) (h.0, more)

  alike_all : (x y : A) (ys : List A) → R x y ≡ Equal → AllByRecursion (λ z. R y z ≡ Less) ys
      → AllByRecursion (λ z. R x z ≡ Less) ys
  alike_all x y [] e h = tt
  alike_all x y (z ∷ ys) e h = (o.congr x y z e ∙ h.0, alike_all x y ys e h.1)

  put_rises : (x : A) (ys : List A) → IsStrictlySortedBy R ys → IsStrictlySortedBy R (put x ys)
  unfolding IsStrictlySortedBy
  put_rises x [] up = (tt, tt)
  put_rises x (y ∷ ys) up = by_case (R x y) refl (put_rises x ys up.1)
    where
      by_case : (c : Ordering) → R x y ≡ c → IsStrictlySortedBy R (put x ys) → IsStrictlySortedBy R (put x (y ∷ ys))
      by_case Less e more =
          subst (IsStrictlySortedBy R) (sym (put_is x y ys Less e)) ((e, all_above o x y ys e up.0), up)
      by_case Equal e more =
          subst (IsStrictlySortedBy R) (sym (put_is x y ys Equal e)) (alike_all x y ys e up.0, up.1)
      by_case Greater e more =
          subst (IsStrictlySortedBy R) (sym (put_is x y ys Greater e))
          (all_put (λ z. R y z ≡ Less) x ys (back x y e) up.0, more)

  -- the item is the first use, and passes those that are not alike
  abbrev alike : A → List A → List A
  alike x = filter (λ y. is_eq (R x y))

  here : (x : A) (uses : List A) → IsFirstUse R (x ∷ uses) x
  here x uses = (alike x uses, ap (λ b. cond b (x ∷ alike x uses) (alike x uses)) (ap is_eq (tied_itself o x)))

  passed : (z x : A) (uses : List A) → is_eq (R z x) ≡ false → IsFirstUse R uses z → IsFirstUse R (x ∷ uses) z
  passed z x uses off h = (h.0, ap (λ b. cond b (x ∷ alike z uses) (alike z uses)) off ∙ h.1)

  above : (x z : A) → R x z ≡ Less → is_eq (R z x) ≡ false
  above x z e = ap is_eq (o.antisymm z x ∙ ap ordering_reverse e)

  all_passed : (x : A) (uses ys : List A) → AllByRecursion (λ z. R x z ≡ Less) ys
      → AllByRecursion (IsFirstUse R uses) ys → AllByRecursion (IsFirstUse R (x ∷ uses)) ys
  all_passed x uses [] g h = tt
  all_passed x uses (z ∷ ys) g h = (passed z x uses (above x z g.0) h.0, all_passed x uses ys g.1 h.1)

  put_first : (x : A) (uses ys : List A) → IsStrictlySortedBy R ys → AllByRecursion (IsFirstUse R uses) ys
      → AllByRecursion (IsFirstUse R (x ∷ uses)) (put x ys)
  unfolding IsStrictlySortedBy
  put_first x uses [] up h = (here x uses, tt)
  put_first x uses (y ∷ ys) up h = by_case (R x y) refl (put_first x uses ys up.1 h.1)
    where
      by_case : (c : Ordering) → R x y ≡ c → AllByRecursion (IsFirstUse R (x ∷ uses)) (put x ys)
          → AllByRecursion (IsFirstUse R (x ∷ uses)) (put x (y ∷ ys))
      by_case Less e more =
          subst (AllByRecursion (IsFirstUse R (x ∷ uses))) (sym (put_is x y ys Less e))
          (here x uses, all_passed x uses (y ∷ ys) (e, all_above o x y ys e up.0) h)
      by_case Equal e more =
          subst (AllByRecursion (IsFirstUse R (x ∷ uses))) (sym (put_is x y ys Equal e))
          (here x uses, all_passed x uses ys (alike_all x y ys e up.0) h.1)
      by_case Greater e more =
          subst (AllByRecursion (IsFirstUse R (x ∷ uses))) (sym (put_is x y ys Greater e))
          (passed y x uses (ap is_eq (back x y e)) h.0, more)

  -- the item stands where it is put, and what is not alike stays
  put_there : (x : A) (ys : List A) → Contains (put x ys) x
  put_there x [] = contains_first x []
  put_there x (y ∷ ys) = by_case (R x y) refl (put_there x ys)
    where
      by_case : (c : Ordering) → R x y ≡ c → Contains (put x ys) x → Contains (put x (y ∷ ys)) x
      by_case Less e more = subst (λ l. Contains l x) (sym (put_is x y ys Less e)) (contains_first x (y ∷ ys))
      by_case Equal e more = subst (λ l. Contains l x) (sym (put_is x y ys Equal e)) (contains_first x ys)
      by_case Greater e more =
          subst (λ l. Contains l x) (sym (put_is x y ys Greater e)) (contains_later y (put x ys) x more)

  put_stays : (x : A) (ys : List A) (z : A) → Contains ys z → (R x z ≡ Equal) ⊎ Contains (put x ys) z
  put_stays x [] z c = has_none z c
  put_stays x (y ∷ ys) z c = by_case (R x y) refl (put_stays x ys z)
    where
      by_case : (d : Ordering) → R x y ≡ d → (Contains ys z → (R x z ≡ Equal) ⊎ Contains (put x ys) z)
          → (R x z ≡ Equal) ⊎ Contains (put x (y ∷ ys)) z
      by_case Less e more =
          inr (subst (λ l. Contains l z) (sym (put_is x y ys Less e)) (contains_later x (y ∷ ys) z c))
      by_case Equal e more = elim (contains_cases y ys z c) [
        | inl same ↦ inl (subst (λ w. R x w ≡ Equal) same e)
        | inr there ↦ inr (subst (λ l. Contains l z) (sym (put_is x y ys Equal e)) (contains_later x ys z there))
      ]
      by_case Greater e more = elim (contains_cases y ys z c) [
        | inl same ↦ inr (subst (λ w. Contains (put x (y ∷ ys)) w) same
            (subst (λ l. Contains l y) (sym (put_is x y ys Greater e)) (contains_first y (put x ys))))
        | inr there ↦ elim (more there) [
          | inl tied ↦ inl tied
          | inr kept ↦ inr (subst (λ l. Contains l z) (sym (put_is x y ys Greater e))
              (contains_later y (put x ys) z kept))
        ]
      ]

  firsts_rise : (uses : List A) → IsStrictlySortedBy R (firsts uses)
  unfolding IsStrictlySortedBy
  firsts_rise [] = tt
  firsts_rise (x ∷ xs) = put_rises x (firsts xs) (firsts_rise xs)

  firsts_first : (uses : List A) → AllByRecursion (IsFirstUse R uses) (firsts uses)
  firsts_first [] = tt
  firsts_first (x ∷ xs) = put_first x xs (firsts xs) (firsts_rise xs) (firsts_first xs)

  firsts_whole : (uses : List A) (u : A) → Contains uses u → HasAlike R (firsts uses) u
  firsts_whole [] u c = has_none u c
  firsts_whole (x ∷ xs) u c = elim (contains_cases x xs u c) [
    | inl same ↦ (x, put_there x (firsts xs), subst (λ w. R x w ≡ Equal) same (tied_itself o x))
    | inr there ↦
        let (z, cz, tied) = firsts_whole xs u there in
        elim (put_stays x (firsts xs) z cz) [
          | inl also ↦ (x, put_there x (firsts xs), o.congr x z u also ∙ tied)
          | inr kept ↦ (z, kept, tied)
        ]
  ]

  pub are_firsts : (uses : List A) → AreFirstUses R uses (firsts uses)
  are_firsts uses = record {
    rising = firsts_rise uses;
    first = All-from_recursion (IsFirstUse R uses) (firsts uses) (firsts_first uses);
    whole = firsts_whole uses;
  }

  -- what holds of all uses holds of the first ones
  pub firsts_have : (P : A → Type 0) (uses : List A) → AllByRecursion P uses → AllByRecursion P (firsts uses)
  firsts_have P [] h = tt
  firsts_have P (x ∷ xs) h = all_put P x (firsts xs) h.0 (firsts_have P xs h.1)
