-- The first candidate of a name that passes.
use Rattle.std.proofs.Common.{◌≡◌, Bool, true, false, cond, [], ◌∷◌, Option, Some, None, refl, sym, ap, ◌∙◌}
use Rattle.std.specs.Prelude.{find, if◌then◌else◌, ◌⊎◌}
use Rattle.std.proofs.Common.{inl, inr}
use Rattle.std.proofs.lemmas.Bool.{cases_Bool}
use Rattle.cedar_identifiers.specs.Candidates.{candidates, is_unqualified, qualified, behind}
use Rattle.cedar_identifiers.specs.declared.internal_name.InternalName.{InternalName}

twice : {A : Type 0} (b : Bool) (x y : A) → cond b x y ≡ cond b x (cond b x y)
twice true x y = refl
twice false x y = refl

module _ (passes : InternalName → Bool) where
  pair : (b : Bool) (x y : InternalName) → find passes (if b then x ∷ y ∷ [] else y ∷ [])
      ≡ (if passes (if b then x else y) then Some (if b then x else y) else (if passes y then Some y else None))
  pair true x y = refl
  pair false x y = twice (passes y) (Some y) None

  first_of : (ns : Option InternalName) (name : InternalName) → find passes (candidates ns name)
      ≡ (if passes (qualified ns name) then Some (qualified ns name) else (if passes name then Some name else None))
  first_of None name = twice (passes name) (Some name) None
  first_of (Some ns) name = pair (is_unqualified name) (behind ns name) name

  module _ (ns : Option InternalName) (name own : InternalName) (own_is : own ≡ qualified ns name) where
    shown : find passes (candidates ns name)
        ≡ (if passes own then Some own else (if passes name then Some name else None))
    shown = first_of ns name ∙ ap (λ q. if passes q then Some q else (if passes name then Some name else None))
        (sym own_is)

    pub own_found : passes own ≡ true → Some own ≡ find passes (candidates ns name)
    own_found h = sym (shown ∙ ap (λ b. if b then Some own else (if passes name then Some name else None)) h)

    pub plain_tried : passes own ≡ false → (plain : InternalName) → plain ≡ name
        → (if passes plain then Some plain else None) ≡ find passes (candidates ns name)
    plain_tried h plain e =
        ap (λ n. if passes n then Some n else None) e
        ∙ sym (shown ∙ ap (λ b. if b then Some own else (if passes name then Some name else None)) h)

    -- what was found is the own one, or nothing was found and it does not pass
    pub own_told : (r : InternalName) → Some r ≡ (if passes own then Some own else None)
        → Some r ≡ find passes (candidates ns name)
    own_told r h = go (cases_Bool (passes own))
      where
        go : (passes own ≡ true) ⊎ (passes own ≡ false) → Some r ≡ find passes (candidates ns name)
        go (inl hit) = (h ∙ ap (λ b. if b then Some own else None) hit) ∙ own_found hit
        go (inr miss) = absurd (let e : Some r ≡ None = h ∙ ap (λ b. if b then Some own else None) miss in cc)

    pub plain_told : None ≡ (if passes own then Some own else None) → (plain : InternalName) → plain ≡ name
        → (if passes plain then Some plain else None) ≡ find passes (candidates ns name)
    plain_told h plain e = go (cases_Bool (passes own))
      where
        go : (passes own ≡ true) ⊎ (passes own ≡ false)
            → (if passes plain then Some plain else None) ≡ find passes (candidates ns name)
        go (inl hit) = absurd (let e : None ≡ Some own = h ∙ ap (λ b. if b then Some own else None) hit in cc)
        go (inr miss) = plain_tried miss plain e
