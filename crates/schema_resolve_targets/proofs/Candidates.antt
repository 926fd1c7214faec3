-- The first candidate of a reference that is defined, told from its parts.
use Rattle.std.proofs.Common.{◌≡◌, ℕ, Bool, true, false, ◌&&◌, ◌||◌, List, [], ◌∷◌, ◌++◌, Option, Some, None, cond}
use Rattle.std.proofs.Common.{find, refl, sym, ap, ◌∙◌}
use Rattle.std.specs.Prelude.{if◌then◌else◌}
use Rattle.std.proofs.lemmas.Bool.{false≢true}
use Rattle.std.proofs.lemmas.List.{map-append}
use Rattle.cedar_identifiers.specs.Candidates.{behind, candidates, is_unqualified, qualified}
use Rattle.cedar_identifiers.specs.Names.{components_of}
use Rattle.cedar_data.specs.declared.loc.Loc.{Loc}
use Rattle.cedar_identifiers.specs.declared.id.Id.{Id}
use Rattle.cedar_identifiers.specs.declared.internal_name.InternalName.{InternalName}
use Rattle.cedar_identifiers.specs.declared.reference_type.ReferenceType.{ReferenceType}
use Rattle.cedar_identifiers.specs.declared.reference_type.ReferenceType.TheVariants.{Common, Entity, CommonOrEntity}
use Rattle.schema_resolve_definitions.specs.Tests.{Tests}
use Rattle.schema_resolve_targets.specs.Targets.{is_defined}
use Rattle.schema_resolve_targets.specs.Tried.{kind_found, own_kind, candidate}

-- what is found is defined, and what is not found is not
pub found_defined : (t : Tests) (kind : ReferenceType) (n : List (List ℕ)) (b : Bool) → kind_found t kind n ≡ Some b
    → is_defined t kind n ≡ true
found_defined t Common n b h = go (t.is_common n) h
  where
    go : (c : Bool) → (if c then Some true else None) ≡ Some b → c ≡ true
    go true e = refl
    go false e = cc
found_defined t Entity n b h = go (t.is_entity n) h
  where
    go : (c : Bool) → (if c then Some false else None) ≡ Some b → c ≡ true
    go true e = refl
    go false e = cc
found_defined t CommonOrEntity n b h = go (t.is_common n) (t.is_entity n) h
  where
    go : (c d : Bool) → (if c then Some true else (if d then Some false else None)) ≡ Some b → (c || d) ≡ true
    go true d e = refl
    go false true e = refl
    go false false e = cc

pub none_defined : (t : Tests) (kind : ReferenceType) (n : List (List ℕ)) → kind_found t kind n ≡ None
    → is_defined t kind n ≡ false
none_defined t Common n h = go (t.is_common n) h
  where
    go : (c : Bool) → (if c then Some true else None) ≡ None → c ≡ false
    go true e = cc
    go false e = refl
none_defined t Entity n h = go (t.is_entity n) h
  where
    go : (c : Bool) → (if c then Some false else None) ≡ None → c ≡ false
    go true e = cc
    go false e = refl
none_defined t CommonOrEntity n h = go (t.is_common n) (t.is_entity n) h
  where
    go : (c d : Bool) → (if c then Some true else (if d then Some false else None)) ≡ None → (c || d) ≡ false
    go true d e = cc
    go false true e = cc
    go false false e = refl

-- where either kind may be meant, a common type is told
pub either_told : (t : Tests) (n : List (List ℕ)) (b : Bool) → kind_found t CommonOrEntity n ≡ Some b
    → b ≡ t.is_common n
either_told t n b h = go (t.is_common n) (t.is_entity n) h
  where
    go : (c d : Bool) → (if c then Some true else (if d then Some false else None)) ≡ Some b → b ≡ c
    go true d e = cc
    go false true e = cc
    go false false e = cc

pub behind_parts : (ns : InternalName) (first : Id) (loc : Option Loc)
    → components_of (behind ns (record { first = first; others = []; loc = loc })) ≡ components_of ns ++ first.text ∷ []
behind_parts ns first loc = ap (λ l. ns.first.text ∷ l) (map-append (λ (i : Id). i.text) ns.others (first ∷ []))

-- the unqualified name passes behind its namespace
abbrev own : (List (List ℕ) → Bool) → Option InternalName → InternalName → Bool
own passes None name = false
own passes (Some ns) name = is_unqualified name && passes (components_of ns ++ name.first.text ∷ [])

abbrev first_passing : (List (List ℕ) → Bool) → Option InternalName → InternalName → Option InternalName
first_passing passes ns name = find (λ x. passes (components_of x)) (candidates ns name)

module _ (passes : List (List ℕ) → Bool) (ns : InternalName) (first : Id) (loc : Option Loc) where
  own_first_at : (others : List Id)
      → (let name : InternalName = record { first = first; others = others; loc = loc } in
      own passes (Some ns) name ≡ true → first_passing passes (Some ns) name ≡ Some (qualified (Some ns) name))
  own_first_at [] h =
      let name : InternalName = record { first = first; others = []; loc = loc } in
      ap (λ b. cond b (Some (behind ns name)) (find (λ x. passes (components_of x)) (name ∷ [])))
      (ap passes (behind_parts ns first loc) ∙ h)
  own_first_at (i ∷ is) h = absurd (false≢true h)

  plain_next_at : (others : List Id)
      → (let name : InternalName = record { first = first; others = others; loc = loc } in
      own passes (Some ns) name ≡ false
      → first_passing passes (Some ns) name ≡ cond (passes (components_of name)) (Some name) None)
  plain_next_at [] h =
      let name : InternalName = record { first = first; others = []; loc = loc } in
      ap (λ b. cond b (Some (behind ns name)) (find (λ x. passes (components_of x)) (name ∷ [])))
      (ap passes (behind_parts ns first loc) ∙ h)
  plain_next_at (i ∷ is) h = refl

own_first : (passes : List (List ℕ) → Bool) (ns : Option InternalName) (name : InternalName)
    → own passes ns name ≡ true → first_passing passes ns name ≡ Some (qualified ns name)
own_first passes None name h = absurd (false≢true h)
own_first passes (Some ns) name h = own_first_at passes ns name.first name.loc name.others h

plain_next : (passes : List (List ℕ) → Bool) (ns : Option InternalName) (name : InternalName)
    → own passes ns name ≡ false → first_passing passes ns name ≡ cond (passes (components_of name)) (Some name) None
plain_next passes None name h = refl
plain_next passes (Some ns) name h = plain_next_at passes ns name.first name.loc name.others h

own_told : (t : Tests) (ns : Option InternalName) (kind : ReferenceType) (name : InternalName) (b : Bool)
    → own_kind t ns kind name ≡ Some b → own (is_defined t kind) ns name ≡ true
own_told t None kind name b h = cc
own_told t (Some ns) kind name b h = go (is_unqualified name) h
  where
    go : (u : Bool) → (if u then kind_found t kind (components_of ns ++ name.first.text ∷ []) else None) ≡ Some b
        → (u && is_defined t kind (components_of ns ++ name.first.text ∷ [])) ≡ true
    go true e = found_defined t kind (components_of ns ++ name.first.text ∷ []) b e
    go false e = cc

own_missed : (t : Tests) (ns : Option InternalName) (kind : ReferenceType) (name : InternalName)
    → own_kind t ns kind name ≡ None → own (is_defined t kind) ns name ≡ false
own_missed t None kind name h = refl
own_missed t (Some ns) kind name h = go (is_unqualified name) h
  where
    go : (u : Bool) → (if u then kind_found t kind (components_of ns ++ name.first.text ∷ []) else None) ≡ None
        → (u && is_defined t kind (components_of ns ++ name.first.text ∷ [])) ≡ false
    go true e = none_defined t kind (components_of ns ++ name.first.text ∷ []) e
    go false e = refl

module _ (t : Tests) (ns : Option InternalName) (kind : ReferenceType) (name : InternalName) where
  abbrev is_meant : InternalName → Bool
  is_meant n = is_defined t kind (components_of n)

  -- a name that is defined behind its namespace means that
  pub own_found : (b : Bool) → own_kind t ns kind name ≡ Some b
      → Some (candidate ns name true) ≡ find is_meant (candidates ns name)
  own_found b h = sym (own_first (is_defined t kind) ns name (own_told t ns kind name b h))

  -- else it means itself where that is defined, and else nothing
  pub plain_found : (b : Bool) → own_kind t ns kind name ≡ None → kind_found t kind (components_of name) ≡ Some b
      → Some (candidate ns name false) ≡ find is_meant (candidates ns name)
  plain_found b none h =
      sym (plain_next (is_defined t kind) ns name (own_missed t ns kind name none)
      ∙ ap (λ d. cond d (Some name) None) (found_defined t kind (components_of name) b h))

  pub none_found : own_kind t ns kind name ≡ None → kind_found t kind (components_of name) ≡ None
      → None ≡ find is_meant (candidates ns name)
  none_found none h =
      sym (plain_next (is_defined t kind) ns name (own_missed t ns kind name none)
      ∙ ap (λ d. cond d (Some name) None) (none_defined t kind (components_of name) h))
