-- The first part that gives something, as a visitor finds it.
use Rattle.std.proofs.Common.{◌≡◌, ◌∷◌, [], ◌++◌, List, refl, sym, ap, ◌∙◌, inl, inr, subst}
use Rattle.std.specs.List.{flat_map, FoldsTo}
use Rattle.schema_json_walk.specs.Visits.{StopsAmong}
use Rattle.schema_build_errors.specs.declared.schema_error.SchemaError.{SchemaError}
use Rattle.schema_build_checks.specs.Refusing.{IsAboutFirst, GivenNothing}
use Rattle.schema_build_checks.specs.FirstRefused.{IsHead, Refuses}
use Rattle.schema_build_checks.specs.declared.refused.Refused.{Refused}
use Rattle.schema_build_checks.specs.declared.refused.Refused.TheVariants.{First}

-- no error is about the first of none
pub nothing_first : {U : Type 0} (about : U → SchemaError → Type 0) (us : List U) → us ≡ [] → (e : SchemaError)
    → IsAboutFirst about us e → ⊥
nothing_first about us none e h = subst (λ l. IsAboutFirst about l e) none h

-- what holds of each step wherever another relation does
pub steps_weaker : {S P : Type 0} (R Q : S → P → S → Type 0) → ((s : S) (p : P) (t : S) → R s p t → Q s p t)
    → (s t : S) (ps : List P) → FoldsTo R s ps t → FoldsTo Q s ps t
steps_weaker R Q weaker s t [] h = h
steps_weaker R Q weaker s t (p ∷ ps) (j, here, more) = (j, weaker s p j here, steps_weaker R Q weaker j t ps more)

module _ {S P U : Type 0} (gives : S → P → List U) where
  pub none_given : (s t : S) (ps : List P) → FoldsTo (GivenNothing gives) s ps t → flat_map (gives s) ps ≡ []
  none_given s t [] h = refl
  none_given s t (p ∷ ps) (j, (same, nothing), more) =
      ap (λ l. l ++ flat_map (gives s) ps) nothing
      ∙ none_given s t ps (subst (λ j. FoldsTo (GivenNothing gives) j ps t) same more)

module _ {S P U : Type 0} (gives : S → P → List U) where
  first_of : (us vs : List U) (u : U) → IsHead us u → IsHead (us ++ vs) u
  first_of [] vs u h = absurd h
  first_of (x ∷ us) vs u h = h

  pub first_refused : (s : S) (ps : List P) (u : U)
      → StopsAmong (GivenNothing gives) (Refuses gives) s ps (First u) → IsHead (flat_map (gives s) ps) u
  first_refused s [] u h = absurd h
  first_refused s (p ∷ ps) u (inl here) = first_of (gives s p) (flat_map (gives s) ps) u here
  first_refused s (p ∷ ps) u (inr (j, (same, nothing), more)) =
      subst (λ l. IsHead (l ++ flat_map (gives s) ps) u) (sym nothing)
      (first_refused s ps u (subst (λ j. StopsAmong (GivenNothing gives) (Refuses gives) j ps (First u)) same more))

  pub first_at : (s : S) (ps : List P) (r : Refused U) (u : U) → r ≡ First u
      → StopsAmong (GivenNothing gives) (Refuses gives) s ps r → IsHead (flat_map (gives s) ps) u
  first_at s ps r u e h = first_refused s ps u (subst (StopsAmong (GivenNothing gives) (Refuses gives) s ps) e h)

-- an error about what is the first of these is about the first of these
pub about_first : {U : Type 0} (about : U → SchemaError → Type 0) (us : List U) (u : U) (e : SchemaError) → IsHead us u
    → about u e → IsAboutFirst about us e
about_first about [] u e h a = absurd h
about_first about (x ∷ us) u e h a = subst (λ y. about y e) h a
