-- What a name means as an entity type, by whether it is one behind its namespace.
use Rattle.std.proofs.Common.{◌≡◌, Bool, true, false, Option, Some, None, find, refl, ap, ◌∙◌, inl, inr}
use Rattle.std.specs.Prelude.{IsSome, if◌then◌else◌}
use Rattle.std.specs.Option.{is_some}
use Rattle.std.proofs.lemmas.Bool.{cases_Bool}
use Rattle.cedar_identifiers.specs.Candidates.{candidates, qualified}
use Rattle.cedar_identifiers.specs.Names.{components_of}
use Rattle.cedar_identifiers.specs.declared.internal_name.InternalName.{InternalName}
use Rattle.cedar_identifiers.specs.declared.reference_type.ReferenceType.TheVariants.{Entity}
use Rattle.schema_resolve_definitions.specs.Tests.{Tests}
use Rattle.schema_resolve_targets.specs.Tried.{own_kind}
use Rattle.schema_resolve_targets.proofs.Candidates.{own_found, plain_found, none_found}

module _ (t : Tests) (ns : Option InternalName) (name : InternalName) where
  abbrev own : Option Bool
  own = own_kind t ns Entity name

  abbrev meant : Option InternalName
  meant = find (λ p. t.is_entity (components_of p)) (candidates ns name)

  nowhere : is_some own ≡ false → own ≡ None
  nowhere h = go own h
    where
      go : (o : Option Bool) → is_some o ≡ false → o ≡ None
      go (Some b) e = cc
      go None e = refl

  pub own_target : is_some own ≡ true → (n : InternalName) → n ≡ qualified ns name → Some n ≡ meant
  own_target h n is = go own refl h
    where
      go : (o : Option Bool) → own ≡ o → is_some o ≡ true → Some n ≡ meant
      go (Some b) same e = ap (λ p. Some p) is ∙ own_found t ns Entity name b same
      go None same e = cc

  pub plain_target : is_some own ≡ false → t.is_entity (components_of name) ≡ true → (n : InternalName) → n ≡ name
      → Some n ≡ meant
  plain_target h there n is =
      ap (λ p. Some p) is
      ∙ plain_found t ns Entity name false (nowhere h) (ap (λ b. if b then Some false else None) there)

  pub no_target : is_some own ≡ false → t.is_entity (components_of name) ≡ false → None ≡ meant
  no_target h off = none_found t ns Entity name (nowhere h) (ap (λ b. if b then Some false else None) off)

  -- what means something and is none behind its namespace means itself
  pub known_target : is_some own ≡ false → IsSome meant → (n : InternalName) → n ≡ name → Some n ≡ meant
  known_target h known n is = elim (cases_Bool (t.is_entity (components_of name))) [
    | inl there ↦ plain_target h there n is
    | inr off ↦ absurd (let none : is_some {T = InternalName} None ≡ true = ap is_some (no_target h off) ∙ known in cc)
  ]
