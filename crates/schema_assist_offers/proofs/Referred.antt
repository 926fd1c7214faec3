-- What words mean is what references of these words do.
use Rattle.std.proofs.Common.{◌≡◌, ℕ, Bool, true, false, List, [], ◌∷◌, ◌++◌, map, Option, Some, None, cond, find}
use Rattle.std.proofs.Common.{refl}
use Rattle.std.proofs.Common.{ap, ◌∙◌}
use Rattle.std.specs.Option.{option_map}
use Rattle.std.proofs.lemmas.List.{map-append}
use Rattle.cedar_data.specs.Span.{Span}
use Rattle.cedar_identifiers.specs.Candidates.{behind, candidates}
use Rattle.cedar_identifiers.specs.Names.{components_of}
use Rattle.cedar_identifiers.specs.declared.id.Id.{Id}
use Rattle.cedar_identifiers.specs.declared.internal_name.InternalName.{InternalName}
use Rattle.cedar_identifiers.specs.declared.raw_name.RawName.{RawName}
use Rattle.cedar_identifiers.specs.declared.reference_type.ReferenceType.{ReferenceType}
use Rattle.schema_resolve_definitions.specs.Tests.{Tests}
use Rattle.schema_resolve_targets.specs.Qualified.{in_namespace}
use Rattle.schema_resolve_targets.specs.Targets.{is_defined, target}
use Rattle.schema_assist_offers.specs.Offers.{candidates_in}
use Rattle.schema_assist_offers.specs.Spellings.{words_in}

-- what is found by its words
found_words : (p : List (List ℕ) → Bool) (names : List InternalName)
    → option_map components_of (find (λ n. p (components_of n)) names) ≡ find p (map components_of names)
found_words p [] = refl
found_words p (n ∷ names) = go (p (components_of n)) (found_words p names)
  where
    go : (b : Bool)
        → option_map components_of (find (λ x. p (components_of x)) names) ≡ find p (map components_of names)
        → option_map components_of (cond b (Some n) (find (λ x. p (components_of x)) names))
        ≡ cond b (Some (components_of n)) (find p (map components_of names))
    go true h = refl
    go false h = h

-- a word is found twice where it is found once
twice : (p : List (List ℕ) → Bool) (w : List (List ℕ)) → find p (w ∷ []) ≡ find p (w ∷ w ∷ [])
twice p w = go (p w)
  where
    go : (b : Bool) → cond b (Some w) None ≡ cond b (Some w) (cond b (Some w) None)
    go true = refl
    go false = refl

behind_words : (ns : InternalName) (first : Id) (others : List Id) (place : Option Span)
    → components_of (behind ns (record { first = first; others = others; loc = place }))
    ≡ components_of ns ++ components_of (record { first = first; others = others; loc = place })
behind_words ns first others place =
    ap (λ l. ns.first.text ∷ l) (map-append (λ (i : Id). i.text) ns.others (first ∷ others))

first_candidate : (p : List (List ℕ) → Bool) (ns : Option InternalName) (first : Id) (others : List Id)
    (place : Option Span)
    → find p (map components_of (candidates ns (record { first = first; others = others; loc = place })))
    ≡ find p (candidates_in (words_in ns) (components_of (record { first = first; others = others; loc = place })))
first_candidate p None first [] place = twice p (first.text ∷ [])
first_candidate p None first (o ∷ others) place = refl
first_candidate p (Some ns) first [] place =
    ap (λ w. find p (w ∷ (first.text ∷ []) ∷ [])) (behind_words ns first [] place)
first_candidate p (Some ns) first (o ∷ others) place = refl

pub meant_alike : (t : Tests) (kind : ReferenceType) (ns : Option InternalName) (name : RawName)
    → option_map components_of (target t (in_namespace ns kind name))
    ≡ find (is_defined t kind) (candidates_in (words_in ns) (components_of name.name))
meant_alike t kind ns name =
    found_words (is_defined t kind) (candidates ns name.name)
    ∙ first_candidate (is_defined t kind) ns name.name.first name.name.others name.name.loc
