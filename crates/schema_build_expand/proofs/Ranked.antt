-- Ranks that are added, one part after another.
use Rattle.std.proofs.Common.{◌≡◌, ℕ, zero, suc, ◌<◌, List, [], ◌∷◌, ◌++◌, refl, sym, ap, ◌∙◌, subst, arith, Contains}
use Rattle.std.proofs.Common.{append_assoc, append-nil, Option, Some, inl, inr}
use Rattle.std.specs.List.{FoldsTo}
use Rattle.std.proofs.lemmas.List.Elements.{All-nil, All-cons, All-append, All-weaker, Contains-append_left}
use Rattle.std.proofs.lemmas.List.Elements.{Contains-append_right, Contains-append_cases}
use Rattle.cedar_identifiers.specs.declared.internal_name.InternalName.{InternalName}
use Rattle.cedar_identifiers.specs.declared.reference_type.ReferenceType.{ReferenceType}
use Rattle.std.specs.Borrow.{Bor}
use Rattle.schema_json_walk.specs.Parts.{Part, type_reference}
use Rattle.schema_json_walk.specs.Visits.{part_of}
use Rattle.schema_json_walk.specs.declared.lent_part.LentPart.{LentPart}
use Rattle.schema_json_walk.specs.declared.lent_part.LentPart.TheVariants as lent
use Rattle.schema_build_expand.specs.Scope.{Scope}
use Rattle.schema_build_expand.specs.Ranks.{MeansRank, IsRankOf, RefersTo, AreMeantRanks, AddsMeantRanks}

only : {A : Type 0} (p x : A) → Contains (p ∷ []) x → p ≡ x
only p x (zero, lt, e) = e
only p x (suc i, lt, e) = absurd (omega (arith, lt))

module _ {N : Type 0} (s : Scope N) (ns : Option InternalName) where
  -- the part is a reference that means the rank
  abbrev pub MeansAt : ℕ → Part N → Type 0
  MeansAt k (type_reference kind name) = MeansRank s ns kind name k
  MeansAt k _ = ⊥

  refers_at : (p : Part N) (k : ℕ) → RefersTo s ns (p ∷ []) k → MeansAt k p
  refers_at p k r = subst (MeansAt k) (sym (only p (type_reference r.0 r.1) r.2)) r.3

  -- a part that is lent and no reference means none
  pub never_at : (part : LentPart N)
      → ((kind : ReferenceType) (name : Bor N) → part ≡ lent.TypeReference kind name → ⊥)
      → (k : ℕ) → MeansAt k (part_of part) → ⊥
  never_at (lent.TypeReference kind name) other k m = other kind name refl
  never_at (lent.ContextReference name) other k m = m
  never_at (lent.Parent name) other k m = m
  never_at (lent.Principal name) other k m = m
  never_at (lent.Resource name) other k m = m
  never_at (lent.ActionParent id ty) other k m = m
  never_at (lent.ExtensionType name) other k m = m
  never_at lent.OpenRecord other k m = m
  never_at (lent.ActionAttributes names) other k m = m
  never_at lent.ExternalNotBare other k m = m

  no_parts : AreMeantRanks s ns [] []
  no_parts = record {
    sound = All-nil (RefersTo s ns []);
    whole = λ k r. absurd (let lt : r.2.0 < 0 = r.2.1 in omega arith);
  }

  both_parts : (ps qs : List (Part N)) (row more : List ℕ) → AreMeantRanks s ns ps row → AreMeantRanks s ns qs more
      → AreMeantRanks s ns (ps ++ qs) (row ++ more)
  both_parts ps qs row more a b = record {
    sound = All-append (RefersTo s ns (ps ++ qs)) row more
        (All-weaker (RefersTo s ns ps) (RefersTo s ns (ps ++ qs))
        (λ k r. (r.0, r.1, Contains-append_left ps qs (type_reference r.0 r.1) r.2, r.3)) row a.sound)
        (All-weaker (RefersTo s ns qs) (RefersTo s ns (ps ++ qs))
        (λ k r. (r.0, r.1, Contains-append_right ps qs (type_reference r.0 r.1) r.2, r.3)) more b.sound);
    whole = λ k r. elim (Contains-append_cases ps qs (type_reference r.0 r.1) r.2) [
      | inl c ↦ Contains-append_left row more k (a.whole k (r.0, r.1, c, r.3))
      | inr c ↦ Contains-append_right row more k (b.whole k (r.0, r.1, c, r.3))
    ];
  }

  adds_none : (ranks : List ℕ) → AddsMeantRanks s ns [] ranks ranks
  adds_none ranks = ([], sym (append-nil ranks), no_parts)

  adds_both : (ps qs : List (Part N)) (a b c : List ℕ) → AddsMeantRanks s ns ps a b → AddsMeantRanks s ns qs b c
      → AddsMeantRanks s ns (ps ++ qs) a c
  adds_both ps qs a b c x y =
      (x.0 ++ y.0, y.1 ∙ ap (λ l. l ++ y.0) x.1 ∙ append_assoc a x.0 y.0, both_parts ps qs x.0 y.0 x.2 y.2)

  -- a part that means no rank
  pub adds_nothing : (p : Part N) (ranks : List ℕ) → ((k : ℕ) → MeansAt k p → ⊥)
      → AddsMeantRanks s ns (p ∷ []) ranks ranks
  adds_nothing p ranks never = (
    [],
    sym (append-nil ranks),
    record { sound = All-nil (RefersTo s ns (p ∷ [])); whole = λ k r. absurd (never k (refers_at p k r)) },
  )

  pub adds_rank : (kind : ReferenceType) (name : N) (k : ℕ) (a b : List ℕ) → IsRankOf s ns kind name (Some k)
      → b ≡ a ++ k ∷ [] → AddsMeantRanks s ns (type_reference kind name ∷ []) a b
  adds_rank kind name k a b h e =
      let P = RefersTo s ns (type_reference kind name ∷ []) in (
        k ∷ [],
        e,
        record {
          sound = All-cons P k [] (kind, name, (0, omega arith, refl), h.0) (All-nil P);
          whole = λ j r. (0, omega arith, sym (h.1 j (refers_at (type_reference kind name) j r)));
        },
      )

-- what a visitor adds to its ranks part by part, with its names kept
module _ {N S R : Type 0} (scope : R → Scope N) (place : R → Option InternalName) (names : S → R)
    (ranks : S → List ℕ) where
  abbrev Takes : S → Part N → S → Type 0
  Takes a p b = (names b ≡ names a) × AddsMeantRanks (scope (names a)) (place (names a)) (p ∷ []) (ranks a) (ranks b)

  pub all_added : (ps : List (Part N)) (a b : S) → FoldsTo Takes a ps b
      → AddsMeantRanks (scope (names a)) (place (names a)) ps (ranks a) (ranks b)
  all_added [] a b h =
      subst (λ c. AddsMeantRanks (scope (names a)) (place (names a)) [] (ranks a) (ranks c)) h
      (adds_none (scope (names a)) (place (names a)) (ranks a))
  all_added (p ∷ ps) a b h =
      let c = h.0 in
      let rest =
      subst (λ r. AddsMeantRanks (scope r) (place r) ps (ranks c) (ranks b)) h.1.0 (all_added ps c b h.2) in
      adds_both (scope (names a)) (place (names a)) (p ∷ []) ps (ranks a) (ranks c) (ranks b) h.1.1 rest

pub row_made : {N : Type 0} (s : Scope N) (ns : Option InternalName) (ps : List (Part N)) (old row : List ℕ)
    → old ≡ []
    → AddsMeantRanks s ns ps old row → AreMeantRanks s ns ps row
row_made s ns ps old row e a = subst (AreMeantRanks s ns ps) (sym (a.1 ∙ ap (λ xs. xs ++ a.0) e)) a.2
