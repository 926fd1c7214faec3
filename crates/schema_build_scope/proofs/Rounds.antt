-- Common types that reach themselves, by their ranks and by their names.
use Rattle.std.proofs.Common.{◌≡◌, ℕ, List, length, Option, Some, sym, ap, ◌∙◌, subst}
use Rattle.std.proofs.Common.{arith}
use Rattle.std.specs.Prelude.{slice_get}
use Rattle.std.specs.Borrow.{Bor}
use Rattle.std.proofs.lemmas.Option.{slice_get_within, same_Some}
use Rattle.cedar_identifiers.specs.declared.internal_name.InternalName.{InternalName}
use Rattle.schema_json.specs.declared.types.Type.{«Type»}
use Rattle.schema_json_walk.specs.Walk.{parts}
use Rattle.schema_build_graph.specs.Paths.{Reaches}
use Rattle.schema_build_expand.specs.Scope.{Scope, DeclaredType, IsRanked}
use Rattle.schema_build_expand.specs.Commons.{AreCommons}
use Rattle.schema_build_expand.specs.Rows.{RefersBy}
use Rattle.schema_build_expand.proofs.Linked.{at_some}
use Rattle.schema_build_scope.specs.TypeReaches.{MeansCommon, RefersToCommon, TypeReaches}
use Rattle.schema_build_scope.proofs.Apart.{RanksApart}
use Rattle.schema_build_scope.proofs.Paths.{reaches_alike, first_step}

module _ {N R : Type 0} (s : Scope N) (scope : R → Scope N) (place : R → Option InternalName)
    (commons : List (R × Bor («Type» N))) (are : AreCommons s scope place commons)
    (count : length s.commons ≡ length commons) (apart : RanksApart s) where
  -- the rank is that of the declared common type of this name
  abbrev Named : ℕ → List (List ℕ) → Type 0
  Named k name = IsRanked s name k

  -- the type of the declaration of a rank
  declared_at : (k : ℕ) (d : DeclaredType N) (c : R × Bor («Type» N)) → slice_get s.commons k ≡ Some d
      → slice_get commons k ≡ Some c → (d.place ≡ place c.0) × (d.ty ≡ c.1.now)
  declared_at k d c at_d at_c =
      let of_c = (are k c at_c).1 in
      let same : of_c.0 ≡ d = same_Some of_c.0 d (sym of_c.1 ∙ at_d) in
      (ap (λ (x : DeclaredType N). x.place) (sym same) ∙ of_c.2, ap (λ (x : DeclaredType N). x.ty) (sym same) ∙ of_c.3)

  step_up : (a b : ℕ) (x : List (List ℕ)) → RefersBy s place commons a b → Named a x
      → (y : List (List ℕ)) × Named b y × RefersToCommon s x y
  step_up a b x (c, at_c, (kind, written, among, (full, meant, ranked))) (d, at_d, is) =
      let e = declared_at a d c at_d at_c in
      let is_meant : MeansCommon s d.place (parts d.ty) full =
      subst (λ p. MeansCommon s p (parts d.ty) full) (sym e.0)
      (subst (λ t. MeansCommon s (place c.0) (parts t) full) (sym e.1) (kind, written, among, meant)) in
      (full, ranked, (d, ranked.0, (a, at_d, is), (b, ranked.1, ranked.2), is_meant))

  step_down : (x y : List (List ℕ)) (a : ℕ) → RefersToCommon s x y → Named a x
      → (b : ℕ) × Named b y × RefersBy s place commons a b
  step_down x y a (d, e, (k, at_d, is_d), (b, at_e, is_e), (kind, written, among, meant)) ranked =
      let same : k ≡ a = apart x k a (d, at_d, is_d) ranked in
      let at_a : slice_get s.commons a ≡ Some d = ap (slice_get s.commons) (sym same) ∙ at_d in
      let c = at_some commons a (omega (arith, slice_get_within s.commons a d at_a)) in
      let q = declared_at a d c.0 at_a c.1 in
      let is_meant : MeansCommon s (place c.0.0) (parts c.0.1.now) y =
      subst (λ p. MeansCommon s p (parts c.0.1.now) y) q.0
      (subst (λ t. MeansCommon s d.place (parts t) y) q.1 (kind, written, among, meant)) in (
        b,
        (e, at_e, is_e),
        (c.0, c.1, (is_meant.0, is_meant.1, is_meant.2, (y, is_meant.3, (e, at_e, is_e)))),
      )

  -- the rank reaches itself, and so does the name
  pub round_named : (k : ℕ) (x : List (List ℕ)) → Named k x → Reaches (RefersBy s place commons) k k
      → TypeReaches s x x
  round_named k x named round =
      let r = reaches_alike (RefersBy s place commons) (RefersToCommon s) Named step_up k k x named round in
      let other = r.1 in
      let d : other.0 ≡ named.0 = same_Some other.0 named.0 (sym other.1 ∙ named.1) in
      let same : r.0 ≡ x = sym other.2 ∙ ap (λ (e : DeclaredType N). e.name) d ∙ named.2 in
      subst (TypeReaches s x) same r.2

  -- the name reaches itself, and so does its rank
  pub round_ranked : (x : List (List ℕ)) → TypeReaches s x x
      → (k : ℕ) × Named k x × Reaches (RefersBy s place commons) k k
  round_ranked x round =
      let first = (first_step (RefersToCommon s) x x round).1 in
      let k = first.2.0 in
      let named : Named k x = (first.0, first.2.1, first.2.2) in
      let r = reaches_alike (RefersToCommon s) (RefersBy s place commons) (λ y j. Named j y) step_down x x k
      named round in
      (k, named, subst (Reaches (RefersBy s place commons) k) (apart x r.0 k r.1 named) r.2)

  -- a rank that reaches itself is that of a declared common type
  pub round_below : (k : ℕ) → Reaches (RefersBy s place commons) k k
      → (d : DeclaredType N) × (slice_get s.commons k ≡ Some d)
  round_below k round =
      let first = (first_step (RefersBy s place commons) k k round).1 in
      let of_c = (are k first.0 first.1).1 in
      (of_c.0, of_c.1)
