-- Ancestors can be listed.
use Rattle.std.proofs.Common.{◌≡◌, ℕ, List, flat_map, refl, ap, Contains, Ordering, subst}
use Rattle.std.specs.Cmp.{IsTotalOrder, on_total, then_total}
use Rattle.std.specs.Cmp.Lexicographic.{slice_cmp}
use Rattle.std.specs.Str.{bytes_eq}
use Rattle.std.proofs.lemmas.Slice.Eq.{bytes_eq-Decides}
use Rattle.cedar_data.specs.Text.{text_cmp}
use Rattle.cedar_data.proofs.Orders.{text_total, text_exact, texts_total, texts_exact, then_equal}
use Rattle.schema_build_types.specs.Content.{actions_cmp}
use Rattle.schema_build_hierarchy.specs.Ancestors.{IsParentAmong, IsAncestorAmong}
use Rattle.schema_build_hierarchy.proofs.ParentsDeclared.{flat_contains}
use Rattle.schema_build_items.specs.ActionKinds.{components_cmp, AreJust}
use Rattle.laws_build.specs.Existence.Finite.{IsFinite, IsExact, HoldsJust}
use Rattle.laws_build.proofs.Existence.Known.{Known, told, told_decides, known_alike, known_both, known_among}
use Rattle.laws_build.proofs.Existence.Known.{known_name}
use Rattle.laws_build.proofs.Existence.Known.{known_by}
use Rattle.laws_build.proofs.Existence.Rising.{reached_listed}

abbrev Key : Type 0
Key = List (List ℕ) × List ℕ

pub known_key : (a b : Key) → Known (a ≡ b)
known_key a b =
    known_alike (λ ((p, q) : (a.0 ≡ b.0) × (a.1 ≡ b.1)). λ i. (p i, q i))
    (λ e. (ap (λ (k : Key). k.0) e, ap (λ (k : Key). k.1) e))
    (known_both (known_name a.0 b.0) (known_by (bytes_eq a.1 b.1) (bytes_eq-Decides a.1 b.1)))

pub components_exact : IsExact components_cmp
components_exact a b e = texts_exact a b e

pub actions_total : IsTotalOrder actions_cmp
actions_total = then_total (on_total (λ (a : Key). a.0) texts_total) (on_total (λ (a : Key). a.1) text_total)

pub actions_exact : IsExact actions_cmp
actions_exact a b e =
    let both = then_equal (slice_cmp text_cmp a.0 b.0) (text_cmp a.1 b.1) e in
    let types : a.0 ≡ b.0 = texts_exact a.0 b.0 both.0 in
    let ids : a.1 ≡ b.1 = text_exact a.1 b.1 both.1 in
    λ i. (types i, ids i)

pub just_from : {A : Type 0} (R : A → A → Ordering) (W : A → Type 0) (found : List A) → HoldsJust R W found
    → AreJust R W found
just_from R W found h = record { rising = h.rising; just = h.just }

module _ {D K : Type 0} (known : D → K) (parents : D → List K) (same : (a b : K) → Known (a ≡ b)) (ds : List D) where
  pub parents_finite : IsFinite (IsParentAmong known parents ds)
  parents_finite = record {
    edge = λ a b. told (is_parent a b);
    decides = λ a b. told_decides (is_parent a b);
    targets = flat_map parents ds;
    within = λ a b (d, cd, is, cb). flat_contains parents ds d b cd cb;
  }
    where
      is_parent : (a b : K) → Known (IsParentAmong known parents ds a b)
      is_parent a b =
          known_alike (λ (d, cd, (is, (x, cx, e))). (d, cd, is, subst (Contains (parents d)) e cx))
          (λ (d, cd, is, cb). (d, cd, (is, (b, cb, refl))))
          (known_among (λ d. (known d ≡ a) × ((x : K) × Contains (parents d) x × (x ≡ b)))
          (λ d. known_both (same (known d) a) (known_among (λ x. x ≡ b) (λ x. same x b) (parents d))) ds)

  -- the ancestors of each, in any order that tells names apart
  pub ancestors_listed : (R : K → K → Ordering) → IsTotalOrder R → IsExact R → (a : K)
      → (found : List K) × AreJust R (IsAncestorAmong known parents ds a) found
  ancestors_listed R total exact a =
      let l = reached_listed (IsParentAmong known parents ds) parents_finite R total exact a in
      (l.0, just_from R (IsAncestorAmong known parents ds a) l.0 l.1)
