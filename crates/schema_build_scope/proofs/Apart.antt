-- Ranks of the declared common types: no two have one name.
use Rattle.std.proofs.Common.{◌≡◌, ℕ, ◌<◌, List, length, get_or, map, Some, sym, ap, ◌∙◌, arith}
use Rattle.std.proofs.Common.{inl, inr}
use Rattle.std.specs.Prelude.{slice_get}
use Rattle.std.specs.Option.{option_map}
use Rattle.std.specs.declared.cmp.Ordering.TheVariants.{Less}
use Rattle.std.specs.List.Sorted.{IsStrictlySortedBy}
use Rattle.std.specs.Map.{keys_of}
use Rattle.std.specs.Ordering.{ordering_reverse}
use Rattle.std.proofs.lemmas.Bool.{cases_lt, cases_eq}
use Rattle.std.proofs.lemmas.Map.Keys.{Less-from_sorted}
use Rattle.std.proofs.lemmas.Option.{slice_get-map, slice_get_within, get_or_from_slice_get, same_Some}
use Rattle.std.specs.Cmp.Lexicographic.{slice_cmp}
use Rattle.cedar_data.specs.Text.{text_cmp}
use Rattle.cedar_data.proofs.Options.{seen_of}
use Rattle.cedar_identifiers.specs.Names.{components_of}
use Rattle.cedar_identifiers.specs.declared.internal_name.InternalName.{InternalName}
use Rattle.cedar_identifiers.specs.declared.raw_name.RawName.{RawName}
use Rattle.cedar_names.specs.Orders.{names_in_order, names_total}
use Rattle.schema_build_expand.specs.Scope.{Scope, DeclaredType, IsRanked, AreDeclaredOnce}
use Rattle.schema_build_checks.proofs.Names.{names_by_components}
use Rattle.schema_build_scope.specs.Commons.{TypeAt}
use Rattle.schema_build_scope.specs.FragmentScope.{declaration}

-- the item that a read of what is seen of a list sees
pub seen_at : {A B : Type 0} (f : A → B) (xs : List A) (k : ℕ) (b : B) → slice_get (map f xs) k ≡ Some b
    → (a : A) × (slice_get xs k ≡ Some a) × (f a ≡ b)
seen_at f xs k b e = seen_of f (slice_get xs k) b (sym (slice_get-map f xs k) ∙ e)

-- no two declared common types of different ranks have one name
abbrev pub RanksApart : {N : Type 0} → Scope N → Type 0
RanksApart s = (name : List (List ℕ)) (j k : ℕ) → IsRanked s name j → IsRanked s name k → j ≡ k

pub declared_once : {N : Type 0} (s : Scope N) → RanksApart s → AreDeclaredOnce s
declared_once s apart name a b (j, at_j, is_a) (k, at_k, is_b) =
    let same : j ≡ k = apart name j k (a, at_j, is_a) (b, at_k, is_b) in
    same_Some a b (sym at_j ∙ ap (slice_get s.commons) same ∙ at_k)

not_below_itself : (x : InternalName) → names_in_order x x ≡ Less → ⊥
not_below_itself x less =
    let turned : names_in_order x x ≡ ordering_reverse (names_in_order x x) = names_total.antisymm x x in
    let other : Less ≡ ordering_reverse Less = sym less ∙ turned ∙ ap ordering_reverse less in
    cc

pub same_not_below : (x y : InternalName) → components_of x ≡ components_of y → names_in_order x y ≡ Less → ⊥
same_not_below x y same less =
    not_below_itself y
    (names_by_components y y ∙ ap (λ c. slice_cmp text_cmp c (components_of y)) (sym same)
    ∙ sym (names_by_components x y) ∙ less)

module _ {V : Type 0} (es : List (InternalName × V)) (up : IsStrictlySortedBy names_in_order (keys_of es)) where
  pub key_below : (j k : ℕ) (a b : InternalName × V) → slice_get es j ≡ Some a → slice_get es k ≡ Some b → j < k
      → names_in_order a.0 b.0 ≡ Less
  key_below j k a b at_j at_k lt =
      let in_j : slice_get (keys_of es) j ≡ Some a.0 =
      slice_get-map (λ (e : InternalName × V). e.0) es j ∙ ap (option_map (λ e. e.0)) at_j in
      let in_k : slice_get (keys_of es) k ≡ Some b.0 =
      slice_get-map (λ (e : InternalName × V). e.0) es k ∙ ap (option_map (λ e. e.0)) at_k in
      let is_j : get_or (keys_of es) j a.0 ≡ a.0 = get_or_from_slice_get (keys_of es) j a.0 a.0 in_j in
      let is_k : get_or (keys_of es) k a.0 ≡ b.0 = get_or_from_slice_get (keys_of es) k b.0 a.0 in_k in
      let within : k < length (keys_of es) = slice_get_within (keys_of es) k b.0 in_k in
      ap (λ x. names_in_order x b.0) (sym is_j) ∙ ap (λ y. names_in_order (get_or (keys_of es) j a.0) y) (sym is_k)
      ∙ Less-from_sorted names_in_order (keys_of es) j k a.0 up lt within

  pub keys_apart : (j k : ℕ) (a b : InternalName × V) → slice_get es j ≡ Some a → slice_get es k ≡ Some b
      → components_of a.0 ≡ components_of b.0 → j ≡ k
  keys_apart j k a b at_j at_k same =
      elim (cases_eq j k) [
        | inl e ↦ e
        | inr apart ↦ elim (cases_lt j k) [
          | inl lt ↦ absurd (same_not_below a.0 b.0 same (key_below j k a b at_j at_k lt))
          | inr ge ↦ absurd (same_not_below b.0 a.0 (sym same) (key_below k j b a at_k at_j (omega arith)))
        ]
      ]

-- the ranks of entries whose keys rise are apart
pub entries_apart : (s : Scope RawName) (es : List (InternalName × TypeAt)) → s.commons ≡ map declaration es
    → IsStrictlySortedBy names_in_order (keys_of es) → RanksApart s
entries_apart s es is up name j k (a, at_j, is_a) (b, at_k, is_b) =
    let x = seen_at declaration es j a (ap (λ l. slice_get l j) (sym is) ∙ at_j) in
    let y = seen_at declaration es k b (ap (λ l. slice_get l k) (sym is) ∙ at_k) in
    keys_apart es up j k x.0 y.0 x.1 y.1
    (ap (λ (d : DeclaredType RawName). d.name) x.2 ∙ is_a ∙ sym is_b
    ∙ ap (λ (d : DeclaredType RawName). d.name) (sym y.2))
