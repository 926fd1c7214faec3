-- The least of names, from turn to turn.
use Rattle.std.proofs.Common.{rules, suc, ◌⊎◌, inl, inr, ◌≡◌, ◌≢◌, ◌<◌, ◌+◌, ℕ, List, ◌∷◌, length, get_or, refl, sym}
use Rattle.std.proofs.Common.{◌∙◌, Contains}
use Rattle.std.specs.List.{AllWithin}
use Rattle.std.specs.declared.cmp.Ordering.{Ordering}
use Rattle.std.specs.declared.cmp.Ordering.TheVariants.{Less, Equal, Greater}
use Rattle.std.proofs.lemmas.Cmp.{tied_itself}
use Rattle.std.proofs.lemmas.List.Elements.{AllWithin-more, AllWithin-none, at_read}
use Rattle.cedar_identifiers.specs.declared.name.Name.{Name}
use Rattle.cedar_names.specs.Orders.{names_in_order, names_total}

-- the one does not come before the other
abbrev pub NotBefore : Name → Name → Type 0
NotBefore n least = names_in_order n.name least.name ≢ Less

-- the least of the first name and so many of the others
abbrev pub IsLeastSoFar : Name → List Name → ℕ → Name → Type 0
IsLeastSoFar first others i least = Contains (first ∷ others) least × NotBefore first least
    × AllWithin (λ n. NotBefore n least) others 0 i

not_before_itself : (x : Name) → NotBefore x x
not_before_itself x e = let f : Less ≡ Equal = sym e ∙ tied_itself names_total x.name in cc

lower : (x least item : Name) → names_in_order item.name least.name ≡ Less → NotBefore x least → NotBefore x item
lower x least item e h k = h (names_total.trans x.name item.name least.name k e)

pub least_at_first : (first : Name) (others : List Name) → IsLeastSoFar first others 0 first
least_at_first first others =
    ((0, search rules, refl), not_before_itself first, AllWithin-none (λ n. NotBefore n first) others 0)

pub least_taken : (first : Name) (others : List Name) (i : ℕ) (least item : Name) → i < length others
    → item ≡ get_or others i item → names_in_order item.name least.name ≡ Less → IsLeastSoFar first others i least
    → IsLeastSoFar first others (i + 1) item
least_taken first others i least item lt at less so = (
  (suc i, search rules, sym at),
  lower first least item less so.1,
  AllWithin-more (λ n. NotBefore n item) others 0 i
      (λ k d l h. lower (get_or others k d) least item less (so.2 k d l h))
      (at_read others (λ n. NotBefore n item) i item lt at (not_before_itself item)),
)

pub least_kept : (first : Name) (others : List Name) (i : ℕ) (least item : Name) → i < length others
    → item ≡ get_or others i item → NotBefore item least → IsLeastSoFar first others i least
    → IsLeastSoFar first others (i + 1) least
least_kept first others i least item lt at not so = (
  so.0,
  so.1,
  AllWithin-more (λ n. NotBefore n least) others 0 i so.2
      (at_read others (λ n. NotBefore n least) i item lt at not),
)

pub not_less : (o r : Ordering) → r ≡ o → (r ≡ Equal) ⊎ (r ≡ Greater) → o ≢ Less
not_less o r e (inl f) k = let g : Equal ≡ Less = sym f ∙ (e ∙ k) in cc
not_less o r e (inr f) k = let g : Greater ≡ Less = sym f ∙ (e ∙ k) in cc
