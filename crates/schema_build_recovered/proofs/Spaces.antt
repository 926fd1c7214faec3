-- Namespaces that are sorted, each once.
use Rattle.std.proofs.Common.{◌≡◌, ℕ, false, List, ◌∷◌, map, refl, sym, ◌∙◌, subst}
use Rattle.std.specs.declared.cmp.Ordering.{Ordering}
use Rattle.std.specs.Cmp.Lexicographic.{slice_cmp}
use Rattle.std.specs.Ordering.{is_eq}
use Rattle.std.specs.List.Sorted.{IsStrictlySortedBy}
use Rattle.cedar_data.specs.Text.{text_cmp}
use Rattle.cedar_data.proofs.Orders.{texts_total}
use Rattle.cedar_identifiers.specs.Names.{has_cedar}
use Rattle.cedar_identifiers.proofs.Ordered.{ids_cmp}
use Rattle.cedar_names.specs.CanonicalText.{in_order}
use Rattle.cedar_names.specs.Definitions.{same_name}
use Rattle.cedar_names.specs.Orders.{id_text_order}
use Rattle.schema_build_text.specs.Rows.{sorted_once}
use Rattle.schema_build_text.proofs.Grouped.{rises_sorted}
use Rattle.schema_build_text.proofs.Named.{same_lists}
use Rattle.schema_build_text.proofs.Rowed.{in_order_is, sorted_map}
use Rattle.schema_build_recovered.specs.Places.{words_of}
use Rattle.schema_build_recovered.specs.contracts.names.NamespaceOrd.TheImpl as ordered
use Rattle.schema_build_recovered.specs.declared.names.Namespace.{Namespace}
use Rattle.schema_build_recovered.specs.declared.names.Words.{Words}
use Rattle.schema_build_recovered.specs.declared.names.Words.TheVariants as lent

abbrev C : List (List ℕ) → List (List ℕ) → Ordering
C = slice_cmp text_cmp

-- namespaces in order rise
pub in_order_rises : (ns : List (List (List ℕ))) → IsStrictlySortedBy C (in_order ns)
in_order_rises ns =
    subst (IsStrictlySortedBy C) (sym (in_order_is ns)) (rises_sorted texts_total ns)

-- what is sorted by an order that goes by the words
pub sorted_by_words : {X : Type 0} (key : X → List (List ℕ)) (D : X → X → Ordering)
    → ((x y : X) → D x y ≡ C (key x) (key y)) → (xs : List X)
    → map key (sorted_once D xs) ≡ in_order (map key xs)
sorted_by_words key D same xs = sorted_map key D C same xs ∙ sym (in_order_is (map key xs))

-- words that are lent are the same where they are equal in the order
pub same_words : (a b : Words) → same_name (words_of a) (words_of b) ≡ is_eq (C (words_of a) (words_of b))
same_words lent.Empty lent.Empty = refl
same_words lent.Empty (lent.Some g ps) = refl
same_words (lent.Some f os) lent.Empty = refl
same_words (lent.Some f os) (lent.Some g ps) = same_lists (f.now ∷ os.now) (g.now ∷ ps.now)

-- the order of namespaces is that of their words
abbrev pub namespace_order : Namespace → Namespace → Ordering
namespace_order = (ordered.ghosts).cmp

pub by_words : (a b : Namespace) → namespace_order a b ≡ C (words_of a.words) (words_of b.words)
by_words a b = by a.words b.words a.unreserved b.unreserved
  where
    by : (u v : Words) (h : has_cedar (words_of u) ≡ false) (k : has_cedar (words_of v) ≡ false)
        → namespace_order (record { words = u; unreserved = h }) (record { words = v; unreserved = k })
        ≡ C (words_of u) (words_of v)
    by lent.Empty lent.Empty h k = refl
    by lent.Empty (lent.Some g ps) h k = refl
    by (lent.Some f os) lent.Empty h k = refl
    by (lent.Some f os) (lent.Some g ps) h k =
        ids_cmp id_text_order (λ x y. refl) (f.now ∷ os.now) (g.now ∷ ps.now)
