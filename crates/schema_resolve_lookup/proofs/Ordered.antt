-- The order of words and of namespaces, and what it does not tell apart.
use Rattle.std.proofs.Common.{◌≡◌, ◌&&◌, List, [], ◌∷◌, map, Ordering, Option, Some, None, refl, sym, ap, ◌∙◌}
use Rattle.std.proofs.Common.{subst, ℕ}
use Rattle.std.specs.declared.cmp.Ordering.TheVariants.{Less, Equal, Greater}
use Rattle.std.specs.Cmp.Lexicographic.{slice_cmp}
use Rattle.std.specs.List.Sorted.{IsStrictlySortedBy}
use Rattle.std.specs.Map.{keys_of}
use Rattle.std.specs.Ordering.{nat_cmp, is_eq}
use Rattle.std.specs.Str.{bytes_eq, encode_utf8_all}
use Rattle.std.proofs.lemmas.Cmp.{nat_list_cmp_total}
use Rattle.std.proofs.lemmas.Map.Text.{is_eq-slice_cmp}
use Rattle.cedar_data.proofs.Ascii.{word_bytes}
use Rattle.cedar_data.proofs.Orders.{is_eq_back, is_eq_then, rises_seen}
use Rattle.cedar_data.proofs.Lists.{map-map}
use Rattle.cedar_data.specs.Text.{text_cmp}
use Rattle.cedar_identifiers.proofs.Ids.{id_is_word}
use Rattle.cedar_identifiers.specs.Names.{texts_of}
use Rattle.cedar_identifiers.specs.declared.id.Id.{Id}
use Rattle.cedar_identifiers.specs.declared.name.Name.{Name}
use Rattle.cedar_names.specs.Definitions.{same_name}
use Rattle.cedar_names.specs.Orders.{id_text_order, ids_of}
use Rattle.schema_resolve_lookup.specs.Sought.{words_before, namespace_words, ids_before, namespace_ids}
use Rattle.schema_resolve_lookup.specs.declared.sought.Before.{Before}

-- texts that the order does not tell apart have the same bytes
pub text_alike : (x y : List ℕ) → is_eq (text_cmp x y) ≡ bytes_eq (encode_utf8_all y) (encode_utf8_all x)
text_alike x y =
    ap is_eq (nat_list_cmp_total.antisymm (encode_utf8_all x) (encode_utf8_all y))
    ∙ is_eq_back (slice_cmp nat_cmp (encode_utf8_all y) (encode_utf8_all x))
    ∙ is_eq-slice_cmp (encode_utf8_all y) (encode_utf8_all x)

-- words that the order does not tell apart are the same
pub word_alike : (x y : Id) → is_eq (id_text_order x y) ≡ bytes_eq y.text x.text
word_alike x y =
    (λ i. is_eq (slice_cmp nat_cmp (word_bytes x.text (id_is_word x.text x.word) i)
    (word_bytes y.text (id_is_word y.text y.word) i)))
    ∙ ap is_eq (nat_list_cmp_total.antisymm x.text y.text) ∙ is_eq_back (slice_cmp nat_cmp y.text x.text)
    ∙ is_eq-slice_cmp y.text x.text

words_alike : (xs ys : List Id) → is_eq (slice_cmp id_text_order xs ys) ≡ same_name (texts_of ys) (texts_of xs)
words_alike [] [] = refl
words_alike [] (y ∷ ys) = refl
words_alike (x ∷ xs) [] = refl
words_alike (x ∷ xs) (y ∷ ys) =
    is_eq_then (id_text_order x y) (slice_cmp id_text_order xs ys) ∙ (λ i. word_alike x y i && words_alike xs ys i)

before_texts : (before : Option Before) → texts_of (ids_before before) ≡ words_before before
before_texts None = refl
before_texts (Some before) = refl

namespace_texts : (ns : Option Name) → texts_of (namespace_ids ns) ≡ namespace_words ns
namespace_texts None = refl
namespace_texts (Some ns) = refl

pub namespace_alike : (before : Option Before) (ns : Option Name)
    → is_eq (slice_cmp id_text_order (namespace_ids ns) (ids_before before))
    ≡ same_name (words_before before) (namespace_words ns)
namespace_alike before ns =
    words_alike (namespace_ids ns) (ids_before before)
    ∙ (λ i. same_name (before_texts before i) (namespace_texts ns i))

-- an order of namespaces, told by cases, is that of their words
pub by_words : (C : Option Name → Option Name → Ordering) → C None None ≡ Equal
    → ((n : Name) → C None (Some n) ≡ Less) → ((n : Name) → C (Some n) None ≡ Greater)
    → ((n m : Name) → C (Some n) (Some m) ≡ slice_cmp id_text_order (ids_of n.name) (ids_of m.name))
    → (a b : Option Name) → C a b ≡ slice_cmp id_text_order (namespace_ids a) (namespace_ids b)
by_words C none first last named None None = none
by_words C none first last named None (Some n) = first n
by_words C none first last named (Some n) None = last n
by_words C none first last named (Some n) (Some m) = named n m

-- keys that rise, as what is seen of them
module _ {K J X : Type 0} (C : K → K → Ordering) (R : J → J → Ordering) (see : K → J)
    (e : (a b : K) → C a b ≡ R (see a) (see b)) where
  pub sorted_seen : (es lent : List (K × X)) → lent ≡ es → IsStrictlySortedBy C (keys_of es)
      → IsStrictlySortedBy R (map (λ x. see x.0) lent)
  sorted_seen es lent same up =
      subst (IsStrictlySortedBy R) (map-map see (λ (x : K × X). x.0) es ∙ ap (map (λ x. see x.0)) (sym same))
      (rises_seen see C R e (keys_of es) up)
