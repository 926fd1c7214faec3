-- A table is known by its names.
use Rattle.std.proofs.Common.{◌≡◌, ◌≢◌, ℕ, true, false, List, [], ◌∷◌, inl, inr, refl, sym, ap, ◌∙◌, subst}
use Rattle.std.proofs.Common.{Option, Some, None, MatchOption, Bool, not}
use Rattle.std.specs.Prelude.{map}
use Rattle.std.specs.Cmp.{IsTotalOrder, on_total}
use Rattle.std.specs.List.{list_any}
use Rattle.std.specs.Str.{encode_utf8_all, bytes_eq}
use Rattle.std.proofs.Math.Bool.{Bool-set}
use Rattle.std.proofs.lemmas.Cmp.{nat_list_cmp_total}
use Rattle.std.proofs.lemmas.Slice.Eq.{bytes_eq-Decides}
use Rattle.std.proofs.lemmas.Bool.{cases_Bool}
use Rattle.cedar_data.specs.Text.{text_cmp}
use Rattle.cedar_identifiers.specs.declared.unreserved_id.UnreservedId.{UnreservedId}
use Rattle.cedar_identifiers.proofs.Same.{unreserved_id_same}
use Rattle.cedar_names.specs.TableNames.{is_builtin}
use Rattle.cedar_names.specs.Tables.{table_names}
use Rattle.cedar_names.specs.declared.extension_table.ExtensionTable.{ExtensionTable}
use Rattle.laws_syntax.proofs.OneTree.Members.{In, same_rising}
use Rattle.cedar_schema_core.specs.Commands.{IsTableInOrder, AsksForTable, standard, named}

id_total : IsTotalOrder (λ (a b : UnreservedId). text_cmp a.id.text b.id.text)
id_total = on_total (λ (u : UnreservedId). encode_utf8_all u.id.text) nat_list_cmp_total

-- tables with the same words are the same
table_from : (xs ys : List UnreservedId) (e : xs ≡ ys) (p : list_any (λ n. is_builtin n.id.text) xs ≡ false)
    (q : list_any (λ n. is_builtin n.id.text) ys ≡ false)
    → (let a : ExtensionTable = record { names = xs; extensions = p } in a)
    ≡ (let b : ExtensionTable = record { names = ys; extensions = q } in b)
table_from xs ys e p q =
    let P : List UnreservedId → Type 0 = λ z. (r : list_any (λ n. is_builtin n.id.text) z ≡ false)
    → (let a : ExtensionTable = record { names = xs; extensions = p } in a)
    ≡ (let b : ExtensionTable = record { names = z; extensions = r } in b) in
    subst P e (λ r i. record { names = xs; extensions = Bool-set _ _ p r i }) q

table_same : (t u : ExtensionTable) → t.names ≡ u.names → t ≡ u
table_same t u e = table_from t.names u.names e t.extensions u.extensions

same_words : (xs ys : List UnreservedId) → map (λ n. n.id.text) xs ≡ map (λ n. n.id.text) ys → xs ≡ ys
same_words [] [] e = refl
same_words [] (y ∷ ys) e = cc
same_words (x ∷ xs) [] e = cc
same_words (x ∷ xs) (y ∷ ys) e =
    let first : x.id.text ≡ y.id.text = cc in
    let rest : map (λ n. n.id.text) xs ≡ map (λ n. n.id.text) ys = cc in
    let head : x ≡ y = unreserved_id_same x y first in
    let tail : xs ≡ ys = same_words xs ys rest in
    λ i. head i ∷ tail i

-- tables with the same texts are the same
pub one_table_of_texts : (t u : ExtensionTable) → table_names t ≡ table_names u → t ≡ u
one_table_of_texts t u e = table_same t u (same_words t.names u.names e)

has_own : (x : UnreservedId) (ys : List UnreservedId) → In x ys → list_any (λ n. bytes_eq x.id.text n.id.text) ys ≡ true
has_own x [] h = absurd h
has_own x (y ∷ ys) (inl e) = rw ((bytes_eq-Decides x.id.text y.id.text).1 (ap (λ u. u.id.text) e)) refl
has_own x (y ∷ ys) (inr h) = elim (cases_Bool (bytes_eq x.id.text y.id.text)) [
  | inl k ↦ rw k refl
  | inr k ↦ rw k (has_own x ys h)
]

is_own : (x : UnreservedId) (ys : List UnreservedId) → list_any (λ n. bytes_eq x.id.text n.id.text) ys ≡ true → In x ys
is_own x [] h = cc
is_own x (y ∷ ys) h = elim (cases_Bool (bytes_eq x.id.text y.id.text)) [
  | inl k ↦ inl (unreserved_id_same x y ((bytes_eq-Decides x.id.text y.id.text).0 k))
  | inr k ↦ inr (is_own x ys (rw k at h))
]

-- tables of the same names are the same
pub one_table_of_names : (names : List (List ℕ)) (t u : ExtensionTable) → IsTableInOrder names t
    → IsTableInOrder names u
    → t ≡ u
one_table_of_names names t u h k =
    table_same t u (same_rising id_total t.names u.names h.rise k.rise
    (λ x there. is_own x u.names (k.of.same x.id.text ∙ sym (h.of.same x.id.text) ∙ has_own x t.names there))
    (λ x there. is_own x t.names (h.of.same x.id.text ∙ sym (k.of.same x.id.text) ∙ has_own x u.names there)))

-- words ask for one table
pub one_table_of_words : (plain with : List ℕ) (words : List (List ℕ)) (t u : ExtensionTable) → plain ≢ with
    → AsksForTable plain with words t → AsksForTable plain with words u → t ≡ u
one_table_of_words plain with words t u differ (standard e s) (standard f r) = one_table_of_texts t u (s ∙ sym r)
one_table_of_words plain with words t u differ (standard e s) (named ns f k) =
    let h : plain ∷ [] ≡ with ∷ ns = sym e ∙ f in absurd (differ cc)
one_table_of_words plain with words t u differ (named ns e h) (standard f r) =
    let h : plain ∷ [] ≡ with ∷ ns = sym f ∙ e in absurd (differ cc)
one_table_of_words plain with words t u differ (named ns e h) (named ms f k) =
    let all : with ∷ ms ≡ with ∷ ns = sym f ∙ e in
    let same : ms ≡ ns = cc in
    one_table_of_names ns t u h (subst (λ xs. IsTableInOrder xs u) same k)

module _ (plain with : List ℕ) (words : List (List ℕ)) (alone : words ≡ plain ∷ [] → ⊥) where
  -- no words ask for no table
  pub none_for_none : words ≡ [] → (t : ExtensionTable) → AsksForTable plain with words t → ⊥
  none_for_none none t (standard e s) = alone e
  none_for_none none t (named ns e k) = let h : [] ≡ with ∷ ns = sym none ∙ e in cc

  -- words that begin with another word ask for no table
  pub none_for_another : (first : List ℕ) (names : List (List ℕ)) → words ≡ first ∷ names → (first ≡ with → ⊥)
      → (t : ExtensionTable) → AsksForTable plain with words t → ⊥
  none_for_another first names is other t (standard e s) = alone e
  none_for_another first names is other t (named ns e k) =
      let h : first ∷ names ≡ with ∷ ns = sym is ∙ e in other (let same : first ≡ with = cc in same)

  none_for_names : (names : List (List ℕ)) → words ≡ with ∷ names
      → ((t : ExtensionTable) → IsTableInOrder names t → ⊥) → (t : ExtensionTable) → AsksForTable plain with words t → ⊥
  none_for_names names is none t (standard e s) = alone e
  none_for_names names is none t (named ns e k) =
      let h : with ∷ names ≡ with ∷ ns = sym is ∙ e in
      let rest : ns ≡ names = cc in
      none t (subst (λ xs. IsTableInOrder xs t) rest k)

  -- words that begin with the second word ask for the table of the names behind it, or for none
  pub found_for_names : (names : List (List ℕ)) → words ≡ with ∷ names → (found : Option ExtensionTable)
      → MatchOption found ((t : ExtensionTable) → IsTableInOrder names t → ⊥) (IsTableInOrder names)
      → MatchOption found ((t : ExtensionTable) → AsksForTable plain with words t → ⊥) (AsksForTable plain with words)
  found_for_names names is None none = none_for_names names is none
  found_for_names names is (Some t) h = named names is h

pub not_false : (b : Bool) → not b ≡ false → b ≡ true
not_false true e = refl
not_false false e = cc
