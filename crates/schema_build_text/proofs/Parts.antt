-- The namespace and the last word of a name have no component `__cedar` where the name has none.
use Rattle.std.proofs.Common.{◌≡◌, false, ◌||◌, List, [], ◌∷◌, ◌++◌, refl, ap, sym, ◌∙◌}
use Rattle.std.specs.List.{list_any}
use Rattle.std.proofs.lemmas.Bool.{or_from, or_parts}
use Rattle.cedar_identifiers.specs.Names.{components_of, texts_of, has_cedar}
use Rattle.cedar_identifiers.specs.Words.{is_cedar}
use Rattle.cedar_identifiers.specs.declared.id.Id.{Id}
use Rattle.cedar_identifiers.specs.declared.internal_name.InternalName.{InternalName}

front_free : (os : List Id) (x : Id) → list_any is_cedar (texts_of (os ++ x ∷ [])) ≡ false
    → list_any is_cedar (texts_of os) ≡ false
front_free [] x h = refl
front_free (o ∷ os) x h =
    let a = is_cedar o.text in
    let b = list_any is_cedar (texts_of (os ++ x ∷ [])) in
    or_from a (list_any is_cedar (texts_of os)) (or_parts a b h).0 (front_free os x (or_parts a b h).1)

last_free : (os : List Id) (x : Id) → list_any is_cedar (texts_of (os ++ x ∷ [])) ≡ false → is_cedar x.text ≡ false
last_free [] x h = (or_parts (is_cedar x.text) false h).0
last_free (o ∷ os) x h =
    last_free os x (or_parts (is_cedar o.text) (list_any is_cedar (texts_of (os ++ x ∷ []))) h).1

module _ (name : InternalName) (front : List Id) (x : Id) (is : name.others ≡ front ++ x ∷ [])
    (free : has_cedar (components_of name) ≡ false) where
  others_free : (is_cedar name.first.text || list_any is_cedar (texts_of (front ++ x ∷ []))) ≡ false
  others_free = ap (λ os. is_cedar name.first.text || list_any is_cedar (texts_of os)) (sym is) ∙ free

  pub namespace_free : (first : Id) (others : List Id) → first ≡ name.first → others ≡ front
      → has_cedar (texts_of (first ∷ others)) ≡ false
  namespace_free first others e f =
      let a = is_cedar name.first.text in
      let b = list_any is_cedar (texts_of (front ++ x ∷ [])) in
      (λ i. has_cedar (texts_of (e i ∷ f i)))
      ∙ or_from a (list_any is_cedar (texts_of front)) (or_parts a b others_free).0
      (front_free front x (or_parts a b others_free).1)

  pub word_free : (word : Id) → word ≡ x → is_cedar word.text ≡ false
  word_free word e =
      ap (λ w. is_cedar w.text) e
      ∙ last_free front x (or_parts (is_cedar name.first.text)
      (list_any is_cedar (texts_of (front ++ x ∷ []))) others_free).1
