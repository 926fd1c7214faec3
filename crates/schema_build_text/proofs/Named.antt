-- The namespace and the basename of a name, by its words.
use Rattle.std.proofs.Common.{◌≡◌, ℕ, ◌+◌, ◌<◌, List, [], ◌∷◌, ◌++◌, codes, length, drop, get_or, refl, ap, sym}
use Rattle.std.proofs.Common.{◌∙◌, append_assoc, arith}
use Rattle.std.specs.declared.cmp.Ordering.{Ordering}
use Rattle.std.specs.Ordering.{is_eq, ordering_then}
use Rattle.std.specs.Cmp.Lexicographic.{slice_cmp}
use Rattle.std.proofs.lemmas.List.{append-nil}
use Rattle.cedar_data.specs.Text.{text_cmp}
use Rattle.cedar_identifiers.specs.Names.{components_of, name_text, texts_of}
use Rattle.cedar_identifiers.specs.declared.id.Id.{Id}
use Rattle.cedar_identifiers.specs.declared.internal_name.InternalName.{InternalName}
use Rattle.cedar_identifiers.proofs.Ordered.{ids_cmp}
use Rattle.cedar_names.specs.CanonicalText.{basename, namespace}
use Rattle.cedar_names.specs.Definitions.{same_name}
use Rattle.cedar_names.specs.Orders.{id_text_order}
use Rattle.cedar_names.proofs.Defined.{same_lists as lists_same}
use Rattle.schema_build_text.proofs.Rowed.{dropped}

-- the words behind the first, each behind `::`
abbrev pub behind_text : List Id → List ℕ
behind_text [] = []
behind_text (o ∷ os) = codes "::" ++ (o.text ++ behind_text os)

pub path_text : (f : Id) (os : List Id) → f.text ++ behind_text os ≡ name_text (texts_of (f ∷ os))
path_text f [] = append-nil f.text
path_text f (o ∷ os) = ap (λ t. f.text ++ (codes "::" ++ t)) (path_text o os)

pub behind_step : (os : List Id) (i : ℕ) (d : Id) → i < length os → d ≡ get_or os i d
    → behind_text (drop i os) ≡ (codes "::" ++ d.text) ++ behind_text (drop (i + 1) os)
behind_step os i d h e = ap behind_text (dropped os i d h e)
    ∙ sym (append_assoc (codes "::") d.text (behind_text (drop (i + 1) os)))

last_named : (c : List ℕ) (os : List Id) (x : Id) → basename (c ∷ texts_of (os ++ x ∷ [])) ≡ x.text
last_named c [] x = refl
last_named c (o ∷ os) x = last_named o.text os x

front_named : (c : List ℕ) (os : List Id) (x : Id) → namespace (c ∷ texts_of (os ++ x ∷ [])) ≡ c ∷ texts_of os
front_named c [] x = refl
front_named c (o ∷ os) x = ap (λ t. c ∷ t) (front_named o.text os x)

-- a name with others behind its first word
pub last_of : (name : InternalName) (front : List Id) (x : Id) → name.others ≡ front ++ x ∷ []
    → x.text ≡ basename (components_of name)
last_of name front x e = sym (ap (λ os. basename (name.first.text ∷ texts_of os)) e
    ∙ last_named name.first.text front x)

pub front_of : (name : InternalName) (front : List Id) (x : Id) → name.others ≡ front ++ x ∷ []
    → namespace (components_of name) ≡ texts_of (name.first ∷ front)
front_of name front x e = ap (λ os. namespace (name.first.text ∷ texts_of os)) e ∙ front_named name.first.text front x

pub front_alone : (name : InternalName) → length name.others ≡ 0 → namespace (components_of name) ≡ []
front_alone name e = by name.others e
  where
    by : (os : List Id) → length os ≡ 0 → namespace (name.first.text ∷ texts_of os) ≡ []
    by [] h = refl
    by (o ∷ os) h = absurd (omega arith)

-- the words before the last
abbrev front_ids : List Id → List Id
front_ids [] = []
front_ids (c ∷ []) = []
front_ids (c ∷ d ∷ ds) = c ∷ front_ids (d ∷ ds)

fronts : (ids : List Id) → namespace (texts_of ids) ≡ texts_of (front_ids ids)
fronts [] = refl
fronts (c ∷ []) = refl
fronts (c ∷ d ∷ ds) = ap (λ t. c.text ∷ t) (fronts (d ∷ ds))

pub same_lists : (xs ys : List Id)
    → same_name (texts_of xs) (texts_of ys) ≡ is_eq (slice_cmp text_cmp (texts_of xs) (texts_of ys))
same_lists xs ys = sym (lists_same xs ys) ∙ ap is_eq (ids_cmp id_text_order (λ x y. refl) xs ys)

-- namespaces of names are the same where they are equal in the order
pub namespaces_tie : (a b : InternalName)
    → same_name (namespace (components_of a)) (namespace (components_of b))
    ≡ is_eq (slice_cmp text_cmp (namespace (components_of a)) (namespace (components_of b)))
namespaces_tie a b =
    let p = fronts (a.first ∷ a.others) in
    let q = fronts (b.first ∷ b.others) in
    (λ k. same_name (p k) (q k)) ∙ same_lists (front_ids (a.first ∷ a.others)) (front_ids (b.first ∷ b.others))
    ∙ sym (λ k. is_eq (slice_cmp text_cmp (p k) (q k)))

-- namespaces of names, compared by their words
module _ (C : Id → Id → Ordering) (same : (x y : Id) → C x y ≡ text_cmp x.text y.text) (a b : InternalName) where
  pub both_fronts : (us vs : List Id) → namespace (components_of a) ≡ texts_of (a.first ∷ us)
      → namespace (components_of b) ≡ texts_of (b.first ∷ vs)
      → ordering_then (C a.first b.first) (slice_cmp C us vs)
      ≡ slice_cmp text_cmp (namespace (components_of a)) (namespace (components_of b))
  both_fronts us vs p q = ids_cmp C same (a.first ∷ us) (b.first ∷ vs) ∙ sym (λ k. slice_cmp text_cmp (p k) (q k))

  pub decided : (o : Ordering) (us vs : List Id) → namespace (components_of a) ≡ texts_of (a.first ∷ us)
      → namespace (components_of b) ≡ texts_of (b.first ∷ vs) → C a.first b.first ≡ o
      → ordering_then o (slice_cmp C us vs)
      ≡ slice_cmp text_cmp (namespace (components_of a)) (namespace (components_of b))
  decided o us vs p q e = ap (λ r. ordering_then r (slice_cmp C us vs)) (sym e) ∙ both_fronts us vs p q
