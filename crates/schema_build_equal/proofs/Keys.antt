-- Names and actions by what tells them apart: their equality and their order.
use Rattle.std.proofs.Common.{◌≡◌, ◌↔◌, ℕ, Bool, true, ◌&&◌, List, [], ◌∷◌, map, refl, ap, sym, ◌∙◌}
use Rattle.std.specs.declared.cmp.Ordering.TheVariants.{Equal}
use Rattle.std.specs.BTreeSet.{insert_key}
use Rattle.std.specs.Cmp.{IsTotalOrder, first_so, second_so}
use Rattle.std.specs.Cmp.Lexicographic.{slice_cmp, pointwise}
use Rattle.std.specs.Str.{bytes_eq, encode_utf8_all}
use Rattle.std.proofs.lemmas.Bool.{and_from}
use Rattle.std.proofs.lemmas.Cmp.{on_total, then_total}
use Rattle.std.proofs.lemmas.Slice.Eq.{bytes_eq-Decides}
use Rattle.std.proofs.lemmas.Str.{encodes_same}
use Rattle.cedar_data.specs.Text.{text_cmp}
use Rattle.cedar_data.proofs.Orders.{then_equal, text_total, text_exact, texts_total, texts_exact}
use Rattle.cedar_identifiers.specs.Names.{components_of, texts_of}
use Rattle.cedar_identifiers.specs.declared.id.Id.{Id}
use Rattle.cedar_identifiers.specs.declared.internal_name.InternalName.{InternalName}
use Rattle.cedar_names.specs.CanonicalText.{in_order}
use Rattle.cedar_names.specs.Definitions.{action_of}
use Rattle.cedar_names.specs.declared.entity_uid.EntityUID.{EntityUID}
use Rattle.schema_build_types.specs.Content.{actions_cmp, actions_in_order}
use Rattle.schema_build_equal.proofs.OneSet.{in_turn, once}

-- texts are the same where their bytes are
abbrev pub same_text : List ℕ → List ℕ → Bool
same_text v w = bytes_eq (encode_utf8_all v) (encode_utf8_all w)

pub texts_equal : (v w : List ℕ) → (same_text v w ≡ true) ↔ (v ≡ w)
texts_equal v w =
    let bytes = bytes_eq-Decides (encode_utf8_all v) (encode_utf8_all w) in
    (λ h. encodes_same v w (bytes.0 h), λ e. bytes.1 (ap encode_utf8_all e))

pub ids_equal : (E : Id → Id → Bool) → ((x y : Id) → E x y ≡ same_text x.text y.text) → (xs ys : List Id)
    → (pointwise E xs ys ≡ true) ↔ (texts_of xs ≡ texts_of ys)
ids_equal E e = in_turn (λ i. i.text) E (λ x y.
    let same = texts_equal x.text y.text in
    (λ h. same.0 (sym (e x y) ∙ h), λ h. e x y ∙ same.1 h))

pub names_equal : (E : Id → Id → Bool) → ((x y : Id) → E x y ≡ same_text x.text y.text) → (a b : InternalName)
    → ((same_text a.first.text b.first.text && pointwise E a.others b.others) ≡ true)
    ↔ (components_of a ≡ components_of b)
names_equal E e a b =
    let all = ids_equal E e (a.first ∷ a.others) (b.first ∷ b.others) in (
      λ h. all.0 (ap (λ t. t && pointwise E a.others b.others) (e a.first b.first) ∙ h),
      λ h. ap (λ t. t && pointwise E a.others b.others) (sym (e a.first b.first)) ∙ all.1 h,
    )

pub in_order_once : (ns : List (List (List ℕ))) → in_order ns ≡ once texts_total texts_exact ns
in_order_once [] = refl
in_order_once (n ∷ ns) = ap (λ l. insert_key (slice_cmp text_cmp) l n) (in_order_once ns)

-- actions
pub actions_total : IsTotalOrder actions_cmp
actions_total = then_total (on_total (λ a. a.0) texts_total) (on_total (λ a. a.1) text_total)

pub actions_exact : (a b : List (List ℕ) × List ℕ) → actions_cmp a b ≡ Equal → a ≡ b
actions_exact a b e =
    let both = then_equal (slice_cmp text_cmp a.0 b.0) (text_cmp a.1 b.1) e in
    λ i. (texts_exact a.0 b.0 both.0 i, text_exact a.1 b.1 both.1 i)

pub actions_equal : (E : Id → Id → Bool) → ((x y : Id) → E x y ≡ same_text x.text y.text) → (a b : EntityUID)
    → (((same_text a.ty.name.first.text b.ty.name.first.text && pointwise E a.ty.name.others b.ty.name.others)
    && same_text a.eid.0 b.eid.0) ≡ true) ↔ (action_of a ≡ action_of b)
actions_equal E e a b =
    let names = names_equal E e a.ty.name b.ty.name in
    let ids = texts_equal a.eid.0 b.eid.0 in
    let T : Bool = same_text a.ty.name.first.text b.ty.name.first.text
    && pointwise E a.ty.name.others b.ty.name.others in (
      λ h. let types = names.0 (first_so T (same_text a.eid.0 b.eid.0) h) in
          let texts = ids.0 (second_so T (same_text a.eid.0 b.eid.0) h) in
          λ i. (types i, texts i),
      λ h. and_from T (same_text a.eid.0 b.eid.0) (names.1 (ap (λ p. p.0) h)) (ids.1 (ap (λ p. p.1) h)),
    )

pub actions_once : (uids : List EntityUID)
    → actions_in_order uids ≡ once actions_total actions_exact (map action_of uids)
actions_once [] = refl
actions_once (a ∷ more) = ap (λ l. insert_key actions_cmp l (action_of a)) (actions_once more)
