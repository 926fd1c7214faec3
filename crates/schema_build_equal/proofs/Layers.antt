-- Types that say the same, one layer at a time.
use Rattle.std.proofs.Common.{◌≡◌, ◌↔◌, ℕ, suc, Bool, true, List, [], ◌∷◌, length, refl, ap}
use Rattle.std.proofs.Common.{◌∙◌}
use Rattle.cedar_identifiers.specs.declared.unreserved_id.UnreservedId.{UnreservedId}
use Rattle.schema_build_types.specs.declared.types.Type.{«Type»}
use Rattle.schema_build_types.specs.declared.types.Type.TheVariants as built
use Rattle.schema_build_types.specs.Content.{TypeContent, none, first, attributes_content}
use Rattle.schema_build_types.specs.Content.{type_content}
use Rattle.schema_build_types.specs.Content as said
use Rattle.schema_build_types.proofs.Contents.{record_says, extension_says}

-- attributes that say the same are as many
pub as_many : (xs ys : List (List ℕ × («Type» × Bool))) → attributes_content xs ≡ attributes_content ys
    → length xs ≡ length ys
as_many [] [] h = refl
as_many [] (y ∷ ys) h = absurd (cc)
as_many (x ∷ xs) [] h = absurd (cc)
as_many (x ∷ xs) (y ∷ ys) h = ap suc (as_many xs ys (cc))

pub attribute_same : (n m : List ℕ) (r s : Bool) (t u : TypeContent) (e : Bool) → (e ≡ true) ↔ (t ≡ u) → n ≡ m → r ≡ s
    → (e ≡ true) ↔ (first n r t none ≡ first m s u none)
attribute_same n m r s t u e f p q = (λ h. let same : t ≡ u = f.0 h in cc, λ h. f.1 (cc))

pub record_same : (a b : «Type») (xs ys : List (List ℕ × («Type» × Bool))) (m n e : Bool) → a ≡ built.Record xs m
    → b ≡ built.Record ys n → m ≡ n → (e ≡ true) ↔ (attributes_content xs ≡ attributes_content ys)
    → (e ≡ true) ↔ (type_content a ≡ type_content b)
record_same a b xs ys m n e p q same f =
    let left : type_content a ≡ said.Rec (attributes_content xs) m = ap type_content p ∙ record_says xs m in
    let right : type_content b ≡ said.Rec (attributes_content ys) n = ap type_content q ∙ record_says ys n in
    (λ h. let all : attributes_content xs ≡ attributes_content ys = f.0 h in cc, λ h. f.1 (cc))

pub extension_same : (a b : «Type») (x y : UnreservedId) (e : Bool) → a ≡ built.Extension x → b ≡ built.Extension y
    → (e ≡ true) ↔ (x.id.text ≡ y.id.text) → (e ≡ true) ↔ (type_content a ≡ type_content b)
extension_same a b x y e p q f =
    let left : type_content a ≡ said.Ext x.id.text = ap type_content p ∙ extension_says x in
    let right : type_content b ≡ said.Ext y.id.text = ap type_content q ∙ extension_says y in
    (λ h. let all : x.id.text ≡ y.id.text = f.0 h in cc, λ h. f.1 (cc))
