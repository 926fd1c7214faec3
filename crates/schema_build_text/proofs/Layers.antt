-- What is printed of each kind of type, one equation a layer.
use Rattle.std.proofs.Common.{◌≡◌, ℕ, ◌+◌, ◌<◌, ◌==◌, Bool, true, false, length, List, [], ◌∷◌, ◌++◌, drop, get_or}
use Rattle.std.proofs.Common.{codes, refl, ap, sym, ◌∙◌, inl, inr, append_assoc, Some, if◌then◌else◌}
use Rattle.std.specs.Prelude.{◌⊎◌}
use Rattle.cedar_names.specs.Meaning.{PlainType, Attributes, attribute}
use Rattle.cedar_names.specs.CanonicalText.{type_text, lines_text, record_text, spaces, attribute_name}
use Rattle.schema_build_types.specs.declared.types.Type.{«Type»}
use Rattle.schema_build_types.specs.declared.types.Type.TheVariants as built
use Rattle.schema_build_types.specs.Content.{TypeContent, attributes_content, type_content}
use Rattle.schema_build_types.specs.Content as said
use Rattle.schema_build_types.proofs.Contents.{never_says, any_bool_says, true_says, false_says, set_says}
use Rattle.schema_build_text.specs.Readings.{plain_type, plain_attributes}
use Rattle.schema_build_text.proofs.Rowed.{dropped}

-- the text of what a type says
pub shown : (base : ℕ) (t v : «Type») (said : TypeContent) (text : List ℕ) → t ≡ v → type_content v ≡ said
    → text ≡ type_text true base (plain_type said) → text ≡ type_text true base (plain_type (type_content t))
shown base t v said text e f g = g ∙ ap (λ x. type_text true base (plain_type x)) (sym (ap type_content e ∙ f))

pub bool_shown : (base : ℕ) (t : «Type»)
    → (t ≡ built.Never) ⊎ ((t ≡ built.AnyBool) ⊎ ((t ≡ built.True) ⊎ (t ≡ built.False)))
    → codes "__cedar::Bool" ≡ type_text true base (plain_type (type_content t))
bool_shown base t (inl e) = shown base t built.Never said.Never (codes "__cedar::Bool") e never_says refl
bool_shown base t (inr (inl e)) = shown base t built.AnyBool said.AnyBool (codes "__cedar::Bool") e any_bool_says refl
bool_shown base t (inr (inr (inl e))) = shown base t built.True said.True (codes "__cedar::Bool") e true_says refl
bool_shown base t (inr (inr (inr e))) = shown base t built.False said.False (codes "__cedar::Bool") e false_says refl

pub record_filled : (base : ℕ) (entries : List (List ℕ × («Type» × Bool))) → (length entries == 0) ≡ false
    → codes "{\n" ++ (lines_text true base (plain_attributes (attributes_content entries))
    ++ (spaces base ++ codes "}")) ≡ record_text true base (plain_attributes (attributes_content entries))
record_filled base [] h = absurd (cc)
record_filled base (e ∷ es) h = refl

-- a set in the line of an attribute
pub set_laid : (base : ℕ) (t u v : «Type») → t ≡ built.Set (Some v) → u ≡ v
    → codes ": Set<" ++ (type_text true base (plain_type (type_content u)) ++ codes ">,\n")
    ≡ codes ": " ++ (type_text true base (plain_type (type_content t)) ++ codes ",\n")
set_laid base t u v e f =
    let element = type_text true base (plain_type (type_content v)) in
    ap (λ x. codes ": Set<" ++ (type_text true base (plain_type (type_content x)) ++ codes ">,\n")) f
    ∙ (ap (λ x. codes ": Set<" ++ x) (sym (append_assoc element (codes ">") (codes ",\n")))
    ∙ ap (λ x. codes ": " ++ (x ++ codes ",\n"))
    (shown base t (built.Set (Some v)) (said.Set (type_content v)) (codes "Set<" ++ (element ++ codes ">")) e
    (set_says v) refl))

-- what stands behind the name of an attribute
abbrev pub behind_name : ℕ → Bool → PlainType → List ℕ
behind_name base required t =
    (if required then [] else codes "?") ++ (codes ": " ++ (type_text true base t ++ codes ",\n"))

line_laid : (base : ℕ) (n : List ℕ) (r : Bool) (t : PlainType) (xs : Attributes)
    → lines_text true base (attribute n r t xs)
    ≡ (spaces (base + 2) ++ (attribute_name n ++ behind_name (base + 2) r t)) ++ lines_text true base xs
line_laid base n r t xs = simp append_assoc

-- one attribute, and those after it
pub entry_step : (base inner : ℕ) (entries : List (List ℕ × («Type» × Bool))) (i : ℕ) (d : List ℕ × («Type» × Bool))
    → inner ≡ base + 2 → i < length entries → d ≡ get_or entries i d
    → lines_text true base (plain_attributes (attributes_content (drop i entries)))
    ≡ (spaces inner ++ (attribute_name d.0 ++ behind_name inner d.1.1 (plain_type (type_content d.1.0))))
    ++ lines_text true base (plain_attributes (attributes_content (drop (i + 1) entries)))
entry_step base inner entries i d k h e =
    rw k (ap (λ es. lines_text true base (plain_attributes (attributes_content es))) (dropped entries i d h e)
    ∙ line_laid base d.0 d.1.1 (plain_type (type_content d.1.0))
    (plain_attributes (attributes_content (drop (i + 1) entries))))
