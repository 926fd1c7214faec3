-- A type stands for one plain type at most.
use Rattle.std.proofs.Common.{◌≡◌, ℕ, List, refl, sym, ap, ◌∙◌, subst, Option, Some}
use Rattle.std.proofs.lemmas.Option.{same_Some}
use Rattle.cedar_identifiers.specs.declared.internal_name.InternalName.{InternalName}
use Rattle.cedar_identifiers.specs.declared.reference_type.ReferenceType.{ReferenceType}
use Rattle.cedar_identifiers.specs.declared.reference_type.ReferenceType.TheVariants.{Common, Entity}
use Rattle.cedar_names.specs.Meaning.{PlainType, Attributes, attribute}
use Rattle.cedar_names.specs.Meaning as plain
use Rattle.schema_json.specs.declared.types.Type.{«Type»}
use Rattle.schema_json.specs.declared.types.TypeOfAttribute.{TypeOfAttribute, out-TypeOfAttribute}
use Rattle.schema_build_expand.specs.View.{View}
use Rattle.schema_build_expand.specs.Scope.{Scope, Declares, AreDeclaredOnce, builtin}
use Rattle.schema_build_expand.specs.Expands.{Expands, by_layer, LayerExpands, to_bool, to_long, to_string, to_set}
use Rattle.schema_build_expand.specs.Expands.{to_record, to_extension, to_entity, to_builtin, to_declared, ExpandAll}
use Rattle.schema_build_expand.specs.Expands.{to_no_attributes, to_attribute}

-- what one reference means has one name and one kind
names_same : (m : Option (List (List ℕ) × ReferenceType)) (x y : List (List ℕ)) (k l : ReferenceType)
    → m ≡ Some (x, k) → m ≡ Some (y, l) → x ≡ y
names_same m x y k l a b = ap (λ (z : List (List ℕ) × ReferenceType). z.0) (same_Some (x, k) (y, l) (sym a ∙ b))

kinds_same : (m : Option (List (List ℕ) × ReferenceType)) (x y : List (List ℕ)) (k l : ReferenceType)
    → m ≡ Some (x, k) → m ≡ Some (y, l) → k ≡ l
kinds_same m x y k l a b = ap (λ (z : List (List ℕ) × ReferenceType). z.1) (same_Some (x, k) (y, l) (sym a ∙ b))

not_both : Entity ≡ Common → ⊥
not_both e = cc

module _ (N : Type 0) (s : Scope N) (apart : AreDeclaredOnce s) where
  mutual
    pub once : (ns : Option InternalName) (t : «Type» N) (p q : PlainType) → Expands N s ns t p → Expands N s ns t q
        → p ≡ q
    once ns t p q (by_layer _ _ _ a) (by_layer _ _ _ b) = layer_once ns _ p q a b

    pub layer_once : (ns : Option InternalName) (v : View N) (p q : PlainType) → LayerExpands N s ns v p
        → LayerExpands N s ns v q → p ≡ q
    layer_once ns v p q (to_bool _) (to_bool _) = refl
    layer_once ns v p q (to_long _) (to_long _) = refl
    layer_once ns v p q (to_string _) (to_string _) = refl
    layer_once ns v p q (to_set _ e x a) (to_set _ _ y b) = ap plain.Set (once ns e x y a b)
    layer_once ns v p q (to_record _ es xs a) (to_record _ _ ys b) = ap plain.Rec (all_once ns es xs ys a b)
    layer_once ns v p q (to_extension _ w a) (to_extension _ _ b) = refl
    layer_once ns v p q (to_entity _ kind name x a) (to_entity _ _ _ y b) =
        ap plain.Entity (names_same _ x y Entity Entity a b)
    layer_once ns v p q (to_entity _ kind name x a) (to_builtin _ _ _ y r b u d) =
        absurd (not_both (kinds_same _ x y Entity Common a b))
    layer_once ns v p q (to_entity _ kind name x a) (to_declared _ _ _ d r b c e) =
        absurd (not_both (kinds_same _ x d.name Entity Common a b))
    layer_once ns v p q (to_builtin _ kind name x r a u d) (to_entity _ _ _ y b) =
        absurd (not_both (kinds_same _ y x Entity Common b a))
    layer_once ns v p q (to_builtin _ kind name x r a u d) (to_builtin _ _ _ y r' b u' d') =
        same_Some r r' (sym d ∙ ap (builtin s) (names_same _ x y Common Common a b) ∙ d')
    layer_once ns v p q (to_builtin _ kind name x r a u d) (to_declared _ _ _ d' r' b c e) =
        absurd (let same : x ≡ d'.name = names_same _ x d'.name Common Common a b in u d'
        (subst (λ n. Declares s n d') (sym same) c))
    layer_once ns v p q (to_declared _ kind name d r a c e) (to_entity _ _ _ y b) =
        absurd (not_both (kinds_same _ y d.name Entity Common b a))
    layer_once ns v p q (to_declared _ kind name d r a c e) (to_builtin _ _ _ y r' b u d') =
        absurd (let same : y ≡ d.name = names_same _ y d.name Common Common b a in u d
        (subst (λ n. Declares s n d) (sym same) c))
    layer_once ns v p q (to_declared _ kind name d r a c e) (to_declared _ _ _ d' r' b c' e') =
        let named : d'.name ≡ d.name = names_same _ d'.name d.name Common Common b a in
        let same : d' ≡ d = apart d.name d' d (subst (λ n. Declares s n d') named c') c in
        once d.place d.ty r r' e (subst (λ x. Expands N s x.place x.ty r') same e')

    pub all_once : (ns : Option InternalName) (es : List (List ℕ × TypeOfAttribute N)) (ps qs : Attributes)
        → ExpandAll N s ns es ps → ExpandAll N s ns es qs → ps ≡ qs
    all_once ns es ps qs (to_no_attributes _) (to_no_attributes _) = refl
    all_once ns es ps qs (to_attribute _ name a rest x xs h hs) (to_attribute _ _ _ _ y ys k ks) =
        λ i. attribute name (out-TypeOfAttribute N a).required (once ns (out-TypeOfAttribute N a).ty x y h k i)
        (all_once ns rest xs ys hs ks i)
