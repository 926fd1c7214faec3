-- A type that says what is written of a type of a meaning stands for it.
use Rattle.std.proofs.Common.{◌≡◌, ℕ, Bool, true, false, not, ◌&&◌, ◌||◌, cond, List, [], ◌∷◌, codes, Option, Some}
use Rattle.std.proofs.Common.{None, is_some, refl, sym, ap, ◌∙◌, subst, true≢false}
use Rattle.std.specs.BTreeMap.{is_at}
use Rattle.std.specs.Cmp.{tied_itself}
use Rattle.std.specs.List.{AllByRecursion}
use Rattle.std.specs.List.Sorted.{IsStrictlySortedBy}
use Rattle.std.specs.Map.{lookup, keys_of}
use Rattle.std.specs.Ordering.{is_eq, ordering_reverse}
use Rattle.std.specs.declared.cmp.Ordering.{Ordering}
use Rattle.std.specs.declared.cmp.Ordering.TheVariants.{Less, Equal, Greater}
use Rattle.std.proofs.lemmas.Map.Keys.{sorted_head, sorted_tail}
use Rattle.std.proofs.lemmas.Option.{same_Some}
use Rattle.cedar_data.specs.Text.{text_cmp}
use Rattle.cedar_data.proofs.Orders.{text_total, text_exact, equal_from}
use Rattle.cedar_identifiers.specs.declared.internal_name.InternalName.{InternalName}
use Rattle.cedar_identifiers.specs.declared.raw_name.RawName.{RawName}
use Rattle.cedar_identifiers.specs.declared.reference_type.ReferenceType.TheVariants.{CommonOrEntity}
use Rattle.cedar_names.specs.Meaning.{PlainType, Attributes}
use Rattle.cedar_names.specs.Meaning as m
use Rattle.schema_json.specs.Shapes.{attributes_of}
use Rattle.schema_json.specs.declared.types.Type.{«Type»}
use Rattle.schema_json.specs.declared.types.TypeOfAttribute.{TypeOfAttribute, out-TypeOfAttribute}
use Rattle.laws_written.specs.Meant.{under_cedar, type_of_meaning, attributes_of_meaning}
use Rattle.laws_written.specs.Written.{WrittenType}
use Rattle.laws_translate.specs.TypesSay.{TypeSays, AttributeSays, ByTest, has_attribute, is_last_attribute}
use Rattle.schema_build_expand.specs.Expands.{Expands, by_layer, LayerExpands, to_set, to_record, to_entity}
use Rattle.schema_build_expand.specs.Expands.{to_builtin}
use Rattle.schema_build_expand.specs.Expands.{ExpandAll, to_no_attributes, to_attribute}
use Rattle.schema_build_expand.specs.Scope.{Scope, builtin}
use Rattle.schema_build_expand.specs.View.{View, set_layer, record_layer, reference_layer, view}
use Rattle.laws_build.specs.Closure.Ordered.{meant_names, IsOrderedType, AreOrderedTypes}
use Rattle.laws_build.proofs.Closure.Views.{reference_viewed, set_viewed, record_viewed}
use Rattle.laws_build.specs.Said.Themselves.{MeansBuiltin, MeansItself, MeanThemselves}

-- the one or the other of two, where the test is known
first_of : (b : Bool) (A B : Type 0) → b ≡ true → ByTest b A B → A
first_of true A B e h = h
first_of false A B e h = absurd (true≢false (sym e))

second_of : (b : Bool) (A B : Type 0) → b ≡ false → ByTest b A B → B
second_of true A B e h = absurd (true≢false e)
second_of false A B e h = h

as_second : (b : Bool) (A B : Type 0) → b ≡ false → B → ByTest b A B
as_second true A B e h = absurd (true≢false e)
as_second false A B e h = h

abbrev pub Entry : Type 0
Entry = List ℕ × TypeOfAttribute RawName

abbrev pub AreGreater : List ℕ → List (List ℕ) → Type 0
AreGreater k names = AllByRecursion (λ y. text_cmp k y ≡ Less) names

all_above : (k n : List ℕ) (ns : List (List ℕ)) → text_cmp k n ≡ Less → AreGreater n ns → AreGreater k ns
all_above k n [] l h = tt
all_above k n (x ∷ ns) l h = (text_total.trans k n x l h.0, all_above k n ns l h.1)

-- no attribute has a name that is less than all
none_named : (k : List ℕ) (xs : Attributes) → AreGreater k (meant_names xs)
    → has_attribute k (attributes_of_meaning xs) ≡ false
none_named k m.no_more h = refl
none_named k (m.attribute n r t xs) h = λ i. none_named k xs h.1 i || is_eq (h.0 i)

not_last : (k n : List ℕ) (has : Bool) → is_at (text_cmp k) n ≡ false → (is_at (text_cmp k) n && not has) ≡ false
not_last k n has e = ap (λ b. b && not has) e

none_said : (k : List ℕ) (xs : Attributes) (found : Option (TypeOfAttribute RawName)) → AreGreater k (meant_names xs)
    → AttributeSays k found (attributes_of_meaning xs) → found ≡ None
none_said k m.no_more found h s = s
none_said k (m.attribute n r t xs) found h s =
    none_said k xs found h.1
    (second_of (is_last_attribute k n (attributes_of_meaning xs)) _
    (AttributeSays k found (attributes_of_meaning xs))
    (not_last k n (has_attribute k (attributes_of_meaning xs)) (ap is_eq h.0)) s)

says_none : (k : List ℕ) (xs : Attributes) → AreGreater k (meant_names xs)
    → AttributeSays k None (attributes_of_meaning xs)
says_none k m.no_more h = refl
says_none k (m.attribute n r t xs) h =
    as_second (is_last_attribute k n (attributes_of_meaning xs)) _ (AttributeSays k None (attributes_of_meaning xs))
    (not_last k n (has_attribute k (attributes_of_meaning xs)) (ap is_eq h.0)) (says_none k xs h.1)

-- nothing is found of a name that is less than all
none_found : (k : List ℕ) (es : List Entry) → AreGreater k (keys_of es) → lookup (is_at (text_cmp k)) es ≡ None
none_found k [] h = refl
none_found k (e ∷ es) h = ap (λ c. cond (is_eq c) (Some e.1) (lookup (is_at (text_cmp k)) es)) h.0 ∙ none_found k es h.1

pub at_head : (e : Entry) (es : List Entry) → lookup (is_at (text_cmp e.0)) (e ∷ es) ≡ Some e.1
at_head e es = ap (λ c. cond (is_eq c) (Some e.1) (lookup (is_at (text_cmp e.0)) es)) (tied_itself text_total e.0)

pub not_some : {X : Type 0} (a : TypeOfAttribute RawName) → Some a ≡ None → X
not_some a h = absurd (true≢false (ap is_some h))

-- an attribute whose name is less than those behind it
abbrev pub IsFirst : List ℕ → Bool → WrittenType → Option (TypeOfAttribute RawName) → Type 0
IsFirst n required t found =
    (a : TypeOfAttribute RawName) × (found ≡ Some a) × TypeSays (out-TypeOfAttribute RawName a).ty t
    × ((out-TypeOfAttribute RawName a).annotations.0 ≡ []) × ((out-TypeOfAttribute RawName a).required ≡ required)

pub first_said : (n : List ℕ) (r : Bool) (t : PlainType) (xs : Attributes) (found : Option (TypeOfAttribute RawName))
    → AreGreater n (meant_names xs)
    → AttributeSays n found (attributes_of_meaning (m.attribute n r t xs)) → IsFirst n r (type_of_meaning t) found
first_said n r t xs found h s =
    first_of (is_last_attribute n n (attributes_of_meaning xs)) (IsFirst n r (type_of_meaning t) found)
    (AttributeSays n found (attributes_of_meaning xs))
    ((λ i. is_eq (tied_itself text_total n i) && not (none_named n xs h i))) s

-- the first entry has the first name
pub same_first : (e : Entry) (es : List Entry) (n : List ℕ) (r : Bool) (t : PlainType) (xs : Attributes)
    → AreGreater e.0 (keys_of es) → AreGreater n (meant_names xs)
    → ((k : List ℕ) → AttributeSays k (lookup (is_at (text_cmp k)) (e ∷ es))
    (attributes_of_meaning (m.attribute n r t xs))) → e.0 ≡ n
same_first e es n r t xs h k says = by (text_cmp n e.0) refl
  where
    by : (c : Ordering) → text_cmp n e.0 ≡ c → e.0 ≡ n
    by Equal p = sym (text_exact n e.0 p)
    by Less p =
        let f = first_said n r t xs (lookup (is_at (text_cmp n)) (e ∷ es)) k (says n) in
        not_some f.0 (sym f.1 ∙ none_found n (e ∷ es) (p, all_above n e.0 (keys_of es) p h))
    by Greater p =
        let less : text_cmp e.0 n ≡ Less = text_total.antisymm e.0 n ∙ ap ordering_reverse p in
        not_some e.1
        (sym (at_head e es) ∙ none_said e.0 (m.attribute n r t xs) (lookup (is_at (text_cmp e.0)) (e ∷ es))
        (less, all_above e.0 n (meant_names xs) less k) (says e.0))

-- what the others say
pub others_say : (e : Entry) (es : List Entry) (n : List ℕ) (r : Bool) (t : PlainType) (xs : Attributes) → e.0 ≡ n
    → AreGreater e.0 (keys_of es) → AreGreater n (meant_names xs)
    → ((k : List ℕ) → AttributeSays k (lookup (is_at (text_cmp k)) (e ∷ es))
    (attributes_of_meaning (m.attribute n r t xs)))
    → (k : List ℕ) → AttributeSays k (lookup (is_at (text_cmp k)) es) (attributes_of_meaning xs)
others_say e es n r t xs same h k says q = by (is_at (text_cmp q) n) refl
  where
    by : (b : Bool) → is_at (text_cmp q) n ≡ b
        → AttributeSays q (lookup (is_at (text_cmp q)) es) (attributes_of_meaning xs)
    by true p =
        let here : q ≡ n = text_exact q n (equal_from (text_cmp q n) p) in
        let none : lookup (is_at (text_cmp q)) es ≡ None =
        none_found q es (subst (λ x. AreGreater x (keys_of es)) (same ∙ sym here) h) in
        subst (λ o. AttributeSays q o (attributes_of_meaning xs)) (sym none)
        (says_none q xs (subst (λ x. AreGreater x (meant_names xs)) (sym here) k))
    by false p =
        let skip : lookup (is_at (text_cmp q)) (e ∷ es) ≡ lookup (is_at (text_cmp q)) es =
        ap (λ b. cond b (Some e.1) (lookup (is_at (text_cmp q)) es)) (ap (is_at (text_cmp q)) same ∙ p) in
        subst (λ o. AttributeSays q o (attributes_of_meaning xs)) skip
        (second_of (is_last_attribute q n (attributes_of_meaning xs)) _
        (AttributeSays q (lookup (is_at (text_cmp q)) (e ∷ es)) (attributes_of_meaning xs))
        (not_last q n (has_attribute q (attributes_of_meaning xs)) p) (says q))

module _ (s : Scope RawName) (ns : Option InternalName) where
  at_view : (t : «Type» RawName) (v : View RawName) (p : PlainType) → view t ≡ v → LayerExpands RawName s ns v p
      → Expands RawName s ns t p
  at_view t v p e h = by_layer ns t p (subst (λ w. LayerExpands RawName s ns w p) (sym e) h)

  builtin_expands : (t : «Type» RawName) (word : List ℕ) (p : PlainType) → TypeSays t (under_cedar word)
      → MeansBuiltin s ns word → builtin s (codes "__cedar" ∷ word ∷ []) ≡ Some p → Expands RawName s ns t p
  builtin_expands t word p (n, loc, e, c) means is =
      at_view t (reference_layer CommonOrEntity n) p (reference_viewed t n loc e)
      (to_builtin ns CommonOrEntity n (codes "__cedar" ∷ word ∷ []) p (means.0 n c) means.1 is)

  entry_expands : (e : Entry) (es : List Entry) (n : List ℕ) (r : Bool) (t : PlainType) (xs : Attributes) → e.0 ≡ n
      → (out-TypeOfAttribute RawName e.1).required ≡ r
      → Expands RawName s ns (out-TypeOfAttribute RawName e.1).ty t → ExpandAll RawName s ns es xs
      → ExpandAll RawName s ns (e ∷ es) (m.attribute n r t xs)
  entry_expands e es n r t xs same required h k =
      subst (λ x. ExpandAll RawName s ns (e ∷ es) (m.attribute x r t xs)) same
      (subst (λ q. ExpandAll RawName s ns (e ∷ es) (m.attribute e.0 q t xs)) required
      (to_attribute ns e.0 e.1 es t xs h k))

  mutual
    pub type_expands : (p : PlainType) (t : «Type» RawName) → TypeSays t (type_of_meaning p) → IsOrderedType p
        → MeansItself s ns p → Expands RawName s ns t p
    type_expands PlainType.Bool t h o means = builtin_expands t (codes "Bool") PlainType.Bool h means refl
    type_expands PlainType.Long t h o means = builtin_expands t (codes "Long") PlainType.Long h means refl
    type_expands PlainType.String t h o means = builtin_expands t (codes "String") PlainType.String h means refl
    type_expands (PlainType.Ext name) t h o means = builtin_expands t name (PlainType.Ext name) h means.0 means.1
    type_expands (PlainType.Entity name) t (n, loc, e, c) o means =
        at_view t (reference_layer CommonOrEntity n) (PlainType.Entity name) (reference_viewed t n loc e)
        (to_entity ns CommonOrEntity n name (means n c))
    type_expands (PlainType.Set p) t (x, loc, e, h) o means =
        at_view t (set_layer x) (PlainType.Set p) (set_viewed t x loc e) (to_set ns x p (type_expands p x h o means))
    type_expands (PlainType.Rec xs) t (r, loc, e, closed, up, each) o means =
        at_view t (record_layer false (attributes_of r)) (PlainType.Rec xs)
        (record_viewed t r loc e ∙ ap (λ b. record_layer b (attributes_of r)) closed)
        (to_record ns (attributes_of r) xs (all_expand xs (attributes_of r) up each o.0 o.1 means))

    all_expand : (xs : Attributes) (es : List Entry) → IsStrictlySortedBy text_cmp (keys_of es)
        → ((k : List ℕ) → AttributeSays k (lookup (is_at (text_cmp k)) es) (attributes_of_meaning xs))
        → IsStrictlySortedBy text_cmp (meant_names xs) → AreOrderedTypes xs → MeanThemselves s ns xs
        → ExpandAll RawName s ns es xs
    all_expand m.no_more [] up says names o means = to_no_attributes ns
    all_expand m.no_more (e ∷ es) up says names o means = not_some e.1 (sym (at_head e es) ∙ says e.0)
    all_expand (m.attribute n r t xs) [] up says names o means =
        let f = first_said n r t xs None (sorted_head text_cmp n (meant_names xs) names) (says n) in
        not_some f.0 (sym f.1)
    all_expand (m.attribute n r t xs) (e ∷ es) up says names o means =
        let above = sorted_head text_cmp e.0 (keys_of es) up in
        let behind = sorted_head text_cmp n (meant_names xs) names in
        let same = same_first e es n r t xs above behind says in
        let f = first_said n r t xs (lookup (is_at (text_cmp n)) (e ∷ es)) behind (says n) in
        let is : f.0 ≡ e.1 = same_Some f.0 e.1
        (sym f.1 ∙ (ap (λ k. lookup (is_at (text_cmp k)) (e ∷ es)) (sym same) ∙ at_head e es)) in
        let said : TypeSays (out-TypeOfAttribute RawName e.1).ty (type_of_meaning t) =
        subst (λ a. TypeSays (out-TypeOfAttribute RawName a).ty (type_of_meaning t)) is f.2 in
        let required : (out-TypeOfAttribute RawName e.1).required ≡ r =
        ap (λ a. (out-TypeOfAttribute RawName a).required) (sym is) ∙ f.4 in
        entry_expands e es n r t xs same required (type_expands t (out-TypeOfAttribute RawName e.1).ty said o.0 means.0)
        (all_expand xs es (sorted_tail text_cmp e.0 (keys_of es) up)
        (others_say e es n r t xs same above behind says)
        (sorted_tail text_cmp n (meant_names xs) names) o.1 means.1)
