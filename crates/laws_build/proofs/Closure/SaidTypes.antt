-- Types that say what is written rise.
use Rattle.std.proofs.Common.{◌≡◌, ℕ, Bool, true, false, not, ◌&&◌, cond, List, [], ◌∷◌, map, Contains, Option, Some}
use Rattle.std.proofs.Common.{None, refl, sym, ap, ◌∙◌, subst, inl, inr}
use Rattle.std.specs.BTreeMap.{is_at}
use Rattle.std.specs.Cmp.{IsTotalOrder}
use Rattle.std.specs.List.Sorted.{IsStrictlySortedBy}
use Rattle.std.specs.Map.{lookup}
use Rattle.std.specs.Ordering.{is_eq, ordering_reverse}
use Rattle.std.specs.declared.cmp.Ordering.{Ordering}
use Rattle.std.specs.declared.cmp.Ordering.TheVariants.{Less}
use Rattle.std.proofs.lemmas.Cmp.{tied_itself}
use Rattle.std.proofs.lemmas.Map.Keys.{sorted_head, sorted_tail}
use Rattle.std.proofs.lemmas.Option.{same_Some}
use Rattle.cedar_data.specs.Span.{Span}
use Rattle.cedar_data.specs.Text.{text_cmp}
use Rattle.cedar_data.proofs.Orders.{text_total}
use Rattle.cedar_data.proofs.Lists.{contains_map, contains_first, contains_later}
use Rattle.cedar_identifiers.specs.declared.raw_name.RawName.{RawName}
use Rattle.cedar_identifiers.specs.declared.reference_type.ReferenceType.TheVariants.{Common, CommonOrEntity}
use Rattle.schema_json.specs.Shapes.{attributes_of, is_open, is_empty_type, is_empty_record}
use Rattle.schema_json.specs.declared.types.Type.{«Type»}
use Rattle.schema_json.specs.declared.types.Type.TheVariants as shape
use Rattle.schema_json.specs.declared.types.RecordType.{RecordType}
use Rattle.schema_json.specs.declared.types.TypeOfAttribute.{TypeOfAttribute, out-TypeOfAttribute}
use Rattle.laws_written.specs.Written.{WrittenType, WrittenAttributes, path, set, rec, no_more, attribute}
use Rattle.laws_translate.specs.TypesSay.{TypeSays, AttributeSays, ByTest, is_last_attribute}
use Rattle.schema_build_expand.specs.View.{View, view}
use Rattle.schema_build_hierarchy.proofs.Once.{contains_cases}
use Rattle.laws_build.specs.Closure.WellFormed.{Rises, rises_by_layer, LayerRises, set_rises, record_rises}
use Rattle.laws_build.specs.Closure.WellFormed.{reference_rises, AllRise, none_rise, next_rises}
use Rattle.laws_build.proofs.Closure.Lists.{has_none, each_has}
use Rattle.laws_build.proofs.Closure.Views.{reference_viewed, common_viewed, set_viewed, record_viewed}
use Rattle.laws_build.proofs.Closure.Views.{record_emptied}

-- an entry of a map whose names rise is found by its name
module _ {K N V : Type 0} {order : N → N → Ordering} (total : IsTotalOrder order) (name : K → N) where
  pub found_there : (es : List (K × V)) → IsStrictlySortedBy order (map (λ e. name e.0) es) → (e : K × V)
      → Contains es e → lookup (λ k. is_at (order (name e.0)) (name k)) es ≡ Some e.1
  found_there [] up e c = has_none e c
  found_there (d ∷ es) up e c = elim (contains_cases d es e c) [
    | inl same ↦
        ap (λ o. cond (is_eq o) (Some d.1) (lookup (λ k. is_at (order (name e.0)) (name k)) es))
        (ap (λ (z : K × V). order (name e.0) (name z.0)) same ∙ tied_itself total (name e.0))
        ∙ ap (λ (z : K × V). Some z.1) same
    | inr there ↦
        let names = map (λ (z : K × V). name z.0) es in
        let less : order (name d.0) (name e.0) ≡ Less =
        each_has (λ y. order (name d.0) y ≡ Less) names (name e.0) (sorted_head order (name d.0) names up)
        (contains_map (λ (z : K × V). name z.0) es e there) in
        ap (λ o. cond (is_eq o) (Some d.1) (lookup (λ k. is_at (order (name e.0)) (name k)) es))
        (total.antisymm (name e.0) (name d.0) ∙ ap ordering_reverse less)
        ∙ found_there es (sorted_tail order (name d.0) names up) e there
  ]

pub by_layer_of : (t : «Type» RawName) (v : View RawName) → view t ≡ v → LayerRises RawName v → Rises RawName t
by_layer_of t v e h = rises_by_layer t (subst (LayerRises RawName) (sym e) h)

pub all_rise : (es : List (List ℕ × TypeOfAttribute RawName))
    → ((e : List ℕ × TypeOfAttribute RawName) → Contains es e → Rises RawName (out-TypeOfAttribute RawName e.1).ty)
    → AllRise RawName es
all_rise [] each = none_rise
all_rise (e ∷ es) each =
    next_rises e.0 e.1 es (each e (contains_first e es)) (all_rise es (λ x c. each x (contains_later e es x c)))

-- the one or the other, by a test
either_of : (b : Bool) (A B C : Type 0) → ByTest b A B → (A → C) → (B → C) → C
either_of true A B C h f g = f h
either_of false A B C h f g = g h

mutual
  pub said_rises : (s : «Type» RawName) (t : WrittenType) → TypeSays s t → Rises RawName s
  said_rises s (path p) (name, loc, e, same) =
      by_layer_of s _ (reference_viewed s name loc e) (reference_rises CommonOrEntity name)
  said_rises s (set t) (x, loc, e, says) = by_layer_of s _ (set_viewed s x loc e) (set_rises x (said_rises x t says))
  said_rises s (rec xs) (r, loc, e, closed, up, each) =
      by_layer_of s _ (record_viewed s r loc e) (record_rises (is_open r) (attributes_of r) up
      (all_rise (attributes_of r) (λ a c. found_rises a.0 a.1 xs
      (subst (λ o. AttributeSays a.0 o xs) (found_there text_total (λ n. n) (attributes_of r) up a c) (each a.0)))))

  found_rises : (name : List ℕ) (a : TypeOfAttribute RawName) (xs : WrittenAttributes)
      → AttributeSays name (Some a) xs → Rises RawName (out-TypeOfAttribute RawName a).ty
  found_rises name a no_more h = absurd (cc)
  found_rises name a (attribute ns n r t xs) h =
      either_of (is_last_attribute name n xs) _ _ _ h
      (λ (b, e, says, notes, marks).
      subst (λ z. Rises RawName (out-TypeOfAttribute RawName z).ty) (sym (same_Some a b e))
      (said_rises (out-TypeOfAttribute RawName b).ty t says))
      (λ k. found_rises name a xs k)

-- a reference to a common type has no attributes
pub common_rises : (s : «Type» RawName) (name : RawName) (loc : Option Span) → s ≡ shape.CommonTypeRef name loc
    → Rises RawName s
common_rises s name loc e = by_layer_of s _ (common_viewed s name loc e) (reference_rises Common name)

-- what says nothing is empty
none_found : (es : List (List ℕ × TypeOfAttribute RawName))
    → ((name : List ℕ) → lookup (is_at (text_cmp name)) es ≡ None) → es ≡ []
none_found [] none = refl
none_found (e ∷ es) none = absurd (
    let here : lookup (is_at (text_cmp e.0)) (e ∷ es) ≡ Some e.1 =
    ap (λ o. cond (is_eq o) (Some e.1) (lookup (is_at (text_cmp e.0)) es)) (tied_itself text_total e.0) in
    let no : Some e.1 ≡ None = sym here ∙ none e.0 in
    cc)

record_none : (r : RecordType RawName) (es : List (List ℕ × TypeOfAttribute RawName)) → attributes_of r ≡ es → es ≡ []
    → is_open r ≡ false → is_empty_record r ≡ true
record_none r es e none closed = λ i. no_entry ((e ∙ none) i) && not (closed i)
  where
    no_entry : List (List ℕ × TypeOfAttribute RawName) → Bool
    no_entry [] = true
    no_entry (x ∷ xs) = false

pub nothing_said : (s : «Type» RawName) → TypeSays s (rec no_more) → is_empty_type s ≡ true
nothing_said s (r, loc, e, closed, up, each) =
    record_emptied s r loc e ∙ record_none r (attributes_of r) refl (none_found (attributes_of r) each) closed
