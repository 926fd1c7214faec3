-- Types that say the same are the same, places aside.
use Rattle.std.proofs.Common.{◌≡◌, ℕ, Bool, true, false, List, Option, Some, None, option_map, sym, ap, ◌∙◌}
use Rattle.std.specs.BTreeMap.{is_at}
use Rattle.std.specs.Map.{lookup}
use Rattle.cedar_data.specs.Text.{text_cmp}
use Rattle.cedar_data.proofs.Orders.{text_total, text_exact}
use Rattle.cedar_identifiers.specs.declared.raw_name.RawName.{RawName}
use Rattle.schema_syntax_reader.specs.Leaves.{Notes}
use Rattle.schema_json.specs.Shapes.{attributes_of}
use Rattle.schema_json.specs.declared.types.Type.{«Type» as Shape}
use Rattle.schema_json.specs.declared.types.Type.TheVariants as shape
use Rattle.schema_json.specs.declared.types.TypeVariant.TheVariants as variant
use Rattle.schema_json.specs.declared.types.TypeOfAttribute.{TypeOfAttribute, out-TypeOfAttribute}
use Rattle.laws_written.specs.Written.{WrittenType, WrittenAttributes, path, set, rec, no_more, attribute}
use Rattle.laws_translate.specs.Bare.{bare, bare_of_attribute}
use Rattle.laws_translate.specs.TypesSay.{TypeSays, AttributeSays, ByTest, is_last_attribute}
use Rattle.laws_translate.proofs.BareTypes.{shape_bare, either_bare, set_bare}
use Rattle.laws_translate.proofs.BareTypes.{record_at, record_from, attribute_same, notes_same, name_same}
use Rattle.laws_translate.proofs.Maps.{told_by_names}

-- what is found is an attribute that says this
abbrev pub IsAttribute : Notes → Bool → WrittenType → Option (TypeOfAttribute RawName) → Type 0
IsAttribute ns required t found =
    (a : TypeOfAttribute RawName) × (found ≡ Some a) × TypeSays (out-TypeOfAttribute RawName a).ty t
    × ((out-TypeOfAttribute RawName a).annotations.0 ≡ ns) × ((out-TypeOfAttribute RawName a).required ≡ required)

either_way : {X : Type 0} (b : Bool) (A B C D : Type 0) → ByTest b A B → ByTest b C D → (A → C → X) → (B → D → X) → X
either_way true A B C D h k f g = f h k
either_way false A B C D h k f g = g h k

mutual
  pub same_type : (t : WrittenType) (s r : Shape RawName) → TypeSays s t → TypeSays r t → bare s ≡ bare r
  same_type (path p) s r (n, loc, e, c) (m, other, f, d) =
      ap bare e
      ∙ (shape_bare _ _ (either_bare n) loc
      ∙ (ap (λ (x : RawName). shape.Variant (variant.EntityOrCommon x) None) (name_same n m (c ∙ sym d))
      ∙ (sym (shape_bare _ _ (either_bare m) other) ∙ ap bare (sym f))))
  same_type (set t) s r (a, loc, e, h) (b, other, f, k) =
      ap bare e
      ∙ (shape_bare _ _ (set_bare a) loc
      ∙ (ap (λ (x : Shape RawName). shape.Variant (variant.Set x) None) (same_type t a b h k)
      ∙ (sym (shape_bare _ _ (set_bare b) other) ∙ ap bare (sym f))))
  same_type (rec xs) s r (a, loc, e, o, up, h) (b, other, f, q, up2, k) =
      let es = told_by_names (TypeOfAttribute RawName) text_cmp text_total text_exact (λ n. n)
      (TypeOfAttribute RawName) (List ℕ) (λ n. n) bare_of_attribute (λ x y p. p)
      (attributes_of a) (attributes_of b) up up2
      (λ n. same_attribute xs n (lookup (is_at (text_cmp n)) (attributes_of a))
      (lookup (is_at (text_cmp n)) (attributes_of b)) (h n) (k n)) in
      let both = o ∙ sym q in
      ap bare e
      ∙ (record_at a loc
      ∙ ((λ i. shape.Variant (variant.Record (record_from (es i) (both i))) None)
      ∙ (sym (record_at b other) ∙ ap bare (sym f))))

  same_attribute : (xs : WrittenAttributes) (name : List ℕ) (x y : Option (TypeOfAttribute RawName))
      → AttributeSays name x xs → AttributeSays name y xs
      → option_map bare_of_attribute x ≡ option_map bare_of_attribute y
  same_attribute no_more name x y h k = ap (option_map bare_of_attribute) (h ∙ sym k)
  same_attribute (attribute ns n required t xs) name x y h k =
      either_way (is_last_attribute name n xs) (IsAttribute ns required t x) (AttributeSays name x xs)
      (IsAttribute ns required t y) (AttributeSays name y xs) h k
      (λ p q. ap (option_map bare_of_attribute) p.1
      ∙ (ap Some
      (attribute_same p.0 q.0
      (same_type t (out-TypeOfAttribute RawName p.0).ty (out-TypeOfAttribute RawName q.0).ty p.2 q.2)
      (notes_same (out-TypeOfAttribute RawName p.0).annotations
      (out-TypeOfAttribute RawName q.0).annotations ns p.3 q.3) (p.4 ∙ sym q.4))
      ∙ ap (option_map bare_of_attribute) (sym q.1)))
      (λ p q. same_attribute xs name x y p q)
