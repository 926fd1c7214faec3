-- The items of a namespace among those of groups.
use Rattle.std.proofs.Common.{◌≡◌, Bool, true, false, cond, List, [], ◌∷◌, ◌++◌, map, Some, None, flat_map, refl, ap}
use Rattle.std.proofs.Common.{◌∙◌}
use Rattle.std.specs.BTreeMap.{is_at}
use Rattle.schema_syntax_reader.specs.Leaves.{Notes}
use Rattle.laws_written.specs.Written.{WrittenDeclared, WrittenItem, outside}
use Rattle.laws_written.specs.PrintedDecls.{namespace_items}
use Rattle.laws_translate.specs.FragmentsSay.{NamespaceName, namespace_order, notes_of_item, decls_of_item}
use Rattle.laws_translate.specs.FragmentsSay.{is_of_namespace, items_of_namespace}

pub outside_decls : (ds : List WrittenDeclared) → flat_map decls_of_item (map outside ds) ≡ ds
outside_decls [] = refl
outside_decls (d ∷ ds) = ap (λ l. d ∷ l) (outside_decls ds)

pub outside_notes : (ds : List WrittenDeclared) → flat_map notes_of_item (map outside ds) ≡ []
outside_notes [] = refl
outside_notes (d ∷ ds) = outside_notes ds

module _ (q : NamespaceName) where
  pub filter_append : (xs ys : List WrittenItem)
      → items_of_namespace q (xs ++ ys) ≡ items_of_namespace q xs ++ items_of_namespace q ys
  filter_append [] ys = refl
  filter_append (x ∷ xs) ys = ap (λ l. cond (is_of_namespace q x) (x ∷ l) l) (filter_append xs ys)
      ∙ by (is_of_namespace q x)
    where
      by : (t : Bool) → cond t (x ∷ (items_of_namespace q xs ++ items_of_namespace q ys))
          (items_of_namespace q xs ++ items_of_namespace q ys) ≡ cond t (x ∷ items_of_namespace q xs)
          (items_of_namespace q xs) ++ items_of_namespace q ys
      by true = refl
      by false = refl

  outside_at : (ds : List WrittenDeclared) → items_of_namespace q (map outside ds) ≡ cond
      (is_at (namespace_order q) None) (map outside ds) []
  outside_at [] = by (is_at (namespace_order q) None)
    where
      by : (t : Bool) → [] ≡ cond {A = List WrittenItem} t [] []
      by true = refl
      by false = refl
  outside_at (d ∷ ds) = ap (λ l. cond (is_at (namespace_order q) None) (outside d ∷ l) l) (outside_at ds)
      ∙ by (is_at (namespace_order q) None)
    where
      by : (t : Bool) → cond {A = List WrittenItem} t (outside d ∷ cond t (map outside ds) [])
          (cond t (map outside ds) []) ≡ cond t (outside d ∷ map outside ds) []
      by true = refl
      by false = refl

  pub items_at : (notes : Notes) (name : NamespaceName) (ds : List WrittenDeclared)
      → items_of_namespace q (namespace_items notes name ds) ≡ cond (is_at (namespace_order q) name)
      (namespace_items notes name ds) []
  items_at notes None ds = outside_at ds
  items_at notes (Some p) ds = refl
