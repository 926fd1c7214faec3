-- What is written in another order.
use Rattle.std.specs.Prelude.{◌≡◌, ℕ, List, [], ◌∷◌, ◌++◌, Option, Some, None}
use Rattle.schema_syntax_reader.specs.Leaves.{Notes}
use Rattle.laws_written.specs.Written.{WrittenDeclared, WrittenItem, namespace}
use Rattle.laws_translate.specs.FragmentsSay.{NamespaceName, WrittenNamespace, written_in}

-- the items stand in another order: two that stand side by side are swapped, as often as it takes
pub data IsReordered {A : Type 0} : List A → List A → Type 0 where
  nothing : IsReordered [] []
  behind : {xs ys : List A} (x : A) → IsReordered xs ys → IsReordered (x ∷ xs) (x ∷ ys)
  swapped : (x y : A) (xs : List A) → IsReordered (x ∷ y ∷ xs) (y ∷ x ∷ xs)
  in_turn : {xs ys zs : List A} → IsReordered xs ys → IsReordered ys zs → IsReordered xs zs

-- the declarations of one opening of a namespace stand in another order
pub record IsReorderedWithin (w v : List WrittenItem) : Type 0 where
  pub before : List WrittenItem
  pub after : List WrittenItem
  pub notes : Notes
  pub name : List (List ℕ)
  pub decls : List WrittenDeclared
  pub others : List WrittenDeclared
  pub reordered : IsReordered decls others
  pub first : w ≡ before ++ namespace notes name decls ∷ after
  pub second : v ≡ before ++ namespace notes name others ∷ after

-- the declarations of one opening of a namespace are divided, in order, over two, whatever stands between these and
-- whatever annotations each of the three has
pub record IsDivided (w v : List WrittenItem) : Type 0 where
  pub before : List WrittenItem
  pub between : List WrittenItem
  pub after : List WrittenItem
  pub notes : Notes
  pub front_notes : Notes
  pub back_notes : Notes
  pub name : List (List ℕ)
  pub front : List WrittenDeclared
  pub back : List WrittenDeclared
  pub joined : w ≡ before ++ namespace notes name (front ++ back) ∷ (between ++ after)
  pub divided : v ≡ before ++ namespace front_notes name front ∷ (between ++ namespace back_notes name back ∷ after)

-- both are written, with the same declarations in whatever order, or neither is
abbrev pub HaveTheSame : Option WrittenNamespace → Option WrittenNamespace → Type 0
HaveTheSame None None = Unit {0}
HaveTheSame (Some n) (Some m) = IsReordered n.decls m.decls
HaveTheSame _ _ = ⊥

-- In each namespace the same is declared, in whatever order and over however many openings.
abbrev pub AreRearranged : List WrittenItem → List WrittenItem → Type 0
AreRearranged w v = (name : NamespaceName) → HaveTheSame (written_in w name) (written_in v name)
