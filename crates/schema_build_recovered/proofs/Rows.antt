-- Rows of names that are written one by one.
use Rattle.std.proofs.Common.{◌≡◌, List, [], ◌∷◌, subst, map}
use Rattle.std.specs.List.{AllZip}
use Rattle.std.specs.Cmp.Lexicographic.{slice_cmp}
use Rattle.std.specs.declared.cmp.Ordering.{Ordering}
use Rattle.cedar_data.specs.Text.{text_cmp}
use Rattle.cedar_identifiers.specs.Names.{components_of}
use Rattle.cedar_identifiers.specs.declared.name.Name.{Name}
use Rattle.cedar_identifiers.specs.declared.raw_name.RawName.{RawName}
use Rattle.schema_build_types.specs.Content.{names_content}
use Rattle.schema_build_text.specs.Rows.{sorted_once}
use Rattle.schema_build_text.proofs.Rowed.{names_sorted}
use Rattle.schema_build_recovered_types.specs.RecoveredTypes.{IsWritten}

-- rows of what is seen of the items
pub zip_seen : {X A B : Type 0} (R : A → B → Type 0) (f : X → A) (xs : List X) (ys : List B)
    → AllZip (λ x y. R (f x) y) xs ys → AllZip R (map f xs) ys
zip_seen R f [] [] h = tt
zip_seen R f [] (y ∷ ys) h = h
zip_seen R f (x ∷ xs) [] h = h
zip_seen R f (x ∷ xs) (y ∷ ys) h = (h.0, zip_seen R f xs ys h.1)

-- the names of a row that is sorted, as they are written
pub names_written : (C : Name → Name → Ordering)
    → ((x y : Name) → C x y ≡ slice_cmp text_cmp (components_of x.name) (components_of y.name)) → (names : List Name)
    → (written : List RawName) → AllZip (λ n. IsWritten (components_of n.name)) (sorted_once C names) written
    → AllZip IsWritten (names_content names) written
names_written C same names written all =
    subst (λ ns. AllZip IsWritten ns written) (names_sorted C same names)
    (zip_seen IsWritten (λ n. components_of n.name) (sorted_once C names) written all)
