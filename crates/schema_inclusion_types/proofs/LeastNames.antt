-- The least of names that are sorted.
use Rattle.std.proofs.Common.{◌≡◌, ℕ, List, [], ◌∷◌, Some, refl, ◌∙◌, ap, sym}
use Rattle.std.specs.declared.cmp.Ordering.{Ordering}
use Rattle.std.specs.declared.cmp.Ordering.TheVariants.{Less, Equal, Greater}
use Rattle.std.specs.BTreeSet.{insert_key}
use Rattle.std.specs.Cmp.Lexicographic.{slice_cmp}
use Rattle.std.specs.Ordering.{match_ordering}
use Rattle.cedar_data.specs.Text.{text_cmp}
use Rattle.schema_build_text.specs.Readings.{first_name}
use Rattle.schema_inclusion_types.specs.Least.{lesser, least}

abbrev Names : Type 0
Names = List (List ℕ)

-- one name more
pub least_more : (n : Names) (ns : List Names)
    → least (insert_key (slice_cmp text_cmp) ns n) ≡ Some (lesser n (least ns))
least_more n [] = refl
least_more n (m ∷ ns) = by (slice_cmp text_cmp n m)
  where
    by : (o : Ordering)
        → least (match_ordering o (n ∷ m ∷ ns) (m ∷ ns) (m ∷ insert_key (slice_cmp text_cmp) ns n))
        ≡ Some (match_ordering o n m m)
    by Less = refl
    by Equal = refl
    by Greater = refl

pub first_more : (n : Names) (ns : List Names)
    → first_name (insert_key (slice_cmp text_cmp) ns n) ≡ lesser n (least ns)
first_more n [] = refl
first_more n (m ∷ ns) = by (slice_cmp text_cmp n m)
  where
    by : (o : Ordering)
        → first_name (match_ordering o (n ∷ m ∷ ns) (m ∷ ns) (m ∷ insert_key (slice_cmp text_cmp) ns n))
        ≡ match_ordering o n m m
    by Less = refl
    by Equal = refl
    by Greater = refl

-- of two names, by how they compare
pub lesser_at : (m n : Names) (o : Ordering) → slice_cmp text_cmp m n ≡ o → match_ordering o m n n ≡ lesser m (Some n)
lesser_at m n o e = ap (λ r. match_ordering r m n n) (sym e)
