-- The first action that is misnamed.
use Rattle.std.proofs.Common.{◌≡◌, ◌≢◌, ◌<◌, ℕ, Bool, true, false, List, length, get_or, refl, sym, ◌∙◌}
use Rattle.std.specs.List.{AllWithin}
use Rattle.std.specs.Str.{bytes_eq}
use Rattle.std.proofs.lemmas.Option.{slice_get_read}
use Rattle.std.proofs.lemmas.Slice.Eq.{bytes_eq-Decides}
use Rattle.schema_build_unfit.specs.Parts.{IsFirstThat}

pub differs : (xs ys : List ℕ) (b : Bool) → b ≡ bytes_eq xs ys → b ≡ false → xs ≢ ys
differs xs ys b e n same =
    let f : false ≡ true = sym n ∙ (e ∙ (bytes_eq-Decides xs ys).1 same) in cc

pub first_at : {A : Type 0} (P : A → Type 0) (items : List A) (i : ℕ) (x : A) → i < length items
    → x ≡ get_or items i x → AllWithin (λ y. P y → ⊥) items 0 i → P x → IsFirstThat P items x
first_at P items i x lt at none is =
    record { place = i; here = slice_get_read items (length items) i x refl lt at; none_before = none; is = is }
