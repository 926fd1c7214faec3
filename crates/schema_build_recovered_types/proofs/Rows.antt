-- Rows that are recovered one by one.
use Rattle.std.proofs.Common.{◌≡◌, ℕ, Bool, ◌+◌, ◌<◌, List, [], ◌∷◌, ◌++◌, length, get_or, take, drop, refl, sym, ap}
use Rattle.std.proofs.Common.{◌∙◌}
use Rattle.std.proofs.Common.{subst, ◌≤◌}
use Rattle.std.specs.List.{AllZip}
use Rattle.std.specs.Map.{keys_of}
use Rattle.std.proofs.lemmas.List.{take_more, drop_all}
use Rattle.std.proofs.lemmas.Slice.Zip.{all_zipped_more}
use Rattle.cedar_identifiers.specs.declared.raw_name.RawName.{RawName}
use Rattle.schema_json.specs.declared.types.TypeOfAttribute.{TypeOfAttribute, out-TypeOfAttribute}
use Rattle.schema_build_errors.specs.declared.recovery_error.RecoveryError.{RecoveryError}
use Rattle.schema_build_types.specs.declared.types.Type.{«Type»}
use Rattle.schema_build_types.specs.Content.{type_content, attributes_content}
use Rattle.schema_build_types.specs.Lacks.{type_lacks, attribute_lacks}
use Rattle.schema_build_text.specs.Readings.{plain_type, plain_attributes}
use Rattle.schema_build_text.proofs.Rowed.{dropped}
use Rattle.schema_build_recovered_types.specs.RecoveredTypes.{IsRecoveredType, AreRecoveredAttributes}
use Rattle.schema_build_recovered_types.specs.FirstLacks.{IsFirstLack}
use Rattle.schema_build_recovered_types.proofs.Lacking.{first_before}

-- one more of each
pub zip_more : {A B : Type 0} (R : A → B → Type 0) (xs : List A) (ys : List B) (i : ℕ) (x : A) (y : B)
    → i < length xs → x ≡ get_or xs i x → AllZip R (take i xs) ys → R x y → AllZip R (take (i + 1) xs) (ys ++ y ∷ [])
zip_more R xs ys i x y lt at h r =
    let same : take (i + 1) xs ≡ take i xs ++ x ∷ [] = take_more xs i x lt ∙ ap (λ z. take i xs ++ z ∷ []) (sym at) in
    subst (λ front. AllZip R front (ys ++ y ∷ [])) (sym same) (all_zipped_more R (take i xs) ys x y h r)

-- an attribute, with its name and its required mark
abbrev pub IsRow : List ℕ × («Type» × Bool) → List ℕ × TypeOfAttribute RawName → Type 0
IsRow e x = (x.0 ≡ e.0) × IsRecoveredType (plain_type (type_content e.1.0)) (out-TypeOfAttribute RawName x.1).ty
    × ((out-TypeOfAttribute RawName x.1).annotations.0 ≡ []) × ((out-TypeOfAttribute RawName x.1).required ≡ e.1.1)

pub rows_recovered : (es : List (List ℕ × («Type» × Bool))) (xs : List (List ℕ × TypeOfAttribute RawName))
    → AllZip IsRow es xs → AreRecoveredAttributes (plain_attributes (attributes_content es)) xs
rows_recovered [] [] h = refl
rows_recovered [] (x ∷ xs) h = absurd h
rows_recovered (e ∷ es) [] h = absurd h
rows_recovered (e ∷ es) (x ∷ xs) h =
    (x.1, xs, ap (λ n. (n, x.1) ∷ xs) h.0.0, h.0.1, h.0.2, h.0.3, rows_recovered es xs h.1)

pub row_keys : (es : List (List ℕ × («Type» × Bool))) (xs : List (List ℕ × TypeOfAttribute RawName))
    → AllZip IsRow es xs → keys_of xs ≡ keys_of es
row_keys [] [] h = refl
row_keys [] (x ∷ xs) h = absurd h
row_keys (e ∷ es) [] h = absurd h
row_keys (e ∷ es) (x ∷ xs) h = λ i. h.0.0 i ∷ row_keys es xs h.1 i

-- what is lacking from an attribute on
pub lacks_from : (es : List (List ℕ × («Type» × Bool))) (i : ℕ) (d : List ℕ × («Type» × Bool)) → i < length es
    → d ≡ get_or es i d
    → attribute_lacks (attributes_content (drop i es))
    ≡ type_lacks (type_content d.1.0) ++ attribute_lacks (attributes_content (drop (i + 1) es))
lacks_from es i d h e = ap (λ l. attribute_lacks (attributes_content l)) (dropped es i d h e)

pub lacks_at : (es : List (List ℕ × («Type» × Bool))) (i : ℕ) (d : List ℕ × («Type» × Bool)) (error : RecoveryError)
    → i < length es → d ≡ get_or es i d
    → attribute_lacks (attributes_content es) ≡ attribute_lacks (attributes_content (drop i es))
    → IsFirstLack (type_lacks (type_content d.1.0)) error → IsFirstLack (attribute_lacks (attributes_content es)) error
lacks_at es i d error h e same first =
    subst (λ l. IsFirstLack l error) (sym (same ∙ lacks_from es i d h e))
    (first_before (type_lacks (type_content d.1.0))
    (attribute_lacks (attributes_content (drop (i + 1) es))) error first)

pub lacks_more : (es : List (List ℕ × («Type» × Bool))) (i : ℕ) (d : List ℕ × («Type» × Bool)) → i < length es
    → d ≡ get_or es i d
    → attribute_lacks (attributes_content es) ≡ attribute_lacks (attributes_content (drop i es))
    → type_lacks (type_content d.1.0) ≡ []
    → attribute_lacks (attributes_content es) ≡ attribute_lacks (attributes_content (drop (i + 1) es))
lacks_more es i d h e same none =
    same ∙ lacks_from es i d h e ∙ ap (λ l. l ++ attribute_lacks (attributes_content (drop (i + 1) es))) none

pub all_whole : (es : List (List ℕ × («Type» × Bool))) (i : ℕ) → length es ≤ i
    → attribute_lacks (attributes_content es) ≡ attribute_lacks (attributes_content (drop i es))
    → attribute_lacks (attributes_content es) ≡ []
all_whole es i h same = same ∙ ap (λ l. attribute_lacks (attributes_content l)) (drop_all i es h)
