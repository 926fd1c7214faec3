-- Expansions, made of those of their parts.
use Rattle.std.proofs.Common.{◌≡◌, ℕ, Bool, ◌+◌, ◌<◌, List, [], ◌∷◌, ◌++◌, length, get_or, take, refl, sym, ap, ◌∙◌}
use Rattle.std.proofs.Common.{subst, Option, Some, Result, Ok, Err}
use Rattle.std.specs.Prelude.{slice_get, IfOk}
use Rattle.std.specs.List.{AllZip}
use Rattle.std.specs.Map.{keys_of}
use Rattle.std.proofs.lemmas.List.{take_more}
use Rattle.std.proofs.lemmas.Option.{same_Some}
use Rattle.std.proofs.lemmas.Slice.Zip.{all_zipped_more}
use Rattle.cedar_identifiers.specs.declared.internal_name.InternalName.{InternalName}
use Rattle.cedar_identifiers.specs.declared.reference_type.ReferenceType.{ReferenceType}
use Rattle.cedar_identifiers.specs.declared.reference_type.ReferenceType.TheVariants.{Common}
use Rattle.cedar_names.specs.Meaning.{Attributes, no_more, attribute}
use Rattle.schema_json.specs.declared.types.TypeOfAttribute.{TypeOfAttribute, out-TypeOfAttribute}
use Rattle.schema_build_types.specs.declared.types.Type as built
use Rattle.schema_build_types.specs.Standing.{AreBuilt}
use Rattle.schema_build_expand.specs.Scope.{Scope, DeclaredType, IsRanked}
use Rattle.schema_build_expand.specs.Expands.{to_declared, ExpandAll, to_no_attributes, to_attribute}
use Rattle.schema_build_expand.specs.Targets.{ReferenceExpandsTo, EntryExpandsTo, AreExpanded}

pub if_ok : {A E : Type 0} (P Q : A → Type 0) (r : Result A E) → ((x : A) → P x → Q x) → IfOk r P → IfOk r Q
if_ok P Q (Ok x) f h = f x h
if_ok P Q (Err e) f h = tt

-- one more of each
pub zip_more : {A B : Type 0} (R : A → B → Type 0) (xs : List A) (ys : List B) (i : ℕ) (x : A) (y : B)
    → i < length xs → x ≡ get_or xs i x → AllZip R (take i xs) ys → R x y → AllZip R (take (i + 1) xs) (ys ++ y ∷ [])
zip_more R xs ys i x y lt at h r =
    let same : take (i + 1) xs ≡ take i xs ++ x ∷ [] = take_more xs i x lt ∙ ap (λ z. take i xs ++ z ∷ []) (sym at) in
    subst (λ front. AllZip R front (ys ++ y ∷ [])) (sym same) (all_zipped_more R (take i xs) ys x y h r)

module _ (N : Type 0) (s : Scope N) (ns : Option InternalName) where
  -- attributes that are expanded one by one are expanded
  pub entries_made : (es : List (List ℕ × TypeOfAttribute N)) (ts : List (List ℕ × (built.«Type» × Bool)))
      → AllZip (EntryExpandsTo s ns) es ts → (ps : Attributes) × ExpandAll N s ns es ps × AreBuilt ps ts
  entries_made [] [] h = (no_more, to_no_attributes ns, refl)
  entries_made [] (t ∷ ts) h = absurd h
  entries_made (e ∷ es) [] h = absurd h
  entries_made (e ∷ es) (t ∷ ts) h =
      let rest = entries_made es ts h.1 in
      let one = h.0 in (
        attribute e.0 (out-TypeOfAttribute N e.1).required one.2.0 rest.0,
        to_attribute ns e.0 e.1 es one.2.0 rest.0 one.2.1 rest.1,
        (t.1.0, ts, (λ i. (one.0 i, (t.1.0, one.1 i)) ∷ ts), one.2.2, rest.2),
      )

  pub keys_kept : (es : List (List ℕ × TypeOfAttribute N)) (ts : List (List ℕ × (built.«Type» × Bool)))
      → AllZip (EntryExpandsTo s ns) es ts → keys_of ts ≡ keys_of es
  keys_kept [] [] h = refl
  keys_kept [] (t ∷ ts) h = absurd h
  keys_kept (e ∷ es) [] h = absurd h
  keys_kept (e ∷ es) (t ∷ ts) h = λ i. h.0.0 i ∷ keys_kept es ts h.1 i

  -- a reference to a common type that is expanded
  pub reference_made : (done : List (Option built.«Type»)) (kind : ReferenceType) (name : N) (full : List (List ℕ))
      (k : ℕ) (t : built.«Type») → AreExpanded s done → s.means ns kind name ≡ Some (full, Common)
      → IsRanked s full k → slice_get done k ≡ Some (Some t) → ReferenceExpandsTo s ns kind name t
  reference_made done kind name full k t all meant ranked at =
      let it = all k t at in
      let same : it.0 ≡ ranked.0 = same_Some it.0 ranked.0 (sym it.1 ∙ ranked.1) in
      let called : full ≡ it.0.name = sym ranked.2 ∙ ap (λ (d : DeclaredType N). d.name) (sym same) in (
        it.2.0,
        to_declared ns kind name it.0 it.2.0 (meant ∙ ap (λ n. Some (n, Common)) called)
            (k, it.1, refl) it.2.1,
        it.2.2,
      )
