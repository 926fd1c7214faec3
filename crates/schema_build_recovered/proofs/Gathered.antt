-- Rows that are recovered in turn of the items that pass a test.
use Rattle.std.proofs.Common.{◌≡◌, ℕ, ◌+◌, ◌<◌, ◌≤◌, zero, suc, Bool, true, false, List, [], ◌∷◌, ◌++◌, length, get_or}
use Rattle.std.proofs.Common.{drop, take}
use Rattle.std.proofs.Common.{cond, map, refl, sym, ap, ◌∙◌, subst, append_assoc, append-nil, arith}
use denote.Ref.{Bor}
use Rattle.std.specs.List.{AllZip, filter, flat_map}
use Rattle.std.proofs.lemmas.List.{drop_all, map_push}
use Rattle.std.proofs.lemmas.List.Elements.{filter_more}
use Rattle.schema_build_errors.specs.declared.recovery_error.RecoveryError.{RecoveryError}
use Rattle.schema_build_types.specs.Lacks.{Lack}
use Rattle.schema_build_text.proofs.Rowed.{dropped}
use Rattle.schema_build_recovered_types.specs.FirstLacks.{IsFirstLack}
use Rattle.schema_build_recovered_types.proofs.Lacking.{first_before}

-- an item that is lent, at its place
pub lent_at : {X : Type 0} (xs : List (Bor X)) (i : ℕ) (d : Bor X) → d ≡ get_or xs i d
    → d.now ≡ get_or (map (λ x. x.now) xs) i d.now
lent_at [] i d e = refl
lent_at (x ∷ xs) zero d e = ap (λ y. y.now) e
lent_at (x ∷ xs) (suc i) d e = lent_at xs i d e

pub lent_long : {X : Type 0} (xs : List (Bor X)) → length (map (λ x. x.now) xs) ≡ length xs
lent_long [] = refl
lent_long (x ∷ xs) = ap suc (lent_long xs)

-- lent items that pass a test, so far
module _ {X : Type 0} (test : X → Bool) (items those : List (Bor X)) (i : ℕ) (d : Bor X) (within : i < length items)
    (is : d ≡ get_or items i d)
    (so_far : map (λ x. x.now) those ≡ filter test (take i (map (λ x. x.now) items))) where
  more : filter test (take (i + 1) (map (λ x. x.now) items))
      ≡ filter test (take i (map (λ x. x.now) items)) ++ cond (test d.now) (d.now ∷ []) []
  more =
      let xs = map (λ x. x.now) items in
      filter_more test xs i d.now (omega (arith, within, lent_long items))
      ∙ ap (λ y. filter test (take i xs) ++ cond (test y) (y ∷ []) []) (sym (lent_at items i d is))

  pub one_kept : test d.now ≡ true
      → map (λ x. x.now) (those ++ d ∷ []) ≡ filter test (take (i + 1) (map (λ x. x.now) items))
  one_kept t =
      let front = filter test (take i (map (λ x. x.now) items)) in
      map_push (λ x. x.now) those d ∙ ap (λ l. l ++ d.now ∷ []) so_far
      ∙ sym (more ∙ ap (λ b. front ++ cond b (d.now ∷ []) []) t)

  pub one_left : test d.now ≡ false → map (λ x. x.now) those ≡ filter test (take (i + 1) (map (λ x. x.now) items))
  one_left t =
      let front = filter test (take i (map (λ x. x.now) items)) in
      so_far ∙ sym (more ∙ (ap (λ b. front ++ cond b (d.now ∷ []) []) t ∙ append-nil front))

module _ {X A B : Type 0} (test : X → Bool) (f : X → A) (R : A → B → Type 0) (g : X → List Lack) where
  -- what is said of the items that pass the test, and what they lack
  abbrev pub told : List X → List A
  told xs = map f (filter test xs)

  abbrev pub lacked : List X → List Lack
  lacked xs = flat_map g (filter test xs)

  -- up to a place the rows are made, and nothing is lacking
  pub record IsGathered (xs : List X) (i : ℕ) (rows : List B) : Type 0 where
    pub made : (rest : List B) → AllZip R (told (drop i xs)) rest → AllZip R (told xs) (rows ++ rest)
    pub whole : lacked xs ≡ lacked (drop i xs)

  here : (xs : List X) (i : ℕ) (x : X) (b : Bool) → i < length xs → x ≡ get_or xs i x → test x ≡ b
      → filter test (drop i xs) ≡ cond b (x ∷ filter test (drop (i + 1) xs)) (filter test (drop (i + 1) xs))
  here xs i x b h e t =
      ap (filter test) (dropped xs i x h e)
      ∙ ap (λ c. cond c (x ∷ filter test (drop (i + 1) xs)) (filter test (drop (i + 1) xs))) t

  pub passed : (xs : List X) (i : ℕ) (rows : List B) (x : X) → i < length xs → x ≡ get_or xs i x → test x ≡ false
      → IsGathered xs i rows → IsGathered xs (i + 1) rows
  passed xs i rows x h e t s =
      let same = here xs i x false h e t in record {
        made = λ rest zip. s.made rest (subst (λ ys. AllZip R (map f ys) rest) (sym same) zip);
        whole = s.whole ∙ ap (flat_map g) same;
      }

  pub taken : (xs : List X) (i : ℕ) (rows : List B) (x : X) (y : B) → i < length xs → x ≡ get_or xs i x
      → test x ≡ true → R (f x) y → g x ≡ [] → IsGathered xs i rows → IsGathered xs (i + 1) (rows ++ y ∷ [])
  taken xs i rows x y h e t r none s =
      let same = here xs i x true h e t in record {
        made = λ rest zip. subst (AllZip R (told xs)) (sym (append_assoc rows (y ∷ []) rest))
            (s.made (y ∷ rest) (subst (λ ys. AllZip R (map f ys) (y ∷ rest)) (sym same) (r, zip)));
        whole = s.whole ∙ (ap (flat_map g) same ∙ ap (λ l. l ++ lacked (drop (i + 1) xs)) none);
      }

  pub lacking : (xs : List X) (i : ℕ) (rows : List B) (x : X) (error : RecoveryError) → i < length xs
      → x ≡ get_or xs i x → test x ≡ true → IsFirstLack (g x) error → IsGathered xs i rows
      → IsFirstLack (lacked xs) error
  lacking xs i rows x error h e t first s =
      subst (λ l. IsFirstLack l error) (sym (s.whole ∙ ap (flat_map g) (here xs i x true h e t)))
      (first_before (g x) (lacked (drop (i + 1) xs)) error first)

  pub all_made : (xs : List X) (i : ℕ) (rows : List B) → length xs ≤ i → IsGathered xs i rows → AllZip R (told xs) rows
  all_made xs i rows h s =
      subst (AllZip R (told xs)) (append-nil rows)
      (s.made [] (subst (λ ys. AllZip R (told ys) []) (sym (drop_all i xs h)) tt))
