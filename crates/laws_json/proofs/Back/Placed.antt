-- Members that are put in the order of other keys than their bytes, read as the map of these keys.
use Rattle.std.proofs.Common.{◌≡◌, ℕ, List, [], ◌∷◌, ◌++◌, map, refl, sym, ap, ◌∙◌, subst, append_assoc, append-nil}
use Rattle.std.specs.Prelude.{⊤}
use Rattle.std.specs.BTreeMap.{insert_entry}
use Rattle.std.specs.List.{AllByRecursion}
use Rattle.std.specs.List.Sorted.{IsStrictlySortedBy}
use Rattle.std.specs.Ordering.{match_ordering, nat_cmp}
use Rattle.std.specs.Cmp.Lexicographic.{slice_cmp}
use Rattle.std.specs.declared.cmp.Ordering.{Ordering}
use Rattle.std.specs.declared.cmp.Ordering.TheVariants.{Less, Equal, Greater}
use Rattle.serde_json.specs.Data.{Data, object, Members, no_members, member, put}
use Rattle.cedar_data.specs.Maps.{with_entries, map_of}
use Rattle.cedar_data.proofs.Every.{all_unmapped}
use Rattle.schema_json_values.specs.TypeValues.{put_all}
use Rattle.schema_json_shapes.specs.Walk.{Role, Demand, AllMet, demands, member_demands}
use Rattle.schema_json_shapes.specs.Said.{AreEntries, no_entry, next_entry, IsMap}
use Rattle.laws_json.proofs.Back.Fields.{key_same, put_met}

-- each is below those after it
abbrev pub RisesBy : {X : Type 0} → (X → X → Ordering) → List X → Type 0
RisesBy c [] = ⊤
RisesBy c (x ∷ xs) = AllByRecursion (λ y. c x y ≡ Less) xs × RisesBy c xs

pub rises_from : {X L : Type 0} (c : L → L → Ordering) (h : X → L) (xs : List X) → IsStrictlySortedBy c (map h xs)
    → RisesBy (λ x y. c (h x) (h y)) xs
unfolding IsStrictlySortedBy
rises_from c h [] s = tt
rises_from c h (x ∷ xs) s = (all_unmapped (λ y. c (h x) y ≡ Less) h xs s.0, rises_from c h xs s.1)

module _ (key : List ℕ → List Demand) (role : List ℕ → Role) where
  -- each of the entries keeps what it must
  pub all_met : {X : Type 0} (f : X → List ℕ × Data) (xs : List X) (ms : Members)
      → AllByRecursion (λ x. AllMet (key (f x).0) × AllMet (demands (role (f x).0) (f x).0 (f x).1)) xs
      → AllMet (member_demands key role ms) → AllMet (member_demands key role (put_all (map f xs) ms))
  all_met f [] ms h m = m
  all_met f (x ∷ xs) ms h m = all_met f xs (put (f x).0 (f x).1 ms) h.1 (put_met key role (f x).0 (f x).1 ms h.0 m)

module _ {K V : Type 0} (Key : List ℕ → K → Type 0) (Value : Data → V → Type 0) (R : K → K → Ordering)
    (flip : (x y : K) → R x y ≡ Less → R y x ≡ Greater)
    (apart : (s : List ℕ) (x y : K) → Key s x → Key s y → R x y ≡ Less → ⊥) where
  -- the keys before are all below
  abbrev Above : List (K × V) → K → Type 0
  Above [] k = ⊤
  Above (e ∷ es) k = (R e.0 k ≡ Less) × Above es k

  put_last : (es : List (K × V)) (x : K × V) → Above es x.0 → insert_entry R es x.0 x.1 ≡ es ++ x ∷ []
  put_last [] x a = refl
  put_last (e ∷ es) x a =
      ap (λ r. match_ordering r (x ∷ e ∷ es) ((e.0, x.1) ∷ es) (e ∷ insert_entry R es x.0 x.1)) (flip e.0 x.0 a.0)
      ∙ ap (λ l. e ∷ l) (put_last es x a.1)

  stays_at : (r : Ordering) (x e l : K × V) (m : List (K × V))
      → insert_entry R (m ++ l ∷ []) x.0 x.1 ≡ insert_entry R m x.0 x.1 ++ l ∷ []
      → match_ordering r (x ∷ e ∷ (m ++ l ∷ [])) ((e.0, x.1) ∷ (m ++ l ∷ []))
      (e ∷ insert_entry R (m ++ l ∷ []) x.0 x.1)
      ≡ match_ordering r (x ∷ e ∷ m) ((e.0, x.1) ∷ m) (e ∷ insert_entry R m x.0 x.1) ++ l ∷ []
  stays_at Less x e l m h = refl
  stays_at Equal x e l m h = refl
  stays_at Greater x e l m h = ap (λ t. e ∷ t) h

  -- the last entry stays behind one that is below it
  stays : (m : List (K × V)) (x l : K × V) → R x.0 l.0 ≡ Less
      → insert_entry R (m ++ l ∷ []) x.0 x.1 ≡ insert_entry R m x.0 x.1 ++ l ∷ []
  stays [] x l h = ap (λ r. match_ordering r (x ∷ l ∷ []) ((l.0, x.1) ∷ []) (l ∷ x ∷ [])) h
  stays (e ∷ m) x l h = stays_at (R x.0 e.0) x e l m (stays m x l h)

  all_stay : (m es : List (K × V)) (l : K × V) → Above es l.0
      → with_entries R (m ++ l ∷ []) es ≡ with_entries R m es ++ l ∷ []
  all_stay m [] l a = refl
  all_stay m (e ∷ es) l a =
      ap (λ x. with_entries R x es) (stays m e l a.0) ∙ all_stay (insert_entry R m e.0 e.1) es l a.1

  above_at : (r : Ordering) (x e : K × V) (m : List (K × V)) (l : K) → Above (e ∷ m) l → R x.0 l ≡ Less
      → Above (insert_entry R m x.0 x.1) l
      → Above (match_ordering r (x ∷ e ∷ m) ((e.0, x.1) ∷ m) (e ∷ insert_entry R m x.0 x.1)) l
  above_at Less x e m l a h later = (h, a)
  above_at Equal x e m l a h later = a
  above_at Greater x e m l a h later = (a.0, later)

  above_put : (m : List (K × V)) (x : K × V) (l : K) → Above m l → R x.0 l ≡ Less
      → Above (insert_entry R m x.0 x.1) l
  above_put [] x l a h = (h, tt)
  above_put (e ∷ m) x l a h = above_at (R x.0 e.0) x e m l a h (above_put m x l a.1 h)

  -- the members say these entries and one more, which is above them
  record Placed (ms : Members) (es : List (K × V)) (x : K × V) : Type 0 where
    entries : List (K × V)
    said : AreEntries Key Value ms entries
    last : (m : List (K × V)) → Above m x.0 → with_entries R m entries ≡ with_entries R m es ++ x ∷ []
    below : (l : K) → Above es l → R x.0 l ≡ Less → Above entries l

  place_at : (o : Ordering) (k : List ℕ) (d : Data) (l : List ℕ) (f : Data) (ms : Members) (e : K × V)
      (es : List (K × V)) (x : K × V) → slice_cmp nat_cmp k l ≡ o → Key l e.0 → Value f e.1
      → AreEntries Key Value ms es → Key k x.0 → Value d x.1 → Above (e ∷ es) x.0 → Placed (put k d ms) es x
      → Placed (match_ordering o (member k d (member l f ms)) (member l d ms) (member l f (put k d ms))) (e ∷ es) x
  place_at Less k d l f ms e es x o h g rest hk hd a later = record {
    entries = x ∷ e ∷ es;
    said = next_entry k d (member l f ms) x.0 x.1 (e ∷ es) hk hd (next_entry l f ms e.0 e.1 es h g rest);
    last = λ m am. ap (λ y. with_entries R y (e ∷ es)) (put_last m x am) ∙ all_stay m (e ∷ es) x a;
    below = λ q al less. (less, al);
  }
  place_at Equal k d l f ms e es x o h g rest hk hd a later =
      absurd (apart l e.0 x.0 h (subst (λ s. Key s x.0) (key_same k l o) hk) a.0)
  place_at Greater k d l f ms e es x o h g rest hk hd a later = record {
    entries = e ∷ later.entries;
    said = next_entry l f (put k d ms) e.0 e.1 later.entries h g later.said;
    last = λ m am. later.last (insert_entry R m e.0 e.1) (above_put m e x.0 am a.0);
    below = λ q al less. (al.0, later.below q al.1 less);
  }

  place : (k : List ℕ) (d : Data) (ms : Members) (es : List (K × V)) (x : K × V) → AreEntries Key Value ms es
      → Key k x.0 → Value d x.1 → Above es x.0 → Placed (put k d ms) es x
  place k d _ _ x no_entry hk hd a = record {
    entries = x ∷ [];
    said = next_entry k d no_members x.0 x.1 [] hk hd no_entry;
    last = λ m am. put_last m x am;
    below = λ l al less. (less, tt);
  }
  place k d _ _ x (next_entry l f ms key value es h g rest) hk hd a =
      place_at (slice_cmp nat_cmp k l) k d l f ms (key, value) es x refl h g rest hk hd a
      (place k d ms es x rest hk hd a.1)

  module _ {X : Type 0} (f : X → List ℕ × Data) (g : X → K × V) where
    abbrev AllAbove : List (K × V) → List X → Type 0
    AllAbove es xs = AllByRecursion (λ x. Above es (g x).0) xs

    above_more : (ms : Members) (es : List (K × V)) (x : X) (p : Placed ms es (g x)) (xs : List X) → AllAbove es xs
        → AllByRecursion (λ y. R (g x).0 (g y).0 ≡ Less) xs → AllAbove p.entries xs
    above_more ms es x p [] a h = tt
    above_more ms es x p (y ∷ ys) a h = (p.below (g y).0 a.0 h.0, above_more ms es x p ys a.1 h.1)

    record AllPlaced (ms : Members) (es : List (K × V)) : Type 0 where
      entries : List (K × V)
      said : AreEntries Key Value ms entries
      whole : map_of R entries ≡ es

    all_placed : (xs : List X) (ms : Members) (es : List (K × V)) → RisesBy (λ x y. R (g x).0 (g y).0) xs
        → AllByRecursion (λ x. Key (f x).0 (g x).0 × Value (f x).1 (g x).1) xs → AreEntries Key Value ms es
        → AllAbove es xs → AllPlaced (put_all (map f xs) ms) (map_of R es ++ map g xs)
    all_placed [] ms es r h said a = record { entries = es; said = said; whole = sym (append-nil (map_of R es)) }
    all_placed (x ∷ xs) ms es r h said a =
        let p = place (f x).0 (f x).1 ms es (g x) said h.0.0 h.0.1 a.0 in
        let all = all_placed xs (put (f x).0 (f x).1 ms) p.entries r.1 h.1 p.said
        (above_more (put (f x).0 (f x).1 ms) es x p xs a.1 r.0) in
        record {
          entries = all.entries;
          said = all.said;
          whole =
              all.whole ∙ ap (λ l. l ++ map g xs) (p.last [] tt) ∙ append_assoc (map_of R es) (g x ∷ []) (map g xs);
        }

    none_above : (xs : List X) → AllAbove [] xs
    none_above [] = tt
    none_above (x ∷ xs) = (tt, none_above xs)

    -- entries that rise by their keys are the map that their object says
    pub says_map : (xs : List X) → RisesBy (λ x y. R (g x).0 (g y).0) xs
        → AllByRecursion (λ x. Key (f x).0 (g x).0 × Value (f x).1 (g x).1) xs
        → IsMap R Key Value (object (put_all (map f xs) no_members)) (map g xs)
    says_map xs r h =
        let all = all_placed xs no_members [] r h no_entry (none_above xs) in (all.entries, all.said, sym all.whole)
