-- Maps of borrowed entries, as the maps of what these point to.
use Rattle.std.proofs.Common.{◌≡◌, Bool, true, false, cond, List, [], ◌∷◌, map, Some, refl, ap, ◌∙◌}
use Rattle.std.specs.declared.cmp.Ordering.{Ordering}
use Rattle.std.specs.declared.cmp.Ordering.TheVariants.{Less, Equal, Greater}
use Rattle.std.specs.Ordering.{match_ordering}
use Rattle.std.specs.BTreeMap.{insert_entry}
use Rattle.std.specs.Map.{lookup}
use Rattle.std.specs.Option.{option_map}
use Rattle.cedar_data.specs.Maps.{with_entries, map_of}

module _ {A B K X : Type 0} (f : A → K) (h : B → X) where
  abbrev pub both : A × B → K × X
  both e = (f e.0, h e.1)

  module _ (cmp : K → K → Ordering) where
    abbrev pub before : A → A → Ordering
    before a b = cmp (f a) (f b)

    insert_by : (es : List (A × B)) (e : A × B) (k : A) (v : B)
        → map both (insert_entry before es k v) ≡ insert_entry cmp (map both es) (f k) (h v) → (o : Ordering)
        → map both (match_ordering o ((k, v) ∷ e ∷ es) ((e.0, v) ∷ es) (e ∷ insert_entry before es k v))
        ≡ match_ordering o ((f k, h v) ∷ both e ∷ map both es) ((f e.0, h v) ∷ map both es)
        (both e ∷ insert_entry cmp (map both es) (f k) (h v))
    insert_by es e k v i Less = refl
    insert_by es e k v i Equal = refl
    insert_by es e k v i Greater = ap (λ l. both e ∷ l) i

    insert_is : (es : List (A × B)) (k : A) (v : B)
        → map both (insert_entry before es k v) ≡ insert_entry cmp (map both es) (f k) (h v)
    insert_is [] k v = refl
    insert_is (e ∷ es) k v = insert_by es e k v (insert_is es k v) (cmp (f k) (f e.0))

    with_is : (m es : List (A × B))
        → map both (with_entries before m es) ≡ with_entries cmp (map both m) (map both es)
    with_is m [] = refl
    with_is m (e ∷ es) = with_is (insert_entry before m e.0 e.1) es
        ∙ ap (λ l. with_entries cmp l (map both es)) (insert_is m e.0 e.1)

    pub map_of_is : (es : List (A × B)) → map both (map_of before es) ≡ map_of cmp (map both es)
    map_of_is es = with_is [] es

  lookup_by : (test : K → Bool) (es : List (A × B)) (e : A × B)
      → lookup test (map both es) ≡ option_map h (lookup (λ k. test (f k)) es) → (b : Bool)
      → cond b (Some (h e.1)) (lookup test (map both es))
      ≡ option_map h (cond b (Some e.1) (lookup (λ k. test (f k)) es))
  lookup_by test es e i true = refl
  lookup_by test es e i false = i

  pub lookup_is : (test : K → Bool) (es : List (A × B))
      → lookup test (map both es) ≡ option_map h (lookup (λ k. test (f k)) es)
  lookup_is test [] = refl
  lookup_is test (e ∷ es) = lookup_by test es e (lookup_is test es) (test (f e.0))
