-- Entries that are put by their texts: the map of the texts has the members in their order.
use Rattle.std.proofs.Common.{◌≡◌, ℕ, ◌+◌, ◌<◌, List, [], ◌∷◌, ◌++◌, length, get_or, take, map}
use Rattle.std.proofs.Common.{refl, sym, ap, ◌∙◌}
use Rattle.std.specs.BTreeMap.{insert_entry}
use Rattle.std.specs.Ordering.{match_ordering}
use Rattle.std.specs.Str.{encode_utf8_all}
use Rattle.std.specs.declared.cmp.Ordering.{Ordering}
use Rattle.std.specs.declared.cmp.Ordering.TheVariants.{Less, Equal, Greater}
use Rattle.std.proofs.lemmas.List.{map-append, take_more}
use Rattle.serde_json.specs.Data.{Data, no_members, member, put}
use Rattle.cedar_data.specs.Text.{text_cmp}
use Rattle.cedar_data.specs.Maps.{with_entries, map_of}
use Rattle.schema_json_values.specs.TypeValues.{put_all}
use Rattle.schema_json_text.specs.Members.{members_in_order, ArePut}

module _ {V : Type 0} (value : V → Data) where
  abbrev by_text : List ℕ × V → List ℕ × Data
  by_text p = (encode_utf8_all p.0, value p.1)

  put_at : (r : Ordering) (e x : List ℕ × V) (es : List (List ℕ × V))
      → members_in_order (map by_text (insert_entry text_cmp es x.0 x.1))
      ≡ put (by_text x).0 (by_text x).1 (members_in_order (map by_text es))
      → members_in_order (map by_text
      (match_ordering r (x ∷ e ∷ es) ((e.0, x.1) ∷ es) (e ∷ insert_entry text_cmp es x.0 x.1)))
      ≡ match_ordering r (member (by_text x).0 (by_text x).1 (members_in_order (map by_text (e ∷ es))))
      (member (by_text e).0 (by_text x).1 (members_in_order (map by_text es)))
      (member (by_text e).0 (by_text e).1 (put (by_text x).0 (by_text x).1 (members_in_order (map by_text es))))
  put_at Less e x es h = refl
  put_at Equal e x es h = refl
  put_at Greater e x es h = ap (member (by_text e).0 (by_text e).1) h

  put_entry : (es : List (List ℕ × V)) (x : List ℕ × V)
      → members_in_order (map by_text (insert_entry text_cmp es x.0 x.1))
      ≡ put (by_text x).0 (by_text x).1 (members_in_order (map by_text es))
  put_entry [] x = refl
  put_entry (e ∷ es) x = put_at (text_cmp x.0 e.0) e x es (put_entry es x)

  put_entries : (xs es : List (List ℕ × V))
      → members_in_order (map by_text (with_entries text_cmp es xs))
      ≡ put_all (map by_text xs) (members_in_order (map by_text es))
  put_entries [] es = refl
  put_entries (x ∷ xs) es =
      put_entries xs (insert_entry text_cmp es x.0 x.1) ∙ ap (put_all (map by_text xs)) (put_entry es x)

  -- the members in the order of the texts
  pub put_by_text : (placed : List (List ℕ × V)) (entries : List (List ℕ × Data)) → map by_text placed ≡ entries
      → ArePut entries (map by_text (map_of text_cmp placed))
  put_by_text placed entries same =
      ap (λ es. put_all es no_members) (sym same) ∙ sym (put_entries placed [])

-- one item more, seen as the next one of the others is
pub seen_more : {X Y E : Type 0} (f : X → E) (g : Y → E) (ys : List Y) (i : ℕ) (y : Y) (xs grown : List X) (x : X)
    → i < length ys → y ≡ get_or ys i y → f x ≡ g y → grown ≡ xs ++ x ∷ [] → map f xs ≡ map g (take i ys)
    → map f grown ≡ map g (take (i + 1) ys)
seen_more f g ys i y xs grown x within is seen more same =
    ap (map f) more ∙ map-append f xs (x ∷ []) ∙ (λ j. same j ++ seen j ∷ [])
    ∙ sym (ap (map g) (take_more ys i y within ∙ ap (λ z. take i ys ++ z ∷ []) (sym is))
    ∙ map-append g (take i ys) (y ∷ []))
