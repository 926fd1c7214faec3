-- Look-ups in the map of entries that are put into it from the last one to the first.
use Rattle.std.proofs.Common.{◌≡◌, Bool, true, false, cond, List, [], ◌∷◌, ◌++◌, reverse, Option, Some, None}
use Rattle.std.proofs.Common.{if◌then◌else◌, refl, sym, ap, ◌∙◌, true≢false, flat_map}
use Rattle.std.specs.declared.cmp.Ordering.{Ordering}
use Rattle.std.specs.declared.cmp.Ordering.TheVariants.{Less, Equal, Greater}
use Rattle.std.specs.Ordering.{is_eq, match_ordering}
use Rattle.std.specs.BTreeMap.{insert_entry, is_at}
use Rattle.std.specs.Cmp.{IsTotalOrder}
use Rattle.std.specs.Map.{lookup}
use Rattle.std.specs.Option.{option_or}
use Rattle.std.proofs.lemmas.List.{reverse-append}
use Rattle.cedar_data.specs.Maps.{with_entries, map_of, last_at}
use Rattle.cedar_data.proofs.Orders.{equal_from, is_eq_turned}
use Rattle.cedar_data.proofs.Options.{or_none}
use Rattle.cedar_identifiers.specs.declared.any_id.AnyId.{AnyId}
use Rattle.schema_syntax_tree.specs.declared.annotated.Annotated.{Annotated}
use Rattle.schema_syntax_tree.specs.declared.namespace.Namespace.{Namespace}
use Rattle.schema_json.specs.Orders.{annotation_key_cmp}
use Rattle.schema_json.proofs.Orders.{annotation_keys_total}
use Rattle.schema_convert_faults.specs.Faults.{first_some}
use Rattle.schema_convert_openings.specs.Joined.{first_values, value_at_key}

or_assoc : {X : Type 0} (a b c : Option X) → option_or (option_or a b) c ≡ option_or a (option_or b c)
or_assoc None b c = refl
or_assoc (Some x) b c = refl

pub by_cond : {X : Type 0} (b : Bool) (v : X) (o : Option X)
    → cond b (Some v) o ≡ option_or (if b then Some v else None) o
by_cond true v o = refl
by_cond false v o = refl

lookup-append : {K X : Type 0} (test : K → Bool) (xs ys : List (K × X))
    → lookup test (xs ++ ys) ≡ option_or (lookup test xs) (lookup test ys)
lookup-append test [] ys = refl
lookup-append {K} {X} test (e ∷ xs) ys = by (test e.0) (lookup-append test xs ys) where
  by : (b : Bool) → lookup test (xs ++ ys) ≡ option_or (lookup test xs) (lookup test ys)
      → cond b (Some e.1) (lookup test (xs ++ ys)) ≡ option_or (cond b (Some e.1) (lookup test xs)) (lookup test ys)
  by true h = refl
  by false h = h

pub last-append : {K X : Type 0} (test : K → Bool) (xs ys : List (K × X))
    → last_at test (xs ++ ys) ≡ option_or (last_at test ys) (last_at test xs)
last-append test [] ys = sym (or_none (last_at test ys))
last-append test (e ∷ xs) ys =
    ap (λ o. option_or o (if test e.0 then Some e.1 else None)) (last-append test xs ys)
    ∙ or_assoc (last_at test ys) (last_at test xs) (if test e.0 then Some e.1 else None)

-- from the last one to the first, the last is the first
last-reverse : {K X : Type 0} (test : K → Bool) (es : List (K × X)) → last_at test (reverse es) ≡ lookup test es
last-reverse test [] = refl
last-reverse test (e ∷ es) =
    ap (last_at test) (reverse-append (e ∷ []) es)
    ∙ (last-append test (reverse es) (e ∷ [])
    ∙ (ap (option_or (if test e.0 then Some e.1 else None)) (last-reverse test es)
    ∙ sym (by_cond (test e.0) e.1 (lookup test es))))

put_equal : {X : Type 0} (b c : Bool) (v w : X) (l : Option X) → b ≡ c
    → cond c (Some v) l ≡ cond b (Some v) (cond c (Some w) l)
put_equal true true v w l h = refl
put_equal true false v w l h = absurd (true≢false h)
put_equal false true v w l h = absurd (true≢false (sym h))
put_equal false false v w l h = refl

put_greater : {X : Type 0} (b c : Bool) (v w : X) (l m : Option X) → (b ≡ true → c ≡ false) → m ≡ cond b (Some v) l
    → cond c (Some w) m ≡ cond b (Some v) (cond c (Some w) l)
put_greater true true v w l m h i = absurd (true≢false (h refl))
put_greater true false v w l m h i = i
put_greater false true v w l m h i = refl
put_greater false false v w l m h i = i

module _ {K : Type 0} (R : K → K → Ordering) (o : IsTotalOrder R) where
  -- equal keys are equal to the same
  alike : (q k e : K) → is_eq (R k e) ≡ true → is_eq (R q k) ≡ is_eq (R q e)
  alike q k e h =
      is_eq_turned o q k ∙ (ap is_eq (o.congr k e q (equal_from (R k e) h)) ∙ is_eq_turned o e q)

  apart : (q k e : K) → is_eq (R k e) ≡ false → is_eq (R q k) ≡ true → is_eq (R q e) ≡ false
  apart q k e h s = ap is_eq (o.congr q k e (equal_from (R q k) s)) ∙ h

module _ {K X : Type 0} (R : K → K → Ordering) (o : IsTotalOrder R) where
  put_by : (q k : K) (v : X) (e : K × X) (es : List (K × X)) (r : Ordering) → R k e.0 ≡ r
      → lookup (is_at (R q)) (insert_entry R es k v) ≡ cond (is_eq (R q k)) (Some v) (lookup (is_at (R q)) es)
      → lookup (is_at (R q)) (match_ordering r ((k, v) ∷ e ∷ es) ((e.0, v) ∷ es) (e ∷ insert_entry R es k v))
      ≡ cond (is_eq (R q k)) (Some v) (lookup (is_at (R q)) (e ∷ es))
  put_by q k v e es Less h i = refl
  put_by q k v e es Equal h i = put_equal (is_eq (R q k)) (is_eq (R q e.0)) v e.1 (lookup (is_at (R q)) es)
      (alike R o q k e.0 (ap is_eq h))
  put_by q k v e es Greater h i =
      put_greater (is_eq (R q k)) (is_eq (R q e.0)) v e.1 (lookup (is_at (R q)) es)
      (lookup (is_at (R q)) (insert_entry R es k v)) (apart R o q k e.0 (ap is_eq h)) i

  pub put : (q k : K) (v : X) (es : List (K × X))
      → lookup (is_at (R q)) (insert_entry R es k v) ≡ cond (is_eq (R q k)) (Some v) (lookup (is_at (R q)) es)
  put q k v [] = refl
  put q k v (e ∷ es) = put_by q k v e es (R k e.0) refl (put q k v es)

  put_all : (q : K) (m es : List (K × X))
      → lookup (is_at (R q)) (with_entries R m es) ≡ option_or (last_at (is_at (R q)) es) (lookup (is_at (R q)) m)
  put_all q m [] = refl
  put_all q m (e ∷ es) =
      put_all q (insert_entry R m e.0 e.1) es
      ∙ (ap (option_or (last_at (is_at (R q)) es))
      (put q e.0 e.1 m ∙ by_cond (is_eq (R q e.0)) e.1 (lookup (is_at (R q)) m))
      ∙ sym (or_assoc (last_at (is_at (R q)) es) (if is_eq (R q e.0) then Some e.1 else None) (lookup (is_at (R q)) m)))

  -- the value in the map is that of the last entry of the key
  pub map_last : (q : K) (es : List (K × X)) → lookup (is_at (R q)) (map_of R es) ≡ last_at (is_at (R q)) es
  map_last q es = put_all q [] es ∙ or_none (last_at (is_at (R q)) es)

gathered : (key : AnyId) (openings : List (Annotated Namespace))
    → lookup (is_at (annotation_key_cmp key)) (flat_map (λ n. n.annotations.0) openings)
    ≡ first_some (λ n. value_at_key key n.annotations) openings
gathered key [] = refl
gathered key (n ∷ openings) =
    lookup-append (is_at (annotation_key_cmp key)) n.annotations.0 (flat_map (λ m. m.annotations.0) openings)
    ∙ ap (option_or (value_at_key key n.annotations)) (gathered key openings)

pub valued : (key : AnyId) (openings : List (Annotated Namespace))
    → value_at_key key (first_values openings) ≡ first_some (λ n. value_at_key key n.annotations) openings
valued key openings =
    map_last annotation_key_cmp annotation_keys_total key (reverse (flat_map (λ n. n.annotations.0) openings))
    ∙ (last-reverse (is_at (annotation_key_cmp key)) (flat_map (λ n. n.annotations.0) openings) ∙ gathered key openings)
