-- A text without a number is read as a value without a float.
use Rattle.std.proofs.Common.{◌≡◌, ℕ, false, List, [], ◌∷◌, Option, Some, None, refl, sym, ap, ◌∙◌}
use Rattle.std.proofs.lemmas.Bool.{or_parts, or_from}
use Rattle.std.specs.Prelude.{◌||◌, option_map, option_and_then}
use Rattle.std.specs.declared.cmp.Ordering.{Ordering}
use Rattle.std.specs.declared.cmp.Ordering.TheVariants.{Less, Equal, Greater}
use Rattle.std.specs.Cmp.Lexicographic.{slice_cmp}
use Rattle.std.specs.Ordering.{nat_cmp, match_ordering}
use Rattle.json.specs.Json as json
use Rattle.json.specs.Lex.{tokens}
use Rattle.json.specs.Token.{Token}
use Rattle.json.proofs.Found.{one_reading, Some_inj}
use Rattle.serde_json.specs.Data.{Data, null, boolean, string, array, object, Items, no_items, item, Members}
use Rattle.serde_json.specs.Data.{no_members, member, put}
use Rattle.serde_json.specs.Read.{of_json, of_items, of_members, max_depth, read}
use Rattle.serde_json.specs.Written.{has_float, items_have_float, members_have_float}
use Rattle.cedar_data.proofs.Options.{seen_of}
use Rattle.schema_json_keys.specs.Numbers.{has_number, items_have_number, members_have_number, HasNoNumber}

parts : {A B : Type 0} (f : A → Option B) (o : Option A) (b : B) → option_and_then f o ≡ Some b
    → (a : A) × (o ≡ Some a) × (f a ≡ Some b)
parts f None b e = cc
parts f (Some a) b e = (a, refl, e)

-- a member more has no float where the others have none
put_float : (k : List ℕ) (d : Data) (ms : Members) → has_float d ≡ false → members_have_float ms ≡ false
    → members_have_float (put k d ms) ≡ false
put_float k d no_members e f = or_from (has_float d) false e refl
put_float k d (member l x ms) e f =
    by (slice_cmp nat_cmp k l) (or_parts (has_float x) (members_have_float ms) f).0
    (or_parts (has_float x) (members_have_float ms) f).1
    (put_float k d ms e (or_parts (has_float x) (members_have_float ms) f).1)
  where
    by : (r : Ordering) → has_float x ≡ false → members_have_float ms ≡ false
        → members_have_float (put k d ms) ≡ false → members_have_float
        (match_ordering r (member k d (member l x ms)) (member l d ms) (member l x (put k d ms))) ≡ false
    by Less g h more = or_from (has_float d) (has_float x || members_have_float ms) e (or_from (has_float x) _ g h)
    by Equal g h more = or_from (has_float d) (members_have_float ms) e h
    by Greater g h more = or_from (has_float x) (members_have_float (put k d ms)) g more

-- a value without a number is read as one without a float
mutual
  pub of_json_float : (j : json.Json) (d : Data) → of_json j ≡ Some d → has_number j ≡ false → has_float d ≡ false
  of_json_float json.null d e n = sym (ap has_float (Some_inj null d e))
  of_json_float (json.boolean b) d e n = sym (ap has_float (Some_inj (boolean b) d e))
  of_json_float (json.number s) d e n = cc
  of_json_float (json.string s) d e n = sym (ap has_float (Some_inj (string s) d e))
  of_json_float (json.array js) d e n =
      let p = seen_of array (of_items js) d e in
      ap has_float (sym p.2) ∙ of_items_float js p.0 p.1 n
  of_json_float (json.object ms) d e n =
      let p = seen_of object (of_members ms no_members) d e in
      ap has_float (sym p.2) ∙ of_members_float ms no_members p.0 p.1 n refl

  of_items_float : (js : json.Items) (ds : Items) → of_items js ≡ Some ds → items_have_number js ≡ false
      → items_have_float ds ≡ false
  of_items_float json.no_items ds e n = sym (ap items_have_float (Some_inj no_items ds e))
  of_items_float (json.item j js) ds e n =
      let p = parts (λ d. option_map (item d) (of_items js)) (of_json j) ds e in
      let q = seen_of (item p.0) (of_items js) ds p.2 in
      ap items_have_float (sym q.2)
      ∙ or_from (has_float p.0) (items_have_float q.0)
      (of_json_float j p.0 p.1 (or_parts (has_number j) (items_have_number js) n).0)
      (of_items_float js q.0 q.1 (or_parts (has_number j) (items_have_number js) n).1)

  of_members_float : (ms : json.Members) (found all : Members) → of_members ms found ≡ Some all
      → members_have_number ms ≡ false → members_have_float found ≡ false → members_have_float all ≡ false
  of_members_float json.no_members found all e n f = sym (ap members_have_float (Some_inj found all e)) ∙ f
  of_members_float (json.member k j ms) found all e n f =
      let p = parts (λ d. of_members ms (put k d found)) (of_json j) all e in
      of_members_float ms (put k p.0 found) all p.2 (or_parts (has_number j) (members_have_number ms) n).1
      (put_float k p.0 found (of_json_float j p.0 p.1 (or_parts (has_number j) (members_have_number ms) n).0) f)

-- what stands alone in a text
pub alone : (o : Option (json.Json × List Token)) (j : json.Json)
    → option_and_then (λ p. json.if_last p.0 p.1) o ≡ Some j
    → o ≡ Some (j, [])
alone None j e = cc
alone (Some (i, [])) j e = ap (λ x. Some (x, [])) (Some_inj i j e)
alone (Some (i, t ∷ ts)) j e = cc

pub no_float : (text : List ℕ) (d : Data) → read text ≡ Some d → HasNoNumber text → has_float d ≡ false
no_float text d e none =
    let p = parts of_json (option_and_then (λ p. json.if_last p.0 p.1) (json.value max_depth (tokens text))) d e in
    let same = one_reading max_depth json.max_depth (tokens text) (p.0, []) (none.0, [])
    (alone (json.value max_depth (tokens text)) p.0 p.1)
    (alone (json.value json.max_depth (tokens text)) none.0 none.1) in
    of_json_float p.0 d p.2 (ap has_number (ap (λ x. x.0) (Some_inj _ _ same)) ∙ none.2)
