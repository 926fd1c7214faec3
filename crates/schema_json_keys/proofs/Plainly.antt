-- The values of texts without a number and without a key twice in an object, a turn at a time.
use Rattle.std.proofs.Common.{◌≡◌, ℕ, ◌-◌, ◌<◌, ◌≤◌, Bool, true, false, List, [], ◌∷◌, ◌++◌, Option, Some, None, length}
use Rattle.std.proofs.Common.{String, Global, refl, sym, ap, ◌∙◌, subst, string_bytes, string_cmp, true≢false}
use Rattle.std.specs.Prelude.{◌||◌, is_some, option_map, option_and_then}
use Rattle.std.specs.List.{list_any}
use Rattle.std.specs.Str.{bytes_eq}
use Rattle.std.specs.Map.{lookup}
use Rattle.std.specs.BTreeMap.{is_at}
use Rattle.std.proofs.lemmas.List.Folds.{list_any-append}
use Rattle.std.proofs.lemmas.Slice.Eq.{bytes_eq-Decides}
use Rattle.std.proofs.lemmas.Bool.{or_from}
use Rattle.json.specs.Token.{Token}
use Rattle.json.specs.Lex.{tokens}
use Rattle.json.specs.Json as json
use Rattle.json.specs.Json.{Parse, parse_map, after_end_array, read_key, items, members, value, if_last}
use Rattle.json.proofs.Grammar.{value_is, value-begin_array, value-begin_object, items_end, items_more, members_end}
use Rattle.json.proofs.Grammar.{members_more}
use Rattle.json.proofs.Found.{one_reading, Some_inj}
use Rattle.serde_json.specs.Data.{Data, null, boolean, string, array, object, Items, no_items, item, Members, put}
use Rattle.serde_json.specs.Read.{of_json, of_items, of_members, max_depth}
use Rattle.serde_json.specs.Find.{get_member}
use Rattle.serde_json.specs.View.{view, items_view, members_view}
use Rattle.serde_json.specs.declared.value.Value.{Value}
use Rattle.serde_json.proofs.Views.{Entry, view-lookup, get_member-put, get_member-put_other}
use Rattle.schema_json_keys.specs.Keys.{keys_of, items_keys, members_keys, FirstAgain}
use Rattle.schema_json_keys.specs.Plain.{IsPlainValue, ArePlainItems, ArePlainMembers, IsPlainText}
use Rattle.schema_json_keys.proofs.Numberless.{of_json_float, alone}
use Rattle.schema_json_keys.proofs.Firsts.{or_next, first_again-append, comes_again-false, FirstAgain-none}

-- ---- one value

pub plain_string : (depth : ℕ) (s : List ℕ) (ts rest : List Token) → ts ≡ Token.string s ∷ rest
    → IsPlainValue (value depth ts) (string s) rest
plain_string depth s ts rest e = record {
  value = json.string s;
  stands = ap (value depth) e ∙ value_is depth (Token.string s ∷ rest);
  reads = refl;
  once = refl;
  numberless = refl;
}

pub plain_boolean : (depth : ℕ) (b : Bool) (ts rest : List Token) → ts ≡ Token.boolean b ∷ rest
    → IsPlainValue (value depth ts) (boolean b) rest
plain_boolean depth b ts rest e = record {
  value = json.boolean b;
  stands = ap (value depth) e ∙ value_is depth (Token.boolean b ∷ rest);
  reads = refl;
  once = refl;
  numberless = refl;
}

pub plain_null : (depth : ℕ) (ts rest : List Token) → ts ≡ Token.null ∷ rest → IsPlainValue (value depth ts) null rest
plain_null depth ts rest e = record {
  value = json.null;
  stands = ap (value depth) e ∙ value_is depth (Token.null ∷ rest);
  reads = refl;
  once = refl;
  numberless = refl;
}

pub plain_array : (depth : ℕ) (ts first : List Token) (ds : Items) (rest : List Token) → 0 < depth
    → ts ≡ Token.begin_array ∷ first → ArePlainItems (items (value (depth - 1)) (length first) first) ds rest
    → IsPlainValue (value depth ts) (array ds) rest
plain_array depth ts first ds rest some e more = record {
  value = json.array more.items;
  stands = ap (value depth) e ∙ value-begin_array depth first some ∙ ap (parse_map json.array) more.stands;
  reads = ap (option_map array) more.reads;
  once = more.once;
  numberless = more.numberless;
}

pub plain_object : (depth : ℕ) (ts first : List Token) (all : Members) (rest : List Token) → 0 < depth
    → ts ≡ Token.begin_object ∷ first
    → ArePlainMembers [] Members.no_members (members (value (depth - 1)) (length first) first) all rest
    → IsPlainValue (value depth ts) (object all) rest
plain_object depth ts first all rest some e more = record {
  value = json.object more.members;
  stands = ap (value depth) e ∙ value-begin_object depth first some ∙ ap (parse_map json.object) more.stands;
  reads = ap (option_map object) more.reads;
  once = more.once;
  numberless = more.numberless;
}

-- ---- items and members

none_of_both : (a b : Option (List ℕ)) → a ≡ None → b ≡ None → or_next a b ≡ None
none_of_both a b e f = ap (λ o. or_next o b) e ∙ f

module _ (p : Parse json.Json) (n : ℕ) where
  pub no_more_items : (ts rest : List Token) → length ts ≤ n → after_end_array ts ≡ Some rest
      → ArePlainItems (items p n ts) no_items rest
  no_more_items ts rest enough e = record {
    items = json.no_items;
    stands = items_end p n ts rest enough e;
    reads = refl;
    once = refl;
    numberless = refl;
  }

  pub one_item : (ts r : List Token) (d : Data) → 0 < n → after_end_array ts ≡ None → IsPlainValue (p ts) d r
      → (ds : Items)
      (rest : List Token) → ArePlainItems (items p (n - 1) r) ds rest → ArePlainItems (items p n ts) (item d ds) rest
  one_item ts r d some going v ds rest more = record {
    items = json.item v.value more.items;
    stands = items_more p n ts r v.value some going v.stands ∙ ap (parse_map (json.item v.value)) more.stands;
    reads = ap (option_and_then (λ x. option_map (item x) (of_items more.items))) v.reads
        ∙ ap (option_map (item d)) more.reads;
    once = first_again-append (keys_of v.value) (items_keys more.items) ∙ none_of_both _ _ v.once more.once;
    numberless = or_from _ _ v.numberless more.numberless;
  }

  pub no_more_members : (earlier : List (List ℕ)) (old : Members) (ts rest : List Token) → length ts ≤ n
      → read_key ts ≡ Some (None, rest) → ArePlainMembers earlier old (members p n ts) old rest
  no_more_members earlier old ts rest enough e = record {
    members = json.no_members;
    stands = members_end p n ts rest enough e;
    reads = refl;
    once = refl;
    numberless = refl;
  }

  pub one_member : (earlier : List (List ℕ)) (old : Members) (k : List ℕ) (ts s r : List Token) (d : Data) → 0 < n
      → read_key ts ≡ Some (Some k, s) → IsPlainValue (p s) d r → list_any (bytes_eq k) earlier ≡ false
      → (all : Members) (rest : List Token)
      → ArePlainMembers (earlier ++ k ∷ []) (put k d old) (members p (n - 1) r) all rest
      → ArePlainMembers earlier old (members p n ts) all rest
  one_member earlier old k ts s r d some key v apart all rest more = record {
    members = json.member k v.value more.members;
    stands = members_more p n k ts s r v.value some key v.stands ∙ ap (parse_map (json.member k v.value)) more.stands;
    reads = ap (option_and_then (λ x. of_members more.members (put k x old))) v.reads ∙ more.reads;
    once = comes_again-false (record { name = k; earlier = earlier }) _ apart
        ∙ first_again-append (keys_of v.value) (members_keys (earlier ++ k ∷ []) more.members)
        ∙ none_of_both _ _ v.once more.once;
    numberless = or_from _ _ v.numberless more.numberless;
  }

-- ---- a list that grows at its end

abbrev pub items_before : List Value → Items → Items
items_before [] rest = rest
items_before (v ∷ vs) rest = item (view v) (items_before vs rest)

pub items_before-no_items : (vs : List Value) → items_before vs no_items ≡ items_view vs
items_before-no_items [] = refl
items_before-no_items (v ∷ vs) = ap (item (view v)) (items_before-no_items vs)

pub items_before-append : (vs : List Value) (v : Value) (rest : Items)
    → items_before vs (item (view v) rest) ≡ items_before (vs ++ v ∷ []) rest
items_before-append [] v rest = refl
items_before-append (w ∷ vs) v rest = ap (item (view w)) (items_before-append vs v rest)

-- ---- the keys that an object has had

with_last : (a b : Bool) → b ≡ true → true ≡ (a || (b || false))
with_last true b e = refl
with_last false b e = sym e ∙ last b
  where
    last : (c : Bool) → c ≡ (c || false)
    last true = refl
    last false = refl

without_last : (a b : Bool) → b ≡ false → a ≡ (a || (b || false))
without_last true b e = refl
without_last false b e = sym (ap (λ c. c || false) e)

differ : (q k : List ℕ) → bytes_eq q k ≡ false → (q ≡ k → ⊥)
differ q k e same = true≢false (sym ((bytes_eq-Decides q k).1 same) ∙ e)

abbrev pub HasKeys : Members → List (List ℕ) → Type 0
HasKeys ms ks = (name : List ℕ) → is_some (get_member name ms) ≡ list_any (bytes_eq name) ks

pub one_more_key : (ks : List (List ℕ)) (ms : Members) (k : List ℕ) (d : Data) → HasKeys ms ks
    → HasKeys (put k d ms) (ks ++ k ∷ [])
one_more_key ks ms k d has = λ name. by name (bytes_eq name k) refl ∙ sym (list_any-append (bytes_eq name) ks (k ∷ []))
  where
    by : (name : List ℕ) (b : Bool) → bytes_eq name k ≡ b
        → is_some (get_member name (put k d ms)) ≡ (list_any (bytes_eq name) ks || (bytes_eq name k || false))
    by name true e =
        ap (λ n. is_some (get_member n (put k d ms))) ((bytes_eq-Decides name k).0 e)
        ∙ ap is_some (get_member-put k d ms) ∙ with_last _ _ e
    by name false e =
        ap is_some (get_member-put_other name k d ms (differ name k e)) ∙ has name ∙ without_last _ _ e

pub not_had : (ks : List (List ℕ)) (es : List Entry) (k : String Global) → HasKeys (members_view es) ks
    → None ≡ lookup (is_at (string_cmp k)) es → list_any (bytes_eq (string_bytes k)) ks ≡ false
not_had ks es k has none =
    sym (has (string_bytes k)) ∙ ap is_some (sym (view-lookup (string_bytes k) es) ∙ ap (option_map view) (sym none))

-- ---- the whole text

abbrev last_of : Option (json.Json × List Token) → Option json.Json
last_of o = option_and_then (λ p. if_last p.0 p.1) o

pub whole_text : (text : List ℕ) (d : Data) → IsPlainValue (value max_depth (tokens text)) d [] → IsPlainText text d
whole_text text d v = record {
  reads = ap (λ o. option_and_then of_json (last_of o)) v.stands ∙ v.reads;
  once = λ name again.
      let same = one_reading max_depth json.max_depth (tokens text) (v.value, []) (again.0, []) v.stands
      (alone (value json.max_depth (tokens text)) again.0 again.1) in
      FirstAgain-none (keys_of v.value) (sym v.once) name
      (subst (λ (j : json.Json). FirstAgain (keys_of j) name) (sym (ap (λ x. x.0) (Some_inj _ _ same))) again.2);
  whole = of_json_float v.value d v.reads v.numberless;
}
