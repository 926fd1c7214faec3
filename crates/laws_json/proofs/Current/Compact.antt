-- The compact text of a tidy value is read as the value, and no key in it comes again.
use Rattle.std.proofs.Common.{◌≡◌, ℕ, suc, ◌≤◌, max, false, List, [], ◌∷◌, ◌++◌, Some, refl}
use Rattle.std.proofs.Common.{sym, ap, ap₂, ◌∙◌, subst, arith, append-nil, option_map, option_and_then}
use Rattle.std.specs.Prelude.{◌||◌, All, ⊤}
use Rattle.std.specs.Ordering.{nat_cmp}
use Rattle.std.specs.Cmp.Lexicographic.{slice_cmp}
use Rattle.std.specs.declared.cmp.Ordering.{Ordering}
use Rattle.std.specs.declared.cmp.Ordering.TheVariants.{Less, Equal, Greater}
use Rattle.std.proofs.lemmas.Cmp.{nat_list_cmp_total, tied_itself}
use Rattle.std.proofs.lemmas.List.Elements.{All-nil, All-cons, All-head, All-tail, All-append, All-push, All-contains}
use Rattle.std.proofs.lemmas.Bool.{or_parts}
use Rattle.json.specs.Json as json
use Rattle.json.specs.Lex.{tokens}
use Rattle.json.specs.Tree as tree
use Rattle.json.proofs.Found.{Some_inj}
use Rattle.json.proofs.Printed.Tokens.{tokens-print}
use Rattle.json.proofs.Printed.Trees.{value-json_tokens, ArePrintable-json_tokens, document-print}
use Rattle.serde_json.specs.Data.{Data, null, boolean, number, string, array, object, Items, no_items, item}
use Rattle.serde_json.specs.Data.{Members, no_members, member, put, depth, items_depth, members_depth}
use Rattle.serde_json.specs.Read.{read, of_json, of_items, of_members, max_depth}
use Rattle.serde_json.specs.Written.{outline, items_outline, members_outline, compact_text}
use Rattle.serde_json.proofs.Texts.{print-outline}
use Rattle.schema_json_keys.specs.Keys.{Key, keys_of, items_keys, members_keys, ComesAgain, FirstAgain, RepeatedKey}
use Rattle.schema_json_values.proofs.Followed.{followed, followed_once, followed_by_none, Before, put_last, before_more}
use Rattle.laws_json.proofs.Current.Tidied.{untidy, items_untidy, members_untidy, not_above, is_not_less}

-- ---- the parts of a tidy object

module _ (k : List ℕ) (d : Data) (ms : Members) (h : members_untidy (member k d ms) ≡ false) where
  value_tidy : untidy d ≡ false
  value_tidy = (or_parts (untidy d) (not_above k ms || members_untidy ms) h).0

  rest_tidy : members_untidy ms ≡ false
  rest_tidy =
      (or_parts (not_above k ms) (members_untidy ms) (or_parts (untidy d) (not_above k ms || members_untidy ms) h).1).1

  is_above : not_above k ms ≡ false
  is_above =
      (or_parts (not_above k ms) (members_untidy ms) (or_parts (untidy d) (not_above k ms || members_untidy ms) h).1).0

less_is : (o : Ordering) → is_not_less o ≡ false → o ≡ Less
less_is Less h = refl
less_is Equal h = absurd (cc)
less_is Greater h = absurd (cc)

-- ---- the outline has no number

mutual
  numbered : (d : Data) → untidy d ≡ false → tree.HasNumbers (outline d)
  numbered null h = tt
  numbered (boolean b) h = tt
  numbered (number n) h = absurd (cc)
  numbered (string s) h = tt
  numbered (array ds) h = items_numbered ds h
  numbered (object ms) h = members_numbered ms h

  items_numbered : (ds : Items) → items_untidy ds ≡ false → tree.ItemsHaveNumbers (items_outline ds)
  items_numbered no_items h = tt
  items_numbered (item d ds) h = (
    numbered d (or_parts (untidy d) (items_untidy ds) h).0,
    items_numbered ds (or_parts (untidy d) (items_untidy ds) h).1,
  )

  members_numbered : (ms : Members) → members_untidy ms ≡ false → tree.MembersHaveNumbers (members_outline ms)
  members_numbered no_members h = tt
  members_numbered (member k d ms) h = (numbered d (value_tidy k d ms h), members_numbered ms (rest_tidy k d ms h))

-- and is nested as deep as the value

mutual
  as_deep : (d : Data) → tree.depth (outline d) ≡ depth d
  as_deep null = refl
  as_deep (boolean b) = refl
  as_deep (number n) = refl
  as_deep (string s) = refl
  as_deep (array ds) = ap suc (items_as_deep ds)
  as_deep (object ms) = ap suc (members_as_deep ms)

  items_as_deep : (ds : Items) → tree.items_depth (items_outline ds) ≡ items_depth ds
  items_as_deep no_items = refl
  items_as_deep (item d ds) = ap₂ max (as_deep d) (items_as_deep ds)

  members_as_deep : (ms : Members) → tree.members_depth (members_outline ms) ≡ members_depth ms
  members_as_deep no_members = refl
  members_as_deep (member k d ms) = ap₂ max (as_deep d) (members_as_deep ms)

-- ---- the outline is read as the value

abbrev BeforeFirst : Members → Members → Type 0
BeforeFirst found no_members = ⊤
BeforeFirst found (member k d ms) = Before found k

first_before : (found : Members) (k : List ℕ) (d : Data) (ms : Members) → Before found k → not_above k ms ≡ false
    → BeforeFirst (followed found (member k d no_members)) ms
first_before found k d no_members b above = tt
first_before found k d (member l e ms) b above =
    before_more found k l d b (less_is (slice_cmp nat_cmp k l) above)

mutual
  back : (d : Data) → untidy d ≡ false → of_json (outline d) ≡ Some d
  back null h = refl
  back (boolean b) h = refl
  back (number n) h = absurd (cc)
  back (string s) h = refl
  back (array ds) h = ap (option_map array) (items_back ds h)
  back (object ms) h = ap (option_map object) (members_back ms no_members h (none_before ms))

  items_back : (ds : Items) → items_untidy ds ≡ false → of_items (items_outline ds) ≡ Some ds
  items_back no_items h = refl
  items_back (item d ds) h =
      ap (option_and_then (λ e. option_map (item e) (of_items (items_outline ds)))) (back d (or_parts (untidy d)
      (items_untidy ds) h).0)
      ∙ ap (option_map (item d)) (items_back ds (or_parts (untidy d) (items_untidy ds) h).1)

  members_back : (ms found : Members) → members_untidy ms ≡ false → BeforeFirst found ms
      → of_members (members_outline ms) found ≡ Some (followed found ms)
  members_back no_members found h b = ap Some (sym (followed_by_none found))
  members_back (member k d ms) found h b =
      let more = followed found (member k d no_members) in
      ap (option_and_then (λ e. of_members (members_outline ms) (put k e found))) (back d (value_tidy k d ms h))
      ∙ ap (of_members (members_outline ms)) (put_last found k d b)
      ∙ members_back ms more (rest_tidy k d ms h) (first_before found k d ms b (is_above k d ms h))
      ∙ ap Some (followed_once found ms k d)

  none_before : (ms : Members) → BeforeFirst no_members ms
  none_before no_members = tt
  none_before (member k d ms) = tt

-- ---- the text

module _ (d : Data) (tidy : untidy d ≡ false) (shallow : depth d ≤ max_depth) where
  text_tokens : tokens (compact_text d) ≡ tree.json_tokens (outline d)
  text_tokens =
      ap tokens (sym (print-outline d))
      ∙ tokens-print (tree.json_tokens (outline d)) (ArePrintable-json_tokens (outline d) (numbered d tidy))

  pub text_read : read (compact_text d) ≡ Some d
  text_read =
      ap (λ v. option_and_then of_json (option_and_then (λ p. json.if_last p.0 p.1) v))
      (ap (json.value max_depth) (text_tokens ∙ sym (append-nil (tree.json_tokens (outline d))))
      ∙ value-json_tokens (outline d) max_depth [] (omega (arith, as_deep d)))
      ∙ back d tidy

  pub text_document : json.document (compact_text d) ≡ Some (outline d)
  text_document =
      ap json.document (sym (print-outline d))
      ∙ document-print (outline d) (numbered d tidy) (omega (arith, as_deep d))

-- ---- no key comes again

abbrev NotAgain : Key → Type 0
NotAgain k = ¬ ComesAgain k

-- each of the names comes before the first of the members
abbrev NamesBefore : List (List ℕ) → Members → Type 0
NamesBefore earlier no_members = ⊤
NamesBefore earlier (member k d ms) = All (λ e. slice_cmp nat_cmp e k ≡ Less) earlier

not_itself : (k : List ℕ) → slice_cmp nat_cmp k k ≡ Less → ⊥
not_itself k less = let same : slice_cmp nat_cmp k k ≡ Equal = tied_itself nat_list_cmp_total k in cc

names_before : (earlier : List (List ℕ)) (k : List ℕ) (ms : Members) → All (λ e. slice_cmp nat_cmp e k ≡ Less) earlier
    → not_above k ms ≡ false → NamesBefore (earlier ++ k ∷ []) ms
names_before earlier k no_members all above = tt
names_before earlier k (member l e ms) all above =
    let less : slice_cmp nat_cmp k l ≡ Less = less_is (slice_cmp nat_cmp k l) above in
    All-push (λ e. slice_cmp nat_cmp e l ≡ Less) earlier k
    (λ i x lt. nat_list_cmp_total.trans _ k l (all i x lt) less) less

mutual
  once : (d : Data) → untidy d ≡ false → All NotAgain (keys_of (outline d))
  once null h = All-nil NotAgain
  once (boolean b) h = All-nil NotAgain
  once (number n) h = All-nil NotAgain
  once (string s) h = All-nil NotAgain
  once (array ds) h = items_once ds h
  once (object ms) h = members_once [] ms h (no_names ms)

  items_once : (ds : Items) → items_untidy ds ≡ false → All NotAgain (items_keys (items_outline ds))
  items_once no_items h = All-nil NotAgain
  items_once (item d ds) h =
      All-append NotAgain (keys_of (outline d)) (items_keys (items_outline ds)) (once d (or_parts (untidy d)
      (items_untidy ds) h).0)
      (items_once ds (or_parts (untidy d) (items_untidy ds) h).1)

  members_once : (earlier : List (List ℕ)) (ms : Members) → members_untidy ms ≡ false → NamesBefore earlier ms
      → All NotAgain (members_keys earlier (members_outline ms))
  members_once earlier no_members h b = All-nil NotAgain
  members_once earlier (member k d ms) h b =
      let later = members_keys (earlier ++ k ∷ []) (members_outline ms) in
      All-cons NotAgain (record { name = k; earlier = earlier }) (keys_of (outline d) ++ later)
      (λ again. not_itself k (All-contains (λ e. slice_cmp nat_cmp e k ≡ Less) earlier k b again))
      (All-append NotAgain (keys_of (outline d)) later (once d (value_tidy k d ms h))
      (members_once (earlier ++ k ∷ []) ms (rest_tidy k d ms h)
      (names_before earlier k ms b (is_above k d ms h))))

  no_names : (ms : Members) → NamesBefore [] ms
  no_names no_members = tt
  no_names (member k d ms) = All-nil (λ e. slice_cmp nat_cmp e k ≡ Less)

from_middle : (P : Key → Type 0) (before after : List Key) (k : Key) → All P (before ++ k ∷ after) → P k
from_middle P [] after k all = All-head P k after all
from_middle P (x ∷ before) after k all =
    from_middle P before after k (All-tail P x (before ++ k ∷ after) all)

none_again : (keys : List Key) (name : List ℕ) → All NotAgain keys → FirstAgain keys name → ⊥
none_again keys name all is =
    from_middle NotAgain is.before is.after is.again (subst (All NotAgain) is.stands all) is.comes_again

pub no_repeat : (d : Data) → untidy d ≡ false → depth d ≤ max_depth → (name : List ℕ)
    → ¬ RepeatedKey (compact_text d) name
no_repeat d tidy shallow name r =
    let same : outline d ≡ r.0 = Some_inj (outline d) r.0 (sym (text_document d tidy shallow) ∙ r.1) in
    none_again (keys_of (outline d)) name (once d tidy) (subst (λ j. FirstAgain (keys_of j) name) (sym same) r.2)
