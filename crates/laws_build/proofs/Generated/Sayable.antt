-- What a generated text declares can be translated.
use Rattle.std.proofs.Common.{◌≡◌, ℕ, zero, suc, ◌+◌, ◌<◌, ◌≤◌, ◌^◌, ◌==◌, Bool, true, false, cond, List, [], ◌∷◌, ◌++◌}
use Rattle.std.proofs.Common.{map}
use Rattle.std.proofs.Common.{flat_map, Some, None, is_some, refl, sym, ap, ◌∙◌, subst, arith, true≢false, find}
use Rattle.std.proofs.Common.{if◌then◌else◌}
use Rattle.std.specs.Prelude.{decimal}
use Rattle.std.specs.List.{AllByRecursion, range_with_len}
use Rattle.std.specs.Ordering.{is_eq}
use Rattle.std.proofs.lemmas.Fmt.{decimal_injective}
use Rattle.std.proofs.lemmas.Bool.{false_from_ne_true}
use Rattle.std.proofs.lemmas.Option.{same_Some}
use Rattle.cedar_data.specs.Text.{text_cmp}
use Rattle.cedar_data.proofs.Orders.{text_exact, equal_from}
use Rattle.schema_generate.specs.Generated.{max_size, entity_word, action_word, parent_of, resource_of}
use Rattle.cedar_identifiers.specs.Words.{is_cedar}
use Rattle.schema_syntax_tree.specs.declared.pr.PR.TheVariants.{Principal, Resource}
use Rattle.laws_written.specs.PrintedDecls.{IsSome}
use Rattle.laws_written.specs.Written.{WrittenMember, types, WrittenDeclared, WrittenItem}
use Rattle.schema_convert_openings.specs.Repeats.{same_among, NoneRepeats}
use Rattle.laws_translate.specs.FragmentsSay.{entities_of_decl, actions_of_decl, commons_of_decl}
use Rattle.laws_translate.specs.FragmentsSay.{WrittenNamespace, decls_of_item, items_of_namespace, opened}
use Rattle.laws_translate.specs.Named.{IsWellNamed}
use Rattle.laws_translate.specs.Sayable.{says_alike, AreLawfulMembers, AppliesWell, IsFreeCommonName, names_written}
use Rattle.laws_translate.specs.Sayable.{IsSayableNamespace, IsSayable}
use Rattle.laws_build.specs.Generated.Declares.{entity_path, entity_of_number, action_of_number, items_of_number}
use Rattle.laws_build.specs.Generated.Declares.{generated_items}

-- the declarations of these numbers
abbrev decls_of : ℕ → ℕ → List WrittenDeclared
decls_of n i = entity_of_number n i ∷ action_of_number n i ∷ []

abbrev pub all_decls : ℕ → List ℕ → List WrittenDeclared
all_decls n is = flat_map (decls_of n) is

pub decls_are : (n : ℕ) (is : List ℕ) → flat_map decls_of_item (flat_map (items_of_number n) is) ≡ all_decls n is
decls_are n [] = refl
decls_are n (i ∷ is) = ap (λ l. entity_of_number n i ∷ action_of_number n i ∷ l) (decls_are n is)

-- all of it stands in the empty namespace
pub all_outside : (n : ℕ) (is : List ℕ)
    → items_of_namespace None (flat_map (items_of_number n) is) ≡ flat_map (items_of_number n) is
all_outside n [] = refl
all_outside n (i ∷ is) = ap (λ l. items_of_number n i ++ l) (all_outside n is)

pub none_named : (n : ℕ) (is : List ℕ) (q : List (List ℕ))
    → items_of_namespace (Some q) (flat_map (items_of_number n) is) ≡ []
none_named n [] q = refl
none_named n (i ∷ is) q = none_named n is q

pub opened_decls : (items : List WrittenItem) (w : WrittenNamespace) → opened items ≡ Some w
    → w.decls ≡ flat_map decls_of_item items
opened_decls [] w h = absurd (true≢false (sym (ap is_some h)))
opened_decls (x ∷ items) w h = ap (λ (v : WrittenNamespace). v.decls) (sym (same_Some _ w h))

-- names
parents_named : (b : Bool) (p : List (List ℕ)) → IsSome p → AllByRecursion IsSome (if b then [] else p ∷ [])
parents_named true p h = tt
parents_named false p h = (h, tt)

pub well_named : (n : ℕ) (is : List ℕ) → AllByRecursion IsWellNamed (flat_map (items_of_number n) is)
well_named n [] = tt
well_named n (i ∷ is) = (
  (parents_named (i == 0) (entity_path (parent_of i)) tt, (tt, (tt, tt)), tt),
  ((tt, tt, ((tt, tt), ((tt, tt), tt))), well_named n is),
)

entities_named : (n : ℕ) (is : List ℕ) → names_written entities_of_decl (all_decls n is) ≡ map entity_word is
entities_named n [] = refl
entities_named n (i ∷ is) = ap (λ l. entity_word i ∷ l) (entities_named n is)

actions_named : (n : ℕ) (is : List ℕ) → names_written actions_of_decl (all_decls n is) ≡ map action_word is
actions_named n [] = refl
actions_named n (i ∷ is) = ap (λ l. action_word i ∷ l) (actions_named n is)

commons_named : (n : ℕ) (is : List ℕ) → names_written commons_of_decl (all_decls n is) ≡ []
commons_named n [] = refl
commons_named n (i ∷ is) = commons_named n is

-- words that tell small numbers apart
abbrev TellsApart : (ℕ → List ℕ) → Type 0
TellsApart word = (i j : ℕ) → i < 2 ^ 64 → j < 2 ^ 64 → word i ≡ word j → i ≡ j

behind : (a b : ℕ) (ds es : List ℕ) → a ∷ ds ≡ b ∷ es → ds ≡ es
behind a b ds es h = cc

pub entities_apart : TellsApart entity_word
entities_apart i j h k e = decimal_injective i j h k (behind 69 69 (decimal i) (decimal j) e)

pub actions_apart : TellsApart action_word
actions_apart i j h k e = decimal_injective i j h k (behind 97 97 (decimal i) (decimal j) e)

module _ (word : ℕ → List ℕ) (apart : TellsApart word) where
  -- an item that stands there
  stands : (from k : ℕ) (before after : List (List ℕ)) (x : List ℕ)
      → map word (range_with_len from k) ≡ before ++ x ∷ after → (j : ℕ) × (from ≤ j) × (j < from + k) × (x ≡ word j)
  stands from zero [] after x h = cc
  stands from zero (y ∷ before) after x h = cc
  stands from (suc k) [] after x h =
      let same : word from ≡ x = cc in
      (from, omega arith, omega arith, sym same)
  stands from (suc k) (y ∷ before) after x h =
      let rest : map word (range_with_len (from + 1) k) ≡ before ++ x ∷ after = cc in
      let r = stands (from + 1) k before after x rest in
      (r.0, omega (arith, r.1), omega (arith, r.2), r.3)

  none_twice : (from k : ℕ) → from + k ≤ 2 ^ 63 → NoneRepeats text_cmp (map word (range_with_len from k))
  none_twice from k small [] after x h = refl
  none_twice from zero small (y ∷ before) after x h = cc
  none_twice from (suc k) small (y ∷ before) after x h =
      let first : word from ≡ y = cc in
      let rest : map word (range_with_len (from + 1) k) ≡ before ++ x ∷ after = cc in
      let r = stands (from + 1) k before after x rest in
      let off : is_eq (text_cmp x y) ≡ false = false_from_ne_true (is_eq (text_cmp x y)) (λ t.
      let same : word r.0 ≡ word from = sym r.3 ∙ (text_exact x y (equal_from (text_cmp x y) t) ∙ sym first) in
      let e : r.0 ≡ from = apart r.0 from (omega (arith, r.2)) (omega arith) same in omega (arith, e, r.1)) in
      ap (λ b. cond b (Some y) (same_among text_cmp x before)) off
      ∙ none_twice (from + 1) k (omega arith) before after x rest

-- no word is reserved
open_words : (is : List ℕ) → AllByRecursion (λ w. is_cedar w ≡ false) (map entity_word is)
open_words [] = tt
open_words (i ∷ is) = (refl, open_words is)

-- the members of an action
lawful : (p r : List (List ℕ))
    → IsSome p → IsSome r
    → AreLawfulMembers (types Principal (p ∷ []) ∷ types Resource (r ∷ []) ∷ [])
lawful p r hp hr = record { said_once = once; filled = (tt, (tt, tt)); principals = refl; resources = refl }
  where
    once : (before after : List WrittenMember) (m : WrittenMember)
        → types Principal (p ∷ []) ∷ types Resource (r ∷ []) ∷ [] ≡ before ++ m ∷ after
        → find (says_alike m) before ≡ None
    once [] after m h = refl
    once (b ∷ []) after m h =
        let first : types Principal (p ∷ []) ≡ b = cc in
        let second : types Resource (r ∷ []) ≡ m = cc in
        subst (λ x. find (says_alike m) (x ∷ []) ≡ None) first
        (subst (λ x. find (says_alike x) (types Principal (p ∷ []) ∷ []) ≡ None) second refl)
    once (b ∷ c ∷ []) after m h = cc
    once (b ∷ c ∷ d ∷ before) after m h = cc

blocks : (n : ℕ) (is : List ℕ) → AllByRecursion (λ (d : WrittenDeclared). AppliesWell d.decl) (all_decls n is)
blocks n [] = tt
blocks n (i ∷ is) = (tt, (lawful (entity_path i) (entity_path (resource_of n i)) tt tt, blocks n is))

nothing_twice : NoneRepeats text_cmp []
nothing_twice [] after x h = cc
nothing_twice (y ∷ before) after x h = cc

pub sayable : (n : ℕ) → n ≤ max_size → IsSayable (generated_items n)
sayable n small None w h =
    let is = range_with_len 0 n in
    let decls : w.decls ≡ all_decls n is =
    opened_decls (flat_map (items_of_number n) is) w (ap opened (sym (all_outside n is)) ∙ h) ∙ decls_are n is in
    subst (IsSayableNamespace None) (sym decls)
    (record {
      name_free = tt;
      entities_once = subst (NoneRepeats text_cmp) (sym (entities_named n is))
          (none_twice entity_word entities_apart 0 n (omega arith));
      actions_once = subst (NoneRepeats text_cmp) (sym (actions_named n is))
          (none_twice action_word actions_apart 0 n (omega arith));
      commons_once = subst (NoneRepeats text_cmp) (sym (commons_named n is)) nothing_twice;
      entities_free = subst (AllByRecursion (λ w. is_cedar w ≡ false)) (sym (entities_named n is)) (open_words is);
      blocks = blocks n is;
      commons_free = subst (AllByRecursion IsFreeCommonName) (sym (commons_named n is)) tt;
    })
sayable n small (Some q) w h =
    absurd (true≢false (sym (ap is_some (ap opened (sym (none_named n (range_with_len 0 n) q)) ∙ h))))
