-- A generated text is ASCII.
use Rattle.std.proofs.Common.{◌≡◌, ℕ, zero, suc, ◌+◌, ◌*◌, ◌%◌, ◌==◌, ◌<◌, ◌≤◌, ◌^◌, Bool, true, false, List, []}
use Rattle.std.proofs.Common.{◌++◌}
use Rattle.std.proofs.Common.{flat_map, refl, arith, if◌then◌else◌}
use Rattle.std.specs.Prelude.{codes, decimal}
use Rattle.std.specs.Char.{is_ascii}
use Rattle.std.specs.List.{list_all, range_with_len}
use Rattle.std.specs.Str.{IsAscii}
use Rattle.std.proofs.lemmas.Fmt.{IsAscii-decimal}
use Rattle.std.proofs.lemmas.Nat.{mod_below}
use Rattle.std.proofs.lemmas.Str.{IsAscii-append}
use Rattle.std.proofs.lemmas.Str.Ascii.{IsAscii-nil}
use Rattle.cedar_data.proofs.Ascii.{IsAscii-from_test}
use Rattle.schema_generate.specs.Generated.{max_size, entity_word, action_word, parent_of, target_of, resource_of}
use Rattle.schema_generate.specs.Generated.{parent_part, entity_line, action_line, lines_of, generated}

word_ascii : (letter : List ℕ) (i : ℕ) → IsAscii letter → i < 2 ^ 64 → IsAscii (letter ++ decimal i)
word_ascii letter i h small = IsAscii-append letter (decimal i) h (IsAscii-decimal i small)

module _ (n : ℕ) (some : 1 ≤ n) (small : n ≤ max_size) where
  entity_ascii : (i : ℕ) → i < 2 ^ 64 → IsAscii (entity_word i)
  entity_ascii i h = word_ascii (codes "E") i (IsAscii-from_test (codes "E") refl) h

  below : (k : ℕ) → k % n < 2 ^ 64
  below k = let h : k % n < n = mod_below k n some in omega (arith, h)

  parent_ascii : (i : ℕ) → i < n → IsAscii (parent_part i)
  parent_ascii i h = by (i == 0)
    where
      by : (b : Bool) → IsAscii (if b then [] else codes " in " ++ entity_word (parent_of i))
      by true = IsAscii-nil
      by false = IsAscii-append (codes " in ") (entity_word (parent_of i)) (IsAscii-from_test (codes " in ") refl)
          (entity_ascii (parent_of i) (omega arith))

  -- a wording, a word and what stands behind them
  behind_both : (wording word rest : List ℕ) → list_all is_ascii wording ≡ true → IsAscii word → IsAscii rest
      → IsAscii (wording ++ (word ++ rest))
  behind_both wording word rest h k l =
      IsAscii-append wording (word ++ rest) (IsAscii-from_test wording h) (IsAscii-append word rest k l)

  lines_ascii : (i : ℕ) → i < n → IsAscii (lines_of n i)
  lines_ascii i h =
      let own : IsAscii (entity_word i) = entity_ascii i (omega arith) in
      let act : IsAscii (action_word i) = word_ascii (codes "a") i (IsAscii-from_test (codes "a") refl) (omega arith) in
      let ended : IsAscii (codes " };\n") = IsAscii-from_test (codes " };\n") refl in
      let shape = codes " = { a: Long, b: " ++ (entity_word (target_of n i) ++ codes " };\n") in
      let resource = codes ", resource: " ++ (entity_word (resource_of n i) ++ codes " };\n") in
      let applies = codes " appliesTo { principal: " ++ (entity_word i ++ resource) in
      IsAscii-append (entity_line n i) (action_line n i)
      (behind_both (codes "entity ") (entity_word i) (parent_part i ++ shape) refl own
      (IsAscii-append (parent_part i) shape (parent_ascii i h)
      (behind_both (codes " = { a: Long, b: ") (entity_word (target_of n i)) (codes " };\n") refl
      (entity_ascii (target_of n i) (below (7 * i + 3))) ended)))
      (behind_both (codes "action ") (action_word i) applies refl act
      (behind_both (codes " appliesTo { principal: ") (entity_word i) resource refl own
      (behind_both (codes ", resource: ") (entity_word (resource_of n i)) (codes " };\n") refl
      (entity_ascii (resource_of n i) (below (5 * i + 1))) ended)))

  all_ascii : (from k : ℕ) → from + k ≤ n → IsAscii (flat_map (lines_of n) (range_with_len from k))
  all_ascii from zero h = IsAscii-nil
  all_ascii from (suc k) h =
      IsAscii-append (lines_of n from) (flat_map (lines_of n) (range_with_len (from + 1) k))
      (lines_ascii from (omega arith)) (all_ascii (from + 1) k (omega arith))

  pub generated_ascii : IsAscii (generated n)
  generated_ascii = all_ascii 0 n (omega arith)
