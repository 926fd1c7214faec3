-- The words of a generated text.
use Rattle.std.proofs.Common.{◌≡◌, ℕ, ◌+◌, ◌^◌, ◌<◌, ◌%◌, Bool, true, false, cond, ◌&&◌, List, [], ◌∷◌}
use Rattle.std.proofs.Common.{◌++◌}
use Rattle.std.proofs.Common.{refl, sym, ap, ◌∙◌, arith, inl, ◌==◌}
use Rattle.std.specs.Cmp.{first_so, second_so}
use Rattle.std.specs.Str.{bytes_eq}
use Rattle.std.specs.Prelude.{codes, decimal}
use Rattle.std.specs.List.{list_all}
use Rattle.std.proofs.lemmas.Bool.{and_from}
use Rattle.std.proofs.lemmas.Bool.Decides.{nat_tests}
use Rattle.std.proofs.lemmas.Fmt.{decimal_by_steps}
use Rattle.std.proofs.lemmas.List.Sums.{AllPass-from_list_all}
use Rattle.cedar_data.specs.Words.{is_word_start, is_word_part, is_word}
use Rattle.cedar_identifiers.specs.Words.{is_id}
use Rattle.schema_syntax_grammar.specs.declared.token_kind.TokenKind.TheVariants.{Identifier, KwAppliesTo, KwAction}
use Rattle.schema_syntax_tokens.specs.Forms.{IsWord, IsForm, word_kind}
use Rattle.schema_generate.specs.Generated.{entity_word, action_word}

-- a digit, and digits behind it
pub record AreDigits (ds : List ℕ) : Type 0 where
  pub first : ℕ
  pub others : List ℕ
  pub is : ds ≡ first ∷ others
  pub low : first < 58
  pub part : is_word_part first ≡ true
  pub parts : list_all is_word_part others ≡ true

digit_part : (d : ℕ) → d < 10 → is_word_part (48 + d) ≡ true
digit_part d h = grind (arith, nat_tests)

parts_last : (ds : List ℕ) (d : ℕ) → list_all is_word_part ds ≡ true → is_word_part d ≡ true
    → list_all is_word_part (ds ++ d ∷ []) ≡ true
parts_last [] d h k = and_from (is_word_part d) true k refl
parts_last (e ∷ ds) d h k = by (is_word_part e) (parts_last ds d) h
  where
    by : (b : Bool) → (list_all is_word_part ds ≡ true → is_word_part d ≡ true
        → list_all is_word_part (ds ++ d ∷ []) ≡ true) → (b && list_all is_word_part ds) ≡ true
        → (b && list_all is_word_part (ds ++ d ∷ [])) ≡ true
    by true r h = r h k
    by false r h = h

one_digit : (n : ℕ) → n < 10 → AreDigits ((48 + n) ∷ [])
one_digit n h = record {
  first = 48 + n;
  others = [];
  is = refl;
  low = omega arith;
  part = digit_part n h;
  parts = refl;
}

more_digits : (ds : List ℕ) (d : ℕ) → d < 10 → AreDigits ds → AreDigits (ds ++ (48 + d) ∷ [])
more_digits ds d small a = record {
  first = a.first;
  others = a.others ++ (48 + d) ∷ [];
  is = ap (λ l. l ++ (48 + d) ∷ []) a.is;
  low = a.low;
  part = a.part;
  parts = parts_last a.others (48 + d) a.parts (digit_part d small);
}

pub word_so : (c : List ℕ) → is_word c ≡ true → IsWord c
word_so [] h = cc
word_so (b ∷ bs) h = (
  first_so (is_word_start b) (list_all is_word_part bs) h,
  AllPass-from_list_all is_word_part bs (second_so (is_word_start b) (list_all is_word_part bs) h),
)

pub digits : (i : ℕ) → i < 2 ^ 64 → AreDigits (decimal i)
digits i h = decimal_by_steps (λ n ds. AreDigits ds) one_digit
    (λ n ds big a. more_digits ds (n % 10) (omega arith) a) i h

letter_word : (c : ℕ) (ds : List ℕ) → is_word_start c ≡ true → AreDigits ds → is_word (c ∷ ds) ≡ true
letter_word c ds h a =
    and_from (is_word_start c) (list_all is_word_part ds) h
    (ap (list_all is_word_part) a.is ∙ and_from (is_word_part a.first) (list_all is_word_part a.others) a.part a.parts)

pub entity_id : (i : ℕ) → i < 2 ^ 64 → is_id (entity_word i) ≡ true
entity_id i h = and_from (is_word (entity_word i)) true (letter_word 69 (decimal i) refl (digits i h)) refl

pub action_id : (i : ℕ) → i < 2 ^ 64 → is_id (action_word i) ≡ true
action_id i h = and_from (is_word (action_word i)) true (letter_word 97 (decimal i) refl (digits i h)) refl

-- behind an `a` stands no word of the grammar
action_kind : (d : ℕ) (ds : List ℕ) → d < 58 → word_kind (97 ∷ d ∷ ds) ≡ Identifier
action_kind d ds low =
    let no_p : (d == 112) ≡ false = grind (arith, nat_tests) in
    let no_c : (d == 99) ≡ false = grind (arith, nat_tests) in
    λ i. cond (no_p i && bytes_eq ds (codes "pliesTo")) KwAppliesTo
    (cond (no_c i && bytes_eq ds (codes "tion")) KwAction Identifier)

pub entity_form : (i : ℕ) → i < 2 ^ 64 → IsForm (entity_word i) Identifier
entity_form i h = inl (word_so (entity_word i) (letter_word 69 (decimal i) refl (digits i h)), refl)

pub action_form : (i : ℕ) → i < 2 ^ 64 → IsForm (action_word i) Identifier
action_form i h =
    let a = digits i h in
    inl (
      word_so (action_word i) (letter_word 97 (decimal i) refl a),
      sym (ap (λ ds. word_kind (97 ∷ ds)) a.is ∙ action_kind a.first a.others a.low),
    )
