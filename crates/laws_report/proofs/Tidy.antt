-- The compact text of a tidy value is read as the value.
use Rattle.std.proofs.Common.{◌≡◌, ℕ, suc, ◌^◌, ◌<◌, ◌≤◌, max, List, [], Some, refl}
use Rattle.std.proofs.Common.{sym, ap, ap₂, ◌∙◌, arith, append-nil, option_map, option_and_then}
use Rattle.std.specs.Prelude.{⊤}
use Rattle.std.specs.Ordering.{nat_cmp}
use Rattle.std.specs.Cmp.Lexicographic.{slice_cmp}
use Rattle.std.specs.declared.cmp.Ordering.TheVariants.{Less}
use Rattle.json.specs.Json as json
use Rattle.json.specs.Lex.{tokens}
use Rattle.json.specs.Tree as tree
use Rattle.json.proofs.Printed.Decimals.{IsNumber-decimal}
use Rattle.json.proofs.Printed.Tokens.{tokens-print}
use Rattle.json.proofs.Printed.Trees.{value-json_tokens, ArePrintable-json_tokens}
use Rattle.serde_json.specs.Data.{unsigned, negative, float, Data, null, boolean, number, string, array, object}
use Rattle.serde_json.specs.Data.{Items, no_items, item, Members, no_members, member, put}
use Rattle.serde_json.specs.Data.{depth, items_depth, members_depth}
use Rattle.serde_json.specs.Read.{read, of_json, of_items, of_members, max_depth}
use Rattle.serde_json.specs.Written.{outline, items_outline, members_outline, compact_text}
use Rattle.serde_json.proofs.Numbers.{number_of-decimal}
use Rattle.serde_json.proofs.Texts.{print-outline}
use Rattle.schema_json_values.proofs.Followed.{followed, followed_once, followed_by_none, Before, put_last, before_more}

-- the key comes before the first of the members
abbrev pub IsBelow : List ℕ → Members → Type 0
IsBelow k no_members = ⊤
IsBelow k (member l e ms) = slice_cmp nat_cmp k l ≡ Less

-- the numbers are whole ones of 64 bits, and the keys of each object rise
abbrev mutual
  pub Tidy : Data → Type 0
  Tidy null = ⊤
  Tidy (boolean b) = ⊤
  Tidy (number (unsigned n)) = n < 2 ^ 64
  Tidy (number (negative z)) = ⊥
  Tidy (number (float x)) = ⊥
  Tidy (string s) = ⊤
  Tidy (array ds) = ItemsTidy ds
  Tidy (object ms) = MembersTidy ms

  pub ItemsTidy : Items → Type 0
  ItemsTidy no_items = ⊤
  ItemsTidy (item d ds) = Tidy d × ItemsTidy ds

  pub MembersTidy : Members → Type 0
  MembersTidy no_members = ⊤
  MembersTidy (member k d ms) = Tidy d × (IsBelow k ms × MembersTidy ms)

-- ---- the outline has numbers

mutual
  numbered : (d : Data) → Tidy d → tree.HasNumbers (outline d)
  numbered null h = tt
  numbered (boolean b) h = tt
  numbered (number (unsigned n)) h = IsNumber-decimal n h
  numbered (number (negative z)) h = absurd h
  numbered (number (float x)) h = absurd h
  numbered (string s) h = tt
  numbered (array ds) h = items_numbered ds h
  numbered (object ms) h = members_numbered ms h

  items_numbered : (ds : Items) → ItemsTidy ds → tree.ItemsHaveNumbers (items_outline ds)
  items_numbered no_items h = tt
  items_numbered (item d ds) h = (numbered d h.0, items_numbered ds h.1)

  members_numbered : (ms : Members) → MembersTidy ms → tree.MembersHaveNumbers (members_outline ms)
  members_numbered no_members h = tt
  members_numbered (member k d ms) h = (numbered d h.0, members_numbered ms h.1.1)

-- and is nested as deep as the value

mutual
  as_deep : (d : Data) → tree.depth (outline d) ≡ depth d
  as_deep null = refl
  as_deep (boolean b) = refl
  as_deep (number n) = refl
  as_deep (string s) = refl
  as_deep (array ds) = ap suc (items_as_deep ds)
  as_deep (object ms) = ap suc (members_as_deep ms)

  items_as_deep : (ds : Items) → tree.items_depth (items_outline ds) ≡ items_depth ds
  items_as_deep no_items = refl
  items_as_deep (item d ds) = ap₂ max (as_deep d) (items_as_deep ds)

  members_as_deep : (ms : Members) → tree.members_depth (members_outline ms) ≡ members_depth ms
  members_as_deep no_members = refl
  members_as_deep (member k d ms) = ap₂ max (as_deep d) (members_as_deep ms)

-- ---- the outline is read as the value

abbrev BeforeFirst : Members → Members → Type 0
BeforeFirst found no_members = ⊤
BeforeFirst found (member k d ms) = Before found k

first_before : (found : Members) (k : List ℕ) (d : Data) (ms : Members) → Before found k → IsBelow k ms
    → BeforeFirst (followed found (member k d no_members)) ms
first_before found k d no_members b below = tt
first_before found k d (member l e ms) b below = before_more found k l d b below

mutual
  back : (d : Data) → Tidy d → of_json (outline d) ≡ Some d
  back null h = refl
  back (boolean b) h = refl
  back (number (unsigned n)) h = ap (option_map number) (number_of-decimal n h)
  back (number (negative z)) h = absurd h
  back (number (float x)) h = absurd h
  back (string s) h = refl
  back (array ds) h = ap (option_map array) (items_back ds h)
  back (object ms) h = ap (option_map object) (members_back ms no_members h (none_before ms))

  items_back : (ds : Items) → ItemsTidy ds → of_items (items_outline ds) ≡ Some ds
  items_back no_items h = refl
  items_back (item d ds) h =
      ap (option_and_then (λ e. option_map (item e) (of_items (items_outline ds)))) (back d h.0)
      ∙ ap (option_map (item d)) (items_back ds h.1)

  members_back : (ms found : Members) → MembersTidy ms → BeforeFirst found ms
      → of_members (members_outline ms) found ≡ Some (followed found ms)
  members_back no_members found h b = ap Some (sym (followed_by_none found))
  members_back (member k d ms) found h b =
      let more = followed found (member k d no_members) in
      ap (option_and_then (λ e. of_members (members_outline ms) (put k e found))) (back d h.0)
      ∙ ap (of_members (members_outline ms)) (put_last found k d b)
      ∙ members_back ms more h.1.1 (first_before found k d ms b h.1.0)
      ∙ ap Some (followed_once found ms k d)

  none_before : (ms : Members) → BeforeFirst no_members ms
  none_before no_members = tt
  none_before (member k d ms) = tt

-- ---- the text

module _ (d : Data) (tidy : Tidy d) (shallow : depth d ≤ max_depth) where
  text_tokens : tokens (compact_text d) ≡ tree.json_tokens (outline d)
  text_tokens =
      ap tokens (sym (print-outline d))
      ∙ tokens-print (tree.json_tokens (outline d)) (ArePrintable-json_tokens (outline d) (numbered d tidy))

  pub text_read : read (compact_text d) ≡ Some d
  text_read =
      ap (λ v. option_and_then of_json (option_and_then (λ p. json.if_last p.0 p.1) v))
      (ap (json.value max_depth) (text_tokens ∙ sym (append-nil (tree.json_tokens (outline d))))
      ∙ value-json_tokens (outline d) max_depth [] (omega (arith, as_deep d)))
      ∙ back d tidy
