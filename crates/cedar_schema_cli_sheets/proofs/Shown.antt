-- What a sheet has with one report more.
use Rattle.std.proofs.Common.{◌≡◌, ◌∙◌, refl, sym, ap, subst, ℕ, zero, suc, ◌+◌, ◌<◌, ◌≤◌, Bool, true, false, nat_lt, List}
use Rattle.std.proofs.Common.{[], ◌∷◌, ◌++◌, length, take, arith, append-nil, append_assoc, length-append}
use Rattle.std.proofs.Common.{if◌then◌else◌}
use Rattle.std.specs.List.{flat_map}
use Rattle.std.proofs.lemmas.Bool.{ltb-true, ltb-false}
use Rattle.cedar_schema_cli_words.specs.declared.asked.Form.{Form}
use Rattle.cedar_schema_cli_sheets.specs.Sheets.{Item, item_text, shown_items}
use Rattle.cedar_schema_cli_sheets.specs.Says.{Gets, text_if_shown}
use Rattle.cedar_schema_cli_sheets.specs.declared.sheet.Sheet.{Sheet}
use Rattle.schema_json_quotes.specs.Adds.{Adds}

flat_one : (f : Item → List ℕ) (xs : List Item) (x : Item) → flat_map f (xs ++ x ∷ []) ≡ flat_map f xs ++ f x
flat_one f [] x = append-nil (f x)
flat_one f (y ∷ ys) x = ap (λ t. f y ++ t) (flat_one f ys x) ∙ sym (append_assoc (f y) (flat_map f ys) (f x))

-- of a list with one item more, the first ones are that item too where they are more than the list has
none_taken : (n : ℕ) (x : Item) → x ∷ take n [] ≡ x ∷ []
none_taken zero x = refl
none_taken (suc n) x = refl

take_short : (n : ℕ) (xs : List Item) (x : Item) → length xs < n → take n (xs ++ x ∷ []) ≡ take n xs ++ x ∷ []
take_short zero xs x short = absurd (omega (arith, short))
take_short (suc n) [] x short = none_taken n x
take_short (suc n) (y ∷ ys) x short = ap (λ zs. y ∷ zs) (take_short n ys x (omega (arith, short)))

-- and else they are those of the list
take_full : (n : ℕ) (xs : List Item) (x : Item) → n ≤ length xs → take n (xs ++ x ∷ []) ≡ take n xs
take_full zero xs x full = refl
take_full (suc n) [] x full = absurd (omega (arith, full))
take_full (suc n) (y ∷ ys) x full = ap (λ zs. y ∷ zs) (take_full n ys x (omega (arith, full)))

take_one : (f : Item → List ℕ) (n : ℕ) (xs : List Item) (x : Item) (within : Bool) → nat_lt (length xs) n ≡ within
    → flat_map f (take n (xs ++ x ∷ [])) ≡ flat_map f (take n xs) ++ (if within then f x else [])
take_one f n xs x true h = ap (flat_map f) (take_short n xs x (ltb-true (length xs) n h)) ∙ flat_one f (take n xs) x
take_one f n xs x false h =
    ap (flat_map f) (take_full n xs x (ltb-false (length xs) n h)) ∙ sym (append-nil (flat_map f (take n xs)))

pub one_more : (form : Form) (all : Bool) (items : List Item) (item : Item)
    → flat_map (item_text form) (shown_items all (items ++ item ∷ []))
    ≡ flat_map (item_text form) (shown_items all items) ++ text_if_shown form all (length items) item
one_more form true items item = flat_one (item_text form) items item
one_more form false items item = take_one (item_text form) 100 items item (nat_lt (length items) 100) refl

-- a sheet that wrote a report, where it is one of those to be written, and counted it has got it
pub pushed : (old mid new : Sheet) (item : Item) → mid.form ≡ old.form → mid.all ≡ old.all → mid.count ≡ old.count
    → Adds old.out mid.out (text_if_shown old.form old.all old.count item)
    → new ≡ record mid { count = mid.count + 1 } → Gets old new (item ∷ [])
pushed old mid new item form all count adds is = subst (λ s. Gets old s (item ∷ [])) (sym is) (record {
  form = form;
  all = all;
  items = λ items has. let total = length-append items (item ∷ []) in let counted = has.counted in record {
    counted = omega arith;
    written = adds ∙ (ap (λ t. t ++ text_if_shown old.form old.all old.count item) has.written
        ∙ (ap (λ n. flat_map (item_text old.form) (shown_items old.all items)
        ++ text_if_shown old.form old.all n item) has.counted
        ∙ (sym (one_more old.form old.all items item)
        ∙ λ i. flat_map (item_text (sym form i)) (shown_items (sym all i) (items ++ item ∷ [])))));
  };
})
