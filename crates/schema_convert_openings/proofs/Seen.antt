-- Items that go into a map, one after the other, until one is there.
use Rattle.std.proofs.Common.{◌≡◌, ℕ, ◌+◌, ◌<◌, ◌≤◌, Bool, true, false, cond, List, [], ◌∷◌, ◌++◌, length, get_or}
use Rattle.std.proofs.Common.{take, drop, map, find, Option, Some, None, refl, sym, ap, ◌∙◌}
use Rattle.std.specs.declared.cmp.Ordering.{Ordering}
use Rattle.std.specs.Ordering.{is_eq}
use Rattle.std.specs.BTreeMap.{is_at}
use Rattle.std.specs.Borrow.{Bor}
use Rattle.std.specs.Cmp.{IsTotalOrder}
use Rattle.std.specs.Map.{lookup}
use Rattle.std.specs.Option.{option_or, option_map}
use Rattle.std.proofs.lemmas.List.{drop_all, map-append, take_more, drop_more}
use Rattle.std.proofs.lemmas.List.Folds.{find-append}
use Rattle.cedar_data.proofs.Orders.{equal_from, is_eq_turned}
use Rattle.cedar_data.proofs.Options.{or_none}
use Rattle.schema_convert_openings.specs.Repeats.{same_among, or_later, repeat_behind, first_repeat, both_now}

-- the entries tell of each item what the items before the place tell, and none of these is a repeat
pub record Seen {K : Type 0} (R : K → K → Ordering) (items : List K) (i : ℕ) (entries : List (K × K)) : Type 0 where
  pub seen : (q : K) → lookup (is_at (R q)) entries ≡ same_among R q (take i items)
  pub rest : repeat_behind R (take i items) (drop i items) ≡ first_repeat R items

pub begun : {K : Type 0} (R : K → K → Ordering) (items : List K) → Seen R items 0 []
begun R items = record { seen = λ q. refl; rest = refl }

take_one : {K : Type 0} (items : List K) (i : ℕ) (x : K) → i < length items → x ≡ get_or items i x
    → take (i + 1) items ≡ take i items ++ x ∷ []
take_one items i x lt e = take_more items i x lt ∙ ap (λ y. take i items ++ y ∷ []) (sym e)

drop_one : {K : Type 0} (items : List K) (i : ℕ) (x : K) → i < length items → x ≡ get_or items i x
    → drop i items ≡ x ∷ drop (i + 1) items
drop_one items i x lt e = drop_more items i x lt ∙ ap (λ y. y ∷ drop (i + 1) items) (sym e)

module _ {K : Type 0} (R : K → K → Ordering) (items : List K) where
  pub found : (i : ℕ) (entries : List (K × K)) (x y : K) → Seen R items i entries → i < length items
      → x ≡ get_or items i x → lookup (is_at (R x)) entries ≡ Some y → Some (y, x) ≡ first_repeat R items
  found i entries x y h lt e at =
      sym (ap (repeat_behind R (take i items)) (drop_one items i x lt e)
      ∙ ap (λ o. or_later o x (repeat_behind R (take i items ++ x ∷ []) (drop (i + 1) items))) (sym (h.seen x) ∙ at))
      ∙ h.rest

  pub none : (i : ℕ) (entries : List (K × K)) → Seen R items i entries → length items ≤ i
      → None ≡ first_repeat R items
  none i entries h le = sym (ap (repeat_behind R (take i items)) (drop_all i items le)) ∙ h.rest

  module _ (o : IsTotalOrder R) where
    by_test : (x q : K) (l : Option K) (b : Bool) → is_eq (R x q) ≡ b → (is_eq (R x q) ≡ true → l ≡ None)
        → cond b (Some x) l ≡ option_or l (find (is_at (R q)) (x ∷ []))
    by_test x q l true e free =
        let at : is_eq (R q x) ≡ true = is_eq_turned o q x ∙ e in
        rw (free e) (rw at refl)
    by_test x q l false e free =
        let at : is_eq (R q x) ≡ false = is_eq_turned o q x ∙ e in
        rw at (sym (or_none l))

    pub pushed : (i : ℕ) (entries entries' : List (K × K)) (x : K) → Seen R items i entries → i < length items
        → x ≡ get_or items i x → lookup (is_at (R x)) entries ≡ None
        → ((q : K) → lookup (is_at (R q)) entries' ≡ cond (is_at (R x) q) (Some x) (lookup (is_at (R q)) entries))
        → Seen R items (i + 1) entries'
    pushed i entries entries' x h lt e at into = record {
      seen = λ q.
          let same : is_eq (R x q) ≡ true
          → lookup (is_at (R q)) entries ≡ None =
          λ t. (λ j. lookup (λ k. is_eq (sym (o.congr x q k (equal_from (R x q) t)) j)) entries) ∙ at in
          into q ∙ (by_test x q (lookup (is_at (R q)) entries) (is_eq (R x q)) refl same
          ∙ (ap (λ l. option_or l (find (is_at (R q)) (x ∷ []))) (h.seen q)
          ∙ (sym (find-append (is_at (R q)) (take i items) (x ∷ []))
          ∙ ap (find (is_at (R q))) (sym (take_one items i x lt e)))));
      rest =
          ap (λ l. repeat_behind R l (drop (i + 1) items)) (take_one items i x lt e)
          ∙ (sym (ap (repeat_behind R (take i items)) (drop_one items i x lt e)
          ∙ ap (λ l. or_later l x (repeat_behind R (take i items ++ x ∷ []) (drop (i + 1) items)))
          (sym (h.seen x) ∙ at)) ∙ h.rest);
    }

-- what references point to, in place of them
module _ {T : Type 0} (cmp : T → T → Ordering) where
  found_by : (x : Bor T) (y : Bor T) (ys : List (Bor T))
      → option_map (λ (z : Bor T). z.now) (find (λ z. is_eq (cmp x.now z.now)) ys)
      ≡ find (λ z. is_eq (cmp x.now z)) (map (λ z. z.now) ys)
      → (b : Bool)
      → option_map (λ (z : Bor T). z.now) (cond b (Some y) (find (λ z. is_eq (cmp x.now z.now)) ys))
      ≡ cond b (Some y.now) (find (λ z. is_eq (cmp x.now z)) (map (λ z. z.now) ys))
  found_by x y ys h true = refl
  found_by x y ys h false = h

  found_behind : (x : Bor T) (ys : List (Bor T))
      → option_map (λ (y : Bor T). y.now) (find (λ y. is_eq (cmp x.now y.now)) ys)
      ≡ find (λ y. is_eq (cmp x.now y)) (map (λ y. y.now) ys)
  found_behind x [] = refl
  found_behind x (y ∷ ys) = found_by x y ys (found_behind x ys) (is_eq (cmp x.now y.now))

  or_later_now : (o : Option (Bor T)) (x : Bor T) (later : Option (Bor T × Bor T))
      → option_map both_now (or_later o x later)
      ≡ or_later (option_map (λ (y : Bor T). y.now) o) x.now (option_map both_now later)
  or_later_now None x later = refl
  or_later_now (Some y) x later = refl

  behind_now : (before items : List (Bor T))
      → option_map both_now (repeat_behind (λ a b. cmp a.now b.now) before items)
      ≡ repeat_behind cmp (map (λ x. x.now) before) (map (λ x. x.now) items)
  behind_now before [] = refl
  behind_now before (x ∷ xs) =
      or_later_now (same_among (λ a b. cmp a.now b.now) x before) x
      (repeat_behind (λ a b. cmp a.now b.now) (before ++ x ∷ []) xs)
      ∙ (ap (λ o. or_later o x.now (option_map both_now
      (repeat_behind (λ a b. cmp a.now b.now) (before ++ x ∷ []) xs))) (found_behind x before)
      ∙ ap (λ later. or_later (same_among cmp x.now (map (λ y. y.now) before)) x.now later)
      (behind_now (before ++ x ∷ []) xs
      ∙ ap (λ l. repeat_behind cmp l (map (λ y. y.now) xs)) (map-append (λ (y : Bor T). y.now) before (x ∷ []))))

  pub repeat_now : (items : List (Bor T))
      → option_map both_now (first_repeat (λ a b. cmp a.now b.now) items) ≡ first_repeat cmp (map (λ x. x.now) items)
  repeat_now items = behind_now [] items
