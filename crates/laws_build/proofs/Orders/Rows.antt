-- Rows of faults that hold together.
use Rattle.std.proofs.Common.{◌≡◌, inl, inr, Bool, true, false, cond, List, [], ◌∷◌, ◌++◌, map, filter, Ordering, refl}
use Rattle.std.proofs.Common.{sym, ap, ◌∙◌}
use Rattle.std.specs.List.{AllByRecursion}
use Rattle.std.specs.Ordering.{is_lt}
use Rattle.schema_build_errors.specs.declared.schema_error.SchemaError.{SchemaError}
use Rattle.schema_build_checks.specs.Least.{IsFirstLeast}
use Rattle.schema_build_checks.specs.Rows.{Never}
use Rattle.schema_build_scope.specs.Rows.{OrElse}
use Rattle.schema_build_hierarchy.specs.Rows.{IsLeastAmong}
use Rattle.laws_build.proofs.Orders.Seen.{matched}

-- where the one row gives an error, the other gives one
abbrev pub Follows : (SchemaError → Type 0) → (SchemaError → Type 0) → Type 0
Follows row other = (e : SchemaError) → row e → (d : SchemaError) × other d

pub record HoldTogether (row other : SchemaError → Type 0) : Type 0 where
  pub there : Follows row other
  pub back : Follows other row

pub or_together : (a b c d : SchemaError → Type 0) → HoldTogether a b → HoldTogether c d
    → HoldTogether (OrElse a c) (OrElse b d)
or_together a b c d first behind = record {
  there = either a b c d first.there first.back behind.there;
  back = either b a d c first.back first.there behind.back;
}
  where
    either : (a b c d : SchemaError → Type 0) → Follows a b → Follows b a → Follows c d
        → Follows (OrElse a c) (OrElse b d)
    either a b c d to from on e (inl h) = let (x, k) = to e h in (x, inl k)
    either a b c d to from on e (inr (n, h)) =
        let (x, k) = on e h in
        (x, inr ((λ y r. let (z, q) = from y r in n z q), k))

pub never_too : (a b : SchemaError → Type 0) → Follows b a → Never a → Never b
never_too a b from n e h = let (x, k) = from e h in n x k

-- the least of lists that are seen the same
module _ {A B : Type 0} (seen : A → B) where
  pub record IsSplit (before behind : List A) (x : A) (ys : List A) : Type 0 where
    pub front : List A
    pub item : A
    pub back : List A
    pub whole : ys ≡ front ++ item ∷ back
    pub fronts : map seen before ≡ map seen front
    pub items : seen x ≡ seen item
    pub backs : map seen behind ≡ map seen back

  behind_one : (b y : A) (before behind : List A) (x : A) (ys : List A) → seen b ≡ seen y → IsSplit before behind x ys
      → IsSplit (b ∷ before) behind x (y ∷ ys)
  behind_one b y before behind x ys first rest = record {
    front = y ∷ rest.front;
    item = rest.item;
    back = rest.back;
    whole = ap (λ l. y ∷ l) rest.whole;
    fronts = (λ i. first i ∷ rest.fronts i);
    items = rest.items;
    backs = rest.backs;
  }

  split_too : (before behind : List A) (x : A) (ys : List A) → map seen (before ++ x ∷ behind) ≡ map seen ys
      → IsSplit before behind x ys
  split_too [] behind x [] e = absurd (cc)
  split_too [] behind x (y ∷ ys) e =
      record { front = []; item = y; back = ys; whole = refl; fronts = refl; items = cc; backs = cc }
  split_too (b ∷ before) behind x [] e = absurd (cc)
  split_too (b ∷ before) behind x (y ∷ ys) e =
      let first : seen b ≡ seen y = cc in
      let others : map seen (before ++ x ∷ behind) ≡ map seen ys = cc in
      behind_one b y before behind x ys first (split_too before behind x ys others)

  pub all_too : (P Q : A → Type 0) → ((a b : A) → seen a ≡ seen b → P a → Q b) → (xs ys : List A)
      → map seen xs ≡ map seen ys → AllByRecursion P xs → AllByRecursion Q ys
  all_too P Q step [] [] e h = tt
  all_too P Q step [] (y ∷ ys) e h = absurd (cc)
  all_too P Q step (x ∷ xs) [] e h = absurd (cc)
  all_too P Q step (x ∷ xs) (y ∷ ys) e h =
      let first : seen x ≡ seen y = cc in
      let others : map seen xs ≡ map seen ys = cc in
      (step x y first h.0, all_too P Q step xs ys others h.1)

  module _ (R : A → A → Ordering) (S : B → B → Ordering)
      (agree : (a b : A) → R a b ≡ S (seen a) (seen b)) where
    pub order_too : (a b c d : A) → seen a ≡ seen b → seen c ≡ seen d → R a c ≡ R b d
    order_too a b c d e h = agree a c ∙ ((λ i. S (e i) (h i)) ∙ sym (agree b d))

    pub first_least_too : (xs ys : List A) → map seen xs ≡ map seen ys → (x : A) → IsFirstLeast R xs x
        → (y : A) × IsFirstLeast R ys y × (seen x ≡ seen y)
    first_least_too xs ys e x least =
        let split = split_too least.before least.behind x ys (ap (map seen) (sym least.among) ∙ e) in (
          split.item,
          record {
            before = split.front;
            behind = split.back;
            among = split.whole;
            greater = all_too (λ z. is_lt (R x z) ≡ true) (λ z. is_lt (R split.item z) ≡ true)
                (λ a b same h. ap is_lt (sym (order_too x split.item a b split.items same)) ∙ h) least.before
                split.front split.fronts least.greater;
            not_less = all_too (λ z. is_lt (R z x) ≡ false) (λ z. is_lt (R z split.item) ≡ false)
                (λ a b same h. ap is_lt (sym (order_too a b x split.item same split.items)) ∙ h) least.behind
                split.back split.backs least.not_less;
          },
          split.items,
        )

  module _ {N : Type 0} (order : N → N → Bool) (name : A → N)
      (agree : (a b c d : A) → seen a ≡ seen b → seen c ≡ seen d
      → order (name a) (name c) ≡ order (name b) (name d)) where
    pub least_too : (P Q : A → Type 0) → ((a b : A) → seen a ≡ seen b → P a → Q b)
        → ((a b : A) → seen a ≡ seen b → Q b → P a) → (xs ys : List A) → map seen xs ≡ map seen ys → (x : A)
        → IsLeastAmong order name P xs x → (y : A) × IsLeastAmong order name Q ys y × (seen x ≡ seen y)
    least_too P Q to from xs ys e x least =
        let (y, cy, same) = matched seen xs ys e x least.among in (
          y,
          record {
            among = cy;
            passes_too = to x y same least.passes_too;
            none_less = (λ z c q.
                let (w, cw, alike) = matched seen ys xs (sym e) z c in
                agree z w y x alike (sym same) ∙ least.none_less w cw (from w z (sym alike) q));
          },
          same,
        )

  pub filter_too : (p q : A → Bool) → ((a b : A) → seen a ≡ seen b → p a ≡ q b) → (xs ys : List A)
      → map seen xs ≡ map seen ys → map seen (filter p xs) ≡ map seen (filter q ys)
  filter_too p q step [] [] e = refl
  filter_too p q step [] (y ∷ ys) e = absurd (cc)
  filter_too p q step (x ∷ xs) [] e = absurd (cc)
  filter_too p q step (x ∷ xs) (y ∷ ys) e =
      let first : seen x ≡ seen y = cc in
      let others : map seen xs ≡ map seen ys = cc in
      let rest = filter_too p q step xs ys others in
      by_case (p x) (q y) (step x y first) first rest
    where
      by_case : (b c : Bool) → b ≡ c → seen x ≡ seen y → map seen (filter p xs) ≡ map seen (filter q ys)
          → map seen (cond b (x ∷ filter p xs) (filter p xs)) ≡ map seen (cond c (y ∷ filter q ys) (filter q ys))
      by_case true true e first rest = λ i. first i ∷ rest i
      by_case false false e first rest = rest
      by_case true false e first rest = absurd (cc)
      by_case false true e first rest = absurd (cc)
