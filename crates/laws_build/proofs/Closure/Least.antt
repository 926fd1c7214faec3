-- Where there is an item, there is a least one.
use Rattle.std.proofs.Common.{◌≡◌, true, false, List, [], ◌∷◌, ◌++◌, Contains, Ordering, refl, sym, ap, ◌∙◌, subst}
use Rattle.std.proofs.Common.{inl}
use Rattle.std.proofs.Common.{inr, true≢false}
use Rattle.std.specs.declared.cmp.Ordering.TheVariants.{Less, Equal, Greater}
use Rattle.std.specs.Cmp.{IsTotalOrder}
use Rattle.std.specs.List.{AllByRecursion}
use Rattle.std.specs.Ordering.{is_lt, ordering_reverse}
use Rattle.std.proofs.lemmas.Bool.{cases_Bool}
use Rattle.std.proofs.lemmas.Cmp.{tied_itself}
use Rattle.cedar_data.proofs.Lists.{contains_first, contains_later}
use Rattle.schema_build_checks.specs.Least.{IsFirstLeast}
use Rattle.schema_build_hierarchy.specs.Rows.{IsLeastAmong}
use Rattle.schema_build_hierarchy.proofs.Once.{contains_cases}
use Rattle.laws_build.proofs.Closure.Lists.{has_none}

is_less : (c : Ordering) → is_lt c ≡ true → c ≡ Less
is_less Less e = refl
is_less Equal e = absurd (true≢false (sym e))
is_less Greater e = absurd (true≢false (sym e))

module _ {A : Type 0} {R : A → A → Ordering} (o : IsTotalOrder R) where
  not_itself : (x : A) → is_lt (R x x) ≡ false
  not_itself x = ap is_lt (tied_itself o x)

  not_after : (l z : A) → is_lt (R l z) ≡ true → is_lt (R z l) ≡ false
  not_after l z h = ap is_lt (o.antisymm z l ∙ ap ordering_reverse (is_less (R l z) h))

  -- what is not below l is not below what l is not below
  not_below : (l x z : A) → is_lt (R l x) ≡ false → is_lt (R z l) ≡ false → is_lt (R z x) ≡ false
  not_below l x z h k = by_case (R z x) (R z l) refl refl
    where
      by_case : (c d : Ordering) → R z x ≡ c → R z l ≡ d → is_lt (R z x) ≡ false
      by_case Equal d e f = ap is_lt e
      by_case Greater d e f = ap is_lt e
      by_case Less Less e f = absurd (true≢false (sym (ap is_lt f) ∙ k))
      by_case Less Equal e f = ap is_lt (o.congr z l x f) ∙ h
      by_case Less Greater e f =
          let below : R l z ≡ Less = o.antisymm l z ∙ ap ordering_reverse f in
          absurd (true≢false (sym (ap is_lt (o.trans l z x below e)) ∙ h))

  all_around : (l x : A) (before behind : List A) → is_lt (R l x) ≡ false
      → AllByRecursion (λ y. is_lt (R l y) ≡ true) before → AllByRecursion (λ y. is_lt (R y l) ≡ false) behind
      → AllByRecursion (λ z. is_lt (R z x) ≡ false) (before ++ l ∷ behind)
  all_around l x [] [] h g n = (h, tt)
  all_around l x [] (z ∷ zs) h g n =
      let rest = all_around l x [] zs h g n.1 in
      (h, (not_below l x z h n.0, rest.1))
  all_around l x (z ∷ zs) behind h g n =
      (not_below l x z h (not_after l z g.0), all_around l x zs behind h g.1 n)

  some_least : (x : A) (xs : List A) → (l : A) × IsFirstLeast R (x ∷ xs) l
  some_least x [] = (x, record { before = []; behind = []; among = refl; greater = tt; not_less = tt })
  some_least x (y ∷ ys) = with_head x y ys (some_least y ys)
    where
      with_head : (x y : A) (ys : List A) → (l : A) × IsFirstLeast R (y ∷ ys) l
          → (l : A) × IsFirstLeast R (x ∷ y ∷ ys) l
      with_head x y ys (l, is) = elim (cases_Bool (is_lt (R l x))) [
        | inl lt ↦ (
          l,
          record {
            before = x ∷ is.before;
            behind = is.behind;
            among = ap (λ zs. x ∷ zs) is.among;
            greater = (lt, is.greater);
            not_less = is.not_less;
          },
        )
        | inr ge ↦ (
          x,
          record {
            before = [];
            behind = y ∷ ys;
            among = refl;
            greater = tt;
            not_less = subst (AllByRecursion (λ z. is_lt (R z x) ≡ false)) (sym is.among)
                (all_around l x is.before is.behind ge is.greater is.not_less);
          },
        )
      ]

  -- a list without a least item is empty
  pub none_least : (xs : List A) → ((l : A) → IsFirstLeast R xs l → ⊥) → xs ≡ []
  none_least [] none = refl
  none_least (x ∷ xs) none = absurd (let (l, is) = some_least x xs in none l is)

  -- where no item that passes is least, none passes
  module _ {D : Type 0} (name : D → A) (passes : D → Type 0) where
    abbrev Least : List D → D → Type 0
    Least ds x = IsLeastAmong (λ a b. is_lt (R a b)) name passes ds x

    module _ (d : D) (ds : List D) (none : (x : D) → Least (d ∷ ds) x → ⊥)
        (rest : ((x : D) → Least ds x → ⊥) → (y : D) → Contains ds y → passes y → ⊥) where
      lesser : passes d → (l : D) → Least ds l → ⊥
      lesser p l is = elim (cases_Bool (is_lt (R (name l) (name d)))) [
        | inl lt ↦ none l (record {
          among = contains_later d ds l is.among;
          passes_too = is.passes_too;
          none_less = λ z c q. elim (contains_cases d ds z c) [
            | inl same ↦ subst (λ w. is_lt (R (name w) (name l)) ≡ false) same (not_after (name l) (name d) lt)
            | inr there ↦ is.none_less z there q
          ];
        })
        | inr ge ↦ none d (record {
          among = contains_first d ds;
          passes_too = p;
          none_less = λ z c q. elim (contains_cases d ds z c) [
            | inl same ↦ subst (λ w. is_lt (R (name w) (name d)) ≡ false) same (not_itself (name d))
            | inr there ↦ not_below (name l) (name d) (name z) ge (is.none_less z there q)
          ];
        })
      ]

      head : passes d → ⊥
      head p = none d (record {
        among = contains_first d ds;
        passes_too = p;
        none_less = λ z c q. elim (contains_cases d ds z c) [
          | inl same ↦ subst (λ w. is_lt (R (name w) (name d)) ≡ false) same (not_itself (name d))
          | inr there ↦ absurd (rest (λ l is. lesser p l is) z there q)
        ];
      })

      skipped : (l : D) → Least ds l → ⊥
      skipped l is = none l (record {
        among = contains_later d ds l is.among;
        passes_too = is.passes_too;
        none_less = λ z c q. elim (contains_cases d ds z c) [
          | inl same ↦ absurd (head (subst passes (sym same) q))
          | inr there ↦ is.none_less z there q
        ];
      })

      next : (y : D) → Contains (d ∷ ds) y → passes y → ⊥
      next y c q = elim (contains_cases d ds y c) [
        | inl same ↦ head (subst passes (sym same) q)
        | inr there ↦ rest skipped y there q
      ]

    pub none_passes : (ds : List D) → ((x : D) → Least ds x → ⊥) → (y : D) → Contains ds y → passes y → ⊥
    none_passes [] none y c q = has_none y c
    none_passes (d ∷ ds) none y c q = next d ds none (none_passes ds) y c q
