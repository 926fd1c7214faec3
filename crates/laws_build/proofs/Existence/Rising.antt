-- Any list has one that rises with the same members.
use Rattle.std.proofs.Common.{◌≡◌, zero, suc, Bool, true, List, [], ◌∷◌, refl, sym, ap, ◌∙◌, subst, arith}
use Rattle.std.proofs.Common.{Contains, inl, inr, ◌⊎◌, Ordering, filter, cond}
use Rattle.std.specs.declared.cmp.Ordering.TheVariants.{Less, Equal, Greater}
use Rattle.std.specs.Bool.{Decides}
use Rattle.std.specs.Cmp.{IsTotalOrder}
use Rattle.std.specs.List.{AllByRecursion}
use Rattle.std.specs.List.Sorted.{IsStrictlySortedBy}
use Rattle.std.specs.Ordering.{ordering_reverse}
use Rattle.cedar_data.proofs.Lists.{contains_first, contains_later}
use Rattle.schema_build_graph.specs.Paths.{Reaches}
use Rattle.laws_build.specs.Existence.Finite.{IsFinite, IsExact, HoldsJust, CanList, LeadsWithin, IsListedBy}
use Rattle.laws_build.proofs.Existence.Reached.{first_or_later, leads, leads_decides, reached_within}

pub every_from : {A : Type 0} (P : A → Type 0) (xs : List A) → ((x : A) → Contains xs x → P x) → AllByRecursion P xs
every_from P [] h = tt
every_from P (x ∷ xs) h = (h x (contains_first x xs), every_from P xs (λ y c. h y (contains_later x xs y c)))

every_at : {A : Type 0} (P : A → Type 0) (xs : List A) (x : A) → AllByRecursion P xs → Contains xs x → P x
every_at P [] x all (k, lt, is) = absurd (omega (arith, lt))
every_at P (y ∷ ys) x all (zero, lt, is) = subst P is all.0
every_at P (y ∷ ys) x all (suc k, lt, is) = every_at P ys x all.1 (k, omega (arith, lt), is)

module _ {A : Type 0} (R : A → A → Ordering) (total : IsTotalOrder R) where
  -- one more, where it was not
  record Inserted (x : A) (ys zs : List A) : Type 0 where
    rising : IsStrictlySortedBy R zs
    sound : (b : A) → Contains zs b → (x ≡ b) ⊎ Contains ys b
    here : Contains zs x
    kept : (b : A) → Contains ys b → Contains zs b

  pub sorted_cons : (x : A) (ys : List A) → ((y : A) → Contains ys y → R x y ≡ Less) → IsStrictlySortedBy R ys
      → IsStrictlySortedBy R (x ∷ ys)
  unfolding IsStrictlySortedBy
  sorted_cons x ys below up = (every_from (λ y. R x y ≡ Less) ys below, up)

  pub sorted_parts : (x : A) (ys : List A) → IsStrictlySortedBy R (x ∷ ys)
      → ((y : A) → Contains ys y → R x y ≡ Less) × IsStrictlySortedBy R ys
  unfolding IsStrictlySortedBy
  sorted_parts x ys up = (λ y c. every_at (λ y. R x y ≡ Less) ys y up.0 c, up.1)

  insert : (x : A) (ys : List A) → IsStrictlySortedBy R ys → ((y : A) → Contains ys y → R x y ≡ Equal → x ≡ y)
      → (zs : List A) × Inserted x ys zs
  insert x [] up exact = (
    x ∷ [],
    record {
      rising = sorted_cons x [] (λ y c. absurd (omega (arith, c.1))) up;
      sound = λ b c. first_or_later x [] b c;
      here = contains_first x [];
      kept = λ b c. contains_later x [] b c;
    },
  )
  insert x (y ∷ ys) up exact =
      go (insert x ys (sorted_parts y ys up).1 (λ z c. exact z (contains_later y ys z c))) (R x y) refl
    where
      below : (z : A) → Contains ys z → R y z ≡ Less
      below = (sorted_parts y ys up).0

      go : (zs : List A) × Inserted x ys zs → (o : Ordering) → R x y ≡ o → (zs : List A) × Inserted x (y ∷ ys) zs
      go more Less is = (
        x ∷ y ∷ ys,
        record {
          rising = sorted_cons x (y ∷ ys)
              (λ z c. less_than z (first_or_later y ys z c)) up;
          sound = λ b c. first_or_later x (y ∷ ys) b c;
          here = contains_first x (y ∷ ys);
          kept = λ b c. contains_later x (y ∷ ys) b c;
        },
      )
        where
          less_than : (z : A) → (y ≡ z) ⊎ Contains ys z → R x z ≡ Less
          less_than z (inl same) = ap (R x) (sym same) ∙ is
          less_than z (inr there) = total.trans x y z is (below z there)
      go more Equal is =
          let same : x ≡ y = exact y (contains_first y ys) is in (
            y ∷ ys,
            record {
              rising = up;
              sound = λ b c. inr c;
              here = subst (Contains (y ∷ ys)) (sym same) (contains_first y ys);
              kept = λ b c. c;
            },
          )
      go more Greater is =
          let turned : R y x ≡ Less = total.antisymm y x ∙ ap ordering_reverse is in (
            y ∷ more.0,
            record {
              rising = sorted_cons y more.0 (λ z c. later turned z (more.1.sound z c)) more.1.rising;
              sound = λ b c. found more.0 b (first_or_later y more.0 b c) (more.1.sound b);
              here = contains_later y more.0 x more.1.here;
              kept = λ b c. keep more.0 b (first_or_later y ys b c) (more.1.kept b);
            },
          )
        where
          later : R y x ≡ Less → (z : A) → (x ≡ z) ⊎ Contains ys z → R y z ≡ Less
          later turned z (inl same) = ap (R y) (sym same) ∙ turned
          later turned z (inr there) = below z there

          found : (zs : List A) (b : A) → (y ≡ b) ⊎ Contains zs b → (Contains zs b → (x ≡ b) ⊎ Contains ys b)
              → (x ≡ b) ⊎ Contains (y ∷ ys) b
          found zs b (inl same) by = inr (subst (Contains (y ∷ ys)) same (contains_first y ys))
          found zs b (inr there) by = elim (by there) [
            | inl same ↦ inl same
            | inr c ↦ inr (contains_later y ys b c)
          ]

          keep : (zs : List A) (b : A) → (y ≡ b) ⊎ Contains ys b → (Contains ys b → Contains zs b)
              → Contains (y ∷ zs) b
          keep zs b (inl same) by = subst (Contains (y ∷ zs)) same (contains_first y zs)
          keep zs b (inr there) by = contains_later y zs b (by there)

  pub none_rise : IsStrictlySortedBy R []
  unfolding IsStrictlySortedBy
  none_rise = tt

  -- a list in which the order tells members apart has one that rises with the same members
  pub rising_alike : (xs : List A)
      → ((x y : A) → Contains xs x → Contains xs y → R x y ≡ Equal → x ≡ y)
      → (ys : List A) × HoldsJust R (Contains xs) ys
  rising_alike [] exact = ([], record { rising = none_rise; just = λ a. (λ c. c, λ c. c) })
  rising_alike (x ∷ xs) exact =
      let tail = rising_alike xs (λ a b c d. exact a b (contains_later x xs a c) (contains_later x xs b d)) in
      let all = insert x tail.0 tail.1.rising
      (λ y c. exact x y (contains_first x xs) (contains_later x xs y ((tail.1.just y).0 c))) in (
        all.0,
        record {
          rising = all.1.rising;
          just = λ a. (
            λ c. into tail.0 a (all.1.sound a c) (tail.1.just a).0,
            λ c. out all.0 a (first_or_later x xs a c) all.1.here (λ d. all.1.kept a ((tail.1.just a).1 d)),
          );
        },
      )
    where
      into : (ys : List A) (a : A) → (x ≡ a) ⊎ Contains ys a → (Contains ys a → Contains xs a) → Contains (x ∷ xs) a
      into ys a (inl same) by = subst (Contains (x ∷ xs)) same (contains_first x xs)
      into ys a (inr there) by = contains_later x xs a (by there)

      out : (zs : List A) (a : A) → (x ≡ a) ⊎ Contains xs a → Contains zs x → (Contains xs a → Contains zs a)
          → Contains zs a
      out zs a (inl same) here by = subst (Contains zs) same here
      out zs a (inr there) here by = by there

-- what a test keeps
kept_by : {A : Type 0} (test : A → Bool) (xs : List A) (a : A) → Contains xs a → test a ≡ true
    → Contains (filter test xs) a
kept_by test [] a (k, lt, is) passing = absurd (omega (arith, lt))
kept_by test (x ∷ xs) a c passing = go (λ d. kept_by test xs a d passing) (test x) refl (first_or_later x xs a c)
  where
    go : (Contains xs a → Contains (filter test xs) a) → (b : Bool) → test x ≡ b → (x ≡ a) ⊎ Contains xs a
        → Contains (cond b (x ∷ filter test xs) (filter test xs)) a
    go more Bool.true on (inl same) = subst (Contains (x ∷ filter test xs)) same (contains_first x (filter test xs))
    go more Bool.true on (inr there) = contains_later x (filter test xs) a (more there)
    go more Bool.false off (inl same) =
        absurd (let e : Bool.true ≡ Bool.false = sym passing ∙ ap test (sym same) ∙ off in cc)
    go more Bool.false off (inr there) = more there

passes_kept : {A : Type 0} (test : A → Bool) (xs : List A) (a : A) → Contains (filter test xs) a → test a ≡ true
passes_kept test [] a (k, lt, is) = absurd (omega (arith, lt))
passes_kept test (x ∷ xs) a c = go (passes_kept test xs a) (test x) refl c
  where
    go : (Contains (filter test xs) a → test a ≡ true) → (b : Bool) → test x ≡ b
        → Contains (cond b (x ∷ filter test xs) (filter test xs)) a → test a ≡ true
    go more Bool.true on c = elim (first_or_later x (filter test xs) a c) [
      | inl same ↦ ap test (sym same) ∙ on
      | inr there ↦ more there
    ]
    go more Bool.false off c = more c

module _ {A : Type 0} (R : A → A → Ordering) (total : IsTotalOrder R) (exact : IsExact R) where
  -- what is decided and stands in a list can be listed
  pub decided_listed : (W : A → Type 0) (test : A → Bool) → ((a : A) → Decides (test a) (W a)) → (xs : List A)
      → ((a : A) → W a → Contains xs a) → (found : List A) × HoldsJust R W found
  decided_listed W test decides xs within =
      let all = rising_alike R total (filter test xs) (λ x y c d. exact x y) in (
        all.0,
        record {
          rising = all.1.rising;
          just = λ a. (
            λ c. (decides a).0 (passes_kept test xs a ((all.1.just a).0 c)),
            λ w. (all.1.just a).1 (kept_by test xs a (within a w) ((decides a).1 w)),
          );
        },
      )

-- what is reached can be listed
pub reached_listed : {A : Type 0} (E : A → A → Type 0) → IsFinite E → CanList E
reached_listed E finite R total exact a =
    decided_listed R total exact (Reaches E a) (leads E finite a) (leads_decides E finite a) finite.targets
    (reached_within E finite a)

-- the same of a test
pub reached_by_test : {A : Type 0} (edge : A → A → Bool) (targets : List A) (R : A → A → Ordering)
    → LeadsWithin edge targets → IsTotalOrder R → IsExact R → IsListedBy edge R
reached_by_test edge targets R within total exact =
    reached_listed (λ x y. edge x y ≡ true)
    (record { edge = edge; decides = λ a b. (λ e. e, λ e. e); targets = targets; within = within }) R total exact
