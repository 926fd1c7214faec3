-- Whether a finite relation leads from one to another, by which of a list may stand in between; and an induction over
-- it.
use Rattle.std.proofs.Common.{◌≡◌, ℕ, zero, suc, ◌+◌, ◌<◌, ◌≤◌, Bool, true, false, ◌||◌, ◌&&◌, List, [], ◌∷◌, cond}
use Rattle.std.proofs.Common.{refl, sym, ap, ◌∙◌, subst, arith, Contains, inl, inr, ◌⊎◌}
use Rattle.std.specs.Bool.{Decides}
use Rattle.std.proofs.lemmas.Bool.{or_cases, or_left, or_right, and_parts, and_from}
use Rattle.schema_build_graph.specs.Paths.{Leads, Reaches}
use Rattle.schema_build_graph.proofs.Paths.{reaches_one, reaches_through}
use Rattle.laws_build.specs.Existence.Finite.{IsFinite, NoneReaches, CanInduct}

pub first_or_later : {A : Type 0} (k : A) (xs : List A) (x : A) → Contains (k ∷ xs) x → (k ≡ x) ⊎ Contains xs x
first_or_later k xs x (zero, lt, is) = inl is
first_or_later k xs x (suc i, lt, is) = inr (i, omega (arith, lt), is)

-- a path leads from a to b on which only these stand in between
abbrev pub reached : {A : Type 0} → (A → A → Bool) → List A → A → A → Bool
reached edge [] a b = edge a b
reached edge (v ∷ vs) a b = reached edge vs a b || (reached edge vs a v && reached edge vs v b)

module _ {A : Type 0} (edge : A → A → Bool) where
  one_step : (vs : List A) (a b : A) → edge a b ≡ true → reached edge vs a b ≡ true
  one_step [] a b e = e
  one_step (v ∷ vs) a b e =
      or_left (reached edge vs a b) (reached edge vs a v && reached edge vs v b) (one_step vs a b e)

  -- one more step in front, to one of these
  step_in_front : (vs : List A) (a c b : A) → edge a c ≡ true → Contains vs c → reached edge vs c b ≡ true
      → reached edge vs a b ≡ true
  step_in_front [] a c b e (k, lt, is) r = absurd (omega (arith, lt))
  step_in_front (v ∷ vs) a c b e here r =
      go (first_or_later v vs c here) (step_in_front vs a c)
      (or_cases (reached edge vs c b) (reached edge vs c v && reached edge vs v b) r)
    where
      straight : reached edge vs a b ≡ true
          → (reached edge vs a b || (reached edge vs a v && reached edge vs v b)) ≡ true
      straight h = or_left (reached edge vs a b) (reached edge vs a v && reached edge vs v b) h

      around : reached edge vs a v ≡ true → reached edge vs v b ≡ true
          → (reached edge vs a b || (reached edge vs a v && reached edge vs v b)) ≡ true
      around h k = or_right (reached edge vs a b) (reached edge vs a v && reached edge vs v b)
          (and_from (reached edge vs a v) (reached edge vs v b) h k)

      go : (v ≡ c) ⊎ Contains vs c
          → ((x : A) → edge a c ≡ true → Contains vs c → reached edge vs c x ≡ true → reached edge vs a x ≡ true)
          → (reached edge vs c b ≡ true) ⊎ ((reached edge vs c v && reached edge vs v b) ≡ true)
          → (reached edge vs a b || (reached edge vs a v && reached edge vs v b)) ≡ true
      go (inl same) step (inl on) =
          around (subst (λ x. reached edge vs a x ≡ true) (sym same) (one_step vs a c e))
          (subst (λ x. reached edge vs x b ≡ true) (sym same) on)
      go (inl same) step (inr by) =
          around (subst (λ x. reached edge vs a x ≡ true) (sym same) (one_step vs a c e))
          (and_parts (reached edge vs c v) (reached edge vs v b) by).1
      go (inr there) step (inl on) = straight (step b e there on)
      go (inr there) step (inr by) =
          let both = and_parts (reached edge vs c v) (reached edge vs v b) by in
          around (step v e there both.0) both.1

module _ {A : Type 0} (E : A → A → Type 0) (finite : IsFinite E) where
  abbrev pub leads : A → A → Bool
  leads a b = reached finite.edge finite.targets a b

  sound : (vs : List A) (a b : A) → reached finite.edge vs a b ≡ true → Reaches E a b
  sound [] a b r = reaches_one E a b ((finite.decides a b).0 r)
  sound (v ∷ vs) a b r =
      elim (or_cases (reached finite.edge vs a b) (reached finite.edge vs a v && reached finite.edge vs v b) r) [
        | inl on ↦ sound vs a b on
        | inr by ↦
            let both = and_parts (reached finite.edge vs a v) (reached finite.edge vs v b) by in
            reaches_through E a v b (sound vs a v both.0) (sound vs v b both.1)
      ]

  complete : (rest : List A) (first a b : A) → E a first → Leads E first rest b → leads a b ≡ true
  complete [] first a b e same =
      subst (λ x. leads a x ≡ true) same (one_step finite.edge finite.targets a first ((finite.decides a first).1 e))
  complete (c ∷ rest) first a b e (d, l) =
      step_in_front finite.edge finite.targets a first b ((finite.decides a first).1 e) (finite.within a first e)
      (complete rest c first b d l)

  -- whether a reaches b
  pub leads_decides : (a b : A) → Decides (leads a b) (Reaches E a b)
  leads_decides a b = (sound finite.targets a b, λ (first, rest, (e, l)). complete rest first a b e l)

  pub reached_within : (a b : A) → Reaches E a b → Contains finite.targets b
  reached_within a b (first, rest, (e, l)) = go rest first a e l
    where
      go : (rest : List A) (first a : A) → E a first → Leads E first rest b → Contains finite.targets b
      go [] first a e same = subst (Contains finite.targets) same (finite.within a first e)
      go (c ∷ rest) first a e (d, l) = go rest c first d l

-- how many pass
abbrev count : {X : Type 0} → (X → Bool) → List X → ℕ
count p [] = 0
count p (x ∷ xs) = cond (p x) 1 0 + count p xs

count_le : {X : Type 0} (p q : X → Bool) → ((x : X) → p x ≡ true → q x ≡ true) → (xs : List X)
    → count p xs ≤ count q xs
count_le p q follows [] = omega arith
count_le p q follows (x ∷ xs) =
    let more : count p xs ≤ count q xs = count_le p q follows xs in
    let one : cond (p x) 1 0 ≤ cond (q x) 1 0 = head_le (p x) (q x) (follows x) in
    omega arith
  where
    head_le : (b c : Bool) → (b ≡ true → c ≡ true) → cond b 1 0 ≤ cond c 1 0
    head_le false c h = omega arith
    head_le true true h = omega arith
    head_le true false h = absurd (let e : false ≡ true = h refl in cc)

count_less : {X : Type 0} (p q : X → Bool) → ((x : X) → p x ≡ true → q x ≡ true) → (xs : List X) (b : X)
    → Contains xs b → p b ≡ false → q b ≡ true → count p xs < count q xs
count_less p q follows [] b (k, lt, is) out in_q = absurd (omega (arith, lt))
count_less p q follows (x ∷ xs) b (zero, lt, is) out in_q =
    let more : count p xs ≤ count q xs = count_le p q follows xs in
    let off : p x ≡ false = ap p is ∙ out in
    let on : q x ≡ true = ap q is ∙ in_q in
    let low : cond {A = ℕ} (p x) 1 0 ≡ 0 = ap (λ (c : Bool). cond {A = ℕ} c 1 0) off in
    let high : cond {A = ℕ} (q x) 1 0 ≡ 1 = ap (λ (c : Bool). cond {A = ℕ} c 1 0) on in
    omega arith
count_less p q follows (x ∷ xs) b (suc k, lt, is) out in_q =
    let more : count p xs < count q xs = count_less p q follows xs b (k, omega (arith, lt), is) out in_q in
    let one : count p (x ∷ []) ≤ count q (x ∷ []) = count_le p q follows (x ∷ []) in
    omega arith

module _ {A : Type 0} (E : A → A → Type 0) (finite : IsFinite E) (none : NoneReaches E) where
  abbrev rank : A → ℕ
  rank a = count (leads E finite a) finite.targets

  falls : (a b : A) → E a b → rank b < rank a
  falls a b e =
      count_less (leads E finite b) (leads E finite a)
      (λ x r. (leads_decides E finite a x).1
      (reaches_through E a b x (reaches_one E a b e) ((leads_decides E finite b x).0 r)))
      finite.targets b (finite.within a b e) (no_round (leads E finite b b) refl)
      ((leads_decides E finite a b).1 (reaches_one E a b e))
    where
      no_round : (c : Bool) → leads E finite b b ≡ c → leads E finite b b ≡ false
      no_round true is = absurd (none b ((leads_decides E finite b b).0 is))
      no_round false is = is

  -- where nothing reaches itself, what holds of each wherever it holds of those that it leads to holds of all
  pub induct : CanInduct E
  induct P step a = go (rank a + 1) a (omega arith)
    where
      go : (n : ℕ) (a : A) → rank a < n → P a
      go zero a lt = absurd (omega arith)
      go (suc n) a lt = step a (λ b e. go n b (let less : rank b < rank a = falls a b e in omega arith))
