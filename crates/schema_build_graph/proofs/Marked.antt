-- What is marked, as vertices are found.
use Rattle.std.proofs.Common.{◌≡◌, ◌≢◌, ℕ, ◌+◌, ◌<◌, ◌≤◌, List, [], ◌∷◌, ◌++◌, length, get_or, refl, sym, ◌∙◌, arith}
use Rattle.std.proofs.Common.{All, Contains, ◌⊎◌, inl, inr, subst}
use Rattle.std.specs.Prelude.{sum_by}
use Rattle.std.proofs.Math.ListN.{set}
use Rattle.std.proofs.lemmas.List.{length-set, get_or-set_same, get_or-set_other, length-append, get_or_append_left}
use Rattle.std.proofs.lemmas.List.Sums.{sum_by-set, sum_by-cons}
use Rattle.std.proofs.lemmas.List.Elements.{All-push, All-set, All-weaker, Contains-push, Contains-append_left}
use Rattle.std.proofs.lemmas.List.Elements.{All-contains, All-nil, All-head, All-tail}
use Rattle.std.proofs.lemmas.Grind.{common_steps, get_or_default_zero}
use Rattle.std.proofs.lemmas.Bool.{cases_lt}
use Rattle.std.proofs.lemmas.Bool.Decides.{nat_tests}
use Rattle.schema_build_graph.specs.Marks.{IsMarked, IsApart, unmarked}

at_end : (xs : List ℕ) (y i : ℕ) → i ≡ length xs → get_or (xs ++ y ∷ []) i 0 ≡ y
at_end xs y i e = grind (arith, common_steps)

-- a vertex that is marked stays marked
still_marked : (marks : List ℕ) (stamp v w : ℕ) → v < length marks → get_or marks w 0 ≡ stamp
    → get_or (set marks v stamp) w 0 ≡ stamp
still_marked marks stamp v w h e = grind (arith, common_steps)

now_marked : (marks : List ℕ) (stamp v w : ℕ) → v < length marks → get_or (set marks v stamp) w 0 ≡ stamp
    → (get_or marks w 0 ≡ stamp) ⊎ (v ≡ w)
now_marked marks stamp v w h e = elim (cases_lt v w) [
  | inl a ↦ inl (sym (get_or-set_other marks v w stamp 0 (omega arith)) ∙ e)
  | inr a ↦ elim (cases_lt w v) [
    | inl b ↦ inl (sym (get_or-set_other marks v w stamp 0 (omega arith)) ∙ e)
    | inr b ↦ inr (omega arith)
  ]
]

unmarked_stamp : (stamp : ℕ) → unmarked stamp stamp ≡ 0
unmarked_stamp stamp = grind (arith, nat_tests)

unmarked_other : (stamp m : ℕ) → m ≢ stamp → unmarked stamp m ≡ 1
unmarked_other stamp m other = grind (arith, nat_tests)

apart_push : (xs : List ℕ) (y : ℕ) → IsApart xs → (Contains xs y → ⊥) → IsApart (xs ++ y ∷ [])
apart_push xs y apart new i j hi hj same =
    let long : length (xs ++ y ∷ []) ≡ length xs + 1 = length-append xs (y ∷ []) in
    elim (cases_lt i (length xs)) [
      | inl a ↦ elim (cases_lt j (length xs)) [
        | inl b ↦ apart i j a b
            (sym (get_or_append_left xs (y ∷ []) 0 i a) ∙ same ∙ get_or_append_left xs (y ∷ []) 0 j b)
        | inr b ↦ absurd (new (
          i,
          a,
          get_or_default_zero xs i y a ∙ sym (get_or_append_left xs (y ∷ []) 0 i a) ∙ same
              ∙ at_end xs y j (omega arith),
        ))
      ]
      | inr a ↦ elim (cases_lt j (length xs)) [
        | inl b ↦ absurd (new (
          j,
          b,
          get_or_default_zero xs j y b ∙ sym (get_or_append_left xs (y ∷ []) 0 j b) ∙ sym same
              ∙ at_end xs y i (omega arith),
        ))
        | inr b ↦ omega arith
      ]
    ]

pub marked_one : (stamp : ℕ) (found marks : List ℕ) (v : ℕ) → IsMarked stamp found marks → v < length marks
    → get_or marks v 0 ≢ stamp
    → IsMarked stamp (found ++ v ∷ []) (set marks v stamp)
marked_one stamp found marks v m h other = record {
  below = All-push (λ w. w < length (set marks v stamp)) found v
      (All-weaker (λ w. w < length marks) (λ w. w < length (set marks v stamp))
      (λ w b. omega (arith, length-set marks v stamp)) found m.below)
      (omega (arith, length-set marks v stamp));
  marked = All-push (λ w. get_or (set marks v stamp) w 0 ≡ stamp) found v
      (All-weaker (λ w. get_or marks w 0 ≡ stamp) (λ w. get_or (set marks v stamp) w 0 ≡ stamp)
      (λ w e. still_marked marks stamp v w h e) found m.marked)
      (get_or-set_same marks v stamp 0 h);
  found_if = λ w b e. elim (now_marked marks stamp v w h e) [
    | inl old ↦ Contains-append_left found (v ∷ []) w (m.found_if w (omega (arith, length-set marks v stamp)) old)
    | inr new ↦ subst (λ u. Contains (found ++ v ∷ []) u) new (Contains-push found v)
  ];
  apart = apart_push found v m.apart (λ c. other (All-contains (λ w. get_or marks w 0 ≡ stamp) found v m.marked c));
  room = omega (
    arith,
    length-set marks v stamp,
    length-append found (v ∷ []),
    sum_by-set
        (unmarked stamp) marks v stamp 0 h,
    unmarked_stamp stamp,
    unmarked_other stamp
        (get_or marks v 0) other,
    m.room,
  );
  latest = All-set (λ w. w ≤ stamp) marks v stamp (omega arith) m.latest;
}

all_unmarked : (stamp : ℕ) (marks : List ℕ) → All (λ m. m < stamp) marks
    → sum_by (unmarked stamp) marks ≡ length marks
all_unmarked stamp [] fresh = refl
all_unmarked stamp (m ∷ marks) fresh =
    let head : m < stamp = All-head (λ m. m < stamp) m marks fresh in
    let rest : sum_by (unmarked stamp) marks ≡ length marks = all_unmarked stamp marks
    (All-tail (λ m. m < stamp) m marks fresh) in
    omega (arith, sum_by-cons (unmarked stamp) m marks, unmarked_other stamp m (λ e. omega arith))

pub marked_none : (stamp : ℕ) (marks : List ℕ) → All (λ m. m < stamp) marks → IsMarked stamp [] marks
marked_none stamp marks fresh = record {
  below = All-nil (λ v. v < length marks);
  marked = All-nil (λ v. get_or marks v 0 ≡ stamp);
  found_if = λ v h e. absurd (let low : get_or marks v 0 < stamp = fresh v 0 h in omega arith);
  apart = λ i j hi hj same. absurd (omega arith);
  room = omega (arith, all_unmarked stamp marks fresh);
  latest = All-weaker (λ m. m < stamp) (λ m. m ≤ stamp) (λ m h. omega arith) marks fresh;
}
