-- What follows from the definitions alone.
use Rattle.std.proofs.Common.{◌≡◌, ◌≢◌, ℕ, ◌+◌, ◌<◌, ◌≤◌, List, [], ◌∷◌, ◌++◌, length, take, drop, Bool, true, false}
use Rattle.std.proofs.Common.{◌||◌, if◌then◌else◌, refl, sym, ap, ◌∙◌, subst, IsTrue, arith, inl, inr, append_assoc}
use Rattle.std.proofs.Math.Seq.{take-length}
use Rattle.std.proofs.lemmas.List.{take-append-drop, take-take}
use Rattle.std.proofs.lemmas.Bool.{cases_lt}
use Rattle.std.specs.List.{filter}
use Rattle.schema_syntax_grammar.specs.declared.token_kind.TokenKind.{TokenKind}
use Rattle.schema_syntax_grammar.specs.declared.token_kind.TokenKind.TheVariants.{End}
use Rattle.schema_syntax_grammar.specs.declared.token_kind.TheConstants.{ALL_KINDS}
use Rattle.schema_syntax_grammar.specs.Grammar.{Sentence, Viable, MayFollow, IsExpected, same_kind}
use Rattle.schema_syntax_grammar.specs.Fault.{IsFault}
use Rattle.schema_syntax_grammar.proofs.Stops.{listed}
use Rattle.schema_syntax_grammar.proofs.Accept.{kinds_equal, or_cases, kind_listed}
use Rattle.schema_syntax_grammar.proofs.Sound.{append_nil}
use Rattle.schema_syntax_grammar.proofs.Faults.{front_viable}
use Rattle.schema_syntax_grammar.proofs.Ends.{sentence_other}

-- one list of expected kinds

-- two tests that are true together are equal
same_tests : (a b : Bool) → (IsTrue a → IsTrue b) → (IsTrue b → IsTrue a) → a ≡ b
same_tests true true f g = refl
same_tests true false f g = sym (f refl)
same_tests false true f g = g refl
same_tests false false f g = refl

-- two filters by equal tests are equal
same_filters : (p q : TokenKind → Bool) (all : List TokenKind) → ((k : TokenKind) → p k ≡ q k)
    → filter p all ≡ filter q all
same_filters p q [] e = refl
same_filters p q (k ∷ all) e = rw (e k, same_filters p q all e) refl

-- kinds have one list of expected kinds
pub one_list : (kinds first second : List TokenKind) → IsExpected ALL_KINDS kinds first
    → IsExpected ALL_KINDS kinds second → first ≡ second
one_list kinds first second (p, f, e) (q, g, h) =
    e ∙ (same_filters p q ALL_KINDS
    (λ k. same_tests (p k) (q k) (λ t. (g k).1 ((f k).0 t)) (λ t. (f k).1 ((g k).0 t))) ∙ sym h)

-- something may come next

-- a part of a false choice is false
or_false : (a b : Bool) → a || b ≡ false → a ≡ false
or_false true b e = e
or_false false b e = refl

-- so is the other part
false_right : (a b : Bool) → a || b ≡ false → b ≡ false
false_right true b e = cc
false_right false b e = e

-- a kind within a list without the end is not the end
listed_middle : (a b : List TokenKind) (k : TokenKind) → listed (a ++ k ∷ b) End ≡ false → same_kind k End ≡ false
listed_middle [] b k e = or_false (same_kind k End) (listed b End) e
listed_middle (j ∷ a) b k e = listed_middle a b k (false_right (same_kind j End) (listed (a ++ k ∷ b) End) e)

-- a kind that is not the end may follow where a sentence begins so
other_follows : (kinds : List TokenKind) (k : TokenKind) → same_kind k End ≡ false → Viable (kinds ++ k ∷ [])
    → MayFollow kinds k
other_follows kinds End e v = cc
other_follows kinds k e v = v

-- some kind or the end may follow what begins a sentence
some_follows : (kinds more : List TokenKind) → Sentence (kinds ++ more) → (k : TokenKind) × MayFollow kinds k
some_follows kinds [] s = (End, subst Sentence (append_nil kinds) s)
some_follows kinds (k ∷ more) s = (
  k,
  other_follows kinds k (listed_middle kinds more k (sentence_other (kinds ++ k ∷ more) s))
      (more, subst Sentence (sym (append_assoc kinds (k ∷ []) more)) s),
)

-- a list with something kept is not empty
kept_first : (p : TokenKind → Bool) (j : TokenKind) (rest : List TokenKind) (b : Bool) → b ≡ true
    → (if b then j ∷ rest else rest) ≡ [] → ⊥
kept_first p j rest true e h = cc
kept_first p j rest false e h = cc

-- the rest of a list of which nothing is kept
none_left : (j : TokenKind) (rest : List TokenKind) (b : Bool) → (if b then j ∷ rest else rest) ≡ [] → rest ≡ []
none_left j rest true h = cc
none_left j rest false h = h

-- where the test passes for a listed kind, the filter keeps one
some_kept : (p : TokenKind → Bool) (all : List TokenKind) (k : TokenKind) → listed all k ≡ true → p k ≡ true
    → filter p all ≢ []
some_kept p [] k l t h = cc
some_kept p (j ∷ all) k l t h =
    elim (or_cases (same_kind j k) (listed all k) l) [
      | inl e ↦ kept_first p j (filter p all) (p j) (subst (λ i. p i ≡ true) (sym (kinds_equal j k e)) t) h
      | inr m ↦ some_kept p all k m t (none_left j (filter p all) (p j) h)
    ]

-- so the list of expected kinds is not empty
pub not_empty : (kinds list : List TokenKind) → Viable kinds → IsExpected ALL_KINDS kinds list → list ≢ []
not_empty kinds list v (p, f, e) h =
    let next = some_follows kinds v.0 v.1 in
    some_kept p ALL_KINDS next.0 (kind_listed next.0) ((f next.0).1 next.1) (sym e ∙ h)

-- one fault

-- of two faults none is before the other
no_further : (kinds first second : List TokenKind) (p q : ℕ) → IsFault ALL_KINDS kinds p first
    → IsFault ALL_KINDS kinds q second → p < q → ⊥
no_further kinds first second p q f g lt =
    let front = take-take (p + 1) q kinds (omega arith) in
    let v = subst Viable (sym (take-append-drop (p + 1) (take q kinds))) g.viable in
    let within = g.within in
    f.stops (omega arith) (subst Viable front
    (front_viable (take (p + 1) (take q kinds)) (drop (p + 1) (take q kinds)) v))

-- so they have one place
one_place : (kinds first second : List TokenKind) (p q : ℕ) → IsFault ALL_KINDS kinds p first
    → IsFault ALL_KINDS kinds q second → p ≡ q
one_place kinds first second p q f g =
    elim (cases_lt p q) [
      | inl lt ↦ absurd (no_further kinds first second p q f g lt)
      | inr ge ↦ elim (cases_lt q p)
          [ inl lt ↦ absurd (no_further kinds second first q p g f lt) | inr le ↦ omega (arith, ge, le) ]
    ]

-- and one list
pub same_fault : (kinds first second : List TokenKind) (p q : ℕ) → IsFault ALL_KINDS kinds p first
    → IsFault ALL_KINDS kinds q second → (p ≡ q) × (first ≡ second)
same_fault kinds first second p q f g =
    let e = one_place kinds first second p q f g in (
      e,
      one_list (take q kinds) first second
          (subst (λ i. IsExpected ALL_KINDS (take i kinds) first) e f.expected) g.expected,
    )

-- a fault at the end is one of kinds that begin a sentence
pub end_viable : (kinds list : List TokenKind) (place : ℕ) → IsFault ALL_KINDS kinds place list → length kinds ≤ place
    → Viable kinds
end_viable kinds list place f le =
    let within = f.within in
    let e : place ≡ length kinds = omega arith in
    subst Viable (ap (λ i. take i kinds) e ∙ take-length kinds) f.viable
