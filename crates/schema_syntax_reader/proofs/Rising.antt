-- Tokens that follow each other, and numbers that rise.
use Rattle.std.proofs.Common.{◌≡◌, ℕ, ◌≤◌, List, [], ◌∷◌, ◌++◌, length, drop, map, sym, ap, subst, arith, length-append}
use Rattle.std.proofs.Common.{inl, inr}
use Rattle.std.specs.Prelude.{◌⊎◌}
use Rattle.std.specs.List.{All}
use Rattle.std.proofs.lemmas.List.Elements.{All-nil, All-cons, All-head, All-tail, All-weaker, All-map}
use Rattle.cedar_data.proofs.Lists.{All-front}
use Rattle.schema_syntax_tokens.specs.declared.token.Token.{Token}
use Rattle.schema_syntax_tokens.specs.Scans.{Skips, ScansFrom, Scans}
use Rattle.schema_syntax_tokens.specs.Scans as T
use Rattle.schema_syntax_reader.specs.Placed.{Rise}

pub rise_both : (u v : List Token) → Rise (u ++ v) → Rise u × Rise v
rise_both [] v h = (tt, h)
rise_both (t ∷ u) v h = let r = rise_both u v h.1 in ((All-front (λ s. t.loc.end ≤ s.loc.end) u v h.0, r.0), r.1)

-- blanks take no more than there is
skips_shorter : {rest here : List ℕ} → Skips rest here → length here ≤ length rest
skips_shorter T.none = omega arith
skips_shorter (T.more {after = after} b s) = omega (arith, skips_shorter s, ap length b.1, length-append b.0 after)

from_on : (from : ℕ) (rest : List ℕ) (ts : List Token) (at : ℕ) → ScansFrom from rest ts at
    → All (λ s. from ≤ s.loc.end) ts × Rise ts
from_on from rest [] at s = (All-nil (λ s. from ≤ s.loc.end), tt)
from_on from rest (t ∷ ts) at s =
    let n = s.2 in
    let others = from_on t.loc.end (drop s.1 s.0) ts at s.3 in
    let le : from ≤ t.loc.end = omega (arith, s.2.start, s.2.stop, skips_shorter s.2.skips) in (
      All-cons (λ x. from ≤ x.loc.end) t ts le
          (All-weaker (λ x. t.loc.end ≤ x.loc.end) (λ x. from ≤ x.loc.end) (λ x h. omega (arith, le, h)) ts others.0),
      (others.0, others.1),
    )

-- the tokens of a text follow each other
pub scans_rise : (text : List ℕ) (ts : List Token) (at : ℕ) → Scans text ts at → Rise ts
scans_rise text ts at s = (from_on 0 text ts at s).1

-- numbers, each of which is so to the later ones
abbrev pub InTurn : (ℕ → ℕ → Type 0) → List ℕ → Type 0
InTurn R [] = Unit {0}
InTurn R (n ∷ ns) = All (R n) ns × InTurn R ns

-- numbers, none of which is above a later one
abbrev pub Rises : List ℕ → Type 0
Rises = InTurn (λ n m. n ≤ m)

abbrev pub Among : ℕ → List ℕ → Type 0
Among n [] = ⊥
Among n (m ∷ ms) = (n ≡ m) ⊎ Among n ms

pub among_left : (n : ℕ) (xs ys : List ℕ) → Among n xs → Among n (xs ++ ys)
among_left n [] ys h = absurd h
among_left n (x ∷ xs) ys (inl e) = inl e
among_left n (x ∷ xs) ys (inr h) = inr (among_left n xs ys h)

pub among_right : (n : ℕ) (xs ys : List ℕ) → Among n ys → Among n (xs ++ ys)
among_right n [] ys h = h
among_right n (x ∷ xs) ys h = inr (among_right n xs ys h)

all_among : (P : ℕ → Type 0) (xs : List ℕ) (n : ℕ) → All P xs → Among n xs → P n
all_among P [] n h a = absurd a
all_among P (x ∷ xs) n h (inl e) = subst P (sym e) (All-head P x xs h)
all_among P (x ∷ xs) n h (inr a) = all_among P xs n (All-tail P x xs h) a

-- a number before another one is so to it
pub turns_apart : (R : ℕ → ℕ → Type 0) (xs ys : List ℕ) (n m : ℕ) → InTurn R (xs ++ ys) → Among n xs → Among m ys
    → R n m
turns_apart R [] ys n m r a b = absurd a
turns_apart R (x ∷ xs) ys n m r (inl e) b =
    subst (λ k. R k m) (sym e) (all_among (R x) (xs ++ ys) m r.0 (among_right m xs ys b))
turns_apart R (x ∷ xs) ys n m r (inr a) b = turns_apart R xs ys n m r.1 a b

pub turns_back : (R : ℕ → ℕ → Type 0) (xs ys : List ℕ) → InTurn R (xs ++ ys) → InTurn R ys
turns_back R [] ys r = r
turns_back R (x ∷ xs) ys r = turns_back R xs ys r.1

-- some of the items, in order
pub data Sub {A : Type 0} : List A → List A → Type 0 where
  none : Sub [] []
  skip : {xs ys : List A} (y : A) → Sub xs ys → Sub xs (y ∷ ys)
  keep : {xs ys : List A} (x : A) → Sub xs ys → Sub (x ∷ xs) (x ∷ ys)

pub sub_join : {A : Type 0} {a b c d : List A} → Sub a b → Sub c d → Sub (a ++ c) (b ++ d)
sub_join none q = q
sub_join (skip y p) q = skip y (sub_join p q)
sub_join (keep x p) q = keep x (sub_join p q)

pub sub_none : {A : Type 0} (ys : List A) → Sub [] ys
sub_none [] = none
sub_none (y ∷ ys) = skip y (sub_none ys)

pub sub_map : {A B : Type 0} (f : A → B) {xs ys : List A} → Sub xs ys → Sub (map f xs) (map f ys)
sub_map f none = none
sub_map f (skip y s) = skip (f y) (sub_map f s)
sub_map f (keep x s) = keep (f x) (sub_map f s)

sub_all : {A : Type 0} (P : A → Type 0) {xs ys : List A} → Sub xs ys → All P ys → All P xs
sub_all P none h = All-nil P
sub_all P (skip {ys = ys} y s) h = sub_all P s (All-tail P y ys h)
sub_all P (keep {xs = xs} {ys = ys} x s) h = All-cons P x xs (All-head P x ys h) (sub_all P s (All-tail P x ys h))

pub sub_rise : {xs ys : List Token} → Sub xs ys → Rise ys → Rise xs
sub_rise none r = tt
sub_rise (skip y s) r = sub_rise s r.1
sub_rise (keep x s) r = (sub_all (λ t. x.loc.end ≤ t.loc.end) s r.0, sub_rise s r.1)

pub sub_turns : (R : ℕ → ℕ → Type 0) {xs ys : List ℕ} → Sub xs ys → InTurn R ys → InTurn R xs
sub_turns R none r = tt
sub_turns R (skip y s) r = sub_turns R s r.1
sub_turns R (keep x s) r = (sub_all (R x) s r.0, sub_turns R s r.1)

pub rise_ends : (ts : List Token) → Rise ts → Rises (map (λ t. t.loc.end) ts)
rise_ends [] r = tt
rise_ends (t ∷ ts) r = (All-map (λ m. t.loc.end ≤ m) (λ s. s.loc.end) ts r.0, rise_ends ts r.1)
