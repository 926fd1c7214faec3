-- A list that is read turn by turn.
use Rattle.std.proofs.Common.{◌≡◌, ℕ, zero, suc, ◌+◌, ◌-◌, ◌<◌, ◌≤◌, List, [], ◌∷◌, ◌++◌, Option, Some, None, refl, sym}
use Rattle.std.proofs.Common.{ap, ◌∙◌, append_assoc, arith, length, Bool, true, false}
use Rattle.std.specs.Prelude.{if◌then◌else◌}
use Rattle.std.proofs.lemmas.List.{append-nil}
use Rattle.schema_syntax_tokens.specs.declared.token.Token.{Token}
use Rattle.schema_syntax_parser.specs.declared.stop.Stop.{Stop}
use Rattle.schema_syntax_parser.specs.declared.stop.Stop.TheVariants.{Memory, Mismatch}
use Rattle.schema_syntax_parser.specs.Reading.{◌>>=◌, Fails, Read, Turn, Done, Last, More, after_turn, many_at}
use Rattle.schema_syntax_parser.specs.Reading.{with_items, separated_turn, attr_step, whole_type_step, type_at}
use Rattle.schema_syntax_parser.specs.Reading.{attrs_at, all_at, chain_turn, class_at, link_at}
use Rattle.schema_syntax_grammar.specs.Grammar.{same_kind}
use Rattle.schema_syntax_grammar.specs.declared.token_kind.TokenKind.{TokenKind}
use Rattle.schema_syntax_parser.specs.declared.syntax.AttrSyntax.{AttrSyntax}
use Rattle.schema_syntax_grammar.specs.declared.token_kind.TokenKind.TheVariants.{RBrace}

pub many_more : {A : Type 0} (turn : List Token → Option (Turn A)) (n : ℕ) (ts : List Token)
    → many_at turn (n + 1) ts ≡ turn ts >>= after_turn (many_at turn n)
unfolding many_at
many_more turn n ts = let e : n + 1 ≡ suc n = omega arith in rw e refl

-- a list that ends with its first turn has no item
pub done_at_once : {A : Type 0} (turn : List Token → Option (Turn A)) (ts rest : List Token)
    → turn ts ≡ Some (Done rest) → all_at turn ts ≡ Some ([], rest)
done_at_once turn ts rest e = many_more turn (length ts) ts ∙ rw e refl

with_with : {A : Type 0} (done : List A) (x : A) (read : Read (List A))
    → with_items (done ++ x ∷ []) read ≡ with_items done (read >>= λ r. Some (x ∷ r.0, r.1))
with_with done x None = refl
with_with done x (Some r) = ap (λ d. Some (d, r.1)) (append_assoc done (x ∷ []) r.0)

-- One turn of a loop that has read these items, with other turns to come.
module _ {A : Type 0} (done : List A) (read : Option (Turn A)) (others : List Token → Read (List A))
    (total : Read (List A)) (so_far : with_items done (read >>= after_turn others) ≡ total) where
  pub turn_fails : (e : Stop) → Fails e read → Fails e total
  turn_fails Memory f = tt
  turn_fails Mismatch f = sym so_far ∙ rw f refl

  pub turn_done : (rest : List Token) → read ≡ Some (Done rest) → total ≡ Some (done, rest)
  turn_done rest e = sym so_far ∙ rw e (ap (λ d. Some (d, rest)) (append-nil done))

  pub turn_last : (x : A) (rest : List Token) → read ≡ Some (Last x rest) → total ≡ Some (done ++ x ∷ [], rest)
  turn_last x rest e = sym so_far ∙ rw e refl

  pub turn_more : (x : A) (rest : List Token) → read ≡ Some (More x rest)
      → with_items (done ++ x ∷ []) (others rest) ≡ total
  turn_more x rest e = with_with done x (others rest) ∙ (sym (rw e refl) ∙ so_far)

-- an item that others follow, with no turn left
pub turn_out : {A : Type 0} (turn : List Token → Option (Turn A)) (done : List A) (left : ℕ) (ts : List Token)
    (total : Read (List A))
    → left ≡ 0 → with_items done (many_at turn (left + 1) ts) ≡ total
    → (x : A) (rest : List Token) → turn ts ≡ Some (More x rest) → total ≡ None
unfolding many_at
turn_out turn done left ts total z so_far x rest e = sym so_far ∙ rw (z, e) refl

-- a chain is never at its end before an item
link_goes_on : (separator : TokenKind) (t : Token) (ts after : List Token) → link_at separator t ts ≡ Done after → ⊥
link_goes_on separator t [] after e = cc
link_goes_on separator t (s ∷ ts) after e = either (same_kind separator s.kind) e
  where
    either : (b : Bool) → (if b then More t ts else Last t (s ∷ ts)) ≡ Done after → ⊥
    either true h = cc
    either false h = cc

pub chain_goes_on : (separator : TokenKind) (is : TokenKind → Bool) (ts after : List Token)
    → chain_turn separator is ts ≡ Some (Done after) → ⊥
unfolding chain_turn
chain_goes_on separator is ts after e = linked (class_at is ts) e
  where
    linked : (read : Read Token) → (read >>= λ t. Some (link_at separator t.0 t.1)) ≡ Some (Done after) → ⊥
    linked None h = cc
    linked (Some r) h = let same : link_at separator r.0 r.1 ≡ Done after = cc in
        link_goes_on separator r.0 r.1 after same

-- a list whose first turn has an item
module _ {A : Type 0} (turn : List Token → Option (Turn A)) (ts : List Token) where
  pub some_fails : (e : Stop) → Fails e (turn ts) → Fails e (all_at turn ts)
  some_fails Memory f = tt
  some_fails Mismatch f = many_more turn (length ts) ts ∙ rw f refl

  pub some_last : (x : A) (rest : List Token) → turn ts ≡ Some (Last x rest) → all_at turn ts ≡ Some (x ∷ [], rest)
  some_last x rest e = many_more turn (length ts) ts ∙ rw e refl

  module _ (x : A) (rest : List Token) (e : turn ts ≡ Some (More x rest)) where
    all_is : all_at turn ts ≡ many_at turn (length ts) rest >>= λ r. Some (x ∷ r.0, r.1)
    all_is = many_more turn (length ts) ts ∙ rw e refl

    pub some_out : length ts ≡ 0 → all_at turn ts ≡ None
    unfolding many_at
    some_out z = all_is ∙ rw z refl

    pub some_stop : (left : ℕ) → left + 1 ≡ length ts → (s : Stop) → Fails s (many_at turn (left + 1) rest)
        → Fails s (all_at turn ts)
    some_stop left n Memory f = tt
    some_stop left n Mismatch f =
        all_is ∙ (ap (λ k. many_at turn k rest >>= λ r. Some (x ∷ r.0, r.1)) (sym n) ∙ rw f refl)

    pub some_more : (left : ℕ) → left + 1 ≡ length ts → (xs : List A) (after : List Token)
        → many_at turn (left + 1) rest ≡ Some (xs, after) → all_at turn ts ≡ Some (x ∷ xs, after)
    some_more left n xs after f =
        all_is ∙ (ap (λ k. many_at turn k rest >>= λ r. Some (x ∷ r.0, r.1)) (sym n) ∙ rw f refl)

-- attributes, of which at most so many may come
pub attrs_more : (n : ℕ) (ts : List Token) → 0 < n
    → attrs_at n ts ≡ separated_turn RBrace (attr_step (type_at (n - 1))) ts >>= after_turn (attrs_at (n - 1))
unfolding attrs_at type_at
attrs_more zero ts h = absurd (omega (arith, h))
attrs_more (suc n) ts h = let e : suc n - 1 ≡ n = omega arith in rw e refl

pub attrs_none : (done : List AttrSyntax) (n : ℕ) (ts : List Token) (total : Read (List AttrSyntax)) → n ≤ 0
    → with_items done (attrs_at n ts) ≡ total → total ≡ None
unfolding attrs_at
attrs_none done zero ts total h e = sym e
attrs_none done (suc n) ts total h e = absurd (omega (arith, h))

-- a type, nested at most so deep
pub type_none : (n : ℕ) (ts : List Token) → n ≡ 0 → type_at n ts ≡ None
unfolding type_at
type_none n ts e = rw e refl

pub type_more : (n : ℕ) (ts : List Token) → (n ≡ 0 → ⊥)
    → type_at n ts ≡ whole_type_step (type_at (n - 1)) (attrs_at (n - 1)) ts
unfolding type_at attrs_at
type_more zero ts h = absurd (h refl)
type_more (suc n) ts h = let e : suc n - 1 ≡ n = omega arith in rw e refl
