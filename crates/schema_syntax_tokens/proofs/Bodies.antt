-- Bodies of strings, and where the first one ends.
use Rattle.std.proofs.Common.{◌≡◌, ◌≢◌, ℕ, ◌+◌, ◌<◌, ◌≤◌, List, [], ◌∷◌, ◌++◌, length, take, drop, get_or, refl, sym}
use Rattle.std.proofs.Common.{ap, ◌∙◌, inl, inr, arith}
use Rattle.std.proofs.lemmas.List.{append_assoc, take_more, drop_more, drop_all}
use Rattle.schema_syntax_tokens.specs.Forms.{IsPlainByte, IsBody, NoBody, IsBodyEnd}

-- a body, by its pieces
pub data Body : List ℕ → Type 0 where
  none : Body []
  plain : {b : ℕ} {bs : List ℕ} → IsPlainByte b → Body bs → Body (b ∷ bs)
  escaped : {b c : ℕ} {bs : List ℕ} → b ≡ 92 → c ≢ 10 → Body bs → Body (b ∷ c ∷ bs)

pub pieces : (bs : List ℕ) → IsBody bs → Body bs
pieces [] h = none
pieces (b ∷ []) h = plain h none
pieces (b ∷ c ∷ bs) (inl h) = plain h.0 (pieces (c ∷ bs) h.1)
pieces (b ∷ c ∷ bs) (inr h) = escaped h.0 h.1 (pieces bs h.2)

pub IsBody-plain : (b : ℕ) (bs : List ℕ) → IsPlainByte b → IsBody bs → IsBody (b ∷ bs)
IsBody-plain b [] p h = p
IsBody-plain b (c ∷ bs) p h = inl (p, h)

pub IsBody-escaped : (b c : ℕ) (bs : List ℕ) → b ≡ 92 → c ≢ 10 → IsBody bs → IsBody (b ∷ c ∷ bs)
IsBody-escaped b c bs e n h = inr (e, n, h)

from_pieces : {bs : List ℕ} → Body bs → IsBody bs
from_pieces none = tt
from_pieces (plain {b} {bs} p h) = IsBody-plain b bs p (from_pieces h)
from_pieces (escaped {b} {c} {bs} e n h) = IsBody-escaped b c bs e n (from_pieces h)

append_pieces : {xs ys : List ℕ} → Body xs → Body ys → Body (xs ++ ys)
append_pieces none k = k
append_pieces (plain p h) k = plain p (append_pieces h k)
append_pieces (escaped e n h) k = escaped e n (append_pieces h k)

-- one body after another is a body
pub IsBody-append : (xs ys : List ℕ) → IsBody xs → IsBody ys → IsBody (xs ++ ys)
IsBody-append xs ys h k = from_pieces (append_pieces (pieces xs h) (pieces ys k))

-- two bodies that begin the same bytes, each before a quote, are one
same_pieces : {xs ys : List ℕ} (us vs : List ℕ) → Body xs → Body ys → xs ++ 34 ∷ us ≡ ys ++ 34 ∷ vs
    → (xs ≡ ys) × (us ≡ vs)
same_pieces us vs none none e = (refl, cc)
same_pieces us vs none (plain {b} p k) e = let h : 34 ≡ b = cc in absurd (p.0 (sym h))
same_pieces us vs none (escaped {b} p n k) e = let h : 34 ≡ b = cc in absurd (omega arith)
same_pieces us vs (plain {b} p k) none e = let h : b ≡ 34 = cc in absurd (p.0 h)
same_pieces us vs (plain {b} {bs} p k) (plain {b = c} {bs = cs} q l) e =
    let r = same_pieces us vs k l cc in let h : b ≡ c = cc in let t : bs ≡ cs = r.0 in (cc, r.1)
same_pieces us vs (plain {b} p k) (escaped {b = c} q n l) e = let h : b ≡ c = cc in absurd (p.1 (h ∙ q))
same_pieces us vs (escaped {b} p n k) none e = let h : b ≡ 34 = cc in absurd (omega arith)
same_pieces us vs (escaped {b} p n k) (plain {b = c} q l) e = let h : b ≡ c = cc in absurd (q.1 (sym h ∙ p))
same_pieces us vs (escaped {b} {c} {bs} p n k) (escaped {b = d} {c = f} {bs = ds} q m l) e =
    let r = same_pieces us vs k l cc in let h : b ≡ d = cc in let i : c ≡ f = cc in let t : bs ≡ ds = r.0 in (cc, r.1)

pub same_bodies : (xs ys us vs : List ℕ) → IsBody xs → IsBody ys → xs ++ 34 ∷ us ≡ ys ++ 34 ∷ vs
    → (xs ≡ ys) × (us ≡ vs)
same_bodies xs ys us vs h k e = same_pieces us vs (pieces xs h) (pieces ys k) e

-- where no body and quote begins
NoBody-nil : NoBody []
NoBody-nil [] after h e = cc
NoBody-nil (b ∷ bs) after h e = cc

no_plain : (b : ℕ) (bs after : List ℕ) {body : List ℕ} → IsPlainByte b → NoBody bs → Body body
    → b ∷ bs ≡ body ++ 34 ∷ after → ⊥
no_plain b bs after p n none e = let h : b ≡ 34 = cc in p.0 h
no_plain b bs after p n (plain {b = c} {bs = cs} q k) e =
    let h : bs ≡ cs ++ 34 ∷ after = cc in n cs after (from_pieces k) h
no_plain b bs after p n (escaped {b = c} q m k) e = let h : b ≡ c = cc in p.1 (h ∙ q)

pub NoBody-plain : (b : ℕ) (bs : List ℕ) → IsPlainByte b → NoBody bs → NoBody (b ∷ bs)
NoBody-plain b bs p n body after h e = no_plain b bs after p n (pieces body h) e

no_escaped : (b c : ℕ) (bs after : List ℕ) {body : List ℕ} → b ≡ 92 → NoBody bs → Body body
    → b ∷ c ∷ bs ≡ body ++ 34 ∷ after → ⊥
no_escaped b c bs after p n none e = let h : b ≡ 34 = cc in omega arith
no_escaped b c bs after p n (plain {b = d} q k) e = let h : b ≡ d = cc in q.1 (sym h ∙ p)
no_escaped b c bs after p n (escaped {b = d} {c = f} {bs = fs} q m k) e =
    let h : bs ≡ fs ++ 34 ∷ after = cc in n fs after (from_pieces k) h

pub NoBody-escaped : (b c : ℕ) (bs : List ℕ) → b ≡ 92 → NoBody bs → NoBody (b ∷ c ∷ bs)
NoBody-escaped b c bs p n body after h e = no_escaped b c bs after p n (pieces body h) e

no_lone : (b : ℕ) (after : List ℕ) {body : List ℕ} → b ≡ 92 → Body body → b ∷ [] ≡ body ++ 34 ∷ after → ⊥
no_lone b after p none e = let h : b ≡ 34 = cc in omega arith
no_lone b after p (plain {b = d} q k) e = let h : b ≡ d = cc in q.1 (sym h ∙ p)
no_lone b after p (escaped q m k) e = cc

pub NoBody-lone : (b : ℕ) → b ≡ 92 → NoBody (b ∷ [])
NoBody-lone b p body after h e = no_lone b after p (pieces body h) e

no_line_end : (b c : ℕ) (bs after : List ℕ) {body : List ℕ} → b ≡ 92 → c ≡ 10 → Body body
    → b ∷ c ∷ bs ≡ body ++ 34 ∷ after → ⊥
no_line_end b c bs after p l none e = let h : b ≡ 34 = cc in omega arith
no_line_end b c bs after p l (plain {b = d} q k) e = let h : b ≡ d = cc in q.1 (sym h ∙ p)
no_line_end b c bs after p l (escaped {b = d} {c = f} q m k) e = let h : c ≡ f = cc in m (sym h ∙ l)

pub NoBody-line_end : (b c : ℕ) (bs : List ℕ) → b ≡ 92 → c ≡ 10 → NoBody (b ∷ c ∷ bs)
NoBody-line_end b c bs p l body after h e = no_line_end b c bs after p l (pieces body h) e

-- the bytes before at are pieces, and no body begins the bytes where none begins there
pub record HasPieces (rest : List ℕ) (at : ℕ) : Type 0 where
  pub in_range : at ≤ length rest
  pub body : IsBody (take at rest)
  pub none_there : NoBody (drop at rest) → NoBody rest

pub HasPieces-none : (rest : List ℕ) → HasPieces rest 0
HasPieces-none rest = record { in_range = omega arith; body = tt; none_there = λ h. h }

pub HasPieces-plain : (rest : List ℕ) (at : ℕ) → HasPieces rest at → at < length rest → get_or rest at 0 ≢ 34
    → get_or rest at 0 ≢ 92 → HasPieces rest (at + 1)
HasPieces-plain rest at h l p q =
    record {
      in_range = omega arith;
      body = rw (take_more rest at 0 l) (IsBody-append (take at rest) (get_or rest at 0 ∷ []) h.body (p, q));
      none_there = λ n. h.none_there
          (rw (drop_more rest at 0 l) (NoBody-plain (get_or rest at 0) (drop (at + 1) rest) (p, q) n));
    }

two_more : (rest : List ℕ) (at : ℕ) → at + 1 < length rest
    → drop at rest ≡ get_or rest at 0 ∷ get_or rest (at + 1) 0 ∷ drop (at + 2) rest
two_more rest at l =
    let e : drop at rest ≡ get_or rest at 0 ∷ drop (at + 1) rest = drop_more rest at 0 (omega arith) in
    let f : drop (at + 1) rest ≡ get_or rest (at + 1) 0 ∷ drop (at + 1 + 1) rest = drop_more rest (at + 1) 0 l in
    let g : at + 1 + 1 ≡ at + 2 = omega arith in
    e ∙ ap (λ t. get_or rest at 0 ∷ t) (f ∙ ap (λ n. get_or rest (at + 1) 0 ∷ drop n rest) g)

two_taken : (rest : List ℕ) (at : ℕ) → at + 1 < length rest
    → take (at + 2) rest ≡ take at rest ++ (get_or rest at 0 ∷ get_or rest (at + 1) 0 ∷ [])
two_taken rest at l =
    let e : take (at + 1) rest ≡ take at rest ++ (get_or rest at 0 ∷ []) = take_more rest at 0 (omega arith) in
    let f : take (at + 1 + 1) rest ≡ take (at + 1) rest
    ++ (get_or rest (at + 1) 0 ∷ []) = take_more rest (at + 1) 0 l in
    let g : at + 2 ≡ at + 1 + 1 = omega arith in
    ap (λ n. take n rest) g ∙ f ∙ ap (λ t. t ++ (get_or rest (at + 1) 0 ∷ [])) e
    ∙ append_assoc (take at rest) (get_or rest at 0 ∷ []) (get_or rest (at + 1) 0 ∷ [])

pub HasPieces-escaped : (rest : List ℕ) (at : ℕ) → HasPieces rest at → at + 1 < length rest → get_or rest at 0 ≡ 92
    → get_or rest (at + 1) 0 ≢ 10 → HasPieces rest (at + 2)
HasPieces-escaped rest at h l p q =
    let one : IsBody (get_or rest at 0 ∷ get_or rest (at + 1) 0 ∷ []) = inr (p, q, tt) in
    record {
      in_range = omega arith;
      body = rw (two_taken rest at l)
          (IsBody-append (take at rest) (get_or rest at 0 ∷ get_or rest (at + 1) 0 ∷ []) h.body one);
      none_there = λ n. h.none_there
          (rw (two_more rest at l) (NoBody-escaped (get_or rest at 0) (get_or rest (at + 1) 0)
          (drop (at + 2) rest) p n));
    }

pub HasPieces-quote : (rest : List ℕ) (at : ℕ) → HasPieces rest at → at < length rest → get_or rest at 0 ≡ 34
    → IsBodyEnd rest at
HasPieces-quote rest at h l p = record { in_range = l; body = h.body; quote = p }

pub HasPieces-lone : (rest : List ℕ) (at : ℕ) → HasPieces rest at → at < length rest → length rest < at + 2
    → get_or rest at 0 ≡ 92 → NoBody rest
HasPieces-lone rest at h l m p =
    let e : drop at rest ≡ get_or rest at 0 ∷ drop (at + 1) rest = drop_more rest at 0 l in
    let f : drop (at + 1) rest ≡ [] = drop_all (at + 1) rest (omega arith) in
    h.none_there (rw (e ∙ ap (λ t. get_or rest at 0 ∷ t) f) (NoBody-lone (get_or rest at 0) p))

pub HasPieces-line_end : (rest : List ℕ) (at : ℕ) → HasPieces rest at → at + 1 < length rest → get_or rest at 0 ≡ 92
    → get_or rest (at + 1) 0 ≡ 10 → NoBody rest
HasPieces-line_end rest at h l p q =
    h.none_there (rw (two_more rest at l)
    (NoBody-line_end (get_or rest at 0) (get_or rest (at + 1) 0) (drop (at + 2) rest) p q))

pub HasPieces-all : (rest : List ℕ) (at : ℕ) → HasPieces rest at → length rest ≤ at → NoBody rest
HasPieces-all rest at h l = h.none_there (rw (drop_all at rest l) NoBody-nil)
