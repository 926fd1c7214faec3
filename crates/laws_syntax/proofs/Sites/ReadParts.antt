-- How the parts of a derivation are gone through beside its tokens: what each part picks of its tokens, and then the
-- rest.
use Rattle.std.proofs.Common.{◌≡◌, true, false, Bool, List, [], ◌∷◌, ◌++◌, refl, ap, subst}
use Rattle.schema_syntax_grammar.specs.declared.token_kind.TokenKind.{TokenKind}
use Rattle.schema_syntax_grammar.specs.Grammar.{Kinds}
use Rattle.schema_syntax_tokens.specs.declared.token.Token.{Token}
use Rattle.schema_syntax_tokens.specs.TokenLists.{kinds_of}
use Rattle.laws_syntax.specs.Sites.Readings.{picked, AreReadings, none, text, itself}

-- Q holds of any tokens of these kinds and of what is picked of them
pub record Reads (Q : List Token → List Token → Type 0) (kinds : Kinds) (bits : List Bool) : Type 0 where
  pub read : (u : List Token) → kinds_of u ≡ kinds → Q u (picked bits u)

at_end : (Q : List Token → List Token → Type 0) → Q [] [] → (u : List Token) → kinds_of u ≡ []
    → Q u (picked [] u)
at_end Q q [] e = q
at_end Q q (t ∷ u) e = cc

-- nothing more
pub done : {Q : List Token → List Token → Type 0} → Q [] [] → Reads Q [] []
done {Q} q = record { read = at_end Q q }

-- all the tokens are those of one part
pub whole : {P Q : List Token → List Token → Type 0} {kinds : Kinds} {bits : List Bool} → Reads P kinds bits
    → ((u ts : List Token) → P u ts → Q u ts) → Reads Q kinds bits
whole {bits = bits} r f = record { read = λ u e. f u (picked bits u) (r.read u e) }

-- one token, and then the rest
module _ (Q : List Token → List Token → Type 0) (k : TokenKind) (kinds : Kinds) (bits : List Bool) where
  at_mark : ((t : Token) → t.kind ≡ k → Reads (λ v ts. Q (t ∷ v) ts) kinds bits) → (u : List Token)
      → kinds_of u ≡ k ∷ kinds → Q u (picked (false ∷ bits) u)
  at_mark f [] e = cc
  at_mark f (t ∷ u) e =
      let is : t.kind ≡ k = cc in
      let more : kinds_of u ≡ kinds = cc in
      (f t is).read u more

  at_word : ((t : Token) → t.kind ≡ k → Reads (λ v ts. Q (t ∷ v) (t ∷ ts)) kinds bits) → (u : List Token)
      → kinds_of u ≡ k ∷ kinds → Q u (picked (true ∷ bits) u)
  at_word f [] e = cc
  at_word f (t ∷ u) e =
      let is : t.kind ≡ k = cc in
      let more : kinds_of u ≡ kinds = cc in
      (f t is).read u more

-- a keyword or a mark that stands for itself, and then the rest
pub mark : {Q : List Token → List Token → Type 0} {k : TokenKind} {kinds : Kinds} {bits : List Bool}
    → ((t : Token) → t.kind ≡ k → Reads (λ v ts. Q (t ∷ v) ts) kinds bits) → Reads Q (k ∷ kinds) (false ∷ bits)
mark {Q} {k} {kinds} {bits} f = record { read = at_mark Q k kinds bits f }

-- a word or a string, and then the rest
pub word : {Q : List Token → List Token → Type 0} {k : TokenKind} {kinds : Kinds} {bits : List Bool}
    → ((t : Token) → t.kind ≡ k → Reads (λ v ts. Q (t ∷ v) (t ∷ ts)) kinds bits) → Reads Q (k ∷ kinds) (true ∷ bits)
word {Q} {k} {kinds} {bits} f = record { read = at_word Q k kinds bits f }

-- tokens of the kinds of two parts are those of the one and those of the other
record Split (u : List Token) (a b : Kinds) : Type 0 where
  left : List Token
  right : List Token
  join : left ++ right ≡ u
  first : kinds_of left ≡ a
  second : kinds_of right ≡ b

split : (a b : Kinds) (u : List Token) → kinds_of u ≡ a ++ b → Split u a b
split [] b u e = record { left = []; right = u; join = refl; first = refl; second = e }
split (k ∷ a) b [] e = cc
split (k ∷ a) b (t ∷ u) e =
    let is : t.kind ≡ k = cc in
    let more : kinds_of u ≡ a ++ b = cc in
    let s = split a b u more in
    record {
      left = t ∷ s.left;
      right = s.right;
      join = ap (λ v. t ∷ v) s.join;
      first = λ i. is i ∷ s.first i;
      second = s.second;
    }

picked_join : {c : List Bool} {a : Kinds} → AreReadings c a → (d : List Bool) (u v : List Token) → kinds_of u ≡ a
    → picked c u ++ picked d v ≡ picked (c ++ d) (u ++ v)
picked_join none d [] v e = refl
picked_join none d (t ∷ u) v e = cc
picked_join (text h r) d [] v e = cc
picked_join (text {kinds = kinds} h r) d (t ∷ u) v e =
    let more : kinds_of u ≡ kinds = cc in
    ap (λ x. t ∷ x) (picked_join r d u v more)
picked_join (itself h r) d [] v e = cc
picked_join (itself {kinds = kinds} h r) d (t ∷ u) v e =
    let more : kinds_of u ≡ kinds = cc in
    picked_join r d u v more

-- one part, and then the rest
pub part : {P Q : List Token → List Token → Type 0} {a b : Kinds} {c d : List Bool} → AreReadings c a → Reads P a c
    → ((u ts : List Token) → P u ts → Reads (λ v us. Q (u ++ v) (ts ++ us)) b d) → Reads Q (a ++ b) (c ++ d)
part {Q = Q} {a} {b} {c} {d} n r f = record {
  read = λ u e.
      let s = split a b u e in
      let here = (f s.left (picked c s.left) (r.read s.left s.first)).read s.right s.second in
      subst (λ v. Q v (picked (c ++ d) v)) s.join
      (subst (Q (s.left ++ s.right)) (picked_join n d s.left s.right s.first) here);
}
