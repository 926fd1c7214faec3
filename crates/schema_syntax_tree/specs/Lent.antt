-- What a lent string stands for.
use Rattle.std.specs.Prelude.{◌≡◌, ℕ, List}
use Rattle.std.specs.Coded.{coded_list, coded_ℕ, Coded-set}
use Rattle.std.proofs.Common.{subst, ap, nat_eq, true, flat_map}
use Rattle.std.specs.Hash as fed
use Rattle.std.specs.Cmp.Lexicographic.{pointwise}
use Rattle.std.specs.Ordering.{on}
use Rattle.std.specs.Str.{encode_utf8_all}
use Rattle.std.proofs.lemmas.Bool.Decides.{Decides-eqb}
use Rattle.std.proofs.lemmas.Slice.Eq.{slice_eq-Decides}
use Rattle.std.proofs.lemmas.Str.{encodes_same}
use Rattle.std.proofs.Common.{refl}
use Rattle.std.proofs.Math.Logic.{∥∥₁_elim, ∥∥₁_prop}
use Rattle.schema_syntax_tokens.specs.Escapes.{Unescapes}
use Rattle.schema_syntax_tokens.proofs.Values.{one_value}

-- what the body of a string stands for, where it stands for something
abbrev pub IsLent : List ℕ → Type 0
IsLent body = (value : List ℕ) × ∥ Unescapes body value ∥₁

-- the body stands for nothing
abbrev pub StandsForNothing : List ℕ → Type 0
StandsForNothing body = (value : List ℕ) → Unescapes body value → ⊥

-- a body stands for one value at most
pub same_value : (body x y : List ℕ) → ∥ Unescapes body x ∥₁ → ∥ Unescapes body y ∥₁ → x ≡ y
same_value body x y p q =
    ∥∥₁_elim p (Coded-set (coded_list coded_ℕ) x y)
    (λ h. ∥∥₁_elim q (Coded-set (coded_list coded_ℕ) x y) (λ k. one_value body x y h k))

lent_from : (body x y : List ℕ) → x ≡ y → (p : ∥ Unescapes body x ∥₁) (q : ∥ Unescapes body y ∥₁)
    → (let a : IsLent body = (x, p) in a) ≡ (let b : IsLent body = (y, q) in b)
lent_from body x y e p q =
    let P : List ℕ → Type 0 = λ z. (r : ∥ Unescapes body z ∥₁)
    → (let a : IsLent body = (x, p) in a) ≡ (let b : IsLent body = (z, r) in b) in
    subst P e (λ r i. (x, ∥∥₁_prop p r i)) q

-- a body stands for one value at most, and does so in one way
pub IsLent-prop : (body : List ℕ) → IsProp (IsLent body)
IsLent-prop body a b = lent_from body a.0 b.0 (same_value body a.0 b.0 a.1 b.1) a.1 b.1

-- what a body that stands for something stands for
pub lent_value : (body : List ℕ) (s : IsLent body) (v : List ℕ) → Unescapes body v → Unescapes body s.0
lent_value body s v h = subst (λ t. Unescapes body t) (same_value body v s.0 ∣ h ∣₁ s.1) h

-- what is equal is fed alike
pub fed_alike : (x y : List ℕ) → on encode_utf8_all (pointwise nat_eq) x y ≡ true
    → flat_map fed.char x ≡ flat_map fed.char y
fed_alike x y same =
    let bytes = slice_eq-Decides Decides-eqb (encode_utf8_all x) (encode_utf8_all y)
    (pointwise nat_eq (encode_utf8_all x) (encode_utf8_all y)) refl in
    ap (flat_map fed.char) (encodes_same x y (bytes.0 same))
