-- Bytes begin with one message at most, so that they are one list of messages at most.
use Rattle.std.proofs.Common.{◌≡◌, ◌+◌, ◌<◌, ℕ, List, [], ◌∷◌, ◌++◌, length, refl, sym, ap, ◌∙◌, subst, arith}
use Rattle.std.proofs.Common.{length-append, take, drop, Bool, true, false, ◌==◌}
use Rattle.std.proofs.lemmas.Bool.Decides.{nat_tests}
use Rattle.std.specs.Int.{w32, to_be_bytes, from_be_bytes}
use Rattle.std.proofs.lemmas.Nat.{from_be_bytes-to_be_bytes_4}
use Rattle.std.proofs.Math.Seq.{take-append_seam, drop-append_seam}
use Rattle.cedar_messages.specs.Messages.{BeginsWith, AreMessages, none, next}

same_heads : (m n : ℕ) (xs ys : List ℕ) → to_be_bytes w32 m ++ xs ≡ to_be_bytes w32 n ++ ys
    → to_be_bytes w32 m ≡ to_be_bytes w32 n
same_heads m n xs ys e = ap (take 4) e

same_tails : (m n : ℕ) (xs ys : List ℕ) → to_be_bytes w32 m ++ xs ≡ to_be_bytes w32 n ++ ys → xs ≡ ys
same_tails m n xs ys e = ap (drop 4) e

-- the lengths before the same bytes are the same
same_lengths : (bytes m r n s : List ℕ) → BeginsWith bytes m r → BeginsWith bytes n s → length m ≡ length n
same_lengths bytes m r n s h k =
    sym (from_be_bytes-to_be_bytes_4 (length m) h.fits)
    ∙ (ap (from_be_bytes w32)
    (same_heads (length m) (length n) (m ++ r) (n ++ s) (sym h.bytes_are ∙ k.bytes_are))
    ∙ from_be_bytes-to_be_bytes_4 (length n) k.fits)

-- bytes begin with one message at most
pub one_beginning : (bytes m r n s : List ℕ) → BeginsWith bytes m r → BeginsWith bytes n s → (m ≡ n) × (r ≡ s)
one_beginning bytes m r n s h k =
    let lengths = same_lengths bytes m r n s h k in
    let bodies = same_tails (length m) (length n) (m ++ r) (n ++ s) (sym h.bytes_are ∙ k.bytes_are) in (
      sym (take-append_seam m r) ∙ (ap (take (length m)) bodies
          ∙ (ap (λ l. take l (n ++ s)) lengths ∙ take-append_seam n s)),
      sym (drop-append_seam m r) ∙ (ap (drop (length m)) bodies
          ∙ (ap (λ l. drop l (n ++ s)) lengths ∙ drop-append_seam n s)),
    )

-- bytes that begin with a message are longer than the rest
pub longer : (bytes m r : List ℕ) → BeginsWith bytes m r → length r < length bytes
longer bytes m r h =
    let all : length bytes ≡ length (to_be_bytes w32 (length m)) + length (m ++ r) =
    ap length h.bytes_are ∙ length-append (to_be_bytes w32 (length m)) (m ++ r) in
    let head : length (to_be_bytes w32 (length m)) ≡ 4 = refl in
    let both : length (m ++ r) ≡ length m + length r = length-append m r in
    omega (arith, all, head, both)

never_none : (m r : List ℕ) → BeginsWith [] m r → ⊥
never_none m r h = let k = longer [] m r h in absurd (omega (arith, k))

-- bytes are one list of messages at most
pub one_list : (bytes : List ℕ) (messages others : List (List ℕ)) → AreMessages bytes messages
    → AreMessages bytes others → messages ≡ others
one_list bytes messages others none none = refl
one_list bytes messages others none (next _ n s ns k l) = absurd (never_none n s k)
one_list bytes messages others (next _ m r ms h i) none = absurd (never_none m r h)
one_list bytes messages others (next _ m r ms h i) (next _ n s ns k l) =
    let same = one_beginning bytes m r n s h k in
    let rest = one_list r ms ns i (subst (λ x. AreMessages x ns) (sym same.1) l) in
    λ i. same.0 i ∷ rest i

-- what stands behind the first message is messages, where all is
pub behind : (bytes m r : List ℕ) (all : List (List ℕ)) → BeginsWith bytes m r → AreMessages bytes all
    → (others : List (List ℕ)) × AreMessages r others
behind bytes m r all h none = absurd (never_none m r h)
behind bytes m r all h (next _ n s ns k l) =
    (ns, subst (λ x. AreMessages x ns) (sym (one_beginning bytes m r n s h k).1) l)

-- bytes that are no message and not empty are no messages
pub stuck : (left : List ℕ) → (left ≡ [] → ⊥) → ((m r : List ℕ) → BeginsWith left m r → ⊥)
    → (messages : List (List ℕ)) → AreMessages left messages → ⊥
stuck left some begins messages none = some refl
stuck left some begins messages (next _ m r ms h i) = begins m r h

-- an empty list has no length
pub empty : (left : List ℕ) (b : Bool) → b ≡ (length left == 0) → b ≡ true → left ≡ []
empty [] b e t = refl
empty (x ∷ xs) b e t = absurd (grind (arith, nat_tests))

pub filled : (left : List ℕ) (b : Bool) → b ≡ (length left == 0) → b ≡ false → left ≡ [] → ⊥
filled [] b e f is = cc
filled (x ∷ xs) b e f is = cc
