-- What is fed of a body, character by character.
use Rattle.std.proofs.Common.{refl, ◌≡◌, ℕ, List, sym, ap, ◌∙◌, fold, flat_map}
use Rattle.std.specs.Hash as fed
use Rattle.std.specs.Hash.{fed_then}
use Rattle.schema_syntax_tokens.specs.Escapes.{Unescapes}
use Rattle.schema_syntax_tokens.specs.Values.{Begins, NoPiece}
use Rattle.schema_syntax_tokens.proofs.Gone.{value_none, value_some}

-- what the body stands for is fed but for what the rest stands for
abbrev pub IsFedTo : {S : Type 0} → (S → List ℕ → S) → S → S → List ℕ → List ℕ → Type 0
IsFedTo write old now body rest =
    (v : List ℕ) → Unescapes body v
    → (w : List ℕ) × Unescapes rest w × (fold write old (flat_map fed.char v) ≡ fold write now (flat_map fed.char w))

pub IsFedTo-more : {S : Type 0} (write : S → List ℕ → S) (old now new : S) (body rest after : List ℕ) (c : ℕ)
    → Begins rest c after → new ≡ fold write now (fed.char c)
    → IsFedTo write old now body rest → IsFedTo write old new body after
IsFedTo-more write old now new body rest after c b e f v h =
    let s = f v h in
    let t = value_some rest after s.0 c b s.1 in (
      t.0,
      t.2,
      s.2 ∙ (ap (λ w. fold write now (flat_map fed.char w)) t.1
          ∙ sym (fed_then write now new _ (fed.char c) (flat_map fed.char t.0) e refl)),
    )

pub IsFedTo-all : {S : Type 0} (write : S → List ℕ → S) (old now : S) (body rest : List ℕ) → NoPiece rest
    → IsFedTo write old now body rest
    → (v : List ℕ) → Unescapes body v → now ≡ fold write old (flat_map fed.char v)
IsFedTo-all write old now body rest n f v h =
    let s = f v h in sym (s.2 ∙ ap (λ w. fold write now (flat_map fed.char w)) (value_none rest s.0 n s.1))
