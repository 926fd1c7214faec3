-- What is added in several steps, and by the rounds of a loop.
use Rattle.std.proofs.Common.{◌≡◌, ℕ, List, [], ◌++◌, refl, ap, sym, ◌∙◌, append_assoc, String, string_bytes}
use Rattle.std.proofs.lemmas.List.{append-nil}
use Rattle.schema_build_text.specs.Adds.{Adds}

module _ {Z : Type 0} where
  -- nothing is added
  pub adds_nothing : (a : String Z) → Adds a a []
  adds_nothing a = record { grown = sym (append-nil (string_bytes a)) }

  -- one step, and those after it
  pub then : {a b c : String Z} {x y : List ℕ} → Adds a b x → Adds b c y → Adds a c (x ++ y)
  then {a} {b} {c} {x} {y} e f =
      record { grown = f.grown ∙ ap (λ t. t ++ y) e.grown ∙ append_assoc (string_bytes a) x y }

  -- equal bytes are added
  pub so : {a b : String Z} {x y : List ℕ} → Adds a b x → x ≡ y → Adds a b y
  so {a} {b} {x} {y} e f = record { grown = e.grown ∙ ap (λ t. string_bytes a ++ t) f }

  -- with what is left, the text is what it shall be
  pub record Leaves (initial text : String Z) (left all : List ℕ) : Type 0 where
    pub meets : string_bytes text ++ left ≡ string_bytes initial ++ all

  pub begun : (a : String Z) (all : List ℕ) → Leaves a a all all
  begun a all = record { meets = refl }

  -- one round
  pub round : {initial a b : String Z} {x left next all : List ℕ} → Adds a b x → Leaves initial a left all
      → left ≡ x ++ next → Leaves initial b next all
  round {initial} {a} {b} {x} {left} {next} {all} e l f =
      let grown : string_bytes b ++ next ≡ string_bytes a ++ (x ++ next) =
      ap (λ t. t ++ next) e.grown ∙ append_assoc (string_bytes a) x next in
      record { meets = grown ∙ ap (λ t. string_bytes a ++ t) (sym f) ∙ l.meets }

  -- and the end
  pub adds_all : {initial a : String Z} {left all : List ℕ} → Leaves initial a left all → left ≡ []
      → Adds initial a all
  adds_all {initial} {a} {left} {all} l e =
      record { grown = sym (append-nil (string_bytes a)) ∙ ap (λ t. string_bytes a ++ t) (sym e) ∙ l.meets }
