-- What is added in several steps, and by the rounds of a loop.
use Rattle.std.proofs.Common.{◌≡◌, ℕ, List, [], ◌++◌, refl, ap, sym, ◌∙◌, append_assoc}
use Rattle.std.proofs.lemmas.List.{append-nil}
use Rattle.schema_inclusion_shown.specs.Grown.{Adds, Leaves}

-- nothing is added
pub adds_nothing : (a : List ℕ) → Adds a a []
adds_nothing a = record { grown = sym (append-nil a) }

-- one step, and those after it
pub then : {a b c x y : List ℕ} → Adds a b x → Adds b c y → Adds a c (x ++ y)
then {a} {b} {c} {x} {y} e f = record { grown = f.grown ∙ ap (λ t. t ++ y) e.grown ∙ append_assoc a x y }

-- equal characters are added
pub so : {a b x y : List ℕ} → Adds a b x → x ≡ y → Adds a b y
so {a} {b} {x} {y} e f = record { grown = e.grown ∙ ap (λ t. a ++ t) f }

pub begun : (a all : List ℕ) → Leaves a a all all
begun a all = record { meets = refl }

-- one round
pub round : {initial a b x left next all : List ℕ} → Adds a b x → Leaves initial a left all → left ≡ x ++ next
    → Leaves initial b next all
round {initial} {a} {b} {x} {left} {next} {all} e l f =
    record {
      meets = ap (λ t. t ++ next) e.grown ∙ append_assoc a x next ∙ ap (λ t. a ++ t) (sym f) ∙ l.meets;
    }

-- and the end
pub adds_all : {initial a left all : List ℕ} → Leaves initial a left all → left ≡ [] → Adds initial a all
adds_all {initial} {a} {left} {all} l e =
    record { grown = sym (append-nil a) ∙ ap (λ t. a ++ t) (sym e) ∙ l.meets }
