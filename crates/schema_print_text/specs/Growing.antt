-- What is added in several steps, and by the rounds of a loop: lemmas for the crates that print.
use Rattle.std.proofs.Common.{◌≡◌, ℕ, List, [], ◌∷◌, ◌++◌, refl, ap, sym, ◌∙◌, append_assoc}
use Rattle.std.proofs.lemmas.List.{append-nil}
use Rattle.std.specs.Str.{encode_utf8_all}
use Rattle.schema_syntax_tokens.specs.Laid.{Piece, piece_text, laid}
use Rattle.schema_print_text.specs.Adds.{Adds}

-- nothing is added
pub adds_nothing : (a : List ℕ) → Adds a a []
adds_nothing a = record { grown = sym (append-nil (encode_utf8_all a)) }

-- one step, and those after it
pub then : {a b c x y : List ℕ} → Adds a b x → Adds b c y → Adds a c (x ++ y)
then {a} {b} {c} {x} {y} e f =
    record { grown = f.grown ∙ ap (λ t. t ++ y) e.grown ∙ append_assoc (encode_utf8_all a) x y }

-- equal bytes are added
pub so : {a b x y : List ℕ} → Adds a b x → x ≡ y → Adds a b y
so {a} {b} {x} {y} e f = record { grown = e.grown ∙ ap (λ t. encode_utf8_all a ++ t) f }

-- with what is left, the text is what it shall be
pub record Leaves (initial text left all : List ℕ) : Type 0 where
  pub meets : encode_utf8_all text ++ left ≡ encode_utf8_all initial ++ all

pub begun : (a all : List ℕ) → Leaves a a all all
begun a all = record { meets = refl }

-- one round
pub round : {initial a b x left next all : List ℕ} → Adds a b x → Leaves initial a left all → left ≡ x ++ next
    → Leaves initial b next all
round {initial} {a} {b} {x} {left} {next} {all} e l f =
    record {
      meets = ap (λ t. t ++ next) e.grown ∙ append_assoc (encode_utf8_all a) x next
          ∙ ap (λ t. encode_utf8_all a ++ t) (sym f) ∙ l.meets;
    }

-- and the end
pub adds_all : {initial a left all : List ℕ} → Leaves initial a left all → left ≡ [] → Adds initial a all
adds_all {initial} {a} {left} {all} l e =
    record { grown = sym (append-nil (encode_utf8_all a)) ∙ ap (λ t. encode_utf8_all a ++ t) (sym e) ∙ l.meets }

pub laid_append : (ps qs : List Piece) → laid (ps ++ qs) ≡ laid ps ++ laid qs
laid_append [] qs = refl
laid_append (p ∷ ps) qs = ap (λ t. piece_text p ++ t) (laid_append ps qs)
    ∙ sym (append_assoc (piece_text p) (laid ps) (laid qs))
