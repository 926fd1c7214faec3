-- What keeps a list of names from being a table, name by name.
use Rattle.std.proofs.Common.{◌≡◌, ℕ, Bool, true, false, not, ◌||◌, List, [], take, get_or, Option, Some, None}
use Rattle.std.proofs.Common.{if◌then◌else◌, refl, ap, ◌∙◌}
use Rattle.std.specs.Option.{option_or}
use Rattle.cedar_identifiers.specs.Words.{is_reserved, is_cedar}
use Rattle.cedar_data.specs.Words.{is_word}
use Rattle.cedar_names.specs.TableNames.{is_builtin, word_fault, repeats, fault_at}
use Rattle.cedar_names.specs.declared.table_error.TableError.{TableError}
use Rattle.cedar_names.specs.declared.table_error.TableError.TheVariants.{NotWord, Reserved, Builtin, Repeated}

last_test : {A : Type 0} (a b c : Bool) (x y z : A)
    → (if a then Some x else (if b then Some y else (if c then Some z else None))) ≡ None → c ≡ false
last_test true b c x y z h = cc
last_test false true c x y z h = cc
last_test false false true x y z h = cc
last_test false false false x y z h = refl

pub not_builtin : (at : ℕ) (name : List ℕ) → word_fault at name ≡ None → is_builtin name ≡ false
not_builtin at name h = last_test (not (is_word name)) (is_reserved name || is_cedar name) (is_builtin name)
    (NotWord at) (Reserved at) (Builtin at) h

-- the name at a place, by its own fault and by whether it stands before
whole : (names : List (List ℕ)) (at : ℕ) (w : Option TableError) (b : Bool) → word_fault at (get_or names at []) ≡ w
    → repeats (take at names) (get_or names at []) ≡ b
    → fault_at names at ≡ option_or w (if b then Some (Repeated at) else None)
whole names at w b e r = ap (λ x. option_or x
    (if repeats (take at names) (get_or names at []) then Some (Repeated at) else None)) e
    ∙ ap (λ x. option_or w (if x then Some (Repeated at) else None)) r

pub no_fault : (names : List (List ℕ)) (at : ℕ) → word_fault at (get_or names at []) ≡ None
    → repeats (take at names) (get_or names at []) ≡ false → fault_at names at ≡ None
no_fault names at e r = whole names at None false e r
