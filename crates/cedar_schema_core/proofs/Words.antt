-- What the words after the program's name ask for.
use Rattle.std.proofs.Common.{◌≡◌, ℕ, ◌==◌, Bool, true, List, [], ◌∷◌, length, Option, Some, None, MatchOption, sym}
use Rattle.std.proofs.Common.{ap}
use Rattle.std.proofs.Common.{◌∙◌, ◌<◌, subst, String, Global, arith, get_or}
use Rattle.std.specs.Prelude.{map, codes, decimal, ◌≤◌}
use Rattle.std.specs.String.{string_bytes}
use Rattle.std.proofs.lemmas.Bool.Decides.{nat_tests}
use Rattle.std.specs.List.{IsFirstAndRest}
use Rattle.cedar_names.specs.declared.extension_table.ExtensionTable.{ExtensionTable}
use Rattle.schema_generate.specs.Generated.{max_size}
use Rattle.cedar_schema_core.specs.declared.command.Command.{Command}
use Rattle.cedar_schema_core.specs.declared.command.Command.TheVariants.{Recover, Generate}
use Rattle.cedar_schema_core.specs.Commands.{IsTableInOrder, IsStandard, IsSized, Asks, recover}
use Rattle.cedar_schema_core.specs.Commands.{recover_with, check, to_json, from_json, from_deprecated, generate}

-- the texts of the words are that of the first and those of the others
pub split_words : (words names : List (String Global)) (word : String Global) (first : List ℕ)
    → IsFirstAndRest words word names
    → first ≡ string_bytes word → map string_bytes words ≡ first ∷ map string_bytes names
split_words words names word first h is = ap (map string_bytes) h.0
    ∙ ap (λ text. text ∷ map string_bytes names) (sym is)

-- where no word stands behind the first
pub alone : (words names : List (String Global)) (word : String Global) (first : List ℕ) (none : Bool)
    → IsFirstAndRest words word names → first ≡ string_bytes word → none ≡ (length names == 0) → none ≡ true
    → map string_bytes words ≡ first ∷ []
alone words [] word first none h is tests t = split_words words [] word first h is
alone words (n ∷ ns) word first none h is tests t = absurd (grind (arith, nat_tests))

-- the names of these two commands begin otherwise
pub never_both : (names : List (List ℕ)) → codes "recover-with" ∷ names ≡ codes "from-deprecated" ∷ [] → ⊥
never_both names e =
    let first : 114 ≡ 102 = ap (λ (ws : List (List ℕ)). get_or (get_or ws 0 []) 0 0) e in absurd (omega (arith, first))

none_asked : (words names : List (List ℕ)) → words ≡ codes "recover-with" ∷ names
    → ((table : ExtensionTable) → IsTableInOrder names table → ⊥) → (c : Command) → Asks words c → ⊥
none_asked words names is none c (recover table e s) = cc
none_asked words names is none c (recover_with others table e o) =
    let same : others ≡ names = cc in
    none table (subst (λ ns. IsTableInOrder ns table) same o)
none_asked words names is none c (check table e s) = cc
none_asked words names is none c (to_json table e s) = cc
none_asked words names is none c (from_json table e s) = cc
none_asked words names is none c (from_deprecated table e s) = never_both names (sym is ∙ e)
none_asked words names is none c (generate size table e some small s) = cc

-- the names behind `recover-with` make a table, or there is no command
pub named_command : (words names : List (List ℕ)) (found : Option Command) → words ≡ codes "recover-with" ∷ names
    → MatchOption found ((table : ExtensionTable) → IsTableInOrder names table → ⊥)
    (λ c. (table : ExtensionTable) × (c ≡ Recover table) × IsTableInOrder names table)
    → MatchOption found ((c : Command) → Asks words c → ⊥) (Asks words)
named_command words names None is h = λ c asked. none_asked words names is h c asked
named_command words names (Some c) is h = subst (Asks words) (sym h.1) (recover_with names h.0 is h.2)

none_sized : (words sizes : List (List ℕ)) → words ≡ codes "generate" ∷ sizes
    → ((size : ℕ) → 1 ≤ size → size ≤ max_size → sizes ≡ decimal size ∷ [] → ⊥) → (c : Command) → Asks words c → ⊥
none_sized words sizes is none c (recover table e s) = cc
none_sized words sizes is none c (recover_with others table e o) = cc
none_sized words sizes is none c (check table e s) = cc
none_sized words sizes is none c (to_json table e s) = cc
none_sized words sizes is none c (from_json table e s) = cc
none_sized words sizes is none c (from_deprecated table e s) = cc
none_sized words sizes is none c (generate size table e some small s) = none size some small cc

-- the word behind `generate` says a size, or there is no command
pub sized_command : (words sizes : List (List ℕ)) (found : Option Command) → words ≡ codes "generate" ∷ sizes
    → MatchOption found ((size : ℕ) → 1 ≤ size → size ≤ max_size → sizes ≡ decimal size ∷ [] → ⊥)
    (λ c. (size : ℕ) × (table : ExtensionTable) × (c ≡ Generate size table) × (1 ≤ size) × (size ≤ max_size)
    × (sizes ≡ decimal size ∷ []) × IsStandard table)
    → MatchOption found ((c : Command) → Asks words c → ⊥) (Asks words)
sized_command words sizes None is h = λ c asked. none_sized words sizes is h c asked
sized_command words sizes (Some c) is (size, table, same, some, small, said, standard) =
    subst (Asks words) (sym same)
    (generate size table (is ∙ ap (λ w. codes "generate" ∷ w) said) some small standard)

-- the size that is asked for is one that texts are made with
pub sized : (words : List (List ℕ)) (c : Command) → Asks words c → IsSized c
sized words c (recover table e s) = tt
sized words c (recover_with names table e o) = tt
sized words c (check table e s) = tt
sized words c (to_json table e s) = tt
sized words c (from_json table e s) = tt
sized words c (from_deprecated table e s) = tt
sized words c (generate size table e some small s) = (some, small)

-- a list of one item is that item
pub one_word : {A : Type 0} (xs : List A) (x : A) → 1 ≤ length xs → length xs < 2 → x ≡ get_or xs 0 x → xs ≡ x ∷ []
one_word [] x some few is = absurd (omega arith)
one_word (y ∷ []) x some few is = ap (λ z. z ∷ []) (sym is)
one_word (y ∷ z ∷ xs) x some few is = absurd (omega arith)
