-- Namespaces that are lent, and their order.
use Rattle.std.specs.Prelude.{ℕ, Bool, List, [], ◌∷◌, not, if◌then◌else◌}
use Rattle.std.specs.Cmp.Lexicographic.{slice_cmp}
use Rattle.std.specs.Ordering.{is_lt}
use Rattle.cedar_data.specs.Text.{text_cmp}
use Rattle.cedar_identifiers.specs.Names.{texts_of}
use Rattle.schema_build_recovered.specs.declared.names.Words.{Words}
use Rattle.schema_build_recovered.specs.declared.names.Words.TheVariants as lent

-- the texts of the words
abbrev pub words_of : Words → List (List ℕ)
words_of lent.Empty = []
words_of (lent.Some first others) = texts_of (first.now ∷ others.now)

-- whether a namespace is below the pivot, or whether it is not
abbrev pub on_side : Bool → List (List ℕ) → List (List ℕ) → Bool
on_side below pivot n =
    if below then is_lt (slice_cmp text_cmp n pivot) else not (is_lt (slice_cmp text_cmp n pivot))
