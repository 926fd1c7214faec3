-- Texts in a row, as the code adds them.
use Rattle.std.specs.Prelude.{ℕ, Bool, List, ◌++◌, codes}
use Rattle.cedar_data.specs.Rows.{separator_where}
use Rattle.schema_syntax_tokens.specs.Laid.{laid}
use Rattle.cedar_names.specs.CanonicalText.{spaces}
use Rattle.schema_syntax_reader.specs.Leaves.{Notes}
use Rattle.laws_written.specs.Printed.{notes_pieces, path_pieces}
use Rattle.laws_written.specs.PrintedDecls.{bracketed}

-- the annotations on lines of their own, and how the line below them begins
abbrev pub head_text : ℕ → Notes → Bool → List ℕ → List ℕ
head_text base notes external keyword =
    laid (notes_pieces base notes) ++ (spaces base ++ (separator_where (codes "external ") external ++ keyword))

-- a line with names in brackets and a comma
abbrev pub names_line_text : ℕ → List ℕ → List (List (List ℕ)) → List ℕ
names_line_text base head names = spaces base ++ (head ++ (laid (bracketed path_pieces names) ++ codes ",\n"))
