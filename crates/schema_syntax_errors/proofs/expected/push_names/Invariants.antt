use Rattle.std.proofs.Common.{◌≡◌, ◌++◌, map, length, codes}
use Rattle.schema_syntax_errors.specs.ExpectedText.{kind_name}
use Rattle.cedar_data.specs.Rows.{listed}
use Rattle.schema_syntax_errors.proofs.expected.push_names.Given as goal

abbrev pub invariant-loop-kind : goal.invariant-loop-kind
invariant-loop-kind l = l.text ++ listed (codes ", ") (codes " or ") (map kind_name l.left) ≡ l.initial.text
    ++ listed (codes ", ") (codes " or ") (map kind_name l.initial.left)

abbrev pub decreases-loop-kind : goal.decreases-loop-kind
decreases-loop-kind l = length l.left
