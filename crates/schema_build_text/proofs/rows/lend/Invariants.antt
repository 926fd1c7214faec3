use Rattle.std.proofs.Common.{◌≡◌, ◌++◌, map}
use Rattle.cedar_data.specs.NonEmpty.{items_left}
use Rattle.schema_build_text.proofs.rows.lend.Given as goal

abbrev pub invariant-loop-name : goal.invariant-loop-name
invariant-loop-name l = map (λ n. n.now) l.lent.items ++ items_left l.name-iterator ≡ l.names
