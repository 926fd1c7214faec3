use Rattle.std.specs.Cmp.{first_so, second_so}
use Rattle.std.proofs.lemmas.Bool.{and_from}
use Rattle.schema_syntax_tree.proofs.laws.annotated_items_are_equal_by_parts.Goals as goal

pub returns : goal.returns
returns g c = λ a b. (λ h. (first_so _ _ h, second_so _ _ h), λ both. and_from _ _ both.0 both.1)
