use Rattle.std.proofs.Common.{◌≡◌, ◌∙◌, subst, List, ℕ, IfOk}
use Rattle.std.proofs.lemmas.Str.{chars-IsAscii}
use Rattle.cedar_schema_core_faults.proofs.numbers.number_text.Goals as goal

pub returns-clause-text : goal.returns-clause-text
returns-clause-text c =
    subst (λ (x : List ℕ). IfOk c.from_str.result (λ text. text ≡ x))
    (chars-IsAscii c.format.result.now c.format.ensures.ascii ∙ c.format.ensures.text) c.from_str.ensures
