use Rattle.schema_registry.proofs.Meanings.{one_list}
use Rattle.schema_registry.proofs.laws.one_list_of_meanings.Goals as goal

pub returns : goal.returns
returns c = λ table messages all others h k.
    one_list table (λ text m n. c.one_text_meaning.ensures text table m n) _ messages all others h k
