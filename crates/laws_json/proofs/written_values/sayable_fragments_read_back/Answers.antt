use Rattle.laws_json.proofs.Back.Fragments.{fragment_back}
use Rattle.laws_json.proofs.written_values.sayable_fragments_read_back.Goals as goal

pub returns : goal.returns
returns c = λ f p. fragment_back f p
