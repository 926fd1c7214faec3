use Rattle.laws_json.proofs.Current.NoFloats.{fragment_whole}
use Rattle.laws_json.proofs.current_form.values_have_no_float.Goals as goal

pub returns : goal.returns
returns g c = λ f. fragment_whole g.row.N.Denot g.N.NameText.components f
