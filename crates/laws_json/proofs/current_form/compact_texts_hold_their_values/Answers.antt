use Rattle.laws_json.proofs.Current.Written.{text_holds}
use Rattle.laws_json.proofs.current_form.compact_texts_hold_their_values.Goals as goal

pub returns : goal.returns
returns g c = λ f shallow. text_holds g.row.N.Denot g.N.NameText.components f shallow
