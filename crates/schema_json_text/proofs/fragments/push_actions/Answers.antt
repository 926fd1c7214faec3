use Rattle.std.proofs.Common.{◌++◌, ◌∙◌, ap, sym, string_bytes}
use Rattle.std.proofs.lemmas.Result.{on_ok_weaker}
use Rattle.serde_json.specs.Data.{object}
use Rattle.serde_json.specs.Written.{compact_text}
use Rattle.schema_json_text.proofs.Words.{actions_in_order}
use Rattle.schema_json_text.proofs.fragments.push_actions.Goals as goal

pub returns : goal.returns
returns g c =
    on_ok_weaker c.push_object.result
    (λ e. e ∙ ap (λ ms. string_bytes c.args.out.now ++ compact_text (object ms))
    (sym (actions_in_order g.N.NameText.components c.args.entries.now c.requires)))
    c.push_object.ensures
