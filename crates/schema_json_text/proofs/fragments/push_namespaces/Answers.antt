use Rattle.std.proofs.Common.{◌++◌, ap, sym, ◌∙◌, map, string_bytes}
use Rattle.std.proofs.lemmas.Result.{on_ok_weaker}
use Rattle.serde_json.specs.Data.{object}
use Rattle.serde_json.specs.Written.{compact_text}
use Rattle.schema_json_text.specs.Members.{members_in_order}
use Rattle.schema_json_text.specs.Places.{placed_entry}
use Rattle.schema_json_text.proofs.fragments.push_namespaces.Goals as goal

pub returns : goal.returns
returns g c =
    let names = g.N.NameText.components in
    let old = string_bytes c.args.out.now in
    on_ok_weaker c.push_object.result
    (λ e. e
    ∙ ap (λ ps. old ++ compact_text (object (members_in_order (map (λ p. placed_entry names p.0 p.1.now) ps))))
    c.as_slice.ensures.entries
    ∙ ap (λ ms. old ++ compact_text (object ms)) (sym c.in_ok-placed.ensures))
    c.push_object.ensures
