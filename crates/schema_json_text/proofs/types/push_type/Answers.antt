use Rattle.std.proofs.Common.{◌++◌, ap, ◌∙◌, string_bytes}
use Rattle.std.proofs.lemmas.Result.{on_ok_weaker}
use Rattle.serde_json.specs.Data.{object}
use Rattle.serde_json.specs.Written.{compact_text}
use Rattle.schema_json_values.specs.TypeValues.{type_members, with_annotations}
use Rattle.schema_json_text.proofs.types.push_type.Goals as goal

pub returns : goal.returns
returns g c =
    let old = string_bytes c.args.out.now in
    let ms = type_members g.N.NameText.components c.args.ty.now in
    on_ok_weaker c.push_annotated.result
    (λ e. e ∙ ap (λ as_. old ++ compact_text (object (with_annotations as_ ms))) c.new-none.ensures)
    c.push_annotated.ensures
