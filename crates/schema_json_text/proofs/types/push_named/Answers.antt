use Rattle.std.proofs.Common.{◌≡◌, ◌++◌, ◌∷◌, [], ◌∙◌, ap, not, string_bytes, append_assoc}
use Rattle.std.proofs.lemmas.Result.{on_ok_weaker}
use Rattle.json.specs.Print.{escape}
use Rattle.schema_json_text.proofs.TypeTexts.{name_written}
use Rattle.schema_json_text.proofs.types.push_named.Goals as goal

pub returns : goal.returns
returns c =
    let name = c.args.name.now in
    let first = string_bytes c.push_open.new.out in
    let named : string_bytes c.push_char.new.out ≡ first ++ (escape name ++ 34 ∷ []) =
    c.in_ok-push_char.ensures ∙ ap (λ t. t ++ 34 ∷ []) c.in_ok-push_escaped.ensures
    ∙ append_assoc first (escape name) (34 ∷ []) in
    on_ok_weaker c.push_end.result
    (λ e word is. name_written c.args.annotations.now.0 (not c.args.required) word (string_bytes c.args.out.now)
    first (string_bytes c.push_char.new.out) (string_bytes c.push_end.new.out) c.args.end.now name
    c.in_ok-push_open.ensures named e is)
    c.push_end.ensures
