use Rattle.std.proofs.Common.{◌++◌, ap, sym, ◌∙◌, not, true, false, codes, string_bytes}
use Rattle.std.proofs.lemmas.Result.{on_ok_weaker}
use Rattle.json.specs.Print.{escape_byte}
use Rattle.schema_json_text.specs.Members.{member_behind, flag_value}
use Rattle.schema_json_text.proofs.types.push_optional_behind.Goals as goal

pub returns : goal.returns
unfolding escape_byte
returns c =
    let old = string_bytes c.args.out.now in
    on_ok_weaker c.push.result
    (λ e. e ∙ ap (λ b. old ++ member_behind true (codes "required") (flag_value (not b) false)) (sym c.if-required.false))
    c.push.ensures
