use Rattle.std.proofs.Common.{◌≡◌, [], ◌∷◌, ◌++◌, ap, sym, ◌∙◌}
use Rattle.std.proofs.lemmas.List.{append-nil}
use Rattle.std.proofs.lemmas.Result.{on_ok_weaker}
use Rattle.std.proofs.lemmas.Str.{chars_past_char, chars-nil}
use Rattle.std.specs.Char.{encode_utf8}
use Rattle.std.specs.Str.{chars}
use Rattle.schema_report.proofs.pushing.push_char.Goals as goal

pub returns : goal.returns
returns c =
    let one : chars c.encode_utf8.result.now ≡ c.args.c ∷ [] =
    chars_past_char c.encode_utf8.result.now [] c.args.c c.encode_utf8.utf8
    (c.encode_utf8.ensures.value ∙ sym (append-nil (encode_utf8 c.args.c)))
    ∙ ap (λ cs. c.args.c ∷ cs) chars-nil in
    on_ok_weaker c.push_str.result (λ e. e ∙ ap (λ x. c.args.out.now ++ x) one) c.push_str.ensures.ok
