use Rattle.std.proofs.Common.{not, string_bytes}
use Rattle.std.proofs.lemmas.Result.{on_ok_weaker}
use Rattle.schema_json_text.proofs.TypeTexts.{word_written}
use Rattle.schema_json_text.proofs.types.push_word.Goals as goal

pub returns : goal.returns
returns c =
    on_ok_weaker c.push_char-2.result
    (λ e. word_written c.args.annotations.now.0 (not c.args.required) c.args.word.now (string_bytes c.args.out.now)
    (string_bytes c.push_char.new.out) (string_bytes c.push_annotations.new.out)
    (string_bytes c.push_optional_ahead.new.out) (string_bytes c.push.new.out) (string_bytes c.push_quoted.new.out)
    (string_bytes c.push_char-2.new.out) c.in_ok-push_char.ensures c.in_ok-push_annotations.ensures
    c.in_ok-push_optional_ahead.ensures c.in_ok-push.ensures c.in_ok-push_quoted.ensures e)
    c.push_char-2.ensures
