use Rattle.std.proofs.Common.{◌++◌, ◌∷◌, ◌∙◌, ap, sym, map, string_bytes, false}
use Rattle.std.proofs.lemmas.Result.{on_ok_weaker}
use Rattle.serde_json.specs.Data.{object}
use Rattle.serde_json.specs.Written.{compact_text, members_text}
use Rattle.schema_json_values.specs.TypeValues.{annotation_entry}
use Rattle.schema_json_text.specs.Members.{members_in_order}
use Rattle.schema_json_text.proofs.Words.{annotations_in_order}
use Rattle.schema_json_text.proofs.Loops.{opened, entry_step, entries_end}
use Rattle.schema_json_text.proofs.annotations.push_entries.Goals as goal

pub loop-key-init : goal.loop-key-init
loop-key-init c = opened (string_bytes c.args.out.now) (string_bytes c.push_char.new.out) _ 123
    c.in_ok-push_char.ensures

pub loop-key-preserved : goal.loop-key-preserved
loop-key-preserved c =
    let es = c.args.entries.now in
    entry_step annotation_entry es c.loop-key.key-index c.loop-key-item.result c.loop-key.later
    (string_bytes c.loop-key.out)
    (string_bytes c.args.out.now ++ 123 ∷ members_text false (members_in_order (map annotation_entry es)))
    c.as_str.result.now (string_bytes c.push_key.new.out) (string_bytes c.push_text_or_null.new.out)
    c.loop-key-test.true c.loop-key-item.is c.as_str.ensures c.in_ok-push_key.ensures
    c.in_ok-push_text_or_null.ensures c.loop-key.invariant

pub returns : goal.returns
returns c =
    let es = c.args.entries.now in
    let old = string_bytes c.args.out.now in
    on_ok_weaker c.push_char-2.result
    (λ e. entries_end annotation_entry es c.loop-key.key-index c.loop-key.later (string_bytes c.loop-key.out)
    (old ++ 123 ∷ members_text false (members_in_order (map annotation_entry es))) (string_bytes c.push_char-2.new.out)
    c.loop-key-test.false e c.loop-key.invariant
    ∙ ap (λ ms. old ++ compact_text (object ms)) (sym (annotations_in_order es c.requires)))
    c.push_char-2.ensures
