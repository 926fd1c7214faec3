use Rattle.std.proofs.Common.{◌<◌, ◌≤◌, ◌++◌, ◌∙◌, ap, length, map, codes, string_bytes, arith, false}
use Rattle.serde_json.specs.Written.{compact_text}
use Rattle.schema_json_values.specs.TypeValues.{object_of, annotation_entry}
use Rattle.schema_json_text.specs.Members.{annotations_value}
use Rattle.schema_json_text.proofs.Slots.{adds_none, adds_some}
use Rattle.schema_json_text.proofs.Presence.{bare_key, key_annotations, notes_none, notes_some}
use Rattle.schema_json_text.proofs.annotations.push_first_annotations.Goals as goal

pub returns-then-entries-eq0 : goal.returns-then-entries-eq0
returns-then-entries-eq0 c =
    let notes = c.args.annotations.now.0 in
    let none : length notes ≤ 0 = omega (arith, c.as_slice-entries.ensures.len, c.if-entries-eq0.true) in
    adds_none false (codes "annotations") (annotations_value notes) (string_bytes c.args.out.now)
    (notes_none notes none)

pub returns : goal.returns
returns c =
    let notes = c.args.annotations.now.0 in
    let some : 0 < length notes = omega (arith, c.as_slice-entries.ensures.len, c.if-entries-eq0.false) in
    let mid = string_bytes c.push.new.out in
    adds_some false (codes "annotations") (annotations_value notes) (object_of (map annotation_entry notes))
    (string_bytes c.args.out.now) mid (string_bytes c.push_entries.new.out) (bare_key (codes "annotations"))
    (notes_some notes some) c.in_ok-push.ensures key_annotations
    (c.in_ok-push_entries.ensures
    ∙ ap (λ es. mid ++ compact_text (object_of (map annotation_entry es))) c.as_slice-entries.ensures.entries)
