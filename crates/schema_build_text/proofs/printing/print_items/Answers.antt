use Rattle.std.proofs.lemmas.Grind.{common_steps}
use Rattle.std.proofs.Common.{◌++◌, map, refl, ap, sym, ◌∙◌, None, string_bytes, arith}
use Rattle.std.specs.Option.{option_copied}
use Rattle.std.specs.Str.{encode_utf8_all}
use Rattle.std.proofs.lemmas.List.{at_drop_all, append-nil}
use Rattle.std.proofs.lemmas.Str.{encodes-chars, IsUtf8-string_bytes}
use Rattle.schema_build_text.specs.Growing.{round, adds_all}
use Rattle.schema_build_text.specs.Items.{item_content, namespace_behind, end_text}
use Rattle.schema_build_text.proofs.Opened.{open_behind, opened}
use Rattle.schema_build_text.proofs.printing.print_items.Goals as goal

pub returns : goal.returns
returns c =
    let items = c.args.items.now in
    let behind = namespace_behind (option_copied c.loop-item.before) in
    let left = at_drop_all (λ xs. open_behind behind (map item_content xs)) items c.loop-item.item-index
    c.loop-item-test.false ∙ sym (append-nil (end_text behind)) in
    let e = adds_all (round c.in_ok-push_after.ensures c.loop-item.invariant left) refl in
    let text = c.push_after.new.text in
    λ s same. ap encode_utf8_all c.from_string.ensures ∙ encodes-chars (string_bytes text) (IsUtf8-string_bytes text)
    ∙ (e.grown ∙ (ap (λ t. t ++ open_behind None (map item_content items)) c.in_ok-text.ensures.bytes
    ∙ (ap (open_behind None) same ∙ opened s)))

pub loop-item-preserved : goal.loop-item-preserved
loop-item-preserved c = grind (arith, common_steps)
