use Rattle.std.proofs.Common.{ap, ◌∙◌, map, sym}
use Rattle.std.proofs.lemmas.List.{take_all}
use Rattle.std.proofs.lemmas.Result.{IfOk-weaker}
use Rattle.schema_json_values.specs.FragmentValues.{namespace_value, namespace_entry}
use Rattle.schema_json_text.specs.Members.{members_in_order}
use Rattle.schema_json_text.specs.Places.{placed_entry}
use Rattle.schema_json_text.proofs.Placing.{seen_more, put_by_text}
use Rattle.schema_json_text.proofs.fragments.by_text.Goals as goal

pub loop-name-preserved : goal.loop-name-preserved
loop-name-preserved g c =
    let names = g.N.NameText.components in
    let it = c.loop-name-item.result in
    seen_more (λ p. placed_entry names p.0 p.1.now) (namespace_entry names) c.args.entries.now c.loop-name.name-index it
    c.loop-name.placed.items c.push.new.self.items _ c.loop-name-test.true c.loop-name-item.is
    (λ i. (c.in_ok-text.ensures i, namespace_value names it.1)) c.in_ok-push.ensures.items c.loop-name.invariant

pub returns : goal.returns
returns g c =
    let names = g.N.NameText.components in
    let es = c.args.entries.now in
    let whole = c.loop-name.invariant
    ∙ ap (map (namespace_entry names)) (take_all c.loop-name.name-index es c.loop-name-test.false) in
    IfOk-weaker c.from_entries.result _ _
    (λ placed is. put_by_text (λ n. namespace_value names n.now) c.loop-name.placed.items
    (map (namespace_entry names) es) whole
    ∙ ap (λ ps. members_in_order (map (λ p. placed_entry names p.0 p.1.now) ps)) (sym is))
    c.from_entries.ensures.entries
