use Rattle.std.proofs.lemmas.Grind.{common_steps}
use Rattle.std.proofs.Common.{rules, arith, ◌≡◌, ◌++◌, ap, sym, ◌∙◌, append_assoc, get_or, codes, refl, true, Some}
use Rattle.std.proofs.Common.{None}
use Rattle.std.proofs.lemmas.List.{at_drop_all}
use Rattle.std.proofs.lemmas.Result.{on_ok_weaker}
use Rattle.cedar_data.proofs.Sizes.{most_at}
use Rattle.cedar_names.specs.CanonicalText.{type_text, lines_text, record_text, spaces}
use Rattle.schema_build_types.specs.declared.types.Type.{size-Type}
use Rattle.schema_build_types.specs.declared.types.Type.TheVariants as built
use Rattle.schema_build_types.specs.Content.{type_content, attributes_content, names_content}
use Rattle.schema_build_types.specs.Content as said
use Rattle.schema_build_types.proofs.Contents.{long_says, string_says, any_entity_says, unknown_says, set_says}
use Rattle.schema_build_types.proofs.Contents.{record_says, entity_says, extension_says}
use Rattle.schema_build_text.specs.Growing.{then, so, begun, round, adds_all}
use Rattle.schema_build_text.specs.Readings.{plain_type, plain_attributes}
use Rattle.schema_build_text.proofs.Layers.{shown, bool_shown}
use Rattle.schema_build_text.proofs.Layers.{record_filled}
use Rattle.schema_build_text.proofs.Layers.{entry_step}
use Rattle.schema_build_text.proofs.types.+push_type.Goals as goal

pub push_type-returns-in-Never : goal.push_type-returns-in-Never
push_type-returns-in-Never t c =
    on_ok_weaker c.push-in-Never.result (λ e. so e (bool_shown c.args.base c.args.ty.now c.in-Never.is))
    c.push-in-Never.ensures

pub push_type-returns-in-String : goal.push_type-returns-in-String
push_type-returns-in-String t c =
    on_ok_weaker c.push-in-String.result
    (λ e. so e (shown c.args.base c.args.ty.now built.String said.String (codes "__cedar::String") c.in-String.is
    string_says refl)) c.push-in-String.ensures

pub push_type-returns-in_ok-push_type-in-Some : goal.push_type-returns-in_ok-push_type-in-Some
push_type-returns-in_ok-push_type-in-Some t c =
    on_ok_weaker c.push-in-Some-2.result (λ e.
    let element = c.in-Some.element in
    so
    (then c.in_ok-push-in-Some.ensures
    (then (so c.in_ok-push_type-in-Some.ensures
    (ap (λ it. type_text true c.args.base (plain_type (type_content it))) c.get.ensures))
    e))
    (shown c.args.base c.args.ty.now (built.Set (Some element)) (said.Set (type_content element)) _
    (c.in-Set.is ∙ ap built.Set c.in-Some.is) (set_says element) refl)) c.push-in-Some-2.ensures

pub push_type-returns-in_ok-push_spaces-in-None : goal.push_type-returns-in_ok-push_spaces-in-None
push_type-returns-in_ok-push_spaces-in-None t c =
    on_ok_weaker c.push-in-None-2.result (λ e.
    so (then c.in_ok-push-in-None.ensures (then c.in_ok-push_spaces-in-None.ensures e))
    (shown c.args.base c.args.ty.now (built.Set None) said.SetOfUnknown _
    (c.in-Set.is ∙ ap built.Set c.in-None.is) unknown_says
    (ap (λ t. codes "Set<{" ++ t) (sym (append_assoc (spaces c.args.base) (codes "}") (codes ">")))))) c.push-in-None-2.ensures

pub push_type-returns-in_ok-push_spaces-in-AnyEntity : goal.push_type-returns-in_ok-push_spaces-in-AnyEntity
push_type-returns-in_ok-push_spaces-in-AnyEntity t c =
    on_ok_weaker c.push-in-AnyEntity-2.result (λ e.
    so (then c.in_ok-push-in-AnyEntity.ensures
    (then c.in_ok-push_spaces-in-AnyEntity.ensures e))
    (shown c.args.base c.args.ty.now built.AnyEntity said.AnyEntity _ c.in-AnyEntity.is any_entity_says refl)) c.push-in-AnyEntity-2.ensures

pub push_type-returns-in_ok-push-in-Extension : goal.push_type-returns-in_ok-push-in-Extension
push_type-returns-in_ok-push-in-Extension t c =
    on_ok_weaker c.push-in-Extension-2.result (λ e.
    let name = c.in-Extension.name in
    so (then c.in_ok-push-in-Extension.ensures (so e c.as_str.ensures))
    (shown c.args.base c.args.ty.now (built.Extension name) (said.Ext name.id.text) _ c.in-Extension.is
    (extension_says name) refl)) c.push-in-Extension-2.ensures

pub push_type-returns-in-Long : goal.push_type-returns-in-Long
push_type-returns-in-Long t c =
    on_ok_weaker c.push.result (λ e. so e
    (shown c.args.base c.args.ty.now built.Long said.Long (codes "__cedar::Long") c.in-Long.is long_says refl))
    c.push.ensures

pub push_type-returns-in-Record : goal.push_type-returns-in-Record
push_type-returns-in-Record t c =
    let attrs = c.in-Record.attrs in
    let more = c.in-Record.more in
    on_ok_weaker c.push_record.result
    (λ e. so (so e (ap (λ es. record_text true c.args.base (plain_attributes (attributes_content es)))
    c.as_slice.ensures.entries))
    (shown c.args.base c.args.ty.now (built.Record attrs more) (said.Rec (attributes_content attrs) more) _
    c.in-Record.is (record_says attrs more) refl))
    c.push_record.ensures

pub push_type-returns-in-Entity : goal.push_type-returns-in-Entity
push_type-returns-in-Entity t c =
    let names = c.in-Entity.names in
    on_ok_weaker c.push_entity_name.result
    (λ e. so (so e (ap (λ ns. type_text true c.args.base (plain_type (said.Entity (names_content ns))))
    c.get-in-Entity.ensures))
    (shown c.args.base c.args.ty.now (built.Entity names) (said.Entity (names_content names)) _ c.in-Entity.is
    (entity_says names) refl))
    c.push_entity_name.ensures

pub push_record-returns : goal.push_record-returns
push_record-returns t c =
    on_ok_weaker c.push_members.result (λ e.
    so (then c.in_ok-push-3.ensures e)
    (record_filled c.args.base c.args.entries.now
    (sym c.is_empty.ensures ∙ c.if-is_empty.false))) c.push_members.ensures

pub push_line-returns-in-Some : goal.push_line-returns-in-Some
push_line-returns-in-Some t c = on_ok_weaker c.push.result (λ e. so e (c.in-Some.ensures c.args.base)) c.push.ensures

pub push_entries-loop-name-init : goal.push_entries-loop-name-init
push_entries-loop-name-init t c = begun c.args.text.now _

pub push_entries-loop-name-preserved : goal.push_entries-loop-name-preserved
push_entries-loop-name-preserved t c =
    round
    (then c.in_ok-push_spaces.ensures
    (then c.in_ok-push_attribute_name.ensures
    (then c.in_ok-push_mark.ensures c.in_ok-push_line.ensures)))
    c.loop-name.invariant
    (entry_step c.args.base c.in_ok-inner.inner c.args.entries.now c.loop-name.name-index c.loop-name-item.result
    c.in_ok-inner.ensures c.loop-name-test.true c.loop-name-item.is)

pub push_entries-returns : goal.push_entries-returns
push_entries-returns t c =
    adds_all c.loop-name.invariant
    (at_drop_all (λ es. lines_text true c.args.base (plain_attributes (attributes_content es))) c.args.entries.now
    c.loop-name.name-index c.loop-name-test.false)

pub push_entries-push_line-requires : goal.push_entries-push_line-requires
push_entries-push_line-requires t c =
    let it = c.loop-name-item.result in
    let le = most_at (λ p. size-Type p.0) c.args.entries.now c.loop-name.name-index it c.loop-name-test.true in
    let same : size-Type it.1.0 ≡ size-Type (get_or c.args.entries.now c.loop-name.name-index it).1.0 = ap
    (λ p. size-Type p.1.0) c.loop-name-item.is in
    (omega (arith, le, same, c.decreases), search rules)

pub push_line-returns-in_ok-push_type-in-None : goal.push_line-returns-in_ok-push_type-in-None
push_line-returns-in_ok-push_type-in-None t c = grind (arith, common_steps)

pub push_members-returns : goal.push_members-returns
push_members-returns t c = grind (arith, common_steps)

pub push_record-returns-then-is_empty : goal.push_record-returns-then-is_empty
push_record-returns-then-is_empty t c = grind (arith, common_steps)
