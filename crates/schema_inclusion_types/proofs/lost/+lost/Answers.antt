use Rattle.std.proofs.Common.{rules, arith, ◌≡◌, ◌+◌, ◌≤◌, drop, length, Option, Some, None, true, ◌∙◌, sym, ap, get_or}
use Rattle.std.specs.BTreeMap.{is_at}
use Rattle.std.specs.Map.{lookup}
use Rattle.std.specs.Option.{option_copied, option_map}
use Rattle.std.proofs.lemmas.Result.{IfOk-weaker}
use Rattle.cedar_data.proofs.Sizes.{most_at}
use Rattle.cedar_data.specs.Text.{text_cmp}
use Rattle.cedar_names.specs.Meaning.{PlainType, no_more}
use Rattle.schema_build_types.proofs.Contents.{long_says, string_says, any_entity_says, unknown_says, record_says}
use Rattle.schema_build_types.proofs.Contents.{extension_says}
use Rattle.schema_build_types.specs.declared.types.Type.{size-Type}
use Rattle.schema_build_types.specs.declared.types.Type.TheVariants as built
use Rattle.schema_inclusion_values.specs.Checks.{lost_value, lost_fields, lost_record, or_more, all_required}
use Rattle.schema_inclusion_values.specs.Checks.{entries_with}
use Rattle.schema_inclusion_values.specs.Seen.{value_of}
use Rattle.schema_inclusion_values.specs.Values.{Val, Rec}
use Rattle.schema_inclusion_types.specs.Ids.{id_in, lost_in}
use Rattle.schema_inclusion_types.specs.Kinds.{plain, plain_attrs, kind_type}
use Rattle.schema_inclusion_types.specs.LostAttributes.{lost_to}
use Rattle.schema_inclusion_types.proofs.Found.{AllBelow, below_behind, entries_split, fields_step, default_at}
use Rattle.schema_inclusion_types.proofs.Layers.{said_as, truth_said}
use Rattle.schema_inclusion_types.proofs.lost.+lost.Goals as goal

pub lost_record-lost_attribute-requires : goal.lost_record-lost_attribute-requires
lost_record-lost_attribute-requires t c =
    let it = c.index-old-at-in-loop-at.result in
    let le = most_at (λ p. size-Type p.0) c.args.old.now c.loop-at.at it c.loop-at-test.true in
    let same : size-Type it.1.0 ≡ size-Type (get_or c.args.old.now c.loop-at.at it).1.0 = ap
    (λ p. size-Type p.1.0) c.index-old-at-in-loop-at.is in
    (omega (arith, le, same, c.decreases), search rules)

pub lost_record-returns-in-Some : goal.lost_record-returns-in-Some
lost_record-returns-in-Some t c =
    let id = id_in c.args.ids.now.rows in
    let lost = lost_in c.args.ids.now.rows in
    let olds = c.args.old.now in
    let os = plain_attrs olds in
    let news = c.args.new.now in
    let at = c.loop-at.at in
    let d = get_or olds at c.index-old-at.result in
    let is : d ≡ get_or olds at d = default_at olds at c.index-old-at.result d c.loop-at-test.true in
    let v = value_of c.in-Some.value in
    let behind = lost_fields id lost os (plain_attrs (drop (at + 1) olds)) (plain_attrs news) in
    let found : lost_to id lost (plain d.1.0) (lookup (is_at (text_cmp d.0)) news) ≡ Some v =
    ap (lost_to id lost (plain d.1.0)) (sym c.seek-place.ensures.value)
    ∙ (ap (λ x. lost_to id lost (plain x.1.0) (option_copied c.seek-place.result.1))
    (default_at olds at c.index-old-at.result c.index-old-at-in-loop-at.result c.loop-at-test.true)
    ∙ (sym c.in_ok-value.ensures ∙ ap (option_map value_of) c.in-Some.is)) in
    let fields : lost_fields id lost os os (plain_attrs news) ≡ Some (Rec (entries_with id d.0 v os)) =
    c.loop-at.invariant.rest ∙ (fields_step id lost os news olds at d c.loop-at-test.true is
    ∙ ap (λ o. or_more id lost (option_map (λ w. Rec (entries_with id d.0 w os)) o) behind) found) in
    let all : all_required os (plain_attrs news) ≡ true =
    sym c.all_required.ensures ∙ c.if-not-all_required.false in
    ap (λ e. Some (Rec e)) (c.in_ok-entries_with.ensures
    ∙ sym (entries_split id v olds at d c.requires.old_sorted c.loop-at-test.true is))
    ∙ sym (λ i. lost_record id lost os (all i) (fields i))

pub lost_record-loop-at-preserved : goal.lost_record-loop-at-preserved
lost_record-loop-at-preserved t c =
    let id = id_in c.args.ids.now.rows in
    let lost = lost_in c.args.ids.now.rows in
    let olds = c.args.old.now in
    let os = plain_attrs olds in
    let news = c.args.new.now in
    let at = c.loop-at.at in
    let d = get_or olds at c.index-old-at.result in
    let is : d ≡ get_or olds at d = default_at olds at c.index-old-at.result d c.loop-at-test.true in
    let behind = lost_fields id lost os (plain_attrs (drop (at + 1) olds)) (plain_attrs news) in
    let found : lost_to id lost (plain d.1.0) (lookup (is_at (text_cmp d.0)) news) ≡ None =
    ap (lost_to id lost (plain d.1.0)) (sym c.seek-place.ensures.value)
    ∙ (ap (λ x. lost_to id lost (plain x.1.0) (option_copied c.seek-place.result.1))
    (default_at olds at c.index-old-at.result c.index-old-at-in-loop-at.result c.loop-at-test.true)
    ∙ (sym c.in_ok-value.ensures ∙ ap (option_map value_of) c.in_default.is)) in
    record {
      within = c.seek-place.ensures.within;
      below = below_behind news olds c.seek-place.result.0 at d c.requires.old_sorted c.loop-at-test.true is
          c.seek-place.ensures.below;
      rest = c.loop-at.invariant.rest ∙ (fields_step id lost os news olds at d c.loop-at-test.true is
          ∙ ap (λ o. or_more id lost (option_map (λ w. Rec (entries_with id d.0 w os)) o) behind) found);
    }

pub lost_to_kind-returns-in-Never : goal.lost_to_kind-returns-in-Never
lost_to_kind-returns-in-Never t c =
    let id = id_in c.args.ids.now.rows in
    let lost = lost_in c.args.ids.now.rows in
    c.lost_truth.ensures id lost
    ∙ ap (λ p. lost_value id lost p (kind_type c.args.new.now)) (sym (truth_said c.args.old.now c.in-Never.is))

pub lost_to_kind-returns-in-Long : goal.lost_to_kind-returns-in-Long
lost_to_kind-returns-in-Long t c =
    let id = id_in c.args.ids.now.rows in
    let lost = lost_in c.args.ids.now.rows in
    c.lost_number.ensures id lost
    ∙ ap (λ p. lost_value id lost p (kind_type c.args.new.now))
    (sym (said_as c.args.old.now built.Long _ c.in-Long.is long_says))

pub lost_to_kind-returns-in-String : goal.lost_to_kind-returns-in-String
lost_to_kind-returns-in-String t c =
    let id = id_in c.args.ids.now.rows in
    let lost = lost_in c.args.ids.now.rows in
    c.lost_text.ensures id lost
    ∙ ap (λ p. lost_value id lost p (kind_type c.args.new.now))
    (sym (said_as c.args.old.now built.String _ c.in-String.is string_says))

pub lost_to_kind-returns-in-AnyEntity : goal.lost_to_kind-returns-in-AnyEntity
lost_to_kind-returns-in-AnyEntity t c =
    let id = id_in c.args.ids.now.rows in
    let lost = lost_in c.args.ids.now.rows in
    c.lost_empty.ensures id lost
    ∙ ap (λ p. lost_value id lost p (kind_type c.args.new.now))
    (sym (said_as c.args.old.now built.AnyEntity _ c.in-AnyEntity.is any_entity_says))

pub lost_to_kind-returns-in-None : goal.lost_to_kind-returns-in-None
lost_to_kind-returns-in-None t c =
    let id = id_in c.args.ids.now.rows in
    let lost = lost_in c.args.ids.now.rows in
    IfOk-weaker c.lost_unknown.result _ _
    (λ found e. e id lost
    ∙ ap (λ p. lost_value id lost p (kind_type c.args.new.now))
    (sym (said_as c.args.old.now (built.Set None) _ (c.in-Set.is ∙ ap built.Set c.in-None.is) unknown_says)))
    c.lost_unknown.ensures

pub lost_to_kind-returns-in-Record : goal.lost_to_kind-returns-in-Record
lost_to_kind-returns-in-Record t c =
    let id = id_in c.args.ids.now.rows in
    let lost = lost_in c.args.ids.now.rows in
    let attrs = c.in-Record.attrs in
    let more = c.in-Record.more in
    IfOk-weaker c.lost_attributes.result _ _
    (λ found e. e
    ∙ (ap (λ l. lost_value id lost (PlainType.Rec (plain_attrs l))
    (kind_type c.args.new.now)) c.as_slice.ensures.entries
    ∙ ap (λ p. lost_value id lost p (kind_type c.args.new.now))
    (sym (said_as c.args.old.now (built.Record attrs more) _ c.in-Record.is (record_says attrs more)))))
    c.lost_attributes.ensures

pub lost_to_kind-returns-in-Extension : goal.lost_to_kind-returns-in-Extension
lost_to_kind-returns-in-Extension t c =
    let id = id_in c.args.ids.now.rows in
    let lost = lost_in c.args.ids.now.rows in
    let name = c.in-Extension.name in
    IfOk-weaker c.lost_extension.result _ _
    (λ found e. e id lost
    ∙ ap (λ p. lost_value id lost p (kind_type c.args.new.now))
    (sym (said_as c.args.old.now (built.Extension name) _ c.in-Extension.is (extension_says name))))
    c.lost_extension.ensures
