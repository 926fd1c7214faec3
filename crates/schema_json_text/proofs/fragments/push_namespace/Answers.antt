use Rattle.std.proofs.Common.{List, ◌++◌, ap, sym, subst, ◌∙◌, map, codes, string_bytes}
use Rattle.std.specs.List.Sorted.{IsStrictlySortedBy}
use Rattle.std.specs.Map.{keys_of}
use Rattle.std.proofs.lemmas.Result.{on_ok_weaker}
use Rattle.serde_json.specs.Written.{compact_text}
use Rattle.cedar_data.specs.Text.{text_cmp}
use Rattle.cedar_identifiers.specs.declared.unreserved_id.UnreservedId.{UnreservedId}
use Rattle.schema_json.specs.declared.common_type.CommonType.{CommonType}
use Rattle.schema_json.specs.declared.common_type.CommonTypeId.{CommonTypeId}
use Rattle.schema_json.specs.declared.entity_type.EntityType.{EntityType}
use Rattle.schema_json_values.specs.TypeValues.{object_of}
use Rattle.schema_json_values.specs.FragmentValues.{common_entry, entity_entry, action_entry}
use Rattle.schema_json_text.specs.Members.{ahead, object_value}
use Rattle.schema_json_text.proofs.ActionTexts.{namespace_written}
use Rattle.schema_json_text.proofs.fragments.push_namespace.Goals as goal

pub returns : goal.returns
returns g c =
    let names = g.N.NameText.components in
    let n1 = string_bytes c.push.new.out in
    let n4 = string_bytes c.push_annotations.new.out in
    let n6 = string_bytes c.push-2.new.out in
    let actions = c.in_ok-push_actions.ensures
    ∙ ap (λ es. n1 ++ compact_text (object_of (map (action_entry names) es))) c.as_slice.ensures.entries in
    let commons = c.in_ok-push_commons.ensures
    ∙ ap (λ es. n4 ++ ahead (codes "commonTypes") (object_value (map (common_entry names) es)))
    c.as_slice-2.ensures.entries in
    let entities = c.in_ok-push_entity_types.ensures
    ∙ ap (λ es. n6 ++ compact_text (object_of (map (entity_entry names) es))) c.as_slice-3.ensures.entries in
    on_ok_weaker c.push_char-2.result
    (λ e. namespace_written names c.args.namespace.now (string_bytes c.args.out.now) n1
    (string_bytes c.push_actions.new.out) (string_bytes c.push_char.new.out) n4 (string_bytes c.push_commons.new.out)
    n6 (string_bytes c.push_entity_types.new.out) (string_bytes c.push_char-2.new.out) c.in_ok-push.ensures actions
    c.in_ok-push_char.ensures c.in_ok-push_annotations.ensures commons c.in_ok-push-2.ensures entities e)
    c.push_char-2.ensures

pub push_commons-requires : goal.push_commons-requires
push_commons-requires g c =
    subst (λ (es : List (CommonTypeId × CommonType g.row.N.Denot)).
    IsStrictlySortedBy (λ (x y : CommonTypeId). text_cmp x.id.id.text y.id.id.text) (keys_of es))
    (sym c.as_slice-2.ensures.entries) c.as_slice-2.ensures.sorted

pub push_entity_types-requires : goal.push_entity_types-requires
push_entity_types-requires g c =
    subst (λ (es : List (UnreservedId × EntityType g.row.N.Denot)).
    IsStrictlySortedBy (λ (x y : UnreservedId). text_cmp x.id.text y.id.text) (keys_of es))
    (sym c.as_slice-3.ensures.entries) c.as_slice-3.ensures.sorted
