use Rattle.std.proofs.Common.{◌≡◌, length, ap, arith}
use Rattle.cedar_data.specs.Maps.{map_of}
use Rattle.cedar_data.specs.Text.{text_cmp}
use Rattle.cedar_data.proofs.Orders.{text_total}
use Rattle.cedar_identifiers.specs.declared.raw_name.RawName.{RawName}
use Rattle.schema_json.specs.declared.fragment.NamespaceDefinition.{NamespaceDefinition}
use Rattle.schema_json.specs.Orders.{unreserved_cmp, common_cmp}
use Rattle.schema_json.specs.AsWritten.{as_written}
use Rattle.schema_json.proofs.Orders.{unreserved_total, common_total}
use Rattle.schema_convert_plain.proofs.Counted.{at_most_all}
use Rattle.schema_convert_plain.proofs.gathering.own_definition.Goals as goal

pub returns : goal.returns
returns c =
    let commons : length c.in_ok-definition.definition.common_types
    ≡ length (map_of common_cmp c.args.entries.commons.items) =
    ap (λ (x : NamespaceDefinition RawName as_written). length x.common_types) c.in_ok-definition.ensures in
    let entities : length c.in_ok-definition.definition.entity_types
    ≡ length (map_of unreserved_cmp c.args.entries.entities.items) =
    ap (λ (x : NamespaceDefinition RawName as_written). length x.entity_types) c.in_ok-definition.ensures in
    let actions : length c.in_ok-definition.definition.actions
    ≡ length (map_of text_cmp c.args.entries.actions.items) =
    ap (λ (x : NamespaceDefinition RawName as_written). length x.actions) c.in_ok-definition.ensures in
    let most_commons = at_most_all common_cmp common_total c.args.entries.commons.items in
    let most_entities = at_most_all unreserved_cmp unreserved_total c.args.entries.entities.items in
    let most_actions = at_most_all text_cmp text_total c.args.entries.actions.items in
    record {
      is = c.in_ok-definition.ensures;
      commons_once = omega (
        arith,
        commons,
        most_commons,
        c.as_slice.ensures.len,
        c.len-commons.ensures,
        c.if-as_slice-commons.false,
      );
      entities_once = omega (
        arith,
        entities,
        most_entities,
        c.as_slice-else-as_slice-commons.ensures.len,
        c.len-entities.ensures,
        c.if-as_slice-entities.false,
      );
      actions_once = omega (
        arith,
        actions,
        most_actions,
        c.as_slice-else-as_slice-entities.ensures.len,
        c.len-actions.ensures,
        c.if-as_slice-actions.false,
      );
      unlike = c.are_apart.ensures c.if-not-are_apart.false;
    }
