use Rattle.std.proofs.Common.{◌++◌, List, ap, sym, ◌∙◌}
use Rattle.std.proofs.lemmas.Result.{on_ok_weaker}
use Rattle.cedar_identifiers.specs.declared.raw_name.RawName.{RawName}
use Rattle.cedar_identifiers.specs.declared.unreserved_id.UnreservedId.{UnreservedId}
use Rattle.schema_json.specs.declared.entity_type.EntityType.{EntityType}
use Rattle.schema_json.specs.declared.common_type.CommonType.{CommonType}
use Rattle.schema_json.specs.declared.common_type.CommonTypeId.{CommonTypeId}
use Rattle.schema_convert_fragments.specs.Fragments.{common_entries_of, entity_entries_of}
use Rattle.schema_convert_fragments.proofs.namespaces.push_declared.Goals as goal

pub returns-in-Entity-clause-entities : goal.returns-in-Entity-clause-entities
returns-in-Entity-clause-entities c =
    let item = c.args.decl.now.item in
    let kind = ap (λ d. entity_entries_of d c.in_ok-annotations.annotations item.loc) (sym c.in-Entity.is) in
    let noted = ap (λ ns. entity_entries_of item.node ns item.loc) c.in_ok-annotations.ensures in
    on_ok_weaker c.push_entities.result
    (λ h. h ∙ ap (λ (l : List (UnreservedId × EntityType RawName)). c.args.entries.now.entities.items ++ l)
    (kind ∙ noted)) c.push_entities.ensures

pub returns-in-Common-clause-commons : goal.returns-in-Common-clause-commons
returns-in-Common-clause-commons c =
    let item = c.args.decl.now.item in
    let kind = ap (λ d. common_entries_of d c.in_ok-annotations.annotations item.loc) (sym c.in-Common.is) in
    let noted = ap (λ ns. common_entries_of item.node ns item.loc) c.in_ok-annotations.ensures in
    on_ok_weaker c.push_common.result
    (λ h. h ∙ ap (λ (l : List (CommonTypeId × CommonType RawName)). c.args.entries.now.commons.items ++ l)
    (kind ∙ noted)) c.push_common.ensures
