use Rattle.std.proofs.Common.{◌++◌, map, sym, ap, ◌∙◌, subst}
use Rattle.std.specs.List.{AllZip, flat_map}
use Rattle.cedar_data.specs.Maps.{map_of}
use Rattle.cedar_names.specs.CanonicalText.{namespaces}
use Rattle.schema_build_types.specs.Content.{content}
use Rattle.schema_build_types.specs.Lacks.{namespace_lacks}
use Rattle.schema_build_text.specs.Readings.{schema_reading}
use Rattle.schema_build_recovered.specs.Recovered.{IsRecoveredNamespace}
use Rattle.schema_build_recovered_types.specs.FirstLacks.{IsFirstLack}
use Rattle.schema_build_recovered.proofs.Fragments.{all_lack, fragment_is, namespaces_rise}
use Rattle.schema_build_recovered.proofs.Keys.{key_order}
use Rattle.schema_build_recovered_types.proofs.Lacking.{refused}
use Rattle.schema_build_recovered.proofs.Sides.{IsRising}
use Rattle.schema_build_recovered.proofs.Walks.{words}
use Rattle.schema_build_recovered.proofs.fragment.recovered_fragment.Goals as goal

pub recover_namespaces-requires : goal.recover_namespaces-requires
recover_namespaces-requires c =
    subst IsRising (sym (ap words c.deref.ensures.value ∙ c.in_ok-namespaces.ensures))
    (namespaces_rise (schema_reading (content c.args.entities.now c.args.actions.now)))

pub returns-in_err-recover_namespaces-clause-lack : goal.returns-in_err-recover_namespaces-clause-lack
returns-in_err-recover_namespaces-clause-lack c =
    let named = ap words c.deref.ensures.value ∙ c.in_ok-namespaces.ensures in
    let same = (λ i. flat_map (namespace_lacks (content (c.in_ok-entities.ensures i) (c.in_ok-actions.ensures i)))
    (named i)) ∙ all_lack (content c.args.entities.now c.args.actions.now) in
    let e = c.in_err-recover_namespaces.field-0.0 in
    refused _ c.from_residual-in_err-recover_namespaces.result e c.from_residual-in_err-recover_namespaces.ensures.1
    (subst (λ l. IsFirstLack l e) same c.in_err-recover_namespaces.ensures.lack)

pub returns-clause-recovered : goal.returns-clause-recovered
returns-clause-recovered c =
    let named = ap words c.deref.ensures.value ∙ c.in_ok-namespaces.ensures in
    let told = c.in_ok-recover_namespaces.ensures.recovered in
    let entities = map (λ x. x.now) c.in_ok-entities.entities.items in
    let one = subst (λ ns. AllZip (IsRecoveredNamespace (schema_reading (content entities
    (map (λ x. x.now) c.in_ok-actions.actions.items)))) ns told.0) named told.2 in
    let two = subst (λ l. AllZip (IsRecoveredNamespace (schema_reading (content entities l)))
    (namespaces (schema_reading (content c.args.entities.now c.args.actions.now))) told.0)
    c.in_ok-actions.ensures one in
    let all = subst (λ l. AllZip (IsRecoveredNamespace (schema_reading (content l c.args.actions.now)))
    (namespaces (schema_reading (content c.args.entities.now c.args.actions.now))) told.0)
    c.in_ok-entities.ensures two in
    let found = told.1 ∙ ap (λ l. l ++ told.0) c.new-found.ensures.items in
    λ m stands. fragment_is (schema_reading (content c.args.entities.now c.args.actions.now)) m
    (ap schema_reading stands ∙ c.meanings_are_read_back.ensures m) told.0 c.in_ok-from_entries.field-0 all
    (c.in_ok-from_entries.ensures.entries ∙ ap (map_of key_order) found)

pub returns-clause-whole : goal.returns-clause-whole
returns-clause-whole c =
    let named = ap words c.deref.ensures.value ∙ c.in_ok-namespaces.ensures in
    let same = (λ i. flat_map (namespace_lacks (content (c.in_ok-entities.ensures i) (c.in_ok-actions.ensures i)))
    (named i)) ∙ all_lack (content c.args.entities.now c.args.actions.now) in
    sym same ∙ c.in_ok-recover_namespaces.ensures.whole
