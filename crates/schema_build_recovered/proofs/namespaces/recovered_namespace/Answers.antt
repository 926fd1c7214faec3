use Rattle.std.proofs.Common.{◌++◌, map, sym, ap, ◌∙◌, subst}
use Rattle.cedar_data.specs.Text.{text_cmp}
use Rattle.schema_build_recovered.specs.Places.{words_of}
use Rattle.schema_build_recovered.specs.Recovered.{IsMapOf, IsRecoveredEntity, IsRecoveredAction}
use Rattle.schema_build_recovered_types.specs.FirstLacks.{IsFirstLack}
use Rattle.schema_build_recovered.proofs.Halves.{home_entities, home_actions, home_lacks, entities_lack, actions_lack}
use Rattle.schema_build_recovered_types.proofs.Lacking.{first_before, first_behind, refused}
use Rattle.schema_build_recovered.proofs.namespaces.recovered_namespace.Goals as goal

pub returns-clause-recovered : goal.returns-clause-recovered
returns-clause-recovered c = record {
  name = c.in_ok-key.ensures;
  common_types = c.new.ensures;
  entity_types = subst (λ l. IsMapOf (λ a b. text_cmp a.id.text b.id.text) IsRecoveredEntity l
      c.in_ok-entity_types.entity_types) (sym (home_entities (words_of c.args.home.words)
      (map (λ x. x.now) c.args.entities.now.items))) c.in_ok-entity_types.ensures.recovered;
  actions = subst (λ l. IsMapOf text_cmp IsRecoveredAction l c.in_ok-actions.actions)
      (sym (home_actions (words_of c.args.home.words) (map (λ x. x.now) c.args.actions.now.items)))
      c.in_ok-actions.ensures.recovered;
  annotations = c.new-annotations.ensures;
}

pub returns-clause-whole : goal.returns-clause-whole
returns-clause-whole c =
    let n = words_of c.args.home.words in
    let entities = map (λ x. x.now) c.args.entities.now.items in
    let actions = map (λ x. x.now) c.args.actions.now.items in
    home_lacks n entities actions ∙ ap (λ l. l ++ actions_lack n actions) c.in_ok-entity_types.ensures.whole
    ∙ c.in_ok-actions.ensures.whole

pub returns-in_err-entity_types-clause-lack : goal.returns-in_err-entity_types-clause-lack
returns-in_err-entity_types-clause-lack c =
    let n = words_of c.args.home.words in
    let entities = map (λ x. x.now) c.args.entities.now.items in
    let actions = map (λ x. x.now) c.args.actions.now.items in
    let e = c.in_err-entity_types.field-0.0 in
    refused _ c.from_residual.result e c.from_residual.ensures.1
    (subst (λ l. IsFirstLack l e) (sym (home_lacks n entities actions))
    (first_before (entities_lack n entities) (actions_lack n actions) e c.in_err-entity_types.ensures.lack))

pub returns-in_err-actions-clause-lack : goal.returns-in_err-actions-clause-lack
returns-in_err-actions-clause-lack c =
    let n = words_of c.args.home.words in
    let entities = map (λ x. x.now) c.args.entities.now.items in
    let actions = map (λ x. x.now) c.args.actions.now.items in
    let e = c.in_err-actions.field-0.0 in
    refused _ c.from_residual-in_err-actions.result e c.from_residual-in_err-actions.ensures.1
    (subst (λ l. IsFirstLack l e) (sym (home_lacks n entities actions))
    (first_behind (entities_lack n entities) (actions_lack n actions) e c.in_ok-entity_types.ensures.whole
    c.in_err-actions.ensures.lack))
