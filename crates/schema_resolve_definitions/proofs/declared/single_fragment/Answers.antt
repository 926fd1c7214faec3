use Rattle.std.proofs.Common.{◌∙◌, [], ap}
use Rattle.std.specs.List.{flat_map}
use Rattle.cedar_names.specs.Definitions.{among, among_actions}
use Rattle.schema_resolve_definitions.specs.Declarations.{commons_in, entities_in, actions_in}
use Rattle.schema_resolve_definitions.proofs.Sets.{next_given, all_given}
use Rattle.schema_resolve_definitions.proofs.declared.single_fragment.Goals as goal

pub loop-ns-preserved : goal.loop-ns-preserved
loop-ns-preserved c =
    let xs = c.as_slice-ns-items.result.now in
    let i = c.loop-ns.ns-index in
    let it = c.loop-ns-item.result in
    let inv = c.loop-ns.invariant in
    let step = c.in_ok-push_namespace.ensures in
    record {
      commons = next_given (λ e. commons_in e.0 e.1) xs i it [] _ _ c.loop-ns-test.true c.loop-ns-item.is inv.commons
          step.commons;
      entities = next_given (λ e. entities_in e.0 e.1) xs i it [] _ _ c.loop-ns-test.true c.loop-ns-item.is
          inv.entities step.entities;
      actions = next_given (λ e. actions_in e.0 e.1) xs i it [] _ _ c.loop-ns-test.true c.loop-ns-item.is inv.actions
          step.actions;
    }

pub returns : goal.returns
returns c =
    let xs = c.as_slice-ns-items.result.now in
    let i = c.loop-ns.ns-index in
    let inv = c.loop-ns.invariant in
    let made = c.from_names.ensures in
    let whole = c.as_slice-ns-items.ensures.entries in
    λ k. record {
      is_common = λ n. (made.commons n
          ∙ ap (λ l. among l n) (all_given (λ e. commons_in e.0 e.1) xs i [] _ c.loop-ns-test.false inv.commons
          ∙ ap (flat_map (λ e. commons_in e.0 e.1)) whole)) k;
      is_entity = λ n. (made.entities n
          ∙ ap (λ l. among l n) (all_given (λ e. entities_in e.0 e.1) xs i [] _ c.loop-ns-test.false inv.entities
          ∙ ap (flat_map (λ e. entities_in e.0 e.1)) whole)) k;
      is_action = λ a. (made.actions a
          ∙ ap (λ l. among_actions l a) (all_given (λ e. actions_in e.0 e.1) xs i [] _ c.loop-ns-test.false
          inv.actions ∙ ap (flat_map (λ e. actions_in e.0 e.1)) whole)) k;
    }
