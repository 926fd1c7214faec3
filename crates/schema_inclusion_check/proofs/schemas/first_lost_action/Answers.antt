use Rattle.std.proofs.Common.{◌≡◌, Some, None, refl, ap, sym, ◌∙◌, subst}
use Rattle.std.specs.List.{find}
use Rattle.std.specs.Option.{option_copied, option_map}
use Rattle.std.specs.Ordering.{is_eq}
use Rattle.cedar_identifiers.specs.declared.name.Name.{Name}
use Rattle.cedar_names.specs.Orders.{names_in_order, uids_in_order, uids_total, id_text_order}
use Rattle.schema_inclusion_values.specs.Lost.{same_key, new_action}
use Rattle.schema_inclusion_values.specs.Whole.{action_name}
use Rattle.schema_build_text.proofs.Rowed.{names_go}
use Rattle.schema_inclusion_values.specs.Admits.{an_action}
use Rattle.schema_inclusion_values.specs.Lost.{lost_action}
use Rattle.schema_inclusion_values.specs.Seen.{schema_value}
use Rattle.schema_inclusion_check.specs.Below.{AreBelow}
use Rattle.schema_inclusion_check.specs.Raw.{raw_action}
use Rattle.schema_inclusion_check.proofs.Keyed.{action_found, each_hit, each_skip}
use Rattle.schema_inclusion_check.proofs.Sought.{below_here, below_behind}
use Rattle.schema_inclusion_check.proofs.schemas.first_lost_action.Goals as goal

pub seek-place-requires-clause-below : goal.seek-place-requires-clause-below
seek-place-requires-clause-below c =
    let d = c.entry-item.result in
    let key = ap (λ e. e.0) c.entry.view_is in
    subst (AreBelow uids_in_order (λ e. e.0) c.args.new.now c.loop-entry.next) (sym key)
    (below_here uids_total (λ e. e.0) c.args.new.now c.args.old.now c.loop-entry.next c.loop-entry.entry-index d
    c.loop-entry.invariant.below c.loop-entry-test.true c.entry-item.is)

pub returns-in-Some : goal.returns-in-Some
returns-in-Some c = λ m n same.
    let news = c.args.new.now in
    let d = c.entry-item.result in
    let key = ap (λ e. e.0) c.entry.view_is in
    let order = uids_in_order in
    let found : option_map raw_action (option_copied c.seek-place.result.1) ≡ new_action m n (raw_action d) =
    ap (option_map raw_action)
    (c.seek-place.ensures.value ∙ ap (λ x. find (λ e. is_eq (uids_in_order e.0 x)) news) key)
    ∙ (action_found (λ (x y : Name). names_in_order x.name y.name) (names_go id_text_order (λ x y. refl)) uids_in_order
    (λ x y. refl) d news
    ∙ ap (find (λ x. same_key (action_name x) (action_name (raw_action d)))) same) in
    each_hit an_action
    (lost_action m n) raw_action c.args.old.now c.loop-entry.entry-index d c.loop-entry-test.true c.entry-item.is
    (schema_value c.in-Some.value)
    (ap (option_map schema_value) (sym c.in-Some.is) ∙ c.in_ok-value.ensures m n found)
    ∙ ap (option_map an_action) (sym (c.loop-entry.invariant.rest m n same))

pub loop-entry-preserved : goal.loop-entry-preserved
loop-entry-preserved c =
    let news = c.args.new.now in
    let d = c.entry-item.result in
    let key = ap (λ e. e.0) c.entry.view_is in
    let order = uids_in_order in
    record {
      within = c.seek-place.ensures.within;
      below = below_behind uids_total (λ e. e.0) news c.args.old.now c.seek-place.result.0
          c.loop-entry.entry-index d c.requires.old_sorted c.loop-entry-test.true c.entry-item.is
          (subst (AreBelow order (λ e. e.0) news c.seek-place.result.0) key c.seek-place.ensures.below);
      rest = λ m n same.
          let found : option_map raw_action (option_copied c.seek-place.result.1) ≡ new_action m n (raw_action d) =
          ap (option_map raw_action)
          (c.seek-place.ensures.value ∙ ap (λ x. find (λ e. is_eq (uids_in_order e.0 x)) news) key)
          ∙ (action_found (λ (x y : Name). names_in_order x.name y.name) (names_go id_text_order
          (λ x y. refl)) uids_in_order
          (λ x y. refl) d news
          ∙ ap (find (λ x. same_key (action_name x) (action_name (raw_action d)))) same) in
          c.loop-entry.invariant.rest m n same
          ∙ each_skip an_action
          (lost_action m n) raw_action c.args.old.now c.loop-entry.entry-index d c.loop-entry-test.true
          c.entry-item.is (ap (option_map schema_value) (sym c.in_default.is) ∙ c.in_ok-value.ensures m n found);
    }
