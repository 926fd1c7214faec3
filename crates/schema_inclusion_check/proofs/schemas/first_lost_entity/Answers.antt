use Rattle.std.proofs.Common.{◌≡◌, Some, None, refl, ap, sym, ◌∙◌, subst}
use Rattle.std.specs.List.{find}
use Rattle.std.specs.Option.{option_copied, option_map}
use Rattle.std.specs.Ordering.{is_eq}
use Rattle.std.specs.Cmp.{on_total}
use Rattle.cedar_identifiers.specs.declared.name.Name.{Name}
use Rattle.cedar_names.specs.Definitions.{same_name}
use Rattle.cedar_names.specs.Orders.{names_in_order, names_total, id_text_order}
use Rattle.schema_build_text.proofs.Rowed.{names_go}
use Rattle.schema_inclusion_values.specs.Admits.{an_entity}
use Rattle.schema_inclusion_values.specs.Lost.{lost_entity}
use Rattle.schema_inclusion_values.specs.Seen.{schema_value}
use Rattle.schema_inclusion_check.specs.Below.{AreBelow}
use Rattle.schema_inclusion_check.specs.Raw.{raw_entity}
use Rattle.schema_inclusion_check.proofs.Keyed.{entity_found, each_hit, each_skip}
use Rattle.schema_inclusion_check.proofs.Sought.{below_here, below_behind}
use Rattle.schema_inclusion_check.proofs.schemas.first_lost_entity.Goals as goal

pub returns-in-Some : goal.returns-in-Some
returns-in-Some c = λ m n told same.
    let news = c.args.new.now in
    let d = c.entry-item.result in
    let key = ap (λ e. e.0) c.entry.view_is in
    let order = (λ (x y : Name). names_in_order x.name y.name) in
    let found : option_map raw_entity (option_copied c.seek-place.result.1) ≡ find (λ x. same_name x.name
    (raw_entity d).name) n.entities =
    ap (option_map raw_entity) (c.seek-place.ensures.value ∙ ap (λ x. find (λ e. is_eq (order e.0 x)) news) key)
    ∙ (entity_found order (names_go id_text_order (λ x y. refl)) d news
    ∙ ap (find (λ x. same_name x.name (raw_entity d).name)) same) in
    each_hit an_entity
    (lost_entity m n) raw_entity c.args.old.now c.loop-entry.entry-index d c.loop-entry-test.true c.entry-item.is
    (schema_value c.in-Some.value)
    (ap (option_map schema_value) (sym c.in-Some.is) ∙ c.in_ok-value.ensures m n told found)
    ∙ ap (option_map an_entity) (sym (c.loop-entry.invariant.rest m n told same))

pub loop-entry-preserved : goal.loop-entry-preserved
loop-entry-preserved c =
    let news = c.args.new.now in
    let d = c.entry-item.result in
    let key = ap (λ e. e.0) c.entry.view_is in
    let order = (λ (x y : Name). names_in_order x.name y.name) in
    record {
      within = c.seek-place.ensures.within;
      below = below_behind (on_total (λ (x : Name). x.name) names_total)
          (λ e. e.0) news c.args.old.now c.seek-place.result.0
          c.loop-entry.entry-index d c.requires.old_sorted c.loop-entry-test.true c.entry-item.is
          (subst (AreBelow order (λ e. e.0) news c.seek-place.result.0) key c.seek-place.ensures.below);
      rest = λ m n told same.
          let found : option_map raw_entity (option_copied c.seek-place.result.1) ≡ find (λ x. same_name x.name
          (raw_entity d).name) n.entities =
          ap (option_map raw_entity) (c.seek-place.ensures.value ∙ ap (λ x. find (λ e. is_eq (order e.0 x)) news) key)
          ∙ (entity_found order (names_go id_text_order (λ x y. refl)) d news
          ∙ ap (find (λ x. same_name x.name (raw_entity d).name)) same) in
          c.loop-entry.invariant.rest m n told same
          ∙ each_skip an_entity
          (lost_entity m n) raw_entity c.args.old.now c.loop-entry.entry-index d c.loop-entry-test.true
          c.entry-item.is (ap (option_map schema_value) (sym c.in_default.is) ∙ c.in_ok-value.ensures m n told found);
    }
