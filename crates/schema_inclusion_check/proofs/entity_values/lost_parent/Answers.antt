use Rattle.std.proofs.Common.{◌≡◌, Some, None, true, false, refl, ap, sym, ◌∙◌}
use Rattle.std.specs.List.{list_any}
use Rattle.std.specs.Option.{option_copied}
use Rattle.cedar_identifiers.specs.Names.{components_of}
use Rattle.cedar_identifiers.specs.declared.name.Name.{Name}
use Rattle.cedar_names.specs.Definitions.{same_name}
use Rattle.schema_inclusion_types.specs.Ids.{id_in, lost_in}
use Rattle.schema_inclusion_check.specs.Raw.{raw_names}
use Rattle.schema_inclusion_check.proofs.Equal.{names_test, any_seen}
use Rattle.schema_inclusion_check.proofs.Pieces.{parent_step}
use Rattle.schema_inclusion_check.proofs.entity_values.lost_parent.Goals as goal

pub returns-in-None : goal.returns-in-None
returns-in-None c = λ m n told.
    let rows = c.args.ids.now.rows in
    let news = c.args.new.now in
    let d = c.shared-item.result in
    let a = components_of d.name in
    let missing : list_any (same_name a) (raw_names news) ≡ false =
    sym (any_seen (λ (x : Name). components_of x.name) _ same_name (λ x y. names_test _
    (λ i j. refl) x.name y.name) d news)
    ∙ c.in-None.ensures in
    let name = c.in_ok-clone_in-in-None.ensures ∙ c.get-name.ensures in
    let id : c.in_ok-id-in-None.id ≡ id_in rows a =
    c.in_ok-id-in-None.ensures ∙ ap (λ (x : Name). id_in rows (components_of x.name)) c.get-name.ensures in
    (λ k. Some (components_of (name k).name, id k))
    ∙ sym (c.loop-shared.invariant.rest m n told
    ∙ parent_step rows m n told c.args.old.now (raw_names news) c.loop-shared.shared-index d c.loop-shared-test.true
    c.shared-item.is false missing (lost_in rows a) refl)

pub returns-in-Some-lost : goal.returns-in-Some-lost
returns-in-Some-lost c = λ m n told.
    let rows = c.args.ids.now.rows in
    let news = c.args.new.now in
    let d = c.shared-item.result in
    let a = components_of d.name in
    let there : list_any (same_name a) (raw_names news) ≡ true =
    sym (any_seen (λ (x : Name). components_of x.name) _ same_name (λ x y. names_test _
    (λ i j. refl) x.name y.name) d news)
    ∙ c.in-Some.ensures.1 in
    let found : lost_in rows a ≡ Some c.in-Some-lost.id.now =
    ap (λ (x : Name). lost_in rows (components_of x.name)) (sym c.get-name.ensures)
    ∙ (sym c.lost.ensures ∙ ap option_copied c.in-Some-lost.is) in
    let name = c.in_ok-clone_in.ensures ∙ c.get-name.ensures in
    (λ k. Some (components_of (name k).name, c.in_ok-id.ensures k))
    ∙ sym (c.loop-shared.invariant.rest m n told
    ∙ parent_step rows m n told c.args.old.now (raw_names news) c.loop-shared.shared-index d c.loop-shared-test.true
    c.shared-item.is true there (Some c.in-Some-lost.id.now) found)

pub loop-shared-preserved : goal.loop-shared-preserved
loop-shared-preserved c =
    let rows = c.args.ids.now.rows in
    let news = c.args.new.now in
    let d = c.shared-item.result in
    let a = components_of d.name in
    let there : list_any (same_name a) (raw_names news) ≡ true =
    sym (any_seen (λ (x : Name). components_of x.name) _ same_name (λ x y. names_test _
    (λ i j. refl) x.name y.name) d news)
    ∙ c.in-Some.ensures.1 in
    let found : lost_in rows a ≡ None =
    ap (λ (x : Name). lost_in rows (components_of x.name)) (sym c.get-name.ensures)
    ∙ (sym c.lost.ensures ∙ ap option_copied c.in_default.is) in
    record {
      within = c.in-Some.ensures.0;
      rest = λ m n told. c.loop-shared.invariant.rest m n told
          ∙ parent_step rows m n told c.args.old.now (raw_names news) c.loop-shared.shared-index d
          c.loop-shared-test.true c.shared-item.is true there None found;
    }
