use Rattle.std.proofs.Common.{◌++◌, sym, ap, ◌∙◌}
use Rattle.std.specs.List.{flat_map}
use Rattle.schema_json_walk.specs.Walk.{fragment_parts}
use Rattle.schema_json_walk.specs.Walk.{of_fragment}
use Rattle.schema_resolve_definitions.specs.Tests.{tests_of}
use Rattle.schema_build_hierarchy.specs.Rows.{undeclared_part}
use Rattle.schema_build_hierarchy.proofs.ActionTypes.{own_but_actions}
use Rattle.schema_build_hierarchy.proofs.Gathering.{finds_all}
use Rattle.schema_build_hierarchy.proofs.declared_types.undeclared_uses.Goals as goal

pub invariant_of-finder : goal.invariant_of-finder
invariant_of-finder g c =
    record {
      whole = own_but_actions c.args.fragment.now g.table (tests_of c.args.defs.now)
          (tests_of c.new-own.result) c.requires
          (ap tests_of c.new-own.ensures);
    }

pub returns : goal.returns
returns g c =
    let t = tests_of c.args.defs.now in
    let own = tests_of c.new-own.result in
    let f = c.args.fragment.now in
    let all = finds_all (fragment_parts f) _ c.walk_fragment.new.visitor c.in_ok-walk_fragment.ensures.taken in
    all.uses ∙ ap (λ l. l ++ flat_map (λ e. undeclared_part t own e.0 e.1) (fragment_parts f)) c.new.ensures.items
    ∙ sym (c.fragment_gives_what_its_parts_give.ensures (undeclared_part t own))
    ∙ ap (λ o. of_fragment (undeclared_part t o) f) (ap tests_of c.new-own.ensures)
