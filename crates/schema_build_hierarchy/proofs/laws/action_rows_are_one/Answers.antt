use Rattle.std.proofs.Common.{map}
use Rattle.std.proofs.lemmas.Cmp.{on_total}
use Rattle.schema_build_hierarchy.specs.Declarations.{Declared, action_key}
use Rattle.schema_build_hierarchy.specs.Entries.{action_of_entry}
use Rattle.schema_build_hierarchy.specs.Parents.{IsActionAncestor}
use Rattle.schema_build_hierarchy.proofs.Cycles.{names_apart}
use Rattle.schema_build_hierarchy.proofs.Exact.{actions_total, actions_tied}
use Rattle.schema_build_hierarchy.proofs.KnownByMembers.{one_row}
use Rattle.schema_build_hierarchy.proofs.laws.action_rows_are_one.Goals as goal

pub returns : goal.returns
returns g c =
    let entries = c.args.entries.now in
    let order = on_total (λ (d : Declared _ _). d.name) actions_total in
    one_row (IsActionAncestor g.g.0 g.g.1) (map (λ e. action_key (action_of_entry e)) entries)
    (names_apart order action_of_entry action_key (λ a b e. actions_tied a.name b.name e) entries c.requires.rising)
