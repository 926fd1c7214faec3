use Rattle.std.proofs.Common.{◌≡◌, ◌<◌, length, map, refl, sym, ap, ◌∙◌, subst, inr}
use Rattle.std.proofs.lemmas.List.{length-map}
use Rattle.std.proofs.lemmas.Option.{slice_get_within}
use Rattle.cedar_data.specs.Entries.{on_value}
use Rattle.schema_build_scope.specs.Commons.{commons_in_order}
use Rattle.schema_build_scope.specs.FragmentScope.{declaration, fragment_scope}
use Rattle.schema_build_scope.specs.LentCommons.{lent_type}
use Rattle.schema_build_scope.specs.LentRounds.{IsLeastRoundRank, IsRoundFault}
use Rattle.schema_build_scope.proofs.CycleNames.{never_cycle, named_cycle}
use Rattle.schema_build_scope.proofs.Known.{types_meant}
use Rattle.schema_build_scope.proofs.expansions.expand_used_commons.Goals as goal

pub expand_lent-requires : goal.expand_lent-requires
expand_lent-requires c = (
  refl,
  (
    c.commons-entries.ensures.entries,
    types_meant c.args.names.now.fragment c.args.names.now.table
        c.requires.known,
  ),
)

pub common_cycle-requires : goal.common_cycle-requires
common_cycle-requires c =
    let f = c.args.names.now.fragment in
    let entries = c.commons-entries.result.now in
    let s = fragment_scope f c.args.names.now.table in
    let r : IsLeastRoundRank s c.in-Err-Cycle.rank = subst (IsRoundFault s) c.in-Err-Cycle.field-0-is
    c.in-Err-Cycle.ensures.fault in
    let within : c.in-Err-Cycle.rank < length (map declaration (commons_in_order f)) =
    slice_get_within (map declaration (commons_in_order f)) c.in-Err-Cycle.rank r.ty r.here in
    let same : length (map declaration (commons_in_order f)) ≡ length entries =
    length-map (commons_in_order f) declaration ∙ ap length (sym c.commons-entries.ensures.entries)
    ∙ length-map entries (on_value lent_type) in
    subst (λ n. c.in-Err-Cycle.rank < n) same within

pub returns-in-Ok-clause-ok : goal.returns-in-Ok-clause-ok
returns-in-Ok-clause-ok c =
    never_cycle c.args.names.now.fragment c.args.names.now.table c.in-Ok.ensures.acyclic

pub returns-in_ok-common_cycle-in-Err-Cycle-clause-err :
    goal.returns-in_ok-common_cycle-in-Err-Cycle-clause-err
returns-in_ok-common_cycle-in-Err-Cycle-clause-err c =
    let s = fragment_scope c.args.names.now.fragment c.args.names.now.table in
    let r : IsLeastRoundRank s c.in-Err-Cycle.rank = subst (IsRoundFault s) c.in-Err-Cycle.field-0-is
    c.in-Err-Cycle.ensures.fault in
    inr (named_cycle c.args.names.now.fragment c.args.names.now.table c.commons-entries.result.now
    c.commons-entries.ensures.entries c.in-Err-Cycle.rank r
    c.in_ok-common_cycle-in-Err-Cycle.field-0 c.in_ok-common_cycle-in-Err-Cycle.ensures)
