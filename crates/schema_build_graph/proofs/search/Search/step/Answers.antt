use Rattle.std.proofs.Common.{◌≡◌, ◌<◌, List, ℕ, length, get_or, refl, sym, ◌∙◌, arith, rules}
use Rattle.std.proofs.lemmas.List.{get_or_default}
use Rattle.schema_build_graph.specs.declared.search.State.{State}
use Rattle.schema_build_graph.specs.declared.search.State.TheVariants.{New}
use Rattle.schema_build_graph.specs.Search.{state_at}
use Rattle.schema_build_graph.proofs.Turns.{merged, skipped}
use Rattle.schema_build_graph.proofs.search.Search.step.Goals as goal

-- the state that was read
state_read : (states : List State) (v : ℕ) (found : State) → v < length states → found ≡ get_or states v found
    → state_at states v ≡ found
state_read states v found h e = get_or_default states v New found h ∙ sym e

pub returns-in-Open-clause-searched : goal.returns-in-Open-clause-searched
returns-in-Open-clause-searched c =
    let s = c.take_target-target.new.self in
    let v = c.take_target-target.result in
    let held = c.take_target-target.ensures.searched in
    merged c.args.graph.now s.states.items s.standing.items s.targets.items s.groups.items s.done.items v held
    c.in-Open.place
    (state_read s.states.items v c.index.result.now (omega (arith, held.range v refl, held.same)) c.index.ensures
    ∙ c.in-Open.is) c.merge.new.groups.items c.merge.ensures

pub returns-in-Done-clause-searched : goal.returns-in-Done-clause-searched
returns-in-Done-clause-searched c =
    let s = c.take_target-target.new.self in
    let v = c.take_target-target.result in
    let held = c.take_target-target.ensures.searched in
    skipped c.args.graph.now s.states.items s.standing.items s.targets.items s.groups.items s.done.items v held
    c.in-Done.field-0
    (state_read s.states.items v c.index.result.now (omega (arith, held.range v refl, held.same)) c.index.ensures
    ∙ c.in-Done.is)

pub overflow_sub-len : goal.overflow_sub-len
overflow_sub-len c = search rules

pub returns-in-Done-clause-seen : goal.returns-in-Done-clause-seen
returns-in-Done-clause-seen c = search rules

pub returns-in-New-clause-searched : goal.returns-in-New-clause-searched
returns-in-New-clause-searched c = search rules

pub returns-in-New-clause-seen : goal.returns-in-New-clause-seen
returns-in-New-clause-seen c = search rules

pub returns-in-Open-clause-seen : goal.returns-in-Open-clause-seen
returns-in-Open-clause-seen c = search rules

pub returns-then-group-len-clause-searched : goal.returns-then-group-len-clause-searched
returns-then-group-len-clause-searched c = search rules

pub returns-then-group-len-clause-seen : goal.returns-then-group-len-clause-seen
returns-then-group-len-clause-seen c = search rules
