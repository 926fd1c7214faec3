use Rattle.std.proofs.Common.{w64}
use Rattle.std.proofs.lemmas.Int.{to_z-of_z}
use Rattle.sqlite.specs.Held.{state}
use Rattle.sqlite.proofs.StateLemmas.{survives_weaker}
use Rattle.schema_registry_table.proofs.StateLemmas.{insert_adds, insert_commits, not_executed, stands_failed, on_err}
use Rattle.schema_registry_table.proofs.rows.insert.Goals as goal

pub returns-in_err-execute-clause-left : goal.returns-in_err-execute-clause-left
returns-in_err-execute-clause-left g c clean =
    let old = state g.S.Store c.args.conn.now in
    let new = state g.S.Store c.execute.new.self in
    on_err c.from_residual.result (λ texts. stands_failed old new texts
    (not_executed _ _ old new _ (c.in_err-execute.ensures.runs clean)))

pub returns-in_err-execute-clause-survives : goal.returns-in_err-execute-clause-survives
returns-in_err-execute-clause-survives g c =
    let old = state g.S.Store c.args.conn.now in
    let new = state g.S.Store c.execute.new.self in
    survives_weaker old new _ _ (λ _ db by texts rests id sum. insert_commits old texts c.args.text.now db rests
    (rw (
      c.params-to_sql.ensures,
      to_z-of_z w64 c.args.id c.ranges.id,
      c.params-to_sql-2.ensures,
      c.params-to_sql-3.ensures,
      id,
      sum,
    ) at by)) c.execute.ensures.survives

pub returns-clause-added : goal.returns-clause-added
returns-clause-added g c clean texts rests id sum =
    insert_adds (state g.S.Store c.args.conn.now) (state g.S.Store c.execute.new.self) texts c.args.text.now _ rests
    (rw (
      c.params-to_sql.ensures,
      to_z-of_z w64 c.args.id c.ranges.id,
      c.params-to_sql-2.ensures,
      c.params-to_sql-3.ensures,
      id,
      sum,
    ) at (c.in_ok-execute.ensures.runs clean))

pub returns-clause-survives : goal.returns-clause-survives
returns-clause-survives g c =
    let old = state g.S.Store c.args.conn.now in
    let new = state g.S.Store c.execute.new.self in
    survives_weaker old new _ _ (λ _ db by texts rests id sum. insert_commits old texts c.args.text.now db rests
    (rw (
      c.params-to_sql.ensures,
      to_z-of_z w64 c.args.id c.ranges.id,
      c.params-to_sql-2.ensures,
      c.params-to_sql-3.ensures,
      id,
      sum,
    ) at by)) c.execute.ensures.survives
