use Rattle.sqlite.specs.Held.{state}
use Rattle.sqlite.specs.Values.{bound}
use Rattle.schema_registry_table.proofs.StateLemmas.{left_by_query}
use Rattle.schema_registry_table.proofs.rows.ask.Goals as goal

pub returns-clause-left : goal.returns-clause-left
returns-clause-left g c =
    let q = c.query_all.ensures in
    left_by_query (λ rows. rows.items) c.args.sql.now (bound c.args.params.now) (state g.S.Store c.args.conn.now)
    (state g.S.Store c.query_all.new.self) c.query_all.result c.requires q.ok q.err q.survives
