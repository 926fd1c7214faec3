use Rattle.sqlite.specs.Held.{state}
use Rattle.schema_registry_table.proofs.StatementLemmas.{plain_find}
use Rattle.schema_registry_table.specs.Statements.{find_text}
use Rattle.schema_registry_table.proofs.StateLemmas.{found_place, rests_shown, if_ok, on_ok}
use Rattle.schema_registry_table.proofs.rows.find.Goals as goal

pub ask-requires : goal.ask-requires
ask-requires g c = plain_find

pub returns-clause-found : goal.returns-clause-found
returns-clause-found g c clean texts rests sum =
    let old = state g.S.Store c.args.conn.now in
    let new = state g.S.Store c.ask.new.conn in
    if_ok c.first_place.result (rw c.deref.ensures.value at c.first_place.ensures) (λ found first.
    found_place old new texts c.args.text.now c.in_ok-rows.rows.items found rests
    (rw (c.params-to_sql.ensures, c.params-to_sql-2.ensures, sum) at (c.in_ok-rows.ensures.shown clean)) first)

pub returns-clause-rests : goal.returns-clause-rests
returns-clause-rests g c clean texts stands =
    let old = state g.S.Store c.args.conn.now in
    let new = state g.S.Store c.ask.new.conn in
    on_ok c.first_place.result (rests_shown find_text _ old new c.in_ok-rows.rows.items texts plain_find
    (c.in_ok-rows.ensures.shown clean) stands)
