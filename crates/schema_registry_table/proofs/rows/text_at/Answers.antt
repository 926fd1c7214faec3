use Rattle.std.proofs.Common.{option_map, string_bytes, w64}
use Rattle.std.proofs.lemmas.Int.{to_z-of_z}
use Rattle.sqlite.specs.Held.{state}
use Rattle.schema_registry_table.proofs.StatementLemmas.{plain_show}
use Rattle.schema_registry_table.proofs.StateLemmas.{at_text, if_ok}
use Rattle.schema_registry_table.proofs.rows.text_at.Goals as goal

pub ask-requires : goal.ask-requires
ask-requires g c = plain_show

pub returns-clause-shown : goal.returns-clause-shown
returns-clause-shown g c clean texts rests place id =
    let old = state g.S.Store c.args.conn.now in
    let new = state g.S.Store c.ask.new.conn in
    if_ok c.first_text.result (rw c.deref.ensures.value at c.first_text.ensures) (λ found first.
    at_text old new texts place c.in_ok-rows.rows.items (option_map string_bytes found) rests
    (rw (c.params-to_sql.ensures, to_z-of_z w64 c.args.id c.ranges.id, id) at
    (c.in_ok-rows.ensures.shown clean)) first)
