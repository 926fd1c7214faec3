use Rattle.std.proofs.Common.{map, arith, refl, sym, subst}
use Rattle.std.proofs.lemmas.List.{length-map}
use Rattle.sqlite.specs.Held.{state}
use Rattle.schema_registry_table.specs.Table.{text_in}
use Rattle.schema_registry_table.proofs.StatementLemmas.{plain_list}
use Rattle.schema_registry_table.proofs.StateLemmas.{list_shows, plain_unchanged}
use Rattle.schema_registry_table.specs.Statements.{list_text}
use Rattle.sqlite.specs.Given.{IsPlain}
use Rattle.sqlite.specs.Listing.{understood}
use Rattle.schema_registry_table.proofs.rows.count_rows.Goals as goal

pub ask-requires : goal.ask-requires
ask-requires g c = plain_list

pub returns-then-are_listed-clause-counted : goal.returns-then-are_listed-clause-counted
returns-then-are_listed-clause-counted g c clean schema auto settled =
    let old = state g.S.Store c.args.conn.now in
    let new = state g.S.Store c.ask.new.conn in
    let rows = c.in_ok-rows.rows.items in (
      map text_in rows,
      list_shows old new rows schema auto settled (c.in_ok-rows.ensures.shown clean)
          (rw c.deref.ensures.value at (c.if-are_listed.ensures refl)),
      omega
          (arith, length-map rows text_in, c.len.ensures),
    )

pub returns-then-are_listed-clause-same : goal.returns-then-are_listed-clause-same
returns-then-are_listed-clause-same g c clean schema =
    let old = state g.S.Store c.args.conn.now in
    let new = state g.S.Store c.ask.new.conn in
    plain_unchanged list_text _ old new c.in_ok-rows.rows.items
    (subst (λ z. IsPlain (understood z list_text)) (sym schema) plain_list) (c.in_ok-rows.ensures.shown clean)
