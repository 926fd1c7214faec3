use Rattle.std.proofs.Common.{sym, ap, subst, ◌∙◌}
use Rattle.sqlite.specs.Effect.{Database}
use Rattle.sqlite.specs.Held.{state}
use Rattle.schema_registry_table.specs.Table.{Keeps}
use Rattle.schema_registry_table.proofs.table.TextTable.over.Goals as goal

pub invariant_of-result : goal.invariant_of-result
invariant_of-result g c clean =
    let ready = c.in_ok-prepare.ensures in
    let it = c.in_ok-count.ensures.counted clean ready.schema ready.autocommit ready.settled in
    (it.0, (it.1.autocommit, λ _. it.1), it.2)

pub returns : goal.returns
returns g c = record {
  rests = λ clean.
      let ready = c.in_ok-prepare.ensures in
      let it = c.in_ok-count.ensures.counted clean ready.schema ready.autocommit ready.settled in (it.0, it.1);
  found = λ clean texts keeps.
      let ready = c.in_ok-prepare.ensures in
      let it = c.in_ok-count.ensures.counted clean ready.schema ready.autocommit ready.settled in
      let u = c.in_ok-count.ensures.same clean ready.schema in
      let same = sym (ap (λ h. (state g.S.Store h).now) (ready.kept keeps.schema_is)) ∙ sym u.0.now_is ∙ it.1.settled in
      record {
        is_open = it.1.is_open;
        autocommit = it.1.autocommit;
        settled = it.1.settled;
        keeps = subst (λ (d : Database). Keeps d texts) same keeps;
      };
}
