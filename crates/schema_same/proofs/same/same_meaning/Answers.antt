use Rattle.schema_same.proofs.Compared.{answered}
use Rattle.schema_same.proofs.same.same_meaning.Goals as goal

pub returns : goal.returns
returns c =
    answered c.meanings_are_read_back.ensures c.args.first.now c.args.second.now c.args.table.now c.in-Ok.schema
    c.in-Ok-built.schema c.in-Ok.ensures c.in-Ok-built.ensures c.meaning_eq.result c.meaning_eq.ensures.same
