use Rattle.cedar_schema_core.proofs.Planned.{own_answered}
use Rattle.cedar_schema_core.proofs.run.own_reply.Goals as goal

pub returns : goal.returns
returns c = λ words bytes asks.
    own_answered c.generated_texts_are_valid.ensures c.refused_or_valid.ensures words bytes c.text_reply.result
    c.args.command.now c.args.text.now asks c.requires.own c.text_reply.ensures
