use Rattle.schema_inclusion.proofs.run.two_texts.Goals as goal

pub returns-in_default : goal.returns-in_default
returns-in_default c = λ old new texts. c.in_default.ensures old new texts.messages
