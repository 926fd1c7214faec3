use Rattle.schema_assist.proofs.laws.assisted_or_refused.Goals as goal

pub returns : goal.returns
returns c = λ text at known table a error h r. c.front_or_refusal.ensures text at a.partial h.front error h.before r
