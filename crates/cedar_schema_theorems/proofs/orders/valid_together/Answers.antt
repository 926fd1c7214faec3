use Rattle.cedar_schema_theorems.proofs.orders.valid_together.Goals as goal

pub returns : goal.returns
returns c = λ text other table h. (λ (m, t). (m, (h m).0 t), λ (m, t). (m, (h m).1 t))
