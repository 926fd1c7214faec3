use Rattle.std.proofs.Common.{refl}
use Rattle.cedar_names.proofs.laws.written_out.Goals as goal

pub returns-clause-actions_last : goal.returns-clause-actions_last
unfolding lib.Utf8.encode
returns-clause-actions_last c = refl

pub returns-clause-first_layout : goal.returns-clause-first_layout
unfolding lib.Utf8.encode
returns-clause-first_layout c = refl
