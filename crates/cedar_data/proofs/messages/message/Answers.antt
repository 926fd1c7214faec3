use Rattle.std.proofs.Common.{◌≡◌, ℕ, List, subst, IfOk}
use Rattle.cedar_data.proofs.Ascii.{chars-from_test}
use Rattle.cedar_data.proofs.messages.message.Goals as goal

pub returns : goal.returns
returns c = subst (λ (x : List ℕ). IfOk c.from_str.result (λ copy. copy ≡ x))
    (chars-from_test c.args.wording.now c.requires) c.from_str.ensures
