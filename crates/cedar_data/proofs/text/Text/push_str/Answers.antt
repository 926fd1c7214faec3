use Rattle.std.proofs.Common.{◌≡◌, ◌++◌, subst, List, ℕ}
use Rattle.std.specs.Result.{OnOk}
use Rattle.std.specs.Str.{chars}
use Rattle.cedar_data.specs.Held.{held_bytes}
use Rattle.cedar_data.proofs.Pushed.{chars_pushed}
use Rattle.cedar_data.proofs.text.Text.push_str.Goals as goal

pub returns-clause-ok : goal.returns-clause-ok
returns-clause-ok c =
    let P : List ℕ → Type 0 = λ old. OnOk c.push_str.result
    (chars (held_bytes c.push_str.new.self) ≡ old ++ chars c.args.more.now) in
    subst P c.self.view_is (chars_pushed c.push_str.result _ _ _ c.push_str.ensures.text c.push_str.ensures.bytes)
