use Rattle.std.proofs.Common.{◌≡◌, ◌++◌, subst, List, ℕ, ap, ◌∙◌}
use Rattle.std.specs.Result.{OnOk}
use Rattle.std.specs.Str.{chars}
use Rattle.std.proofs.lemmas.Str.{chars-encodes}
use Rattle.cedar_data.proofs.text.Text.push_text.Goals as goal

pub returns-clause-ok : goal.returns-clause-ok
returns-clause-ok c =
    let P : List ℕ → Type 0 = λ more. OnOk c.push_str.result (c.push_str.new.self ≡ c.args.self.now ++ more) in
    subst P (ap chars c.as_str.ensures.bytes ∙ chars-encodes c.args.more.now c.as_str.ensures.characters)
    c.push_str.ensures.ok
