use Rattle.std.proofs.Common.{◌≡◌, ◌++◌, List, ℕ, OnOk, subst}
use Rattle.cedar_data.proofs.Ascii.{chars-from_test}
use Rattle.schema_generate.proofs.text.push_words.Goals as goal

pub returns : goal.returns
returns c =
    subst (λ (x : List ℕ). OnOk c.push_str.result (c.push_str.new.self ≡ c.args.text.now ++ x))
    (chars-from_test c.args.wording.now c.requires) c.push_str.ensures.ok
