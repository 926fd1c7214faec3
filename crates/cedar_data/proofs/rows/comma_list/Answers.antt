use Rattle.std.proofs.Common.{◌≡◌, ℕ, List, codes, subst, IfOk}
use Rattle.cedar_data.proofs.Listing.{listed_alike}
use Rattle.cedar_data.proofs.rows.comma_list.Goals as goal

pub returns : goal.returns
returns c = subst (λ (x : List ℕ). IfOk c.listed.result (λ list. list ≡ x))
    (listed_alike (codes ", ") c.args.texts.now) c.listed.ensures
