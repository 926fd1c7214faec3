-- Members behind others: a key above all of theirs stands last.
use Rattle.std.proofs.Common.{◌≡◌, ℕ, List, refl, ap, ◌∙◌}
use Rattle.std.specs.Prelude.{⊤}
use Rattle.std.specs.Ordering.{match_ordering, nat_cmp, ordering_reverse}
use Rattle.std.specs.Cmp.Lexicographic.{slice_cmp}
use Rattle.std.specs.declared.cmp.Ordering.TheVariants.{Less, Greater}
use Rattle.std.proofs.lemmas.Cmp.{nat_list_cmp_total}
use Rattle.serde_json.specs.Data.{Data, Members, no_members, member, put}

-- the members, with others behind them
abbrev pub followed : Members → Members → Members
followed no_members more = more
followed (member k d ms) more = member k d (followed ms more)

pub followed_once : (ms more : Members) (k : List ℕ) (d : Data)
    → followed (followed ms (member k d no_members)) more ≡ followed ms (member k d more)
followed_once no_members more k d = refl
followed_once (member l e ms) more k d = ap (member l e) (followed_once ms more k d)

pub followed_by_none : (ms : Members) → followed ms no_members ≡ ms
followed_by_none no_members = refl
followed_by_none (member k d ms) = ap (member k d) (followed_by_none ms)

-- each key among the members comes before this one
abbrev pub Before : Members → List ℕ → Type 0
Before no_members k = ⊤
Before (member l e ms) k = (slice_cmp nat_cmp l k ≡ Less) × Before ms k

pub put_last : (ms : Members) (k : List ℕ) (d : Data) → Before ms k → put k d ms ≡ followed ms (member k d no_members)
put_last no_members k d b = refl
put_last (member l e ms) k d b =
    let greater : slice_cmp nat_cmp k l ≡ Greater = nat_list_cmp_total.antisymm k l ∙ ap ordering_reverse b.0 in
    ap (λ o. match_ordering o (member k d (member l e ms)) (member l d ms) (member l e (put k d ms))) greater
    ∙ ap (member l e) (put_last ms k d b.1)

pub before_more : (ms : Members) (k l : List ℕ) (d : Data) → Before ms k → slice_cmp nat_cmp k l ≡ Less
    → Before (followed ms (member k d no_members)) l
before_more no_members k l d b less = (less, tt)
before_more (member m e ms) k l d b less = (nat_list_cmp_total.trans m k l b.0 less, before_more ms k l d b.1 less)
