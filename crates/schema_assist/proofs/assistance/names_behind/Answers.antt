use Rattle.std.proofs.Common.{subst, sym, Contains}
use Rattle.std.specs.Prelude.{◌↔◌}
use Rattle.std.specs.List.Sorted.{IsStrictlySortedBy}
use Rattle.cedar_data.specs.Text.{text_cmp}
use Rattle.schema_assist.proofs.OneList.{none_rise}
use Rattle.schema_syntax_tokens.specs.TokenLists.{kinds_of}
use Rattle.schema_assist_places.specs.Behind.{IsPlaceBehind}
use Rattle.schema_assist.specs.Assistance.{IsNameBehind}
use Rattle.schema_assist.proofs.Behind.{if_ok, none_behind, some_behind}
use Rattle.schema_assist.proofs.assistance.names_behind.Goals as goal

pub returns-in-None-clause-rising : goal.returns-in-None-clause-rising
returns-in-None-clause-rising c = subst (λ l. IsStrictlySortedBy text_cmp l) (sym c.new.ensures.items) none_rise

pub returns-in-None-clause-names : goal.returns-in-None-clause-names
returns-in-None-clause-names c =
    let text = c.args.text.now in
    let front = c.args.front.now in
    let known = c.args.known.now in
    let none = subst (λ o. IsPlaceBehind (kinds_of front) o) c.in-None.is c.requires.place in
    subst (λ l. (s : _) → (Contains l s ↔ IsNameBehind text front c.args.partial.now known c.args.table.now s))
    (sym c.new.ensures.items) (none_behind known c.args.table.now text front c.args.partial.now none)

pub returns-in-Some-clause-names : goal.returns-in-Some-clause-names
returns-in-Some-clause-names c =
    let front = c.args.front.now in
    let stands = subst (λ o. IsPlaceBehind (kinds_of front) o) c.in-Some.is c.requires.place in
    if_ok c.names_at.result _ _
    (λ v each. some_behind c.args.known.now c.args.table.now c.args.text.now front c.args.partial.now
    c.one_place.ensures c.in-Some.place stands v.items each) c.names_at.ensures.offered
