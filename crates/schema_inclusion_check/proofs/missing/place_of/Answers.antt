use Rattle.std.proofs.Common.{◌≡◌, ◌≤◌, drop, length, false, ap, sym, ◌∙◌, arith}
use Rattle.std.specs.List.{list_any}
use Rattle.std.proofs.lemmas.List.{take_all}
use Rattle.schema_inclusion_check.proofs.Anyone.{none_whole, match_weaker}
use Rattle.schema_inclusion_check.proofs.missing.place_of.Goals as goal

pub returns-in-None : goal.returns-in-None
returns-in-None g c =
    let items = c.args.items.now in
    let test = g.T.PartialEq.eq c.args.item.now in
    let behind : list_any test (drop c.args.from items) ≡ false =
    ap (λ l. list_any test (drop c.args.from l)) (sym (take_all (length items) items (omega arith)))
    ∙ c.in-None.ensures in
    match_weaker c.place_between-in-None.result (λ before. none_whole test items c.args.from before behind) (λ at h. h)
    c.place_between-in-None.ensures
