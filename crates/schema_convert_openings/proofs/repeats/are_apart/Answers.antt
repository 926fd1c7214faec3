use Rattle.std.proofs.lemmas.Grind.{common_steps}
use Rattle.std.proofs.Common.{◌≡◌, length, map, sym, ap, ◌∙◌, subst, arith}
use Rattle.std.specs.Borrow.{Bor}
use Rattle.std.specs.Option.{option_map}
use Rattle.std.specs.Ordering.{nat_cmp, is_eq}
use Rattle.std.specs.declared.cmp.Ordering.TheVariants.{Equal}
use Rattle.std.specs.List.Sorted.{IsPermutation}
use Rattle.std.proofs.lemmas.Cmp.{nat_cmp_total}
use Rattle.std.proofs.lemmas.List.{take_all}
use Rattle.schema_convert_openings.specs.Repeats.{fingerprint, both_now}
use Rattle.schema_convert_openings.proofs.Apart.{none_repeats, none_by_numbers}
use Rattle.schema_convert_openings.proofs.Seen.{repeat_now}
use Rattle.schema_convert_openings.proofs.repeats.are_apart.Goals as goal

pub returns : goal.returns
returns g c = λ e.
    let R = λ (a b : Bor g.row.T.Denot). g.T.Ord.cmp a.now b.now in
    let number = λ (x : Bor g.row.T.Denot). fingerprint (g.T.Hash.hash_input x.now) in
    let alike = λ (x y : Bor g.row.T.Denot) (tie : R x y ≡ Equal).
    ap fingerprint (g.met.T.Hash.respects_eq x.now y.now (g.met.T.Ord.matches_eq x.now y.now ∙ ap is_eq tie)) in
    let items = c.args.items.now.items in
    let sorted = c.sort_unstable.new.self.items in
    let same : c.loop-item.numbers.items ≡ map number items =
    c.loop-item.invariant ∙ ap (map number) (take_all c.loop-item.item-index items
    (omega (arith, c.loop-item-test.false, ap length c.deref-item-items.ensures.value))) in
    let moved : IsPermutation (map number items) sorted =
    subst (λ l. IsPermutation l sorted) same c.sort_unstable.ensures.permutation in
    sym (repeat_now g.T.Ord.cmp items)
    ∙ ap (option_map both_now) (none_by_numbers R number alike items
    (none_repeats nat_cmp nat_cmp_total (map number items) sorted moved (c.all_rise.ensures e)))

pub loop-item-preserved : goal.loop-item-preserved
loop-item-preserved g c = grind (arith, common_steps)
