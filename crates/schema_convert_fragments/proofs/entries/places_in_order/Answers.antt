use Rattle.std.proofs.Common.{◌<◌, length, sym, ap, ◌∙◌, subst}
use Rattle.std.specs.Borrow.{Bor}
use Rattle.std.specs.Cmp.{eq_by_cmp_equiv, on_total}
use Rattle.std.specs.List.{All, IsDistinct}
use Rattle.std.specs.Map.{keys_of}
use Rattle.std.specs.Ordering.{eq_by_cmp}
use Rattle.std.proofs.lemmas.List.{length-map}
use Rattle.std.proofs.lemmas.List.Elements.{All-map}
use Rattle.std.proofs.lemmas.List.Sorted.{All-permutation, IsPermutation-map, IsPermutation-sym, length_permutation}
use Rattle.std.proofs.lemmas.Map.Keys.{IsDistinct-IsPermutation, IsDistinct-from_sorted}
use Rattle.schema_convert_fragments.proofs.Moved.{lent_distinct}
use Rattle.schema_convert_fragments.proofs.entries.places_in_order.Goals as goal

pub returns-then-entries_rise-clause-distinct : goal.returns-then-entries_rise-clause-distinct
returns-then-entries_rise-clause-distinct g c =
    let R = λ (a b : Bor g.row.K.Denot). g.K.Ord.cmp a.now b.now in
    let before = c.in_ok-keys.keys.items in
    let after = c.sort_by.new.self.items in
    let rise = c.entries_rise.ensures c.if-entries_rise.true in
    subst (IsDistinct (eq_by_cmp g.K.Ord.cmp)) c.in_ok-keys.ensures.keys
    (lent_distinct g.K.Ord.cmp before
    (IsDistinct-IsPermutation (eq_by_cmp R) ((eq_by_cmp_equiv (on_total (λ (a : Bor g.row.K.Denot). a.now)
    g.met.K.Ord.total)).symm) (keys_of after) (keys_of before)
    (IsPermutation-map (λ e. e.0) after before (IsPermutation-sym before after c.sort_by.ensures.permutation))
    (IsDistinct-from_sorted R (keys_of after) rise)))

pub returns-then-entries_rise-clause-len : goal.returns-then-entries_rise-clause-len
returns-then-entries_rise-clause-len g c =
    let before = c.in_ok-keys.keys.items in
    let after = c.sort_by.new.self.items in
    ap length c.in_ok-places.ensures ∙ length-map after (λ e. e.1)
    ∙ length_permutation before after c.sort_by.ensures.permutation
    ∙ sym (length-map before (λ e. e.0.now)) ∙ ap length c.in_ok-keys.ensures.keys
    ∙ length-map c.args.entries.now.items (λ e. e.0)

pub returns-then-entries_rise-clause-in_range : goal.returns-then-entries_rise-clause-in_range
returns-then-entries_rise-clause-in_range g c =
    let long = length c.args.entries.now.items in
    let before = c.in_ok-keys.keys.items in
    let after = c.sort_by.new.self.items in
    subst (All (λ p. p < long)) (sym c.in_ok-places.ensures)
    (All-map (λ p. p < long) (λ e. e.1) after
    (All-permutation (λ e. e.1 < long) before after c.sort_by.ensures.permutation c.in_ok-keys.ensures.in_range))
