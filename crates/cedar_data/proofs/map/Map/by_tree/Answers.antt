use Rattle.std.proofs.Common.{◌≡◌, [], sym, ap, ◌∙◌, arith}
use Rattle.std.specs.BTreeMap.{get, is_at}
use Rattle.std.specs.Map.{lookup}
use Rattle.std.specs.Option.{option_or}
use Rattle.std.proofs.lemmas.List.{nil_from_length}
use Rattle.cedar_data.specs.Maps.{with_entries, last_at}
use Rattle.cedar_data.proofs.Made.{last_more}
use Rattle.cedar_data.proofs.Options.{or_none}
use Rattle.cedar_data.proofs.map.Map.by_tree.Goals as goal

pub loop-key-init : goal.loop-key-init
loop-key-init g c =
    let none = c.new-tree.ensures.empty in
    let all = c.into_iter-key-iterator.ensures.into_iter_gives.0 in
    record {
      made = (λ i. with_entries g.K.Ord.cmp (none i) (all i));
      last = λ q. (λ i. option_or (last_at (is_at (g.K.Ord.cmp q)) (all i)) (lookup (is_at (g.K.Ord.cmp q)) (none i)))
          ∙ or_none _;
    }

pub loop-key-preserved : goal.loop-key-preserved
loop-key-preserved g c =
    let step = c.in-Some.ensures.steps.0 in
    record {
      made = ap (λ m. with_entries g.K.Ord.cmp m c.next.new.self.rest.items) c.in_ok-insert.ensures.entries
          ∙ ap (with_entries g.K.Ord.cmp c.loop-key.tree.entries) (sym step) ∙ c.loop-key.invariant.made;
      last = λ q. last_more g.K.Ord.cmp g.met.K.Ord.total q c.in-Some.key c.in-Some.value c.next.new.self.rest.items _
          _ (c.in_ok-insert.ensures.updates.0 q)
          ∙ ap (λ rest. option_or (last_at (is_at (g.K.Ord.cmp q)) rest) (get g.K.Ord.cmp c.loop-key.tree q)) (sym step)
          ∙ c.loop-key.invariant.last q;
    }

pub returns-clause-entries : goal.returns-clause-entries
returns-clause-entries g c =
    let over : c.loop-key.key-iterator.rest.items ≡ [] = nil_from_length _ (omega (arith, c.in-None.ensures.steps.0)) in
    c.in_ok-map.ensures ∙ ap (with_entries g.K.Ord.cmp c.loop-key.tree.entries) (sym over) ∙ c.loop-key.invariant.made

pub returns-clause-last : goal.returns-clause-last
returns-clause-last g c = λ q.
    let over : c.loop-key.key-iterator.rest.items ≡ [] = nil_from_length _ (omega (arith, c.in-None.ensures.steps.0)) in
    ap (lookup (is_at (g.K.Ord.cmp q))) c.in_ok-map.ensures
    ∙ ap (λ rest. option_or (last_at (is_at (g.K.Ord.cmp q)) rest) (get g.K.Ord.cmp c.loop-key.tree q)) (sym over)
    ∙ c.loop-key.invariant.last q
