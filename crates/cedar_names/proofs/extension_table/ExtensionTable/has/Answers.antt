use Rattle.std.proofs.Common.{◌+◌, ◌-◌, ◌/◌, sym, ap, ◌∙◌, arith, get_or, nat_cmp}
use Rattle.std.specs.Cmp.Lexicographic.{slice_cmp}
use Rattle.std.proofs.lemmas.Cmp.{nat_list_cmp_total}
use Rattle.cedar_names.proofs.Members.{by_bytes, below_more, above_more, hit, miss}
use Rattle.cedar_names.proofs.extension_table.ExtensionTable.has.Goals as goal

pub loop-low-preserved-in-Less : goal.loop-low-preserved-in-Less
loop-low-preserved-in-Less c =
    let l = c.loop-low in
    record {
      ordered = omega arith;
      in_range = omega arith;
      below = below_more _ by_bytes nat_list_cmp_total c.args.self.now.names c.as_slice-names.ensures.sorted
          c.args.id.now l.low (c.loop-low.low + (c.loop-low.high - c.loop-low.low) / 2) c.index-names-middle.result
          l.invariant.below (omega arith)
          (c.index-names-middle.is ∙ ap (λ ns. get_or ns (c.loop-low.low + (c.loop-low.high - c.loop-low.low) / 2)
          c.index-names-middle.result) c.as_slice-names.ensures.items)
          (ap (λ t. slice_cmp nat_cmp t c.args.id.now) (sym c.as_str.ensures) ∙ sym c.compare_bytes.ensures
          ∙ c.in-Less.is);
      above = l.invariant.above;
    }

pub loop-low-preserved : goal.loop-low-preserved
loop-low-preserved c =
    let l = c.loop-low in
    record {
      ordered = omega arith;
      in_range = omega arith;
      below = l.invariant.below;
      above = above_more _ by_bytes nat_list_cmp_total c.args.self.now.names c.as_slice-names.ensures.sorted
          c.args.id.now (c.loop-low.low + (c.loop-low.high - c.loop-low.low) / 2) c.index-names-middle.result
          (omega arith) (c.index-names-middle.is
          ∙ ap (λ ns. get_or ns (c.loop-low.low + (c.loop-low.high - c.loop-low.low) / 2) c.index-names-middle.result)
          c.as_slice-names.ensures.items)
          (ap (λ t. slice_cmp nat_cmp t c.args.id.now) (sym c.as_str.ensures) ∙ sym c.compare_bytes.ensures
          ∙ c.in-Greater.is);
    }

pub returns-in-Equal : goal.returns-in-Equal
returns-in-Equal c = sym (hit c.args.self.now.names c.args.id.now
    (c.loop-low.low + (c.loop-low.high - c.loop-low.low) / 2) c.index-names-middle.result (omega arith)
    (c.index-names-middle.is ∙ ap (λ ns. get_or ns (c.loop-low.low + (c.loop-low.high - c.loop-low.low) / 2)
    c.index-names-middle.result) c.as_slice-names.ensures.items)
    (ap (λ t. slice_cmp nat_cmp t c.args.id.now) (sym c.as_str.ensures) ∙ sym c.compare_bytes.ensures ∙ c.in-Equal.is))

pub returns : goal.returns
returns c = sym (miss c.args.self.now.names c.args.id.now c.loop-low.low c.loop-low.invariant.below
    (λ k d ge lt. c.loop-low.invariant.above k d (omega arith) lt))
