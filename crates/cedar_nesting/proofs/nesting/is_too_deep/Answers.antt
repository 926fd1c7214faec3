use Rattle.std.proofs.Common.{◌≡◌, ◌∙◌, ◌+◌, ◌<◌, true, false, refl, sym, ap, arith, drop, length, slice_index_or}
use Rattle.std.proofs.lemmas.Bool.{lt-ltb, cond-true}
use Rattle.std.proofs.lemmas.List.{at_drop_all, at_drop_more}
use Rattle.std.proofs.lemmas.Grind.{common_steps}
use Rattle.cedar_nesting.specs.Nesting.{opens, closes, IsTooDeep}
use Rattle.cedar_nesting.specs.declared.nesting.Place.TheVariants.{Outside}
use Rattle.cedar_nesting.specs.declared.nesting.TheConstants.{DEEPEST}
use Rattle.cedar_nesting.proofs.Depths.{one, deep_from, deep_found, deep_finds}
use Rattle.cedar_nesting.proofs.nesting.is_too_deep.Goals.{then-opens, else-opens, then-closes, else-closes}
use Rattle.cedar_nesting.proofs.nesting.is_too_deep.Goals as goal

pub returns-then-closed-opened : goal.returns-then-closed-opened
returns-then-closed-opened c =
    let t : deep_from Outside 0 0 c.args.bytes.now ≡ true = grind (arith, common_steps, lt-ltb) in
    (λ _. deep_found c.args.bytes.now t, λ _. refl)

pub returns : goal.returns
returns c =
    let none : false ≡ deep_from Outside 0 0 c.args.bytes.now =
    sym (at_drop_all (λ bs. deep_from c.loop-byte.place c.loop-byte.opened c.loop-byte.closed bs) c.args.bytes.now c.loop-byte.byte-index
    c.loop-byte-test.false) ∙ c.loop-byte.invariant.0 in
    (λ e. deep_found c.args.bytes.now (sym none ∙ e), λ d. none ∙ deep_finds c.args.bytes.now d)
