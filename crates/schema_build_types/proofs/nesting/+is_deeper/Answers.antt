use Rattle.std.proofs.Common.{rules, arith, ◌≡◌, ◌-◌, ◌∙◌, sym, ap, get_or}
use Rattle.cedar_data.proofs.Sizes.{most_at}
use Rattle.schema_build_types.specs.declared.types.Type.{size-Type}
use Rattle.schema_build_types.specs.Content.{type_content}
use Rattle.schema_build_types.specs.declared.types.Type.TheVariants as built
use Rattle.schema_build_types.proofs.Contents.{set_says}
use Rattle.schema_build_types.specs.Nesting.{is_deeper}
use Rattle.schema_build_types.proofs.Nested.{set_deeper}
use Rattle.schema_build_types.proofs.nesting.+is_deeper.Goals as goal

pub some_are_deeper-is_deeper-requires : goal.some_are_deeper-is_deeper-requires
some_are_deeper-is_deeper-requires t c =
    let it = c.loop-ty-item.result in
    let le = most_at (λ p. size-Type p.0) c.args.entries.now c.loop-ty.ty-index it c.loop-ty-test.true in
    let same : size-Type it.1.0 ≡ size-Type (get_or c.args.entries.now c.loop-ty.ty-index it).1.0 = ap
    (λ p. size-Type p.1.0) c.loop-ty-item.is in
    (omega (arith, le, same, c.decreases), search rules)

pub is_deeper-returns-else-most-eq0 : goal.is_deeper-returns-else-most-eq0
is_deeper-returns-else-most-eq0 t c =
    c.is_deeper.ensures ∙ ap (λ e. is_deeper (c.args.most - 1) (type_content e)) c.get.ensures
    ∙ sym (set_deeper c.args.most (type_content c.in-Some.element) c.if-most-eq0.false)
    ∙ ap (λ content. is_deeper c.args.most content)
    (sym (ap type_content (c.in-Set.is ∙ ap built.Set c.in-Some.is) ∙ set_says c.in-Some.element))
