use Rattle.std.proofs.lemmas.Grind.{common_steps}
use Rattle.std.proofs.Common.{refl, sym, ◌∙◌, arith}
use Rattle.std.specs.declared.cmp.Ordering.TheVariants.{Less, Equal, Greater}
use Rattle.cedar_names.specs.Orders.{id_text_order}
use Rattle.schema_build_text.proofs.Named.{front_of, decided}
use Rattle.schema_build_text.proofs.names.compare_namespaces.Goals as goal

pub returns-in-Less : goal.returns-in-Less
returns-in-Less c =
    let a = c.args.a.now in
    let b = c.args.b.now in
    let p = front_of a c.in-Some.a_front.now c.in-Some.field-0-0.now
    (sym c.as_slice.ensures ∙ c.in-Some.ensures.cases.0) in
    let q = front_of b c.in-Some-split_last-2.b_front.now c.in-Some-split_last-2.field-0-0.now
    (sym c.as_slice-in-Some.ensures ∙ c.in-Some-split_last-2.ensures.cases.0) in
    decided id_text_order (λ x y. refl) a b Less c.in-Some.a_front.now c.in-Some-split_last-2.b_front.now p q
    (sym c.in-Less.ensures)

pub returns-in-Greater : goal.returns-in-Greater
returns-in-Greater c =
    let a = c.args.a.now in
    let b = c.args.b.now in
    let p = front_of a c.in-Some.a_front.now c.in-Some.field-0-0.now
    (sym c.as_slice.ensures ∙ c.in-Some.ensures.cases.0) in
    let q = front_of b c.in-Some-split_last-2.b_front.now c.in-Some-split_last-2.field-0-0.now
    (sym c.as_slice-in-Some.ensures ∙ c.in-Some-split_last-2.ensures.cases.0) in
    decided id_text_order (λ x y. refl) a b Greater c.in-Some.a_front.now c.in-Some-split_last-2.b_front.now p q
    (sym c.in-Greater.ensures)

pub returns-in-Equal : goal.returns-in-Equal
returns-in-Equal c =
    let a = c.args.a.now in
    let b = c.args.b.now in
    let p = front_of a c.in-Some.a_front.now c.in-Some.field-0-0.now
    (sym c.as_slice.ensures ∙ c.in-Some.ensures.cases.0) in
    let q = front_of b c.in-Some-split_last-2.b_front.now c.in-Some-split_last-2.field-0-0.now
    (sym c.as_slice-in-Some.ensures ∙ c.in-Some-split_last-2.ensures.cases.0) in
    c.cmp-in-Equal.ensures ∙ decided _ (λ x y. refl) a b Equal c.in-Some.a_front.now
    c.in-Some-split_last-2.b_front.now p q (sym c.in-Equal.ensures)

pub returns-in-None-split_last : goal.returns-in-None-split_last
returns-in-None-split_last c = grind (arith, common_steps)

pub returns-in-None-split_last-2 : goal.returns-in-None-split_last-2
returns-in-None-split_last-2 c = grind (arith, common_steps)

pub returns-in-Some-split_last : goal.returns-in-Some-split_last
returns-in-Some-split_last c = grind (arith, common_steps)
