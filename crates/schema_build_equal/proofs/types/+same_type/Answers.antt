use Rattle.std.proofs.Common.{rules, arith, ◌≡◌, true, refl, ap, sym, get_or}
use Rattle.cedar_data.proofs.Sizes.{most_at}
use Rattle.schema_build_types.specs.declared.types.Type.{size-Type}
use Rattle.schema_build_types.specs.Content.{type_content, attributes_content}
use Rattle.schema_build_equal.proofs.Keys.{same_text, texts_equal}
use Rattle.schema_build_equal.proofs.Layers.{as_many, attribute_same, record_same, extension_same}
use Rattle.schema_build_equal.proofs.OneSet.{restated}
use Rattle.schema_build_equal.proofs.types.+same_type.Goals as goal

pub same_attribute-returns-then-a-b : goal.same_attribute-returns-then-a-b
same_attribute-returns-then-a-b t c =
    let a = c.args.a.now in
    let b = c.args.b.now in
    let texts : same_text a.0 b.0 ≡ true = search (rules, c.ne.ensures, c.if-ne.false) in
    attribute_same a.0 b.0 a.1.1 b.1.1 (type_content a.1.0) (type_content b.1.0) c.same_type.result
    c.same_type.ensures ((texts_equal a.0 b.0).0 texts) (search rules)

pub same_attributes-returns-then-a-b : goal.same_attributes-returns-then-a-b
same_attributes-returns-then-a-b t c =
    (λ h. absurd (cc), λ h. absurd (let many = as_many c.args.a.now c.args.b.now h in search rules))

pub same_attributes-same_attribute-requires : goal.same_attributes-same_attribute-requires
same_attributes-same_attribute-requires t c =
    let it = c.index-a-at.result in
    let le = most_at (λ p. size-Type p.0) c.args.a.now c.loop-at.at it c.loop-at-test.true in
    let same : size-Type it.1.0 ≡ size-Type (get_or c.args.a.now c.loop-at.at it).1.0 = ap
    (λ p. size-Type p.1.0) c.index-a-at.is in
    (omega (arith, le, same, c.decreases), search rules)

pub same_type-returns-then-more-more_b : goal.same_type-returns-then-more-more_b
same_type-returns-then-more-more_b t c =
    let xs = c.in-Record.attrs in
    let ys = c.in-Record-b.attrs_b in
    let r = c.same_attributes.result in
    record_same c.args.a.now c.args.b.now xs ys c.in-Record.more c.in-Record-b.more_b r c.in-Record.is
    c.in-Record-b.is (search rules)
    (restated r r (attributes_content xs) (attributes_content ys) _ _ refl c.same_attributes.ensures
    (ap attributes_content (sym c.as_slice.ensures.entries))
    (ap attributes_content (sym c.as_slice-then-more-more_b.ensures.entries)))

pub same_type-returns-in-Extension-b : goal.same_type-returns-in-Extension-b
same_type-returns-in-Extension-b t c =
    let x = c.in-Extension.name in
    let y = c.in-Extension-b.name_b in
    extension_same c.args.a.now c.args.b.now x y c.eq.result c.in-Extension.is c.in-Extension-b.is
    (restated c.eq.result (same_text x.id.text y.id.text) x.id.text y.id.text _ _ c.eq.ensures
    (texts_equal x.id.text y.id.text) refl refl)
