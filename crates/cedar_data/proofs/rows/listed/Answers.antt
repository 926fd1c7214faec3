use Rattle.std.proofs.Common.{◌≡◌, ◌++◌, ◌∷◌, sym, ap, ◌∙◌}
use Rattle.std.specs.Str.{chars}
use Rattle.cedar_data.specs.Rows.{listed, separator}
use Rattle.cedar_data.proofs.Listing.{row_more}
use Rattle.cedar_data.proofs.rows.listed.Goals as goal

pub loop-text-preserved : goal.loop-text-preserved
loop-text-preserved c =
    let between = c.args.between.now in
    let last = c.args.before_last.now in
    let text = c.in-Some.text.now in
    let rest = c.in-Some.rest.now in
    let list = c.loop-text.list in
    let named : c.push_text.new.self ≡ list ++ text = c.in_ok-push_text.ensures.ok in
    let parted : c.push_str.new.self ≡ c.push_text.new.self
    ++ chars (separator between last rest) = c.in_ok-push_str.ensures.ok
    ∙ ap (λ x. c.push_text.new.self ++ chars x) c.separator.ensures in
    let left : c.loop-text.left.now ≡ text ∷ rest = c.in-Some.ensures.cases.0 in
    ap (λ x. x ++ listed between last rest) (parted ∙ ap (λ x. x ++ chars (separator between last rest)) named)
    ∙ row_more between last text rest list c.requires.between c.requires.before_last
    ∙ ap (λ t. list ++ listed between last t) (sym left)
    ∙ c.loop-text.invariant
