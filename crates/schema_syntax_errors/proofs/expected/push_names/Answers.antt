use Rattle.std.proofs.Common.{◌≡◌, ◌++◌, ◌∷◌, sym, ap, ◌∙◌, map, codes}
use Rattle.std.specs.Str.{chars}
use Rattle.schema_syntax_errors.specs.ExpectedText.{kind_name}
use Rattle.cedar_data.specs.Rows.{listed, separator}
use Rattle.schema_syntax_errors.proofs.Listing.{names_more}
use Rattle.schema_syntax_errors.proofs.expected.push_names.Goals as goal

pub loop-kind-preserved : goal.loop-kind-preserved
loop-kind-preserved c =
    let kind = c.in-Some.kind.now in
    let rest = c.in-Some.rest.now in
    let text = c.loop-kind.text in
    let named : c.push_str.new.self ≡ text ++ chars (kind_name kind) = c.in_ok-push_str.ensures.ok
    ∙ ap (λ x. text ++ chars x) c.name_of.ensures in
    let parted : c.push_str-in-Some.new.self ≡ c.push_str.new.self
    ++ chars (separator (codes ", ") (codes " or ") rest) = c.in_ok-push_str-2.ensures.ok
    ∙ ap (λ x. c.push_str.new.self ++ chars x) c.separator.ensures in
    let left : c.loop-kind.left.now ≡ kind ∷ rest = c.in-Some.ensures.cases.0 in
    ap (λ x. x ++ listed (codes ", ") (codes " or ") (map kind_name rest))
    (parted ∙ ap (λ x. x ++ chars (separator (codes ", ") (codes " or ") rest)) named) ∙ names_more kind rest text
    ∙ ap (λ l. text ++ listed (codes ", ") (codes " or ") (map kind_name l)) (sym left) ∙ c.loop-kind.invariant
