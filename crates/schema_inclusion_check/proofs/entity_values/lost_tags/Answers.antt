use Rattle.std.proofs.Common.{◌≡◌, Some, ap, sym, ◌∙◌}
use Rattle.std.specs.Option.{option_copied, option_map}
use Rattle.schema_inclusion_values.specs.Lost.{one_tag, lost_tags}
use Rattle.schema_inclusion_values.specs.Seen.{value_of}
use Rattle.schema_inclusion_types.specs.Kinds.{plain}
use Rattle.schema_inclusion_check.proofs.Pieces.{tags_told}
use Rattle.schema_inclusion_check.proofs.entity_values.lost_tags.Goals as goal

pub returns-in-None-2 : goal.returns-in-None-2
returns-in-None-2 c = λ m n told.
    let t = plain c.in-Some.old.now in
    let u = plain c.in-Some-new.new.now in
    ap (λ o. option_map one_tag (option_map value_of o)) (sym c.in-None-2.is)
    ∙ (tags_told c.args.ids.now.rows m n told t u c.in_ok-lost_value-in-Some-new.field-0
    c.in_ok-lost_value-in-Some-new.ensures
    ∙ sym (λ i. lost_tags m n (option_map plain (option_copied (c.in-Some.is i)))
    (option_map plain (option_copied (c.in-Some-new.is i)))))

pub returns-in_ok-one_tag-in-Some-2 : goal.returns-in_ok-one_tag-in-Some-2
returns-in_ok-one_tag-in-Some-2 c = λ m n told.
    let t = plain c.in-Some.old.now in
    let u = plain c.in-Some-new.new.now in
    ap Some c.in_ok-one_tag-in-Some-2.ensures
    ∙ (ap (λ o. option_map one_tag (option_map value_of o)) (sym c.in-Some-2.is)
    ∙ (tags_told c.args.ids.now.rows m n told t u c.in_ok-lost_value-in-Some-new.field-0
    c.in_ok-lost_value-in-Some-new.ensures
    ∙ sym (λ i. lost_tags m n (option_map plain (option_copied (c.in-Some.is i)))
    (option_map plain (option_copied (c.in-Some-new.is i))))))
