use Rattle.std.proofs.Common.{◌≡◌, IfOk, ap, sym, ◌∙◌, subst}
use Rattle.serde_json.specs.View.{members_view}
use Rattle.schema_json.specs.declared.entity_type.EntityTypeKind.TheVariants.{Standard}
use Rattle.schema_json_values.specs.FragmentValues.{kind_members}
use Rattle.schema_json_values.proofs.entity_types.kind_members.Goals as goal

pub returns-in-Standard : goal.returns-in-Standard
returns-in-Standard g c =
    let names = g.N.NameText.components in
    subst (λ k. IfOk c.standard_members.result (λ m. members_view m.entries ≡ kind_members names k))
    (ap Standard c.get.ensures ∙ sym c.in-Standard.is) c.standard_members.ensures
