use Rattle.std.proofs.Common.{◌≡◌, ℕ, List, IfOk, refl, ap, sym, ◌∙◌, subst, codes}
use Rattle.std.specs.Option.{option_map}
use Rattle.std.specs.Str.{chars}
use Rattle.schema_json.specs.Actions.{type_text}
use Rattle.cedar_data.proofs.Ascii.{chars-from_test}
use Rattle.schema_json.proofs.action_uid.type_text.Goals as goal

pub returns-in-None : goal.returns-in-None
returns-in-None g c =
    let known : chars (codes "Action")
    ≡ type_text (option_map g.N.NameText.components c.args.ty.now) = chars-from_test (codes "Action") refl
    ∙ ap (λ ty. type_text (option_map g.N.NameText.components ty)) (sym c.in-None.is) in
    subst (λ (x : List ℕ). IfOk c.from_str.result (λ t. t ≡ x)) known c.from_str.ensures
