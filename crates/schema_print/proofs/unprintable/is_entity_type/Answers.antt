use Rattle.std.proofs.Common.{ap, sym, ◌∙◌}
use Rattle.std.specs.Prelude.{is_some}
use Rattle.std.specs.List.{list_any}
use Rattle.std.specs.Map.{keys_of}
use Rattle.std.specs.Option.{option_copied}
use Rattle.std.specs.Str.{encode_utf8_all}
use Rattle.std.proofs.lemmas.Map.Made.{is_some-lookup}
use Rattle.std.proofs.lemmas.Map.Text.{is_eq-slice_cmp}
use Rattle.schema_print.proofs.unprintable.is_entity_type.Goals as goal

pub returns-in-Some : goal.returns-in-Some
returns-in-Some g c =
    let types = c.args.namespace.now.entity_types in
    let name = c.args.id.now.id.text in
    ap (λ o. is_some (option_copied o)) (sym c.in-Some.is) ∙ (ap is_some c.get.ensures
    ∙ (is_some-lookup _ types ∙ (λ j. list_any
    (λ k. is_eq-slice_cmp (encode_utf8_all name) (encode_utf8_all k.id.text) j) (keys_of types))))

pub returns-in-None : goal.returns-in-None
returns-in-None g c =
    let types = c.args.namespace.now.entity_types in
    let name = c.args.id.now.id.text in
    ap (λ o. is_some (option_copied o)) (sym c.in-None.is) ∙ (ap is_some c.get.ensures
    ∙ (is_some-lookup _ types ∙ (λ j. list_any
    (λ k. is_eq-slice_cmp (encode_utf8_all name) (encode_utf8_all k.id.text) j) (keys_of types))))
