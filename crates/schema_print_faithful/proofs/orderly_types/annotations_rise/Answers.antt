use Rattle.std.proofs.Common.{refl}
use Rattle.cedar_data.specs.Text.{text_cmp}
use Rattle.cedar_identifiers.specs.declared.any_id.AnyId.{AnyId}
use Rattle.schema_print_faithful.proofs.Rising.{rise_as}
use Rattle.schema_print_faithful.proofs.orderly_types.annotations_rise.Goals as goal

pub returns : goal.returns
returns c =
    rise_as (λ (a b : AnyId). text_cmp a.text b.text) text_cmp (λ (a : AnyId). a.text) (λ a b. refl)
    c.args.annotations.now.0 c.as_slice.ensures.sorted
