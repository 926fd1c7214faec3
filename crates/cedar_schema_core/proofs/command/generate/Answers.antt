use Rattle.std.proofs.Common.{refl, sym, ap, ◌∙◌, ◌∷◌, []}
use Rattle.std.specs.Prelude.{map}
use Rattle.std.specs.String.{string_bytes}
use Rattle.cedar_schema_core.proofs.Words.{one_word}
use Rattle.cedar_schema_core.proofs.command.generate.Goals as goal

pub returns : goal.returns
returns c = (
  c.in-Some.size,
  c.in_ok-all_available.field-0,
  refl,
  c.in-Some.ensures.0,
  c.in-Some.ensures.1,
  ap (map string_bytes) (one_word c.args.sizes.now c.word-item.result c.in-len1.len_at_least c.in-len1.len_below
      c.word-item.is)
      ∙ ap (λ t. t ∷ []) (sym c.as_str.ensures.value ∙ c.in-Some.ensures.2),
  c.in_ok-all_available.ensures,
)
