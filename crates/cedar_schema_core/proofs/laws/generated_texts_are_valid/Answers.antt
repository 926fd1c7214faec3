use Rattle.schema_convert_plain.specs.Translation.{translated}
use Rattle.schema_generate.specs.Generated.{generated}
use Rattle.laws_build.specs.Generated.Declares.{generated_items}
use Rattle.cedar_schema_core.proofs.Canonical.{text_means}
use Rattle.cedar_schema_core.proofs.laws.generated_texts_are_valid.Goals as goal

pub returns : goal.returns
returns c = λ n table some small.
    let t = c.generated_texts_are_translated.ensures n some small in
    let f = translated t.reads.tree in
    let m = c.what_is_generated_means_something.ensures.means n some small f t.says table in (
      m.0,
      text_means c.syntax_is_sentence.ensures (generated n) (generated_items n) table m.0 t m.1
          (c.what_is_generated_means_something.ensures.faultless n some f t.says table) m.2,
    )
