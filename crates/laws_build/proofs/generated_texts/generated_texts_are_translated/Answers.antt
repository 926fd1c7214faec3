use Rattle.std.specs.List.{range_with_len}
use Rattle.laws_written.proofs.ReadingBack.{reads_back}
use Rattle.schema_generate.specs.Generated.{generated}
use Rattle.laws_build.specs.Generated.Declares.{generated_items}
use Rattle.laws_build.proofs.Generated.Sayable.{well_named, sayable}
use Rattle.laws_build.proofs.Generated.Spelled.{reads}
use Rattle.laws_build.proofs.generated_texts.generated_texts_are_translated.Goals as goal

pub returns : goal.returns
returns c = λ n some small.
    c.texts_that_read_back_are_translated.ensures (generated n) (generated_items n)
    (reads n some small c.laid_text_is_read.ensures.read (reads_back c.one_value.ensures.value_or_bad))
    (well_named n (range_with_len 0 n)) (sayable n small)
