use Rattle.std.proofs.Common.{◌≡◌, ◌++◌, None, find}
use Rattle.std.specs.Vec.Iter.{into_iter_items}
use Rattle.cedar_identifiers.specs.Names.{texts_of}
use Rattle.cedar_identifiers.specs.NameReading.{refuses}
use Rattle.cedar_identifiers.specs.Fronts.{word_texts}
use Rattle.cedar_identifiers.proofs.name_reader.components.Given as goal

abbrev pub invariant-loop-word : goal.invariant-loop-word
invariant-loop-word l = (texts_of l.ids.items ++ word_texts (into_iter_items l.word-iterator)
    ≡ word_texts l.fn.words.items) × (find (refuses l.kind) (texts_of l.ids.items) ≡ None)
