use Rattle.cedar_identifiers.specs.Names.{texts_of}
use Rattle.schema_assist_words.proofs.Named.{Gathers}
use Rattle.schema_assist_words.proofs.namespaces.name_of_words.Given as goal

abbrev pub invariant-loop-token : goal.invariant-loop-token
invariant-loop-token l = Gathers l.text l.tokens l.token-index (texts_of l.ids.items)
