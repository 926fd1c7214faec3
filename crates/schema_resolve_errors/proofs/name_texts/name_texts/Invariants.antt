use Rattle.std.proofs.Common.{◌≡◌, ◌++◌, map}
use Rattle.cedar_data.specs.NonEmpty.{items_left}
use Rattle.cedar_identifiers.specs.Names.{name_text}
use Rattle.schema_resolve_errors.proofs.name_texts.name_texts.Given as goal

abbrev pub invariant-loop-name : goal.invariant-loop-name
invariant-loop-name g l = l.texts.items
    ++ map (λ n. name_text (g.N.NameText.components n)) (items_left l.name-iterator)
    ≡ map (λ n. name_text (g.N.NameText.components n)) l.names
