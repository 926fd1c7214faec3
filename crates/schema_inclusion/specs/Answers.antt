-- What is written of an answer on two schema texts.
use Rattle.std.specs.Prelude.{ℕ, List, ◌++◌, codes}
use Rattle.schema_inclusion_check.specs.Subjects.{Subject, of_entity, of_request, of_action}
use Rattle.schema_inclusion_shown.specs.ValueTexts.{entity_text}

-- the kind of a value, and its entity or its action
abbrev pub subject_text : Subject → List ℕ
subject_text (of_entity uid) = codes "entity " ++ entity_text uid
subject_text (of_request uid) = codes "request " ++ entity_text uid
subject_text (of_action uid) = codes "action " ++ entity_text uid
