-- How many names declarations give, by kind.
use Rattle.std.specs.Prelude.{ℕ, length}
use Rattle.schema_syntax_tree.specs.DeclaredNames.{entity_names, action_names}
use Rattle.schema_syntax_tree.specs.declared.declaration.Declaration.{Declaration}
use Rattle.schema_syntax_tree.specs.declared.declaration.Declaration.TheVariants.{Entity, Action, Common}

abbrev pub entity_count : Declaration → ℕ
entity_count (Entity d) = length (entity_names d)
entity_count (Action d) = 0
entity_count (Common d) = 0

abbrev pub action_count : Declaration → ℕ
action_count (Entity d) = 0
action_count (Action d) = length (action_names d)
action_count (Common d) = 0

abbrev pub common_count : Declaration → ℕ
common_count (Entity d) = 0
common_count (Action d) = 0
common_count (Common d) = 1
