-- No words ask for no command.
use Rattle.std.proofs.Common.{List, [], ◌∷◌, ◌≡◌, ℕ}
use Rattle.cedar_schema_core.specs.declared.command.Command.{Command}
use Rattle.cedar_schema_core.specs.Commands.{Asks}
use Rattle.cedar_schema_core.specs.Commands as commands

pub none_asked : (c : Command) → Asks [] c → ⊥
none_asked c (commands.recover table e s) = cc
none_asked c (commands.recover_with names table e s) = cc
none_asked c (commands.check table e s) = cc
none_asked c (commands.to_json table e s) = cc
none_asked c (commands.from_json table e s) = cc
none_asked c (commands.from_deprecated table e s) = cc
none_asked c (commands.generate size table e l m s) = cc
