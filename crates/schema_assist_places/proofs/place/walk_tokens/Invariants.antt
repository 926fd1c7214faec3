use Rattle.std.proofs.Common.{◌≡◌, [], ◌∷◌, reverse, map, take, Some}
use Rattle.schema_syntax_grammar.specs.Machine.{run}
use Rattle.schema_syntax_grammar.specs.declared.symbol.Symbol.TheVariants.{Schema}
use Rattle.schema_assist_places.specs.Trace.{space_of}
use Rattle.schema_assist_places.proofs.place.walk_tokens.Given as goal

abbrev pub invariant-loop-i : goal.invariant-loop-i
invariant-loop-i g l =
    (run (Schema ∷ []) (take l.i (map g.T.HasKind.kind_of l.tokens)) ≡ Some (reverse l.stack.items))
    × (space_of (take l.i (map g.T.HasKind.kind_of l.tokens)) ≡ l.space)
