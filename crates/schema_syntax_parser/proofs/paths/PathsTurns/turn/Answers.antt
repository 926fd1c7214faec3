use Rattle.schema_syntax_parser.specs.Reading.{chain_turn}
use Rattle.std.proofs.Common.{rules}
use Rattle.schema_syntax_parser.proofs.paths.PathsTurns.turn.Goals as goal

pub bounds-tokens-0 : goal.bounds-tokens-0
unfolding chain_turn
bounds-tokens-0 c = search rules

pub slice_bounds-rest-count : goal.slice_bounds-rest-count
unfolding chain_turn
slice_bounds-rest-count c = search rules

pub slice_bounds-rest-end : goal.slice_bounds-rest-end
unfolding chain_turn
slice_bounds-rest-end c = search rules

pub slice_bounds-rest-start : goal.slice_bounds-rest-start
unfolding chain_turn
slice_bounds-rest-start c = search rules
