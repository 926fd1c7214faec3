-- What a turn of the code is.
use Rattle.schema_syntax_parser.specs.declared.turns.Turn.{Turn}
use Rattle.schema_syntax_parser.specs.declared.turns.Turn.TheVariants as code
use Rattle.schema_syntax_parser.specs.Reading as Reading
use Rattle.schema_syntax_parser.specs.Reading.{Done, Last, More}

abbrev pub turn_of : {A : Type 0} → Turn A → Reading.Turn A
turn_of (code.Done ts) = Done ts.now
turn_of (code.Last x ts) = Last x ts.now
turn_of (code.More x ts) = More x ts.now
