use Rattle.std.proofs.Common.{sym, subst}
use Rattle.schema_syntax_reader.specs.Sites.{empty}
use Rattle.schema_syntax_reader.specs.Stops.{IsFaultOf}
use Rattle.schema_syntax_reader.proofs.SiteFaults.{empty_stopped}
use Rattle.schema_syntax_reader.proofs.actions.empty_list.Goals as goal

pub returns-in-Ok : goal.returns-in-Ok
returns-in-Ok c = λ source.
    subst (IsFaultOf source (empty c.args.brackets)) (sym c.in-Ok.ensures) (empty_stopped source c.args.brackets)
