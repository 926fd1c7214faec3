use Rattle.std.proofs.Common.{refl}
use Rattle.schema_syntax_reader.specs.LawfulTrees.{IsUserFaultOf}
use Rattle.schema_syntax.specs.ParseAnswers.{user}
use Rattle.schema_syntax_errors.specs.declared.parse_error.ParseError.TheVariants.{User}
use Rattle.schema_syntax.proofs.schema_parser.stopped.Goals as goal

pub returns-in-User : goal.returns-in-User
returns-in-User c text tokens are h =
    let u : IsUserFaultOf text tokens c.in-User.fault = rw c.in-User.is at h in
    rw (c.only.ensures, c.into_inner.ensures) (User c.in-User.fault, refl, user tokens c.in-User.fault are u)
