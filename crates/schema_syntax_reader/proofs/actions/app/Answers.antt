use Rattle.std.proofs.Common.{refl, subst}
use Rattle.schema_syntax_reader.proofs.Scanned.{AppParts, app_parts}
use Rattle.schema_syntax_reader.proofs.actions.app.Goals as goal

pub optional-requires : goal.optional-requires
optional-requires c κs = (
  (refl, tt),
  subst (AppParts c.args.text.now) c.in-Types.is (app_parts c.args.text.now c.args.raw c.requires),
)

pub path-requires : goal.path-requires
path-requires c = subst (AppParts c.args.text.now) c.in-ContextPath.is
    (app_parts c.args.text.now c.args.raw c.requires)

pub attrs-requires : goal.attrs-requires
attrs-requires c = subst (AppParts c.args.text.now) c.in-ContextRecord.is
    (app_parts c.args.text.now c.args.raw c.requires)
