use Rattle.std.proofs.Common.{◌++◌, ap, codes, refl, ◌∙◌}
use Rattle.std.proofs.lemmas.Option.{IfSome_then}
use Rattle.schema_build_types.specs.declared.types.Type.TheVariants as built
use Rattle.schema_build_types.specs.Content as said
use Rattle.schema_build_types.proofs.Contents.{long_says, string_says}
use Rattle.schema_build_text.proofs.Layers.{shown, bool_shown, set_laid}
use Rattle.schema_build_text.proofs.types.short_line.Goals as goal

pub returns-in-Never : goal.returns-in-Never
returns-in-Never c base = ap (λ t. codes ": " ++ (t ++ codes ",\n")) (bool_shown base c.args.ty.now c.in-Never.is)

pub returns-in-Long : goal.returns-in-Long
returns-in-Long c base =
    ap (λ t. codes ": " ++ (t ++ codes ",\n"))
    (shown base c.args.ty.now built.Long said.Long (codes "__cedar::Long") c.in-Long.is long_says refl)

pub returns-in-String : goal.returns-in-String
returns-in-String c base =
    ap (λ t. codes ": " ++ (t ++ codes ",\n"))
    (shown base c.args.ty.now built.String said.String (codes "__cedar::String") c.in-String.is string_says refl)

pub returns-in-Some : goal.returns-in-Some
returns-in-Some c =
    IfSome_then c.set_line.result c.set_line.ensures
    (λ line told base. told base ∙ set_laid base c.args.ty.now _ c.in-Some.element
    (c.in-Set.is ∙ ap built.Set c.in-Some.is)
    c.get.ensures)
