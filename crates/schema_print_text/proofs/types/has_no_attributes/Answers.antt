use Rattle.std.proofs.Common.{◌∙◌}
use Rattle.schema_print_text.proofs.Layers.{bare_variant, bare_common}
use Rattle.schema_print_text.proofs.types.has_no_attributes.Goals as goal

pub returns-in-Variant : goal.returns-in-Variant
returns-in-Variant g c =
    c.is_bare_variant.ensures ∙ bare_variant g.row.N.Denot g.N.NameText.components c.args.ty.now c.in-Variant.ty
    c.in-Variant.loc c.in-Variant.is

pub returns-in-CommonTypeRef : goal.returns-in-CommonTypeRef
returns-in-CommonTypeRef g c =
    bare_common g.row.N.Denot g.N.NameText.components c.args.ty.now c.in-CommonTypeRef.type_name
    c.in-CommonTypeRef.loc c.in-CommonTypeRef.is
