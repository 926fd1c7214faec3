-- The sites of a type and of an attribute, by cases.
use Rattle.std.proofs.Common.{◌≡◌, List, ◌∷◌, ◌++◌, ap, sym, ◌∙◌}
use Rattle.cedar_data.specs.Span.{Span}
use Rattle.cedar_data.proofs.Lists.{flat_joined}
use Rattle.schema_syntax_parser.specs.declared.syntax.PathSyntax.{PathSyntax}
use Rattle.schema_syntax_parser.specs.declared.syntax.TypeSyntax.{TypeSyntax}
use Rattle.schema_syntax_parser.specs.declared.syntax.TypeSyntax.TheVariants.{Path, Set, Record, rolls-Path, rolls-Set}
use Rattle.schema_syntax_parser.specs.declared.syntax.TypeSyntax.TheVariants.{rolls-Record}
use Rattle.schema_syntax_parser.specs.declared.syntax.TypeSyntax.TheOpen.{TypeSyntax-F, AttrSyntax-F}
use Rattle.schema_syntax_parser.specs.declared.syntax.TypeSyntax.TheFolds.{fold-roll-TypeSyntax, fold-roll-AttrSyntax}
use Rattle.schema_syntax_parser.specs.declared.syntax.TypeSyntax.TheFolds.{fold_out-AttrSyntax}
use Rattle.schema_syntax_parser.specs.declared.syntax.AttrSyntax.{AttrSyntax, roll-AttrSyntax, out-AttrSyntax}
use Rattle.schema_syntax_reader.specs.Sites.{Site, annotations, name_sites, path_sites, type_sites, attr_sites}
use Rattle.schema_syntax_reader.specs.Sites.{sites_of_type, sites_of_attr, sites_of_attrs}

pub of_path : (p : PathSyntax) → sites_of_type (Path p) ≡ path_sites p
of_path p = ap sites_of_type (sym (rolls-Path p))
    ∙ fold-roll-TypeSyntax (List Site) (List Site) type_sites attr_sites (TypeSyntax-F.Path p)

pub of_set : (t : TypeSyntax) (loc : Span) → sites_of_type (Set t loc) ≡ sites_of_type t
of_set t loc = ap sites_of_type (sym (rolls-Set t loc))
    ∙ fold-roll-TypeSyntax (List Site) (List Site) type_sites attr_sites (TypeSyntax-F.Set t loc)

pub of_record : (xs : List AttrSyntax) (loc : Span) → sites_of_type (Record xs loc) ≡ sites_of_attrs xs
of_record xs loc = ap sites_of_type (sym (rolls-Record xs loc))
    ∙ fold-roll-TypeSyntax (List Site) (List Site) type_sites attr_sites (TypeSyntax-F.Record xs loc)
    ∙ flat_joined sites_of_attr xs

pub of_attr : (a : AttrSyntax-F TypeSyntax AttrSyntax)
    → sites_of_attr (roll-AttrSyntax a) ≡ annotations a.annotations ∷ (name_sites a.name ++ sites_of_type a.ty)
of_attr a = fold-roll-AttrSyntax (List Site) (List Site) type_sites attr_sites a

pub of_out_attr : (a : AttrSyntax)
    → sites_of_attr a ≡ annotations (out-AttrSyntax a).annotations
    ∷ (name_sites (out-AttrSyntax a).name ++ sites_of_type (out-AttrSyntax a).ty)
of_out_attr a = fold_out-AttrSyntax (List Site) (List Site) type_sites attr_sites a
