-- Trees of types, taken apart.
use Rattle.std.proofs.Common.{ℕ, List, Some, refl, sym, ap, ◌∙◌, subst}
use Rattle.cedar_data.specs.declared.node.Node.{Node}
use Rattle.schema_syntax_parser.specs.declared.syntax.TypeSyntax.{TypeSyntax, out-TypeSyntax, out-roll-TypeSyntax}
use Rattle.schema_syntax_parser.specs.declared.syntax.TypeSyntax.TheVariants as syntax
use Rattle.schema_syntax_parser.specs.declared.syntax.TypeSyntax.TheOpen.{TypeSyntax-F}
use Rattle.schema_syntax_parser.specs.declared.syntax.AttrSyntax.{AttrSyntax}
use Rattle.schema_syntax_tree.specs.declared.types.Type.{«Type»}
use Rattle.schema_syntax_tree.specs.declared.types.Type.TheVariants as shape
use Rattle.schema_syntax_reader.specs.Trees as tree
use Rattle.laws_written.specs.Views.{ViewOfType}

module _ (source : List ℕ) where
  pub view : {t : TypeSyntax} {n : Node «Type»} → tree.IsTypeOf source t n → ViewOfType source (out-TypeSyntax t) n
  view (tree.path {p = p} {q = q} h) =
      let n : Node «Type» = record { node = shape.Ident q; loc = Some p.loc } in
      subst (λ (x : TypeSyntax-F TypeSyntax AttrSyntax). ViewOfType source x n)
      (sym (ap out-TypeSyntax (sym (syntax.rolls-Path p)) ∙ out-roll-TypeSyntax (TypeSyntax-F.Path p))) (q, refl, h)
  view (tree.set {t = t} {n = m} loc h) =
      let n : Node «Type» = record { node = shape.Set m; loc = Some loc } in
      subst (λ (x : TypeSyntax-F TypeSyntax AttrSyntax). ViewOfType source x n)
      (sym (ap out-TypeSyntax (sym (syntax.rolls-Set t loc)) ∙ out-roll-TypeSyntax (TypeSyntax-F.Set t loc)))
      (m, refl, h)
  view (tree.attributes {xs = xs} {ys = ys} loc h) =
      let n : Node «Type» = record { node = shape.Record ys; loc = Some loc } in
      subst (λ (x : TypeSyntax-F TypeSyntax AttrSyntax). ViewOfType source x n)
      (sym (ap out-TypeSyntax (sym (syntax.rolls-Record xs loc)) ∙ out-roll-TypeSyntax (TypeSyntax-F.Record xs loc)))
      (ys, refl, h)
