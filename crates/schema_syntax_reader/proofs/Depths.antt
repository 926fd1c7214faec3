-- How deep types are.
use Rattle.std.proofs.Common.{◌≡◌, ◌≤◌, ◌+◌, ℕ, List, [], ◌∷◌, ◌++◌, map, sym, ap, ◌∙◌, subst, arith}
use Rattle.cedar_data.specs.Span.{Span}
use Rattle.schema_syntax_parser.specs.declared.syntax.TypeSyntax.{TypeSyntax}
use Rattle.schema_syntax_parser.specs.declared.syntax.TypeSyntax.TheVariants.{Set, Record, rolls-Set, rolls-Record}
use Rattle.schema_syntax_parser.specs.declared.syntax.TypeSyntax.TheOpen.{TypeSyntax-F, AttrSyntax-F}
use Rattle.schema_syntax_parser.specs.declared.syntax.TypeSyntax.TheFolds.{fold-TypeSyntax, fold-AttrSyntax}
use Rattle.schema_syntax_parser.specs.declared.syntax.TypeSyntax.TheFolds.{fold-roll-TypeSyntax, fold_out-AttrSyntax}
use Rattle.schema_syntax_parser.specs.declared.syntax.AttrSyntax.{AttrSyntax, out-AttrSyntax}

abbrev total : List ℕ → ℕ
total [] = 0
total (n ∷ ns) = n + total ns

abbrev type_deep : TypeSyntax-F ℕ ℕ → ℕ
type_deep (TypeSyntax-F.Path p) = 0
type_deep (TypeSyntax-F.Set element loc) = element + 1
type_deep (TypeSyntax-F.Record attrs loc) = total attrs + 1

abbrev attr_deep : AttrSyntax-F ℕ ℕ → ℕ
attr_deep a = a.ty

abbrev pub type_depth : TypeSyntax → ℕ
type_depth = fold-TypeSyntax ℕ ℕ type_deep attr_deep

abbrev pub attr_depth : AttrSyntax → ℕ
attr_depth = fold-AttrSyntax ℕ ℕ type_deep attr_deep

abbrev pub attrs_depth : List AttrSyntax → ℕ
attrs_depth attrs = total (map attr_depth attrs)

pub set_deep : (t element : TypeSyntax) (loc : Span) → t ≡ Set element loc → type_depth t ≡ type_depth element + 1
set_deep t element loc e =
    ap type_depth (e ∙ sym (rolls-Set element loc))
    ∙ fold-roll-TypeSyntax ℕ ℕ type_deep attr_deep (TypeSyntax-F.Set element loc)

pub record_deep : (t : TypeSyntax) (attrs : List AttrSyntax) (loc : Span) → t ≡ Record attrs loc
    → type_depth t ≡ attrs_depth attrs + 1
record_deep t attrs loc e =
    ap type_depth (e ∙ sym (rolls-Record attrs loc))
    ∙ fold-roll-TypeSyntax ℕ ℕ type_deep attr_deep (TypeSyntax-F.Record attrs loc)

pub attr_deep_as : (a : AttrSyntax) → attr_depth a ≡ type_depth (out-AttrSyntax a).ty
attr_deep_as a = fold_out-AttrSyntax ℕ ℕ type_deep attr_deep a

-- an attribute is no deeper than all together
pub among_attrs : (attrs done : List AttrSyntax) (a : AttrSyntax) (others : List AttrSyntax)
    → attrs ≡ done ++ a ∷ others → attr_depth a ≤ attrs_depth attrs
among_attrs attrs done a others split = subst (λ xs. attr_depth a ≤ attrs_depth xs) (sym split) (below done)
  where
    below : (front : List AttrSyntax) → attr_depth a ≤ attrs_depth (front ++ a ∷ others)
    below [] = omega arith
    below (x ∷ front) = let more : attr_depth a ≤ attrs_depth (front ++ a ∷ others) = below front in omega (arith, more)
