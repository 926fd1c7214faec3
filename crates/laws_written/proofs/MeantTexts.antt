-- The canonical text of a type is what is written of it, laid out.
use Rattle.std.proofs.Common.{◌≡◌, ℕ, Bool, true, false, List, [], ◌∷◌, ◌++◌, refl, ap, ◌∙◌, append-nil, ◌+◌, inl, inr}
use Rattle.std.specs.Prelude.{codes}
use Rattle.std.proofs.lemmas.Bool.{cases_Bool}
use Rattle.cedar_identifiers.specs.Words.{is_id}
use Rattle.cedar_identifiers.specs.Names.{name_text}
use Rattle.cedar_names.specs.Meaning.{PlainType, Attributes}
use Rattle.cedar_names.specs.Meaning as m
use Rattle.cedar_names.specs.CanonicalText.{spaces, attribute_name, comma_behind, type_text, lines_text}
use Rattle.schema_syntax_tokens.specs.Laid.{gap, laid}
use Rattle.schema_syntax_grammar.specs.declared.token_kind.TokenKind.TheVariants.{Greater, RBrace}
use Rattle.laws_written.specs.Printed.{mark, line_break, name_lexeme, path_pieces, comma_pieces, type_pieces}
use Rattle.laws_written.specs.Printed.{lines_pieces}
use Rattle.laws_written.specs.Meant.{type_of_meaning, attributes_of_meaning}
use Rattle.laws_written.proofs.Following.{laid-append}

pub path_laid : (p : List (List ℕ)) → laid (path_pieces p) ≡ name_text p
path_laid [] = refl
path_laid (c ∷ []) = append-nil c
path_laid (c ∷ d ∷ cs) = ap (λ t. c ++ (codes "::" ++ t)) (path_laid (d ∷ cs))

name_laid : (n : List ℕ) → (name_lexeme n).text ≡ attribute_name n
name_laid n =
    elim (cases_Bool (is_id n)) [
      | inl h ↦ rw h refl
      | inr h ↦ rw h refl
    ]

comma_laid : (c : Bool) (xs : Attributes) → laid (comma_pieces c (attributes_of_meaning xs)) ≡ comma_behind c xs
comma_laid true m.no_more = refl
comma_laid true (m.attribute n r t xs) = refl
comma_laid false m.no_more = refl
comma_laid false (m.attribute n r t xs) = refl

module _ (closing : Bool) where
  -- a type, and what stands behind it in its line and below
  line_laid : (base : ℕ) (t : PlainType) (xs : Attributes)
      → laid (type_pieces closing (base + 2) (type_of_meaning t)) ≡ type_text closing (base + 2) t
      → laid (lines_pieces closing base (attributes_of_meaning xs)) ≡ lines_text closing base xs
      → laid (type_pieces closing (base + 2) (type_of_meaning t)
      ++ (comma_pieces closing (attributes_of_meaning xs)
      ++ line_break ∷ lines_pieces closing base (attributes_of_meaning xs)))
      ≡ type_text closing (base + 2) t ++ (comma_behind closing xs ++ (10 ∷ lines_text closing base xs))
  line_laid base t xs e f =
      let comma = comma_pieces closing (attributes_of_meaning xs) in
      let lines = lines_pieces closing base (attributes_of_meaning xs) in
      let type = type_pieces closing (base + 2) (type_of_meaning t) in
      laid-append type (comma ++ line_break ∷ lines) ∙ (ap (λ l. l ++ laid (comma ++ line_break ∷ lines)) e
      ∙ ap (λ l. type_text closing (base + 2) t ++ l)
      (laid-append comma (line_break ∷ lines)
      ∙ (ap (λ l. l ++ (10 ∷ laid lines)) (comma_laid closing xs) ∙ ap (λ l. comma_behind closing xs ++ (10 ∷ l)) f)))

  mutual
    pub type_laid : (base : ℕ) (t : PlainType)
        → laid (type_pieces closing base (type_of_meaning t)) ≡ type_text closing base t
    type_laid base PlainType.Bool = refl
    type_laid base PlainType.Long = refl
    type_laid base PlainType.String = refl
    type_laid base (PlainType.Set t) =
        ap (λ l. codes "Set<" ++ l) (laid-append (type_pieces closing base (type_of_meaning t))
        (mark Greater (codes ">") ∷ []) ∙ ap (λ l. l ++ codes ">") (type_laid base t))
    type_laid base (PlainType.Rec m.no_more) = refl
    type_laid base (PlainType.Rec (m.attribute n r t xs)) =
        ap (λ l. 123 ∷ 10 ∷ l) (laid-append (lines_pieces closing base (attributes_of_meaning (m.attribute n r t xs)))
        (gap (spaces base) ∷ mark RBrace (codes "}") ∷ [])
        ∙ ap (λ l. l ++ (spaces base ++ codes "}")) (lines_laid base (m.attribute n r t xs)))
    type_laid base (PlainType.Entity name) = path_laid name
    type_laid base (PlainType.Ext name) = ap (λ l. codes "__cedar::" ++ l) (append-nil name)

    lines_laid : (base : ℕ) (xs : Attributes)
        → laid (lines_pieces closing base (attributes_of_meaning xs)) ≡ lines_text closing base xs
    lines_laid base m.no_more = refl
    lines_laid base (m.attribute n true t xs) =
        ap (λ l. spaces (base + 2) ++ l)
        (ap (λ name. name ++ (codes ": "
        ++ laid (type_pieces closing (base + 2) (type_of_meaning t)
        ++ (comma_pieces closing (attributes_of_meaning xs)
        ++ line_break ∷ lines_pieces closing base (attributes_of_meaning xs))))) (name_laid n)
        ∙ ap (λ l. attribute_name n ++ (codes ": " ++ l))
        (line_laid base t xs (type_laid (base + 2) t) (lines_laid base xs)))
    lines_laid base (m.attribute n false t xs) =
        ap (λ l. spaces (base + 2) ++ l)
        (ap (λ name. name ++ (codes "?: "
        ++ laid (type_pieces closing (base + 2) (type_of_meaning t)
        ++ (comma_pieces closing (attributes_of_meaning xs)
        ++ line_break ∷ lines_pieces closing base (attributes_of_meaning xs))))) (name_laid n)
        ∙ ap (λ l. attribute_name n ++ (codes "?: " ++ l))
        (line_laid base t xs (type_laid (base + 2) t) (lines_laid base xs)))
