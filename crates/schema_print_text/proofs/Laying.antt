-- The pieces of notes and types, laid out.
use Rattle.std.proofs.Common.{◌≡◌, ℕ, ◌+◌, suc, ◌<◌, Bool, true, false, List, [], ◌∷◌, ◌++◌, codes, length, drop}
use Rattle.std.proofs.Common.{drop-cons, get_or, add-one, refl, ap, sym, ◌∙◌, append_assoc, Option, ◌==◌}
use Rattle.std.proofs.lemmas.List.{append-nil}
use Rattle.cedar_identifiers.specs.declared.any_id.AnyId.{AnyId}
use Rattle.cedar_names.specs.CanonicalText.{spaces}
use Rattle.schema_json.specs.declared.types.TypeOfAttribute.{TypeOfAttribute, out-TypeOfAttribute}
use Rattle.schema_syntax_grammar.specs.declared.token_kind.TokenKind.TheVariants.{Greater, RBrace}
use Rattle.schema_syntax_reader.specs.Leaves.{Notes}
use Rattle.schema_syntax_tokens.specs.Laid.{Piece, gap, piece_text, laid}
use Rattle.laws_written.specs.Meant.{under_cedar}
use Rattle.laws_written.specs.Written.{WrittenType, WrittenAttributes, set, rec, no_more, attribute}
use Rattle.laws_written.specs.Printed.{mark, line_break, name_piece, value_pieces, notes_pieces, type_pieces}
use Rattle.laws_written.specs.Printed.{lines_pieces, comma_pieces}
use Rattle.schema_print_text.specs.PrintedTypes.{colon_pieces, PrintedAttribute, printed_type, printed_entries}
use Rattle.schema_print_text.specs.PrintedTypes.{printed_type_text}
use Rattle.schema_print_text.specs.Growing.{laid_append}
use Rattle.schema_print_text.proofs.Layers.{attribute_out}

-- a note and its line end, and those after it
pub note_step : (base : ℕ) (notes : Notes) (i : ℕ) (d : AnyId × Option (List ℕ)) → i < length notes
    → d ≡ get_or notes i d
    → laid (notes_pieces base (drop i notes))
    ≡ (spaces base ++ (codes "@" ++ (d.0.text ++ (laid (value_pieces d.1) ++ codes "\n"))))
    ++ laid (notes_pieces base (drop (i + 1) notes))
note_step base notes i d h e =
    rw (add-one, drop-cons notes i d) (ap (λ x. laid (notes_pieces base (x ∷ drop (suc i) notes))) (sym e)
    ∙ simp (laid_append, append_assoc))

pub set_laid : (base : ℕ) (t : WrittenType)
    → laid (type_pieces true base (set t)) ≡ codes "Set<" ++ (laid (type_pieces true base t) ++ codes ">")
set_laid base t = ap (λ x. codes "Set<" ++ x) (laid_append (type_pieces true base t) (mark Greater (codes ">") ∷ []))

pub extension_laid : (base : ℕ) (w : List ℕ) → codes "__cedar::" ++ w ≡ laid (type_pieces true base (under_cedar w))
extension_laid base w = ap (λ t. codes "__cedar::" ++ t) (sym (append-nil w))

comma_laid : (xs : WrittenAttributes) (ps : List Piece)
    → laid (comma_pieces true xs ++ line_break ∷ ps) ≡ codes ",\n" ++ laid ps
comma_laid no_more ps = refl
comma_laid (attribute ns n r t xs) ps = refl

colon_laid : (r : Bool) (ps : List Piece) → laid (colon_pieces r ps) ≡ laid (colon_pieces r []) ++ laid ps
colon_laid true ps = refl
colon_laid false ps = refl

-- one attribute, and those after it
pub line_laid : (base : ℕ) (ns : Notes) (n : List ℕ) (r : Bool) (t : WrittenType) (xs : WrittenAttributes)
    → laid (lines_pieces true base (attribute ns n r t xs))
    ≡ (laid (notes_pieces (base + 2) ns)
    ++ (spaces (base + 2) ++ (piece_text (name_piece n)
    ++ (laid (colon_pieces r []) ++ (laid (type_pieces true (base + 2) t) ++ codes ",\n")))))
    ++ laid (lines_pieces true base xs)
line_laid base ns n r t xs =
    let behind_type = laid_append (type_pieces true (base + 2) t)
    (comma_pieces true xs ++ line_break ∷ lines_pieces true base xs)
    ∙ ap (λ x. laid (type_pieces true (base + 2) t) ++ x) (comma_laid xs (lines_pieces true base xs)) in
    let behind_name = colon_laid r
    (type_pieces true (base + 2) t ++ (comma_pieces true xs ++ line_break ∷ lines_pieces true base xs))
    ∙ ap (λ x. laid (colon_pieces r []) ++ x) behind_type in
    laid_append (notes_pieces (base + 2) ns) _
    ∙ ap (λ x. laid (notes_pieces (base + 2) ns) ++ (spaces (base + 2) ++ (piece_text (name_piece n) ++ x))) behind_name
    ∙ simp append_assoc

module _ (N : Type 0) (names : N → List (List ℕ)) where
  -- and one with attributes
  pub record_filled : (base : ℕ) (entries : List (List ℕ × TypeOfAttribute N)) → (length entries == 0) ≡ false
      → laid (type_pieces true base (rec (printed_entries names entries))) ≡ codes "{\n"
      ++ (laid (lines_pieces true base (printed_entries names entries)) ++ (spaces base ++ codes "}"))
  record_filled base [] h = absurd (cc)
  record_filled base (e ∷ es) h =
      ap (λ x. codes "{\n" ++ x) (laid_append (lines_pieces true base (printed_entries names (e ∷ es)))
      (gap (spaces base) ∷ mark RBrace (codes "}") ∷ []))

  -- one entry of a record, and those after it
  pub entry_step : (base inner : ℕ) (entries : List (List ℕ × TypeOfAttribute N)) (i : ℕ)
      (d : List ℕ × TypeOfAttribute N)
      → inner ≡ base + 2 → i < length entries → d ≡ get_or entries i d
      → laid (lines_pieces true base (printed_entries names (drop i entries)))
      ≡ (laid (notes_pieces inner (out-TypeOfAttribute N d.1).annotations.0)
      ++ (spaces inner ++ (piece_text (name_piece d.0)
      ++ (laid (colon_pieces (out-TypeOfAttribute N d.1).required [])
      ++ (printed_type_text names inner (out-TypeOfAttribute N d.1).ty ++ codes ",\n")))))
      ++ laid (lines_pieces true base (printed_entries names (drop (i + 1) entries)))
  entry_step base inner entries i d k h e =
      let one = λ (a : PrintedAttribute). attribute a.notes d.0 a.required a.ty
      (printed_entries names (drop (suc i) entries)) in
      rw (k, add-one, drop-cons entries i d)
      (ap (λ (x : List ℕ × TypeOfAttribute N). laid
      (lines_pieces true base (printed_entries names (x ∷ drop (suc i) entries)))) (sym e)
      ∙ (ap (λ a. laid (lines_pieces true base (one a))) (attribute_out N names d.1)
      ∙ line_laid base (out-TypeOfAttribute N d.1).annotations.0 d.0 (out-TypeOfAttribute N d.1).required
      (printed_type names (out-TypeOfAttribute N d.1).ty) (printed_entries names (drop (suc i) entries))))
