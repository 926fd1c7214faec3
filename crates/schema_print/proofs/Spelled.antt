-- What stands between a name and the semicolon, laid out.
use Rattle.std.proofs.Common.{◌≡◌, ℕ, ◌+◌, Bool, true, false, List, [], ◌∷◌, ◌++◌, codes, map, length, refl, ap, sym}
use Rattle.std.proofs.Common.{◌∙◌, append_assoc, ◌==◌, arith, Option, Some}
use Rattle.std.proofs.lemmas.Bool.{eqb-true}
use Rattle.schema_syntax_grammar.specs.declared.token_kind.TokenKind.TheVariants.{LBrace, RBrace}
use Rattle.schema_syntax_tokens.specs.Laid.{Piece, laid}
use Rattle.schema_syntax_tokens.specs.Quotes.{quoted}
use Rattle.cedar_names.specs.CanonicalText.{spaces}
use Rattle.schema_syntax_reader.specs.Leaves.{Notes}
use Rattle.schema_json.specs.declared.action_type.ApplySpec.{ApplySpec}
use Rattle.laws_written.specs.Written.{WrittenType, path, set, rec, no_more, attribute}
use Rattle.laws_written.specs.Printed.{word, mark, string, space, line_break, path_pieces, notes_pieces}
use Rattle.laws_written.specs.Printed.{type_pieces}
use Rattle.schema_print_text.specs.Growing.{laid_append}
use Rattle.schema_print_text.specs.PrintedTypes.{is_bare_record}
use Rattle.schema_print.specs.RowsOfTexts.{names_line_text, head_text}
use Rattle.schema_print.specs.PrintedFragments.{shape_type_pieces, context_type_pieces, targets_pieces, common_pieces}
use Rattle.schema_print.specs.PrintedFragments.{item_pieces, spec_pieces, applied_pieces}

pub shape_none : (base : ℕ) (w : WrittenType) → is_bare_record w ≡ true → [] ≡ laid (shape_type_pieces true base w)
shape_none base (rec no_more) h = refl
shape_none base (rec (attribute ns n r t xs)) h = absurd (cc)
shape_none base (path p) h = absurd (cc)
shape_none base (set t) h = absurd (cc)

pub shape_some : (base : ℕ) (w : WrittenType) → is_bare_record w ≡ false
    → codes " = " ++ laid (type_pieces true base w) ≡ laid (shape_type_pieces true base w)
shape_some base (rec no_more) h = absurd (cc)
shape_some base (rec (attribute ns n r t xs)) h = refl
shape_some base (path p) h = refl
shape_some base (set t) h = refl

pub context_none : (base : ℕ) (w : WrittenType) → is_bare_record w ≡ true
    → codes "{}" ≡ laid (context_type_pieces true base w)
context_none base (rec no_more) h = refl
context_none base (rec (attribute ns n r t xs)) h = absurd (cc)
context_none base (path p) h = absurd (cc)
context_none base (set t) h = absurd (cc)

pub context_some : (base : ℕ) (w : WrittenType) → is_bare_record w ≡ false
    → laid (type_pieces true base w) ≡ laid (context_type_pieces true base w)
context_some base (rec no_more) h = absurd (cc)
context_some base (rec (attribute ns n r t xs)) h = refl
context_some base (path p) h = refl
context_some base (set t) h = refl

-- three parts in turn
pub three_laid : (a b c : List Piece) → laid a ++ (laid b ++ laid c) ≡ laid (a ++ (b ++ c))
three_laid a b c = sym (laid_append a (b ++ c) ∙ ap (λ t. laid a ++ t) (laid_append b c))

pub two_laid : (a b : List Piece) → laid a ++ laid b ≡ laid (a ++ b)
two_laid a b = sym (laid_append a b)

pub no_principals : {A : Type 0} (g : A → List (List ℕ)) (base : ℕ) (ps rs : List A) (w : WrittenType)
    → (length ps == 0) ≡ true
    → [] ≡ laid (targets_pieces true base (map g ps) (map g rs) w)
no_principals g base [] rs w h = refl
no_principals g base (p ∷ ps) rs w h = absurd (omega (arith, eqb-true (length (p ∷ ps)) 0 h))

pub no_resources : {A : Type 0} (g : A → List (List ℕ)) (base : ℕ) (ps rs : List A) (w : WrittenType)
    → (length rs == 0) ≡ true
    → [] ≡ laid (targets_pieces true base (map g ps) (map g rs) w)
no_resources g base [] rs w h = refl
no_resources g base (p ∷ ps) [] w h = refl
no_resources g base (p ∷ ps) (r ∷ rs) w h = absurd (omega (arith, eqb-true (length (r ∷ rs)) 0 h))

pub both_targets : {A : Type 0} (g : A → List (List ℕ)) (base inner : ℕ) (ps rs : List A) (w : WrittenType)
    → inner ≡ base + 2
    → (length ps == 0) ≡ false → (length rs == 0) ≡ false
    → codes " appliesTo {\n" ++ (names_line_text inner (codes "principal: ") (map g ps)
    ++ (names_line_text inner (codes "resource: ") (map g rs)
    ++ (spaces inner ++ (codes "context: "
    ++ (laid (context_type_pieces true inner w) ++ (codes ",\n" ++ (spaces base ++ codes "}")))))))
    ≡ laid (targets_pieces true base (map g ps) (map g rs) w)
both_targets g base inner [] rs w k h i = absurd (cc)
both_targets g base inner (p ∷ ps) [] w k h i = absurd (cc)
both_targets g base inner (p ∷ ps) (r ∷ rs) w k h i = rw k (simp (laid_append, append_assoc))

pub common_laid : (base : ℕ) (notes : Notes) (name : List ℕ) (t : WrittenType)
    → head_text base notes false (codes "type ")
    ++ (name ++ (codes " = " ++ (laid (type_pieces true base t) ++ codes ";\n")))
    ≡ laid (common_pieces true base notes name t)
common_laid base notes name t = simp (laid_append, append_assoc)

pub entity_laid : (base : ℕ) (notes : Notes) (external : Bool) (name : List ℕ) (body : List Piece)
    → head_text base notes external (codes "entity ") ++ (name ++ (laid body ++ codes ";\n"))
    ≡ laid (item_pieces base notes external (codes "entity") (word name) body)
entity_laid base notes true name body = simp (laid_append, append_assoc)
entity_laid base notes false name body = simp (laid_append, append_assoc)

pub action_laid : (base : ℕ) (notes : Notes) (external : Bool) (id : List ℕ) (body : List Piece)
    → head_text base notes external (codes "action ") ++ (quoted id ++ (laid body ++ codes ";\n"))
    ≡ laid (item_pieces base notes external (codes "action") (string id) body)
action_laid base notes true id body = simp (laid_append, append_assoc)
action_laid base notes false id body = simp (laid_append, append_assoc)

-- a namespace with a name
pub block_laid : (notes : Notes) (p : List (List ℕ)) (items : List Piece)
    → laid (notes_pieces 0 notes) ++ (codes "namespace "
    ++ (laid (path_pieces p) ++ (codes " {\n" ++ (laid items ++ codes "}\n"))))
    ≡ laid (notes_pieces 0 notes ++ word (codes "namespace") ∷ space
    ∷ (path_pieces p ++ space ∷ mark LBrace (codes "{") ∷ line_break
    ∷ (items ++ mark RBrace (codes "}") ∷ line_break ∷ [])))
block_laid notes p items = simp (laid_append, append_assoc)

module _ {N : Type 0} (names : N → List (List ℕ)) where
  -- what an action that is not external applies to, behind its parents
  pub applied_shown : (base : ℕ) (e : Bool) (o : Option (ApplySpec N)) (spec : ApplySpec N) (parents : List Piece)
      → e ≡ false → o ≡ Some spec
      → laid parents ++ laid (spec_pieces names true base (Some spec))
      ≡ laid (parents ++ applied_pieces names true base e o)
  applied_shown base e o spec parents p q =
      two_laid parents (spec_pieces names true base (Some spec))
      ∙ ap (λ ps. laid (parents ++ ps))
      (sym (ap (λ b. applied_pieces names true base b o) p ∙ ap (λ x. applied_pieces names true base false x) q))
