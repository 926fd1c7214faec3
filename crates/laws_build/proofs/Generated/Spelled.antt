-- A generated text is laid out of lexemes that spell what it declares.
use Rattle.std.proofs.Common.{◌≡◌, ℕ, zero, suc, ◌+◌, ◌*◌, ◌%◌, ◌==◌, ◌<◌, ◌≤◌, ◌^◌, Bool, true, false, List, []}
use Rattle.std.proofs.Common.{◌∷◌, ◌++◌, refl, sym}
use Rattle.std.proofs.Common.{ap, ◌∙◌, subst, arith, inl, inr, append_assoc, flat_map, Some, None, if◌then◌else◌}
use Rattle.std.specs.Prelude.{codes}
use Rattle.std.specs.List.{AllByRecursion, range_with_len}
use Rattle.std.proofs.lemmas.Nat.{mod_below}
use Rattle.cedar_data.specs.Text.{text_cmp}
use Rattle.cedar_data.specs.Words.{is_word}
use Rattle.cedar_data.proofs.Orders.{nothing_rises}
use Rattle.schema_generate.specs.Generated.{max_size, entity_word, action_word, parent_of, target_of, resource_of}
use Rattle.schema_generate.specs.Generated.{parent_part, entity_line, action_line, lines_of, generated}
use Rattle.schema_syntax_grammar.specs.declared.token_kind.TokenKind.{TokenKind}
use Rattle.schema_syntax_grammar.specs.declared.token_kind.TokenKind.TheVariants.{Identifier, Comma, Semi, Colon}
use Rattle.schema_syntax_grammar.specs.declared.token_kind.TokenKind.TheVariants.{RBrace, LBrace, Equals}
use Rattle.schema_syntax_tokens.specs.Forms.{word_kind}
use Rattle.schema_syntax_tokens.specs.Laid.{Lexeme, Piece, laid, lexemes_of, AreBlanks, none, blank, free, word, Follow}
use Rattle.schema_syntax_tokens.specs.Laid.{done, by_gap, by_lexeme, HasLexemes, Edge, edge_of, may_touch}
use Rattle.schema_syntax_tokens.specs.Forms.{IsForm, mark_kind}
use Rattle.cedar_identifiers.specs.Words.{is_id}
use Rattle.laws_written.specs.Printed.{space, mark}
use Rattle.laws_written.specs.Printed as printed
use Rattle.laws_written.specs.Notes.{SpellNotes, no_note}
use Rattle.laws_written.specs.ReadsBack.{ReadsBack}
use Rattle.laws_written.specs.Written.{WrittenItem, entity, outside}
use Rattle.laws_written.specs.Spellings.{IsIdent, bare, one, one_name, last_item, more_items}
use Rattle.laws_written.specs.Spellings.{single_item}
use Rattle.laws_written.specs.Spellings.{AreManyOf, no_more_items, item_first, no_parent, some_parents}
use Rattle.laws_written.specs.Spellings.{path_type, braces, last_attribute, more_attributes}
use Rattle.laws_written.specs.Spellings.{required, equals_shape, no_tags, types_of, some_applies}
use Rattle.laws_written.specs.Spellings.{declared_of, entity_of, action_of, SpellsItem, outside_of}
use Rattle.laws_written.specs.Spellings.{SpellsSchema, SpellsShape}
use Rattle.laws_build.specs.Generated.Declares as declares
use Rattle.laws_build.specs.Generated.Declares.{items_of_number, generated_items, attributes_of, entity_path}
use Rattle.laws_build.specs.Generated.Pieces.{name, shape_before, entity_before, action_before, pieces_of}
use Rattle.laws_build.proofs.Generated.Words.{word_so, entity_id, action_id, entity_form, action_form}

-- what is laid out
entity_laid : (first : Bool) (n i : ℕ) (rest : List Piece)
    → laid (entity_before first n i rest)
    ≡ codes "entity " ++ (entity_word i ++ ((if first then [] else codes " in " ++ entity_word (parent_of i))
    ++ (codes " = { a: Long, b: " ++ (entity_word (target_of n i) ++ (codes " };\n" ++ laid rest)))))
entity_laid true n i rest = refl
entity_laid false n i rest =
    let behind = codes " = { a: Long, b: " ++ (entity_word (target_of n i) ++ (codes " };\n" ++ laid rest)) in
    ap (λ l. codes "entity " ++ (entity_word i ++ l))
    (sym (append_assoc (codes " in ") (entity_word (parent_of i)) behind))

action_laid : (n i : ℕ) (rest : List Piece)
    → laid (action_before n i rest)
    ≡ codes "action " ++ (action_word i ++ (codes " appliesTo { principal: "
    ++ (entity_word i ++ (codes ", resource: " ++ (entity_word (resource_of n i) ++ (codes " };\n" ++ laid rest))))))
action_laid n i rest = refl

-- a text behind a line
entity_behind : (n i : ℕ) (t : List ℕ)
    → entity_line n i ++ t
    ≡ codes "entity " ++ (entity_word i ++ (parent_part i
    ++ (codes " = { a: Long, b: " ++ (entity_word (target_of n i) ++ (codes " };\n" ++ t)))))
entity_behind n i t = behind (codes "entity ") (entity_word i) (parent_part i) (codes " = { a: Long, b: ")
    (entity_word (target_of n i)) (codes " };\n")
  where
    behind : (a b c d e f : List ℕ) → (a ++ (b ++ (c ++ (d ++ (e ++ f))))) ++ t
        ≡ a ++ (b ++ (c ++ (d ++ (e ++ (f ++ t)))))
    behind a b c d e f = simp append_assoc

action_behind : (n i : ℕ) (t : List ℕ)
    → action_line n i ++ t
    ≡ codes "action " ++ (action_word i ++ (codes " appliesTo { principal: "
    ++ (entity_word i ++ (codes ", resource: " ++ (entity_word (resource_of n i) ++ (codes " };\n" ++ t))))))
action_behind n i t = behind (codes "action ") (action_word i) (codes " appliesTo { principal: ") (entity_word i)
    (codes ", resource: ") (entity_word (resource_of n i)) (codes " };\n")
  where
    behind : (a b c d e f g : List ℕ) → (a ++ (b ++ (c ++ (d ++ (e ++ (f ++ g)))))) ++ t
        ≡ a ++ (b ++ (c ++ (d ++ (e ++ (f ++ (g ++ t))))))
    behind a b c d e f g = simp append_assoc

lines_laid : (n : ℕ) (is : List ℕ) → laid (pieces_of n is) ≡ flat_map (lines_of n) is
lines_laid n [] = refl
lines_laid n (i ∷ is) =
    let rest = pieces_of n is in
    entity_laid (i == 0) n i (action_before n i rest)
    ∙ (sym (entity_behind n i (laid (action_before n i rest)))
    ∙ (ap (λ t. entity_line n i ++ t) (action_laid n i rest ∙ (sym (action_behind n i (laid rest))
    ∙ ap (λ t. action_line n i ++ t) (lines_laid n is)))
    ∙ sym (append_assoc (entity_line n i) (action_line n i) (flat_map (lines_of n) is))))

-- the pieces stand one behind the other
one_space : AreBlanks (codes " ")
one_space = blank refl none

one_line_end : AreBlanks (codes "\n")
one_line_end = blank refl none

module _ {e : Edge} where
  sp : {ps : List Piece} → Follow free ps → Follow e (space ∷ ps)
  sp s = by_gap one_space s

-- a word of the grammar, and a mark
kw : {ps : List Piece} (w : List ℕ) → is_word w ≡ true → Follow (edge_of (word_kind w)) ps
    → Follow free (printed.word w ∷ ps)
kw w h s = by_lexeme (inl (word_so w h, refl)) refl s

mk : {e : Edge} {ps : List Piece} (k : TokenKind) (t : List ℕ) → mark_kind t ≡ Some k → may_touch e k ≡ true
    → Follow (edge_of k) ps → Follow e (mark k t ∷ ps)
mk k t h m s = by_lexeme (inr (inl h)) m s

nm : {ps : List Piece} (w : List ℕ) → IsForm w Identifier → Follow word ps → Follow free (name w ∷ ps)
nm w f s = by_lexeme f refl s

a_form : IsForm (codes "a") Identifier
a_form = inl (word_so (codes "a") refl, refl)

b_form : IsForm (codes "b") Identifier
b_form = inl (word_so (codes "b") refl, refl)

long_form : IsForm (codes "Long") Identifier
long_form = inl (word_so (codes "Long") refl, refl)

abbrev IsSmall : ℕ → Type 0
IsSmall i = i < 2 ^ 64

-- the attributes and the end of an entity type
shape_follow : (n i : ℕ) (rest : List Piece) → IsSmall (target_of n i) → Follow free rest
    → Follow word (shape_before n i rest)
shape_follow n i rest h s =
    sp (mk Equals (codes "=") refl refl (sp (mk LBrace (codes "{") refl refl (sp (nm (codes "a") a_form
    (mk Colon (codes ":") refl refl (sp (nm (codes "Long") long_form (mk Comma (codes ",") refl refl
    (sp (nm (codes "b") b_form (mk Colon (codes ":") refl refl
    (sp (nm (entity_word (target_of n i)) (entity_form (target_of n i) h)
    (sp (mk RBrace (codes "}") refl refl (mk Semi (codes ";") refl refl (by_gap one_line_end s))))))))))))))))))

entity_follow : (first : Bool) (n i : ℕ) (rest : List Piece) → IsSmall i → IsSmall (parent_of i)
    → IsSmall (target_of n i) → Follow free rest → Follow free (entity_before first n i rest)
entity_follow true n i rest h k l s =
    kw (codes "entity") refl (sp (nm (entity_word i) (entity_form i h) (shape_follow n i rest l s)))
entity_follow false n i rest h k l s =
    kw (codes "entity") refl (sp (nm (entity_word i) (entity_form i h)
    (sp (kw (codes "in") refl
    (sp (nm (entity_word (parent_of i)) (entity_form (parent_of i) k) (shape_follow n i rest l s)))))))

action_follow : (n i : ℕ) (rest : List Piece) → IsSmall i → IsSmall (resource_of n i) → Follow free rest
    → Follow free (action_before n i rest)
action_follow n i rest h k s =
    kw (codes "action") refl (sp (nm (action_word i) (action_form i h)
    (sp (kw (codes "appliesTo") refl (sp (mk LBrace (codes "{") refl refl
    (sp (kw (codes "principal") refl (mk Colon (codes ":") refl refl
    (sp (nm (entity_word i) (entity_form i h) (mk Comma (codes ",") refl refl
    (sp (kw (codes "resource") refl (mk Colon (codes ":") refl refl
    (sp (nm (entity_word (resource_of n i)) (entity_form (resource_of n i) k)
    (sp (mk RBrace (codes "}") refl refl (mk Semi (codes ";") refl refl (by_gap one_line_end s)))))))))))))))))))))

-- the lexemes spell the declarations
no_notes : SpellNotes [] []
no_notes = record {
  written = [];
  spell = no_note;
  arranged = record { sorted = nothing_rises text_cmp; as_many = refl; each = tt; apart = tt };
}

abbrev lexeme_of : List ℕ → Lexeme
lexeme_of w = record { kind = Identifier; text = w }

entity_ident : (i : ℕ) → IsSmall i → IsIdent (lexeme_of (entity_word i))
entity_ident i h = record { ident = refl; id = entity_id i h }

action_ident : (i : ℕ) → IsSmall i → IsIdent (lexeme_of (action_word i))
action_ident i h = record { ident = refl; id = action_id i h }

literal_ident : (w : List ℕ) → is_id w ≡ true → IsIdent (lexeme_of w)
literal_ident w h = record { ident = refl; id = h }

abbrev comma_lexeme : Lexeme
comma_lexeme = record { kind = Comma; text = codes "," }

abbrev colon_lexeme : Lexeme
colon_lexeme = record { kind = Colon; text = codes ":" }

abbrev close_lexeme : Lexeme
close_lexeme = record { kind = RBrace; text = codes "}" }

abbrev end_lexeme : Lexeme
end_lexeme = record { kind = Semi; text = codes ";" }

abbrev shape_lexemes : ℕ → ℕ → List Lexeme
shape_lexemes n i =
    record { kind = Equals; text = codes "=" } ∷ record { kind = LBrace; text = codes "{" } ∷ lexeme_of (codes "a")
    ∷ colon_lexeme ∷ lexeme_of (codes "Long") ∷ comma_lexeme ∷ lexeme_of (codes "b") ∷ colon_lexeme
    ∷ lexeme_of (entity_word (target_of n i)) ∷ close_lexeme ∷ []

shape_spelled : (n i : ℕ) → IsSmall (target_of n i)
    → SpellsShape (shape_lexemes n i) (attributes_of n i)
shape_spelled n i h =
    equals_shape refl (braces close_lexeme refl
    (more_attributes comma_lexeme
    (required (lexeme_of (codes "a")) colon_lexeme no_notes (bare (literal_ident (codes "a") refl)) refl
    (path_type (one (literal_ident (codes "Long") refl)))) refl
    (last_attribute
    (required (lexeme_of (codes "b")) colon_lexeme no_notes (bare (literal_ident (codes "b") refl)) refl
    (path_type (one (entity_ident (target_of n i) h)))))) refl)

entity_first : (first : Bool) (n i : ℕ) (rest : List Piece) (ws : List WrittenItem) → IsSmall i
    → IsSmall (parent_of i) → IsSmall (target_of n i) → AreManyOf SpellsItem (lexemes_of rest) ws
    → AreManyOf SpellsItem (lexemes_of (entity_before first n i rest))
    (outside (record {
      notes = [];
      decl = entity (entity_word i ∷ [])
          (if first then [] else entity_path (parent_of i) ∷ []) (attributes_of n i) None;
    }) ∷ ws)
entity_first true n i rest ws h k l r =
    item_first (outside_of (declared_of no_notes
    (entity_of end_lexeme refl (one (entity_ident i h)) no_parent (shape_spelled n i l) no_tags refl))) r
entity_first false n i rest ws h k l r =
    item_first (outside_of (declared_of no_notes
    (entity_of end_lexeme refl (one (entity_ident i h))
    (some_parents refl (single_item (one (entity_ident (parent_of i) k)))) (shape_spelled n i l) no_tags refl))) r

action_first : (n i : ℕ) (rest : List Piece) (ws : List WrittenItem) → IsSmall i → IsSmall (resource_of n i)
    → AreManyOf SpellsItem (lexemes_of rest) ws
    → AreManyOf SpellsItem (lexemes_of (action_before n i rest)) (outside (declares.action_of_number n i) ∷ ws)
action_first n i rest ws h k r =
    item_first (outside_of (declared_of no_notes
    (action_of end_lexeme refl (one_name (bare (action_ident i h))) no_parent
    (some_applies close_lexeme refl refl
    (more_items comma_lexeme (types_of refl refl (single_item (one (entity_ident i h)))) refl
    (last_item (types_of refl refl (single_item (one (entity_ident (resource_of n i) k)))))) refl) refl))) r

pub numbers_below : (n from k : ℕ) → from + k ≤ n → AllByRecursion (λ i. i < n) (range_with_len from k)
numbers_below n from zero h = tt
numbers_below n from (suc k) h = (omega arith, numbers_below n (from + 1) k (omega arith))

module _ (n : ℕ) (some : 1 ≤ n) (small : n ≤ max_size) where
  below : (i : ℕ) → i < n → IsSmall i
  below i h = omega arith

  rest_below : (k : ℕ) → IsSmall (k % n)
  rest_below k = let h : k % n < n = mod_below k n some in omega (arith, h)

  half_below : (i : ℕ) → i < n → IsSmall (parent_of i)
  half_below i h = omega arith

  pieces_follow : (is : List ℕ) → AllByRecursion (λ i. i < n) is → Follow free (pieces_of n is)
  pieces_follow [] h = done refl
  pieces_follow (i ∷ is) h =
      entity_follow (i == 0) n i (action_before n i (pieces_of n is)) (below i h.0) (half_below i h.0)
      (rest_below (7 * i + 3))
      (action_follow n i (pieces_of n is) (below i h.0) (rest_below (5 * i + 1)) (pieces_follow is h.1))

  pieces_spell : (is : List ℕ) → AllByRecursion (λ i. i < n) is
      → SpellsSchema (lexemes_of (pieces_of n is)) (flat_map (items_of_number n) is)
  pieces_spell [] h = no_more_items
  pieces_spell (i ∷ is) h =
      entity_first (i == 0) n i (action_before n i (pieces_of n is))
      (outside (declares.action_of_number n i) ∷ flat_map (items_of_number n) is) (below i h.0) (half_below i h.0)
      (rest_below (7 * i + 3))
      (action_first n i (pieces_of n is) (flat_map (items_of_number n) is) (below i h.0) (rest_below (5 * i + 1))
      (pieces_spell is h.1))

  -- the text reads back as what it declares
  pub reads : ((ps : List Piece) → Follow free ps → HasLexemes (laid ps) (lexemes_of ps))
      → ((text : List ℕ) (u : List Lexeme) (w : List WrittenItem) → HasLexemes text u → SpellsSchema u w
      → ReadsBack text w) → ReadsBack (generated n) (generated_items n)
  reads read back =
      let is = range_with_len 0 n in
      let h = numbers_below n 0 n (omega arith) in
      let ps = pieces_of n is in
      subst (λ t. ReadsBack t (generated_items n)) (lines_laid n is)
      (back (laid ps) (lexemes_of ps) (generated_items n) (read ps (pieces_follow is h)) (pieces_spell is h))
