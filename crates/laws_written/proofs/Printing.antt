-- What is laid out spells what is written.
use Rattle.std.proofs.Common.{◌≡◌, ℕ, Bool, true, false, List, [], ◌∷◌, ◌++◌, refl, sym, ap, ◌∙◌, subst, append-nil}
use Rattle.std.proofs.Common.{append_assoc, inl, inr, ◌+◌}
use Rattle.std.specs.Prelude.{codes}
use Rattle.std.proofs.lemmas.Bool.{cases_Bool, cond-true, cond-false}
use Rattle.cedar_names.specs.CanonicalText.{spaces}
use Rattle.cedar_identifiers.specs.Words.{is_id}
use Rattle.schema_syntax_grammar.specs.declared.token_kind.TokenKind.TheVariants.{StringLit, Comma, Colon, LBrace}
use Rattle.schema_syntax_grammar.specs.declared.token_kind.TokenKind.TheVariants.{RBrace, Less, Greater, Question}
use Rattle.schema_syntax_tokens.specs.Escapes.{Unescapes}
use Rattle.schema_syntax_tokens.specs.Forms.{word_kind, IsForm}
use Rattle.schema_syntax_tokens.specs.Quotes.{quoted, quoted_body}
use Rattle.schema_syntax_tokens.specs.Laid.{Lexeme, Piece, gap, lexeme, lexemes_of, free, word, Follow, done, by_gap}
use Rattle.schema_syntax_tokens.specs.Laid.{by_blanks, by_lexeme}
use Rattle.laws_written.specs.Written.{WrittenType, WrittenAttributes, path, set, rec, no_more, attribute}
use Rattle.laws_written.specs.Spellings.{IsIdent, SpellsName, bare, quoted as quoted_name, SpellsPath, one, more}
use Rattle.laws_written.specs.Spellings.{SpellsType, path_type, set_type, record_type, IsRecordOf, braces}
use Rattle.laws_written.specs.Spellings.{AreAttributesOf, no_attribute, last_attribute, more_attributes}
use Rattle.laws_written.specs.Spellings.{IsAttributeOf, required, optional}
use Rattle.laws_written.specs.Printed.{mark, line_break, space, notes_pieces, name_lexeme, name_piece, path_pieces}
use Rattle.laws_written.specs.Printed.{comma_pieces, type_pieces, lines_pieces, IsProperPath, IsProperType}
use Rattle.laws_written.specs.Printed.{AreProperAttributes}
use Rattle.schema_syntax_reader.specs.Leaves.{Notes}
use Rattle.laws_written.proofs.PrintingNotes.{spell_notes, follow_notes}
use Rattle.laws_written.proofs.Following.{from_free, lexemes-append, follow_append, blank_spaces, one_space}
use Rattle.laws_written.proofs.Following.{one_line_end, by_indent, ident_kind_of, then_word, then_id}

pub id_ident : (c : List ℕ) → is_id c ≡ true → IsIdent (record { kind = word_kind c; text = c })
id_ident c h = record { ident = ident_kind_of c h; id = h }

pub spells_path : (p : List (List ℕ)) → IsProperPath p → SpellsPath (lexemes_of (path_pieces p)) p
spells_path [] h = absurd h
spells_path (c ∷ []) h = one (id_ident c h)
spells_path (c ∷ d ∷ cs) h = more (id_ident c h.0) refl (spells_path (d ∷ cs) h.1)

pub follow_path : (p : List (List ℕ)) → IsProperPath p → Follow free (path_pieces p)
follow_path [] h = absurd h
follow_path (c ∷ []) h = then_id c h (done refl)
follow_path (c ∷ d ∷ cs) h = then_id c h.0 (by_lexeme (inr (inl refl)) refl (follow_path (d ∷ cs) h.1))

ended : (closing : Bool) (base : ℕ) (xs : WrittenAttributes) (u : List Lexeme) (ns : Notes) (n : List ℕ) (r : Bool)
    (t : WrittenType)
    → IsAttributeOf u ns n r t → AreAttributesOf (lexemes_of (lines_pieces closing base xs)) xs
    → AreAttributesOf (u ++ lexemes_of (comma_pieces closing xs ++ line_break ∷ lines_pieces closing base xs))
    (attribute ns n r t xs)
ended true base no_more u ns n r t h k = more_attributes (record { kind = Comma; text = codes "," }) h refl no_attribute
ended false base no_more u ns n r t h k =
    subst (λ l. AreAttributesOf l (attribute ns n r t no_more)) (sym (append-nil u)) (last_attribute h)
ended closing base (attribute ms m q s xs) u ns n r t h k =
    more_attributes (record { kind = Comma; text = codes "," }) h refl k

-- the lexemes of an attribute's lines, with those of its own in front
line_spelled : (closing : Bool) (base : ℕ) (ns : Notes) (head : List Lexeme) (t : WrittenType)
    (xs : WrittenAttributes) (P : List Lexeme → Type 0)
    → P ((lexemes_of (notes_pieces (base + 2) ns) ++ (head ++ lexemes_of (type_pieces closing (base + 2) t)))
    ++ lexemes_of (comma_pieces closing xs ++ line_break ∷ lines_pieces closing base xs))
    → (front : List Piece) → lexemes_of front ≡ head
    → P (lexemes_of (notes_pieces (base + 2) ns
    ++ (front ++ (type_pieces closing (base + 2) t
    ++ (comma_pieces closing xs ++ line_break ∷ lines_pieces closing base xs)))))
line_spelled closing base ns head t xs P h front e =
    let notes = notes_pieces (base + 2) ns in
    let type = type_pieces closing (base + 2) t in
    let tail = comma_pieces closing xs ++ line_break ∷ lines_pieces closing base xs in
    let whole : lexemes_of (notes ++ (front ++ (type ++ tail))) ≡ (lexemes_of notes ++ (head ++ lexemes_of type))
    ++ lexemes_of tail =
    lexemes-append notes (front ++ (type ++ tail))
    ∙ (ap (λ l. lexemes_of notes ++ l)
    (lexemes-append front (type ++ tail)
    ∙ (ap (λ l. l ++ lexemes_of (type ++ tail)) e
    ∙ (ap (λ l. head ++ l) (lexemes-append type tail) ∙ sym (append_assoc head (lexemes_of type) (lexemes_of tail)))))
    ∙ sym (append_assoc (lexemes_of notes) (head ++ lexemes_of type) (lexemes_of tail))) in
    subst P (sym whole) h

comma_follows : (closing : Bool) (xs : WrittenAttributes) (ps : List Piece) → Follow free (line_break ∷ ps)
    → Follow word (comma_pieces closing xs ++ line_break ∷ ps)
comma_follows true no_more ps s = by_lexeme (inr (inl refl)) refl s
comma_follows false no_more ps s = behind s
  where
    behind : Follow free (line_break ∷ ps) → Follow word (line_break ∷ ps)
    behind (by_gap g s) = by_gap g s
    behind (by_blanks g s) = by_gap g s
comma_follows closing (attribute ns n r t xs) ps s = by_lexeme (inr (inl refl)) refl s

module _ (string_form : (cs : List ℕ) → IsForm (quoted cs) StringLit)
    (stands_for : (cs : List ℕ) → Unescapes (quoted_body cs) cs) where
  then_name : {ps : List Piece} (n : List ℕ) → Follow word ps → Follow free (name_piece n ∷ ps)
  then_name {ps} n s =
      elim (cases_Bool (is_id n)) [
        | inl h ↦ subst (λ x. Follow free (lexeme x ∷ ps)) (sym (cond-true (is_id n) _ _ h)) (then_id n h s)
        | inr h ↦ subst (λ x. Follow free (lexeme x ∷ ps)) (sym (cond-false (is_id n) _ _ h))
            (by_lexeme (string_form n) refl (from_free s))
      ]

  spells_name : (n : List ℕ) → SpellsName (name_lexeme n) n
  spells_name n =
      elim (cases_Bool (is_id n)) [
        | inl h ↦ subst (λ x. SpellsName x n) (sym (cond-true (is_id n) _ _ h)) (bare (id_ident n h))
        | inr h ↦ subst (λ x. SpellsName x n) (sym (cond-false (is_id n) _ _ h))
            (quoted_name (quoted_body n) refl refl (stands_for n))
      ]

  mutual
    pub spells_type : (closing : Bool) (base : ℕ) (t : WrittenType) → IsProperType t
        → SpellsType (lexemes_of (type_pieces closing base t)) t
    spells_type closing base (path p) h = path_type (spells_path p h)
    spells_type closing base (set t) h =
        let pieces = type_pieces closing base t in
        let close : Lexeme = record { kind = Greater; text = codes ">" } in
        subst (λ l. SpellsType (record { kind = word_kind (codes "Set"); text = codes "Set" } ∷ record
        { kind = Less; text = codes "<" } ∷ l) (set t)) (sym (lexemes-append pieces (mark Greater (codes ">") ∷ [])))
        (set_type close refl refl (spells_type closing base t h) refl)
    spells_type closing base (rec no_more) h =
        record_type (braces (record { kind = RBrace; text = codes "}" }) refl no_attribute refl)
    spells_type closing base (rec (attribute ns n r t xs)) h =
        let pieces = lines_pieces closing base (attribute ns n r t xs) in
        subst (λ l. SpellsType (record { kind = LBrace; text = codes "{" } ∷ l) (rec (attribute ns n r t xs)))
        (sym (lexemes-append pieces (gap (spaces base) ∷ mark RBrace (codes "}") ∷ [])))
        (record_type (braces (record { kind = RBrace; text = codes "}" }) refl
        (spells_lines closing base (attribute ns n r t xs) h) refl))

    pub spells_lines : (closing : Bool) (base : ℕ) (xs : WrittenAttributes) → AreProperAttributes xs
        → AreAttributesOf (lexemes_of (lines_pieces closing base xs)) xs
    spells_lines closing base no_more h = no_attribute
    spells_lines closing base (attribute ns n true t xs) h =
        line_spelled closing base ns (name_lexeme n ∷ record { kind = Colon; text = codes ":" } ∷ []) t xs
        (λ l. AreAttributesOf l (attribute ns n true t xs))
        (ended closing base xs _ ns n true t
        (required (name_lexeme n) (record { kind = Colon; text = codes ":" })
        (spell_notes string_form stands_for (base + 2) ns h.0) (spells_name n) refl
        (spells_type closing (base + 2) t h.1)) (spells_lines closing base xs h.2))
        (gap (spaces (base + 2)) ∷ name_piece n ∷ mark Colon (codes ":") ∷ space ∷ []) refl
    spells_lines closing base (attribute ns n false t xs) h =
        line_spelled closing base ns (name_lexeme n ∷ record { kind = Question; text = codes "?" } ∷ record
        { kind = Colon; text = codes ":" } ∷ []) t xs
        (λ l. AreAttributesOf l (attribute ns n false t xs))
        (ended closing base xs _ ns n false t
        (optional (name_lexeme n) (record { kind = Question; text = codes "?" })
        (record { kind = Colon; text = codes ":" }) (spell_notes string_form stands_for (base + 2) ns h.0)
        (spells_name n) refl refl (spells_type closing (base + 2) t h.1)) (spells_lines closing base xs h.2))
        (gap (spaces (base + 2)) ∷ name_piece n ∷ mark Question (codes "?") ∷ mark Colon (codes ":") ∷ space ∷ []) refl

  pub spells_record : (closing : Bool) (base : ℕ) (xs : WrittenAttributes) → AreProperAttributes xs
      → IsRecordOf (lexemes_of (type_pieces closing base (rec xs))) xs
  spells_record closing base no_more h = braces (record { kind = RBrace; text = codes "}" }) refl no_attribute refl
  spells_record closing base (attribute ns n r t xs) h =
      let pieces = lines_pieces closing base (attribute ns n r t xs) in
      subst (λ l. IsRecordOf (record { kind = LBrace; text = codes "{" } ∷ l) (attribute ns n r t xs))
      (sym (lexemes-append pieces (gap (spaces base) ∷ mark RBrace (codes "}") ∷ [])))
      (braces (record { kind = RBrace; text = codes "}" }) refl
      (spells_lines closing base (attribute ns n r t xs) h) refl)

  -- a type, and what stands behind it in its line and below
  line_follows : (closing : Bool) (base : ℕ) (t : WrittenType) (xs : WrittenAttributes)
      → Follow free (type_pieces closing (base + 2) t) → Follow free (lines_pieces closing base xs)
      → Follow free (type_pieces closing (base + 2) t
      ++ (comma_pieces closing xs ++ line_break ∷ lines_pieces closing base xs))
  line_follows closing base t xs h k =
      follow_append (comma_pieces closing xs ++ line_break ∷ lines_pieces closing base xs) h
      (comma_follows closing xs (lines_pieces closing base xs) (by_gap one_line_end k))

  mutual
    pub follow_type : (closing : Bool) (base : ℕ) (t : WrittenType) → IsProperType t
        → Follow free (type_pieces closing base t)
    follow_type closing base (path p) h = follow_path p h
    follow_type closing base (set t) h =
        then_word (codes "Set") refl (by_lexeme (inr (inl refl)) refl
        (follow_append (mark Greater (codes ">") ∷ []) (follow_type closing base t h)
        (by_lexeme (inr (inl refl)) refl (done refl))))
    follow_type closing base (rec no_more) h =
        by_lexeme (inr (inl refl)) refl (by_blanks (blank_spaces base) (by_lexeme (inr (inl refl)) refl (done refl)))
    follow_type closing base (rec (attribute ns n r t xs)) h =
        by_lexeme (inr (inl refl)) refl (by_gap one_line_end
        (follow_append (gap (spaces base) ∷ mark RBrace (codes "}") ∷ [])
        (follow_lines closing base (attribute ns n r t xs) h)
        (by_blanks (blank_spaces base) (by_lexeme (inr (inl refl)) refl (done refl)))))

    follow_lines : (closing : Bool) (base : ℕ) (xs : WrittenAttributes) → AreProperAttributes xs
        → Follow free (lines_pieces closing base xs)
    follow_lines closing base no_more h = done refl
    follow_lines closing base (attribute ns n true t xs) h =
        follow_notes string_form stands_for (base + 2) ns
        (by_indent base (then_name n (by_lexeme (inr (inl refl)) refl
        (by_gap one_space (line_follows closing base t xs (follow_type closing (base + 2) t h.1)
        (follow_lines closing base xs h.2))))))
    follow_lines closing base (attribute ns n false t xs) h =
        follow_notes string_form stands_for (base + 2) ns
        (by_indent base (then_name n (by_lexeme (inr (inl refl)) refl
        (by_lexeme (inr (inl refl)) refl
        (by_gap one_space (line_follows closing base t xs (follow_type closing (base + 2) t h.1)
        (follow_lines closing base xs h.2)))))))
