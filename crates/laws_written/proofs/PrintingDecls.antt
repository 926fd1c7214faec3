-- Declarations that are laid out spell what is written.
use Rattle.std.proofs.Common.{◌≡◌, ℕ, Bool, true, false, List, [], ◌∷◌, ◌++◌, Option, Some, None, refl, sym, ap, ◌∙◌}
use Rattle.std.proofs.Common.{subst, append-nil, append_assoc, inl, inr, ◌+◌, map}
use Rattle.std.specs.Prelude.{codes}
use Rattle.std.specs.List.{AllByRecursion, flat_map}
use Rattle.cedar_names.specs.CanonicalText.{spaces}
use Rattle.schema_syntax_grammar.specs.declared.token_kind.TokenKind.TheVariants.{StringLit, Comma, Semi, PathSep}
use Rattle.schema_syntax_grammar.specs.declared.token_kind.TokenKind.TheVariants.{LBrace, RBrace, LBracket, RBracket}
use Rattle.schema_syntax_grammar.specs.declared.token_kind.TokenKind.TheVariants.{Equals}
use Rattle.schema_syntax_tree.specs.declared.pr.PR.TheVariants.{Principal, Resource}
use Rattle.schema_syntax_tokens.specs.Escapes.{Unescapes}
use Rattle.schema_syntax_tokens.specs.Forms.{word_kind, IsForm}
use Rattle.schema_syntax_tokens.specs.Quotes.{quoted, quoted_body}
use Rattle.schema_syntax_tokens.specs.Laid.{Lexeme, Piece, gap, lexemes_of, free, word, Follow, done, by_gap, by_blanks}
use Rattle.schema_syntax_tokens.specs.Laid.{by_lexeme}
use Rattle.laws_written.specs.Written.{WrittenType, WrittenAttributes, rec, no_more, attribute, WrittenRef}
use Rattle.laws_written.specs.Written.{WrittenMember, types, context_path, context_record, WrittenDecl, entity, enum}
use Rattle.laws_written.specs.Written.{external_entity, action, external_action, common, WrittenDeclared, namespace}
use Rattle.laws_written.specs.Written.{outside}
use Rattle.schema_syntax_reader.specs.Leaves.{Notes}
use Rattle.laws_written.proofs.PrintingNotes.{spell_notes, follow_notes}
use Rattle.laws_written.specs.Spellings.{SpellsName, quoted as quoted_name, SpellsPath, IsChainOf, one, more}
use Rattle.laws_written.specs.Spellings.{AreNamesOf, one_name, more_names, AreSeparatedOf, no_item, last_item}
use Rattle.laws_written.specs.Spellings.{more_items, AreListedOf, listed_items, AreManyOf, no_more_items, item_first}
use Rattle.laws_written.specs.Spellings.{AreParentsOf, no_parent, some_parents, IsStringOf, a_string, SpellsRef}
use Rattle.laws_written.specs.Spellings.{plain_ref, typed_ref, IsRecordOf, braces, no_attribute, SpellsShape}
use Rattle.laws_written.specs.Spellings.{no_shape, equals_shape, SpellTags, no_tags, some_tags, IsMemberOf, types_of}
use Rattle.laws_written.specs.Spellings.{path_context, record_context, SpellsApplies, no_applies, some_applies}
use Rattle.laws_written.specs.Spellings.{SpellsDeclared, declared_of, SpellsDecl, entity_of, enum_of}
use Rattle.laws_written.specs.Spellings.{external_entity_of, action_of, external_action_of, common_of, SpellsItem}
use Rattle.laws_written.specs.Spellings.{namespace_of, outside_of, SpellsSchema}
use Rattle.laws_written.specs.Printed.{mark, string, line_break, space, notes_pieces, AreProperNotes, path_pieces}
use Rattle.laws_written.specs.Printed.{type_pieces, IsProperPath, AreProperAttributes}
use Rattle.laws_written.specs.Printed as printed
use Rattle.laws_written.specs.PrintedDecls.{list_pieces, bracketed, parents_pieces, word_pieces, string_pieces}
use Rattle.laws_written.specs.PrintedDecls.{ref_pieces, shape_pieces, tags_pieces, context_pieces, member_pieces}
use Rattle.laws_written.specs.PrintedDecls.{comma_behind_member, members_pieces, applies_pieces, ended, decl_pieces}
use Rattle.laws_written.specs.PrintedDecls.{declared_pieces, joined_pieces, Group, namespace_pieces, group_pieces}
use Rattle.laws_written.specs.PrintedDecls.{schema_pieces, namespace_items, group_items, IsSome, IsProperWord}
use Rattle.laws_written.specs.PrintedDecls.{IsProperRef, IsProperTags, IsProperMember, AreProperMembers}
use Rattle.laws_written.specs.PrintedDecls.{IsProperOptional, IsProperDecl, IsProperDeclared, IsProperGroup}
use Rattle.laws_written.proofs.Following.{lexemes-append, follow_append, blank_spaces, one_space, one_line_end}
use Rattle.laws_written.proofs.Following.{by_indent, then_word, then_id}
use Rattle.laws_written.proofs.Printing.{id_ident, spells_path, follow_path, spells_type, spells_record, follow_type}

-- lists in brackets
separated_by : {A : Type 0} (P : List Lexeme → A → Type 0) (f : A → List Piece) (Proper : A → Type 0)
    → ((x : A) → Proper x → P (lexemes_of (f x)) x) → (xs : List A) → AllByRecursion Proper xs
    → AreSeparatedOf P (lexemes_of (list_pieces f xs)) xs
separated_by P f Proper each [] h = no_item
separated_by P f Proper each (x ∷ []) h = last_item (each x h.0)
separated_by P f Proper each (x ∷ y ∷ xs) h =
    subst (λ l. AreSeparatedOf P l (x ∷ y ∷ xs))
    (sym (lexemes-append (f x) (mark Comma (codes ",") ∷ space ∷ list_pieces f (y ∷ xs))))
    (more_items (record { kind = Comma; text = codes "," }) (each x h.0) refl
    (separated_by P f Proper each (y ∷ xs) h.1))

bracketed_by : {A : Type 0} (P : List Lexeme → A → Type 0) (f : A → List Piece) (Proper : A → Type 0)
    → ((x : A) → Proper x → P (lexemes_of (f x)) x) → (xs : List A) → AllByRecursion Proper xs
    → AreListedOf P (lexemes_of (bracketed f xs)) xs
bracketed_by P f Proper each xs h =
    subst (λ l. AreListedOf P (record { kind = LBracket; text = codes "[" } ∷ l) xs)
    (sym (lexemes-append (list_pieces f xs) (mark RBracket (codes "]") ∷ [])))
    (listed_items (record { kind = RBracket; text = codes "]" }) refl (separated_by P f Proper each xs h) refl)

parents_by : {A : Type 0} (P : List Lexeme → A → Type 0) (f : A → List Piece) (Proper : A → Type 0)
    → ((x : A) → Proper x → P (lexemes_of (f x)) x) → (xs : List A) → AllByRecursion Proper xs
    → AreParentsOf P (lexemes_of (parents_pieces f xs)) xs
parents_by P f Proper each [] h = no_parent
parents_by P f Proper each (x ∷ xs) h = some_parents refl (bracketed_by P f Proper each (x ∷ xs) h)

follow_list : {A : Type 0} (f : A → List Piece) (Proper : A → Type 0) → ((x : A) → Proper x → Follow free (f x))
    → (xs : List A) → AllByRecursion Proper xs → Follow free (list_pieces f xs)
follow_list f Proper each [] h = done refl
follow_list f Proper each (x ∷ []) h = each x h.0
follow_list f Proper each (x ∷ y ∷ xs) h =
    follow_append (mark Comma (codes ",") ∷ space ∷ list_pieces f (y ∷ xs)) (each x h.0)
    (by_lexeme (inr (inl refl)) refl (by_gap one_space (follow_list f Proper each (y ∷ xs) h.1)))

follow_bracketed : {A : Type 0} (f : A → List Piece) (Proper : A → Type 0) → ((x : A) → Proper x → Follow free (f x))
    → (xs : List A) → AllByRecursion Proper xs → Follow free (bracketed f xs)
follow_bracketed f Proper each xs h =
    by_lexeme (inr (inl refl)) refl
    (follow_append (mark RBracket (codes "]") ∷ []) (follow_list f Proper each xs h)
    (by_lexeme (inr (inl refl)) refl (done refl)))

follow_parents : {A : Type 0} (f : A → List Piece) (Proper : A → Type 0) → ((x : A) → Proper x → Follow free (f x))
    → (xs : List A) → AllByRecursion Proper xs → Follow word (parents_pieces f xs)
follow_parents f Proper each [] h = done refl
follow_parents f Proper each (x ∷ xs) h =
    by_gap one_space (then_word (codes "in") refl (by_gap one_space (follow_bracketed f Proper each (x ∷ xs) h)))

all_any : {A : Type 0} (xs : List A) → AllByRecursion (λ (x : A). Unit {0}) xs
all_any [] = tt
all_any (x ∷ xs) = (tt, all_any xs)

-- names
idents_by : (names : List (List ℕ)) → IsSome names → AllByRecursion IsProperWord names
    → IsChainOf Comma (lexemes_of (list_pieces word_pieces names)) names
idents_by [] some h = absurd some
idents_by (n ∷ []) some h = one (id_ident n h.0)
idents_by (n ∷ m ∷ names) some h = more (id_ident n h.0) refl (idents_by (m ∷ names) tt h.1)

follow_word : (n : List ℕ) → IsProperWord n → Follow free (word_pieces n)
follow_word n h = then_id n h (done refl)

-- a comma behind a member
member_ended : (closing : Bool) (base : ℕ) (ms : List WrittenMember) (u : List Lexeme) (m : WrittenMember)
    → IsMemberOf u m → AreSeparatedOf IsMemberOf (lexemes_of (members_pieces closing base ms)) ms
    → AreSeparatedOf IsMemberOf (u
    ++ lexemes_of (comma_behind_member closing ms ++ line_break ∷ members_pieces closing base ms)) (m ∷ ms)
member_ended true base [] u m h k = more_items (record { kind = Comma; text = codes "," }) h refl no_item
member_ended false base [] u m h k =
    subst (λ l. AreSeparatedOf IsMemberOf l (m ∷ [])) (sym (append-nil u)) (last_item h)
member_ended closing base (n ∷ ms) u m h k = more_items (record { kind = Comma; text = codes "," }) h refl k

member_follows : {A : Type 0} (closing : Bool) (ms : List A) (ps : List Piece) → Follow free ps
    → Follow word (comma_behind_member closing ms ++ line_break ∷ ps)
member_follows true [] ps s = by_lexeme (inr (inl refl)) refl (by_gap one_line_end s)
member_follows false [] ps s = by_gap one_line_end s
member_follows closing (m ∷ ms) ps s = by_lexeme (inr (inl refl)) refl (by_gap one_line_end s)

follow_ended : Follow word ended
follow_ended = by_lexeme (inr (inl refl)) refl (by_gap one_line_end (done refl))

many_joined : {A : Type 0} (P : List Lexeme → A → Type 0) (f : A → List Piece) (Proper : A → Type 0)
    → ((x : A) → Proper x → P (lexemes_of (f x)) x) → (xs : List A) → AllByRecursion Proper xs
    → AreManyOf P (lexemes_of (joined_pieces f xs)) xs
many_joined P f Proper each [] h = no_more_items
many_joined P f Proper each (x ∷ []) h =
    subst (λ l. AreManyOf P l (x ∷ [])) (append-nil (lexemes_of (f x))) (item_first (each x h.0) no_more_items)
many_joined P f Proper each (x ∷ y ∷ xs) h =
    subst (λ l. AreManyOf P l (x ∷ y ∷ xs)) (sym (lexemes-append (f x) (line_break ∷ joined_pieces f (y ∷ xs))))
    (item_first (each x h.0) (many_joined P f Proper each (y ∷ xs) h.1))

follow_joined : {A : Type 0} (f : A → List Piece) (Proper : A → Type 0) → ((x : A) → Proper x → Follow free (f x))
    → (xs : List A) → AllByRecursion Proper xs → Follow free (joined_pieces f xs)
follow_joined f Proper each [] h = done refl
follow_joined f Proper each (x ∷ []) h = each x h.0
follow_joined f Proper each (x ∷ y ∷ xs) h =
    follow_append (line_break ∷ joined_pieces f (y ∷ xs)) (each x h.0)
    (by_gap one_line_end (follow_joined f Proper each (y ∷ xs) h.1))

many_outside : {u : List Lexeme} {ds : List WrittenDeclared} → AreManyOf SpellsDeclared u ds
    → AreManyOf SpellsItem u (map outside ds)
many_outside no_more_items = no_more_items
many_outside (item_first h r) = item_first (outside_of h) (many_outside r)

many_append : {A : Type 0} {P : List Lexeme → A → Type 0} {u v : List Lexeme} {xs ys : List A} → AreManyOf P u xs
    → AreManyOf P v ys → AreManyOf P (u ++ v) (xs ++ ys)
many_append {P = P} {v = w} {ys = ys} no_more_items r = r
many_append {P = P} {v = w} {ys = ys} (item_first {u = u} {v = v} {x = x} {xs = xs} h k) r =
    subst (λ l. AreManyOf P l (x ∷ (xs ++ ys))) (sym (append_assoc u v w)) (item_first h (many_append k r))

three : (a b c : List Piece) → lexemes_of (a ++ (b ++ c)) ≡ lexemes_of a ++ (lexemes_of b ++ lexemes_of c)
three a b c = lexemes-append a (b ++ c) ∙ ap (λ l. lexemes_of a ++ l) (lexemes-append b c)

four : (a b c d : List Piece)
    → lexemes_of (a ++ (b ++ (c ++ d))) ≡ lexemes_of a ++ (lexemes_of b ++ (lexemes_of c ++ lexemes_of d))
four a b c d = lexemes-append a (b ++ (c ++ d)) ∙ ap (λ l. lexemes_of a ++ l) (three b c d)

five : (a b c d e : List Piece)
    → lexemes_of (a ++ (b ++ (c ++ (d ++ e)))) ≡ lexemes_of a
    ++ (lexemes_of b ++ (lexemes_of c ++ (lexemes_of d ++ lexemes_of e)))
five a b c d e = lexemes-append a (b ++ (c ++ (d ++ e))) ∙ ap (λ l. lexemes_of a ++ l) (four b c d e)

abbrev key : List ℕ → Lexeme
key w = record { kind = word_kind w; text = w }

module _ (string_form : (cs : List ℕ) → IsForm (quoted cs) StringLit)
    (stands_for : (cs : List ℕ) → Unescapes (quoted_body cs) cs) where
  string_name : (n : List ℕ) → SpellsName (record { kind = StringLit; text = quoted n }) n
  string_name n = quoted_name (quoted_body n) refl refl (stands_for n)

  names_by : (names : List (List ℕ)) → IsSome names → AreNamesOf (lexemes_of (list_pieces string_pieces names)) names
  names_by [] some = absurd some
  names_by (n ∷ []) some = one_name (string_name n)
  names_by (n ∷ m ∷ names) some = more_names (string_name n) refl (names_by (m ∷ names) tt)

  follow_string : (n : List ℕ) → Unit {0} → Follow free (string_pieces n)
  follow_string n h = by_lexeme (string_form n) refl (done refl)

  follow_strings : (names : List (List ℕ)) → Follow free (list_pieces string_pieces names)
  follow_strings names = follow_list string_pieces (λ n. Unit {0}) follow_string names (all_any names)

  spells_ref : (r : WrittenRef) → IsProperRef r → SpellsRef (lexemes_of (ref_pieces r)) r
  spells_ref r h = by_type r.ty r.id h
    where
      by_type : (ty : Option (List (List ℕ))) (id : List ℕ) → IsProperRef (record { ty = ty; id = id })
          → SpellsRef (lexemes_of (ref_pieces (record { ty = ty; id = id }))) (record { ty = ty; id = id })
      by_type None id h = plain_ref (string_name id)
      by_type (Some p) id h =
          subst (λ l. SpellsRef l (record { ty = Some p; id = id }))
          (sym (lexemes-append (path_pieces p) (mark PathSep (codes "::") ∷ string id ∷ [])))
          (typed_ref (record { kind = PathSep; text = codes "::" }) (record { kind = StringLit; text = quoted id })
          (quoted_body id) (spells_path p h) refl refl refl (stands_for id))

  follow_ref : (r : WrittenRef) → IsProperRef r → Follow free (ref_pieces r)
  follow_ref r h = by_type r.ty r.id h
    where
      by_type : (ty : Option (List (List ℕ))) (id : List ℕ) → IsProperRef (record { ty = ty; id = id })
          → Follow free (ref_pieces (record { ty = ty; id = id }))
      by_type None id h = by_lexeme (string_form id) refl (done refl)
      by_type (Some p) id h = follow_append (mark PathSep (codes "::") ∷ string id ∷ []) (follow_path p h)
          (by_lexeme (inr (inl refl)) refl (by_lexeme (string_form id) refl (done refl)))

  spells_shape : (closing : Bool) (base : ℕ) (xs : WrittenAttributes) → AreProperAttributes xs
      → SpellsShape (lexemes_of (shape_pieces closing base xs)) xs
  spells_shape closing base no_more h = no_shape
  spells_shape closing base (attribute ns n r t xs) h =
      equals_shape refl (spells_record string_form stands_for closing base (attribute ns n r t xs) h)

  follow_shape : (closing : Bool) (base : ℕ) (xs : WrittenAttributes) → AreProperAttributes xs
      → Follow word (shape_pieces closing base xs)
  follow_shape closing base no_more h = done refl
  follow_shape closing base (attribute ns n r t xs) h =
      by_gap one_space (by_lexeme (inr (inl refl)) refl
      (by_gap one_space (follow_type string_form stands_for closing base (rec (attribute ns n r t xs)) h)))

  spells_tags : (closing : Bool) (t : Option WrittenType) → IsProperTags t
      → SpellTags (lexemes_of (tags_pieces closing t)) t
  spells_tags closing None h = no_tags
  spells_tags closing (Some t) h = some_tags refl (spells_type string_form stands_for closing 0 t h)

  follow_tags : (closing : Bool) (t : Option WrittenType) → IsProperTags t → Follow word (tags_pieces closing t)
  follow_tags closing None h = done refl
  follow_tags closing (Some t) h =
      by_gap one_space (then_word (codes "tags") refl
      (by_gap one_space (follow_type string_form stands_for closing 0 t h)))

  -- members
  spells_context : (closing : Bool) (base : ℕ) (xs : WrittenAttributes) → AreProperAttributes xs
      → IsRecordOf (lexemes_of (context_pieces closing base xs)) xs
  spells_context closing base no_more h = braces (record { kind = RBrace; text = codes "}" }) refl no_attribute refl
  spells_context closing base (attribute ns n r t xs) h =
      spells_record string_form stands_for closing base (attribute ns n r t xs) h

  follow_context : (closing : Bool) (base : ℕ) (xs : WrittenAttributes) → AreProperAttributes xs
      → Follow free (context_pieces closing base xs)
  follow_context closing base no_more h = by_lexeme (inr (inl refl)) refl (by_lexeme (inr (inl refl)) refl (done refl))
  follow_context closing base (attribute ns n r t xs) h =
      follow_type string_form stands_for closing base (rec (attribute ns n r t xs)) h

  spells_member : (closing : Bool) (base : ℕ) (m : WrittenMember) → IsProperMember m
      → IsMemberOf (lexemes_of (member_pieces closing base m)) m
  spells_member closing base (types Principal ps) h =
      types_of refl refl (bracketed_by SpellsPath path_pieces IsProperPath spells_path ps h)
  spells_member closing base (types Resource ps) h =
      types_of refl refl (bracketed_by SpellsPath path_pieces IsProperPath spells_path ps h)
  spells_member closing base (context_path p) h = path_context refl refl (spells_path p h)
  spells_member closing base (context_record xs) h = record_context refl refl (spells_context closing base xs h)

  follow_member : (closing : Bool) (base : ℕ) (m : WrittenMember) → IsProperMember m
      → Follow free (member_pieces closing base m)
  follow_member closing base (types Principal ps) h =
      then_word (codes "principal") refl
      (by_lexeme (inr (inl refl)) refl (by_gap one_space (follow_bracketed path_pieces IsProperPath follow_path ps h)))
  follow_member closing base (types Resource ps) h =
      then_word (codes "resource") refl
      (by_lexeme (inr (inl refl)) refl (by_gap one_space (follow_bracketed path_pieces IsProperPath follow_path ps h)))
  follow_member closing base (context_path p) h =
      then_word (codes "context") refl (by_lexeme (inr (inl refl)) refl (by_gap one_space (follow_path p h)))
  follow_member closing base (context_record xs) h =
      then_word (codes "context") refl
      (by_lexeme (inr (inl refl)) refl (by_gap one_space (follow_context closing base xs h)))

  spells_members : (closing : Bool) (base : ℕ) (ms : List WrittenMember) → AllByRecursion IsProperMember ms
      → AreSeparatedOf IsMemberOf (lexemes_of (members_pieces closing base ms)) ms
  spells_members closing base [] h = no_item
  spells_members closing base (m ∷ ms) h =
      let pieces = member_pieces closing (base + 2) m in
      subst (λ l. AreSeparatedOf IsMemberOf l (m ∷ ms))
      (sym (lexemes-append pieces (comma_behind_member closing ms ++ line_break ∷ members_pieces closing base ms)))
      (member_ended closing base ms (lexemes_of pieces) m (spells_member closing (base + 2) m h.0)
      (spells_members closing base ms h.1))

  follow_members : (closing : Bool) (base : ℕ) (ms : List WrittenMember) → AllByRecursion IsProperMember ms
      → Follow free (members_pieces closing base ms)
  follow_members closing base [] h = done refl
  follow_members closing base (m ∷ ms) h =
      by_indent base (follow_append (comma_behind_member closing ms ++ line_break ∷ members_pieces closing base ms)
      (follow_member closing (base + 2) m h.0)
      (member_follows closing ms (members_pieces closing base ms) (follow_members closing base ms h.1)))

  spells_applies : (closing : Bool) (base : ℕ) (ms : Option (List WrittenMember)) → AreProperMembers ms
      → SpellsApplies (lexemes_of (applies_pieces closing base ms)) ms
  spells_applies closing base None h = no_applies
  spells_applies closing base (Some []) h = absurd h.0
  spells_applies closing base (Some (m ∷ ms)) h =
      let pieces = members_pieces closing base (m ∷ ms) in
      subst (λ l. SpellsApplies (key (codes "appliesTo") ∷ record { kind = LBrace; text = codes "{" } ∷ l)
      (Some (m ∷ ms))) (sym (lexemes-append pieces (gap (spaces base) ∷ mark RBrace (codes "}") ∷ [])))
      (some_applies (record { kind = RBrace; text = codes "}" }) refl refl
      (spells_members closing base (m ∷ ms) h.1) refl)

  follow_applies : (closing : Bool) (base : ℕ) (ms : Option (List WrittenMember)) → AreProperMembers ms
      → Follow word (applies_pieces closing base ms)
  follow_applies closing base None h = done refl
  follow_applies closing base (Some ms) h =
      by_gap one_space (then_word (codes "appliesTo") refl
      (by_gap one_space (by_lexeme (inr (inl refl)) refl (by_gap one_line_end
      (follow_append (gap (spaces base) ∷ mark RBrace (codes "}") ∷ []) (follow_members closing base ms h.1)
      (by_blanks (blank_spaces base) (by_lexeme (inr (inl refl)) refl (done refl))))))))

  -- declarations
  spells_decl : (closing : Bool) (base : ℕ) (d : WrittenDecl) → IsProperDecl d
      → SpellsDecl (lexemes_of (decl_pieces closing base d)) d
  spells_decl closing base (entity names ps xs tags) h =
      subst (λ l. SpellsDecl (key (codes "entity") ∷ l) (entity names ps xs tags))
      (sym (five (list_pieces word_pieces names) (parents_pieces path_pieces ps) (shape_pieces closing base xs)
      (tags_pieces closing tags) ended))
      (entity_of (record { kind = Semi; text = codes ";" }) refl (idents_by names h.0 h.1)
      (parents_by SpellsPath path_pieces IsProperPath spells_path ps h.2) (spells_shape closing base xs h.3)
      (spells_tags closing tags h.4) refl)
  spells_decl closing base (enum names []) h = absurd h.2
  spells_decl closing base (enum names (c ∷ cs)) h =
      let list = list_pieces string_pieces (c ∷ cs) in
      let whole : lexemes_of (list_pieces word_pieces names
      ++ space ∷ printed.word (codes "enum") ∷ space ∷ (bracketed string_pieces (c ∷ cs) ++ ended))
      ≡ lexemes_of (list_pieces word_pieces names)
      ++ key (codes "enum") ∷ record { kind = LBracket; text = codes "[" }
      ∷ (lexemes_of list ++ record { kind = RBracket; text = codes "]" } ∷ record
      { kind = Semi; text = codes ";" } ∷ []) =
      lexemes-append (list_pieces word_pieces names)
      (space ∷ printed.word (codes "enum") ∷ space ∷ (bracketed string_pieces (c ∷ cs) ++ ended))
      ∙ ap (λ l. lexemes_of (list_pieces word_pieces names)
      ++ key (codes "enum") ∷ record { kind = LBracket; text = codes "[" } ∷ l)
      (ap lexemes_of (append_assoc list (mark RBracket (codes "]") ∷ []) ended)
      ∙ lexemes-append list (mark RBracket (codes "]") ∷ ended)) in
      subst (λ l. SpellsDecl (key (codes "entity") ∷ l) (enum names (c ∷ cs))) (sym whole)
      (enum_of (key (codes "enum")) (record { kind = LBracket; text = codes "[" })
      (record { kind = RBracket; text = codes "]" }) (record { kind = Semi; text = codes ";" }) refl
      (idents_by names h.0 h.1) refl refl
      (separated_by IsStringOf string_pieces (λ n. Unit {0})
      (λ n u. a_string (quoted_body n) refl refl (stands_for n)) (c ∷ cs) (all_any (c ∷ cs))) refl refl)
  spells_decl closing base (external_entity names ps) h =
      subst (λ l. SpellsDecl (key (codes "external") ∷ key (codes "entity") ∷ l) (external_entity names ps))
      (sym (three (list_pieces word_pieces names) (parents_pieces path_pieces ps) ended))
      (external_entity_of (record { kind = Semi; text = codes ";" }) refl refl (idents_by names h.0 h.1)
      (parents_by SpellsPath path_pieces IsProperPath spells_path ps h.2) refl)
  spells_decl closing base (action names rs ms) h =
      subst (λ l. SpellsDecl (key (codes "action") ∷ l) (action names rs ms))
      (sym (four (list_pieces string_pieces names) (parents_pieces ref_pieces rs)
      (applies_pieces closing base ms) ended))
      (action_of (record { kind = Semi; text = codes ";" }) refl (names_by names h.0)
      (parents_by SpellsRef ref_pieces IsProperRef spells_ref rs h.1) (spells_applies closing base ms h.2) refl)
  spells_decl closing base (external_action names rs) h =
      subst (λ l. SpellsDecl (key (codes "external") ∷ key (codes "action") ∷ l) (external_action names rs))
      (sym (three (list_pieces string_pieces names) (parents_pieces ref_pieces rs) ended))
      (external_action_of (record { kind = Semi; text = codes ";" }) refl refl (names_by names h.0)
      (parents_by SpellsRef ref_pieces IsProperRef spells_ref rs h.1) refl)
  spells_decl closing base (common n t) h =
      subst (λ l. SpellsDecl (key (codes "type") ∷ key n ∷ record { kind = Equals; text = codes "=" } ∷ l)
      (common n t)) (sym (lexemes-append (type_pieces closing base t) ended))
      (common_of (record { kind = Semi; text = codes ";" }) refl (id_ident n h.0) refl
      (spells_type string_form stands_for closing base t h.1) refl)

  follow_decl : (closing : Bool) (base : ℕ) (d : WrittenDecl) → IsProperDecl d
      → Follow free (decl_pieces closing base d)
  follow_decl closing base (entity names ps xs tags) h =
      by_blanks (blank_spaces base) (then_word (codes "entity") refl
      (by_gap one_space (follow_append _ (follow_list word_pieces IsProperWord follow_word names h.1)
      (follow_append _ (follow_parents path_pieces IsProperPath follow_path ps h.2)
      (follow_append _ (follow_shape closing base xs h.3)
      (follow_append _ (follow_tags closing tags h.4) follow_ended))))))
  follow_decl closing base (enum names choices) h =
      by_blanks (blank_spaces base) (then_word (codes "entity") refl
      (by_gap one_space (follow_append _ (follow_list word_pieces IsProperWord follow_word names h.1)
      (by_gap one_space (then_word (codes "enum") refl (by_gap one_space
      (follow_append _ (follow_bracketed string_pieces (λ n. Unit {0}) follow_string choices (all_any choices))
      follow_ended)))))))
  follow_decl closing base (external_entity names ps) h =
      by_blanks (blank_spaces base) (then_word (codes "external") refl
      (by_gap one_space (then_word (codes "entity") refl
      (by_gap one_space (follow_append _ (follow_list word_pieces IsProperWord follow_word names h.1)
      (follow_append _ (follow_parents path_pieces IsProperPath follow_path ps h.2) follow_ended))))))
  follow_decl closing base (action names rs ms) h =
      by_blanks (blank_spaces base) (then_word (codes "action") refl
      (by_gap one_space (follow_append _ (follow_strings names)
      (follow_append _ (follow_parents ref_pieces IsProperRef follow_ref rs h.1)
      (follow_append _ (follow_applies closing base ms h.2) follow_ended)))))
  follow_decl closing base (external_action names rs) h =
      by_blanks (blank_spaces base) (then_word (codes "external") refl
      (by_gap one_space (then_word (codes "action") refl
      (by_gap one_space (follow_append _ (follow_strings names)
      (follow_append _ (follow_parents ref_pieces IsProperRef follow_ref rs h.1) follow_ended))))))
  follow_decl closing base (common n t) h =
      by_blanks (blank_spaces base) (then_word (codes "type") refl
      (by_gap one_space (then_id n h.0
      (by_gap one_space (by_lexeme (inr (inl refl)) refl
      (by_gap one_space (follow_append _ (follow_type string_form stands_for closing base t h.1) follow_ended)))))))

  spells_declared : (closing : Bool) (base : ℕ) (d : WrittenDeclared) → IsProperDeclared d
      → SpellsDeclared (lexemes_of (declared_pieces closing base d)) d
  spells_declared closing base d h =
      subst (λ l. SpellsDeclared l d)
      (sym (lexemes-append (notes_pieces base d.notes) (decl_pieces closing base d.decl)))
      (declared_of (spell_notes string_form stands_for base d.notes h.0) (spells_decl closing base d.decl h.1))

  follow_declared : (closing : Bool) (base : ℕ) (d : WrittenDeclared) → IsProperDeclared d
      → Follow free (declared_pieces closing base d)
  follow_declared closing base d h =
      follow_notes string_form stands_for base d.notes (follow_decl closing base d.decl h.1)

  -- namespaces
  named_group : (closing : Bool) (notes : Notes) (name : Option (List (List ℕ))) (ds : List WrittenDeclared)
      → AreProperNotes notes → IsProperOptional name → AllByRecursion IsProperDeclared ds
      → AreManyOf SpellsItem (lexemes_of (namespace_pieces closing notes name ds)) (namespace_items notes name ds)
  named_group closing notes None ds hn hp h =
      many_outside (many_joined SpellsDeclared (declared_pieces closing 0) IsProperDeclared
      (spells_declared closing 0) ds h)
  named_group closing notes (Some p) ds hn hp h =
      let inner = joined_pieces (declared_pieces closing 2) ds in
      let head : Lexeme = key (codes "namespace") in
      let whole : lexemes_of (notes_pieces 0 notes
      ++ printed.word (codes "namespace") ∷ space
      ∷ (path_pieces p ++ space ∷ mark LBrace (codes "{") ∷ line_break
      ∷ (inner ++ mark RBrace (codes "}") ∷ line_break ∷ [])))
      ≡ lexemes_of (notes_pieces 0 notes)
      ++ key (codes "namespace") ∷ (lexemes_of (path_pieces p)
      ++ record { kind = LBrace; text = codes "{" }
      ∷ (lexemes_of inner ++ record { kind = RBrace; text = codes "}" } ∷ [])) =
      lexemes-append (notes_pieces 0 notes)
      (printed.word (codes "namespace") ∷ space
      ∷ (path_pieces p ++ space ∷ mark LBrace (codes "{") ∷ line_break
      ∷ (inner ++ mark RBrace (codes "}") ∷ line_break ∷ [])))
      ∙ ap (λ l. lexemes_of (notes_pieces 0 notes) ++ key (codes "namespace") ∷ l)
      (lexemes-append (path_pieces p)
      (space ∷ mark LBrace (codes "{") ∷ line_break ∷ (inner ++ mark RBrace (codes "}") ∷ line_break ∷ []))
      ∙ ap (λ l. lexemes_of (path_pieces p) ++ record { kind = LBrace; text = codes "{" } ∷ l)
      (lexemes-append inner (mark RBrace (codes "}") ∷ line_break ∷ []))) in
      subst (λ l. AreManyOf SpellsItem l (namespace notes p ds ∷ [])) (sym whole)
      (subst (λ l. AreManyOf SpellsItem l (namespace notes p ds ∷ [])) (append-nil _)
      (item_first (namespace_of (key (codes "namespace")) (record { kind = LBrace; text = codes "{" })
      (record { kind = RBrace; text = codes "}" }) (spell_notes string_form stands_for 0 notes hn) refl
      (spells_path p hp) refl
      (many_joined SpellsDeclared (declared_pieces closing 2) IsProperDeclared (spells_declared closing 2) ds h) refl)
      no_more_items))

  spells_group : (closing : Bool) (g : Group) → IsProperGroup g
      → AreManyOf SpellsItem (lexemes_of (group_pieces closing g)) (group_items g)
  spells_group closing g h = named_group closing g.notes g.name g.decls h.0 h.1 h.2

  named_follow : (closing : Bool) (notes : Notes) (name : Option (List (List ℕ))) (ds : List WrittenDeclared)
      → IsProperOptional name → AllByRecursion IsProperDeclared ds
      → Follow free (namespace_pieces closing notes name ds)
  named_follow closing notes None ds hp h =
      follow_joined (declared_pieces closing 0) IsProperDeclared (follow_declared closing 0) ds h
  named_follow closing notes (Some p) ds hp h =
      follow_notes string_form stands_for 0 notes
      (then_word (codes "namespace") refl
      (by_gap one_space (follow_append _ (follow_path p hp)
      (by_gap one_space (by_lexeme (inr (inl refl)) refl (by_gap one_line_end
      (follow_append _ (follow_joined (declared_pieces closing 2) IsProperDeclared (follow_declared closing 2) ds h)
      (by_lexeme (inr (inl refl)) refl (by_gap one_line_end (done refl))))))))))

  follow_group : (closing : Bool) (g : Group) → IsProperGroup g → Follow free (group_pieces closing g)
  follow_group closing g h = named_follow closing g.notes g.name g.decls h.1 h.2

  pub spells_schema : (closing : Bool) (groups : List Group) → AllByRecursion IsProperGroup groups
      → SpellsSchema (lexemes_of (schema_pieces closing groups)) (flat_map group_items groups)
  spells_schema closing [] h = no_more_items
  spells_schema closing (g ∷ []) h =
      subst (λ w. SpellsSchema (lexemes_of (group_pieces closing g)) w) (sym (append-nil (group_items g)))
      (spells_group closing g h.0)
  spells_schema closing (g ∷ k ∷ groups) h =
      subst (λ l. SpellsSchema l (group_items g ++ flat_map group_items (k ∷ groups)))
      (sym (lexemes-append (group_pieces closing g) (line_break ∷ schema_pieces closing (k ∷ groups))))
      (many_append (spells_group closing g h.0) (spells_schema closing (k ∷ groups) h.1))

  pub follow_schema : (closing : Bool) (groups : List Group) → AllByRecursion IsProperGroup groups
      → Follow free (schema_pieces closing groups)
  follow_schema closing groups h = follow_joined (group_pieces closing) IsProperGroup (follow_group closing) groups h
