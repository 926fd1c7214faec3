-- Notes that are laid out spell themselves.
use Rattle.std.proofs.Common.{◌≡◌, ◌≢◌, ℕ, false, cond, List, [], ◌∷◌, ◌++◌, map, Option, Some, None, refl, sym, ap}
use Rattle.std.proofs.Common.{◌∙◌, subst, inl, inr, Less, Greater}
use Rattle.std.specs.List.{AllByRecursion}
use Rattle.std.specs.List.Sorted.{IsStrictlySortedBy}
use Rattle.std.specs.Map.{lookup}
use Rattle.std.specs.Ordering.{ordering_reverse}
use Rattle.std.specs.Str.{bytes_eq}
use Rattle.std.proofs.lemmas.List.{length-map}
use Rattle.std.proofs.lemmas.Map.Keys.{sorted_head, sorted_tail}
use Rattle.std.proofs.lemmas.Slice.Eq.{bytes_eq-Decides}
use Rattle.std.proofs.lemmas.Bool.{cases_Bool}
use Rattle.cedar_data.specs.Text.{text_cmp}
use Rattle.cedar_data.proofs.Orders.{text_total}
use Rattle.schema_syntax_grammar.specs.declared.token_kind.TokenKind.TheVariants.{StringLit}
use Rattle.schema_syntax_tokens.specs.Escapes.{Unescapes}
use Rattle.schema_syntax_tokens.specs.Forms.{IsForm}
use Rattle.schema_syntax_tokens.specs.Quotes.{quoted, quoted_body}
use Rattle.schema_syntax_tokens.specs.Laid.{Piece, lexemes_of, free, Follow, by_gap, by_blanks, by_lexeme}
use Rattle.schema_syntax_tokens.proofs.Standing.{word_kind_word}
use Rattle.cedar_identifiers.specs.declared.any_id.AnyId.{AnyId}
use Rattle.schema_syntax_reader.specs.Leaves.{Notes}
use Rattle.laws_written.specs.Notes.{Note, AreNotesOf, no_note, bare_note, valued_note, HaveOtherNotes, AreApart}
use Rattle.laws_written.specs.Notes.{SpellNotes}
use Rattle.laws_written.specs.Printed.{notes_pieces, AreProperNotes}
use Rattle.laws_written.proofs.Following.{blank_spaces, one_line_end, then_word}

less_apart : (a b : List ℕ) → text_cmp a b ≡ Less → a ≢ b
less_apart a b h e =
    let same : text_cmp a a ≡ Less = subst (λ x. text_cmp a x ≡ Less) (sym e) h in
    let f : Less ≡ Greater = sym same ∙ (text_total.antisymm a a ∙ ap ordering_reverse same) in cc

abbrev NoteEntry : Type 0
NoteEntry = AnyId × Option (List ℕ)

abbrev note_of : NoteEntry → Note
note_of n = (n.0.text, n.1)

abbrev keys : Notes → List (List ℕ)
keys notes = map (λ n. n.0.text) notes

test_false : (a b : List ℕ) → a ≢ b → bytes_eq a b ≡ false
test_false a b n = elim (cases_Bool (bytes_eq a b)) [ inl h ↦ absurd (n ((bytes_eq-Decides a b).0 h)) | inr h ↦ h ]

other_keys : (n : NoteEntry) (notes : Notes) → AllByRecursion (λ k. text_cmp n.0.text k ≡ Less) (keys notes)
    → HaveOtherNotes (note_of n) (map note_of notes)
other_keys n [] h = tt
other_keys n (m ∷ notes) h = (less_apart n.0.text m.0.text h.0, other_keys n notes h.1)

apart : (notes : Notes) → IsStrictlySortedBy text_cmp (keys notes) → AreApart (map note_of notes)
apart [] h = tt
apart (n ∷ notes) h = (
  other_keys n notes (sorted_head text_cmp n.0.text (keys notes) h),
  apart notes
      (sorted_tail text_cmp n.0.text (keys notes) h),
)

abbrev IsFound : Notes → Note → Type 0
IsFound notes n = lookup (λ key. bytes_eq key.text n.0) notes ≡ Some n.1

-- a note that is found behind another one is found behind it too
found_more : (n : NoteEntry) (notes : Notes) (ms : List Note) → HaveOtherNotes (note_of n) ms
    → AllByRecursion (IsFound notes) ms → AllByRecursion (IsFound (n ∷ notes)) ms
found_more n notes [] h f = tt
found_more n notes (m ∷ ms) h f = (
  ap (λ t. cond t (Some n.1) (lookup (λ key. bytes_eq key.text m.0) notes)) (test_false n.0.text m.0 h.0)
      ∙ f.0,
  found_more n notes ms h.1 f.1,
)

found : (notes : Notes) → IsStrictlySortedBy text_cmp (keys notes)
    → AllByRecursion (IsFound notes) (map note_of notes)
found [] h = tt
found (n ∷ notes) h = (
  ap (λ t. cond t (Some n.1) (lookup (λ key. bytes_eq key.text n.0.text) notes))
      ((bytes_eq-Decides n.0.text n.0.text).1 refl),
  found_more n notes (map note_of notes) (other_keys n notes (sorted_head text_cmp n.0.text (keys notes) h))
      (found notes (sorted_tail text_cmp n.0.text (keys notes) h)),
)

module _ (string_form : (cs : List ℕ) → IsForm (quoted cs) StringLit)
    (stands_for : (cs : List ℕ) → Unescapes (quoted_body cs) cs) where
  in_order : (base : ℕ) (notes : Notes) → AreNotesOf (lexemes_of (notes_pieces base notes)) (map note_of notes)
  in_order base [] = no_note
  in_order base (n ∷ notes) = by_value n.0 n.1 (in_order base notes)
    where
      by_value : (key : AnyId) (value : Option (List ℕ))
          → AreNotesOf (lexemes_of (notes_pieces base notes)) (map note_of notes)
          → AreNotesOf (lexemes_of (notes_pieces base ((key, value) ∷ notes))) ((key.text, value) ∷ map note_of notes)
      by_value key None r = bare_note refl (word_kind_word key.text) r
      by_value key (Some v) r = valued_note (quoted_body v) refl (word_kind_word key.text) refl refl refl
          (stands_for v) refl r

  pub spell_notes : (base : ℕ) (notes : Notes) → AreProperNotes notes
      → SpellNotes (lexemes_of (notes_pieces base notes)) notes
  spell_notes base notes h =
      record {
        written = map note_of notes;
        spell = in_order base notes;
        arranged = record {
          sorted = h;
          as_many = sym (length-map notes note_of);
          each = found notes h;
          apart = apart notes h;
        };
      }

  pub follow_notes : {rest : List Piece} (base : ℕ) (notes : Notes) → Follow free rest
      → Follow free (notes_pieces base notes ++ rest)
  follow_notes base [] s = s
  follow_notes {rest} base (n ∷ notes) s = by_value n.0 n.1 (follow_notes base notes s)
    where
      by_value : (key : AnyId) (value : Option (List ℕ)) → Follow free (notes_pieces base notes ++ rest)
          → Follow free (notes_pieces base ((key, value) ∷ notes) ++ rest)
      by_value key None r = by_blanks (blank_spaces base)
          (by_lexeme (inr (inl refl)) refl (then_word key.text key.word (by_gap one_line_end r)))
      by_value key (Some v) r =
          by_blanks (blank_spaces base) (by_lexeme (inr (inl refl)) refl
          (then_word key.text key.word (by_lexeme (inr (inl refl)) refl
          (by_lexeme (string_form v) refl (by_lexeme (inr (inl refl)) refl (by_gap one_line_end r))))))
