-- Tokens that spell annotations are read as the notes that they make.
use Rattle.std.proofs.Common.{◌≡◌, ℕ, suc, true, List, [], ◌∷◌, ◌++◌, Option, Some}
use Rattle.std.proofs.Common.{None, length, refl, sym, ap, ◌∙◌, subst}
use Rattle.std.specs.List.{All, AllZip, AllByRecursion}
use Rattle.std.specs.Map.{lookup}
use Rattle.std.specs.Str.{bytes_eq, chars}
use Rattle.std.proofs.lemmas.Str.{chars-IsAscii}
use Rattle.std.proofs.lemmas.List.{append_cancel_right}
use Rattle.std.proofs.lemmas.List.Elements.{All-nil, All-cons}
use Rattle.cedar_data.proofs.Ascii.{word_ascii}
use Rattle.schema_syntax_grammar.specs.Grammar.{is_word_kind}
use Rattle.schema_syntax_tokens.specs.declared.token.Token.{Token}
use Rattle.schema_syntax_tokens.specs.Escapes.{Unescapes, BadEscape}
use Rattle.schema_syntax_tokens.specs.Laid.{Lexeme, IsSpelled, Spells}
use Rattle.schema_syntax_parser.specs.declared.syntax.AnnotationSyntax.{AnnotationSyntax}
use Rattle.schema_syntax_parser.specs.Syntax.{AreAnnotations}
use Rattle.schema_syntax_parser.specs.Syntax as grammar
use Rattle.schema_syntax_reader.specs.Leaves.{Notes, word_at, IsNoteValue, HasNote}
use Rattle.schema_syntax_reader.specs.Sites.{annotations}
use Rattle.schema_syntax_reader.specs.UserFaults.{IsBadEscapeAt, note_escape, duplicate}
use Rattle.schema_syntax_reader.proofs.PlacedWords.{form_word, word_test}
use Rattle.laws_written.specs.Reads.{IsFaultless, ReadsNotes}
use Rattle.laws_written.specs.Notes.{Note, AreNotesOf, no_note, bare_note, valued_note, HaveOtherNotes, AreApart}
use Rattle.laws_written.specs.Notes.{AreArranged}

-- what is true of each pair is true of one in the middle
paired : {A B : Type 0} (R : A → B → Type 0) (front : List A) (x : A) (back : List A) (ys : List B)
    → AllZip R (front ++ x ∷ back) ys → (y : B) × R x y
paired R [] x back [] z = absurd z
paired R [] x back (y ∷ ys) z = (y, z.0)
paired R (a ∷ front) x back [] z = absurd z
paired R (a ∷ front) x back (y ∷ ys) z = paired R front x back ys z.1

module _ (source : List ℕ) where
  pub key_here : (t : Token) (x : Lexeme) → IsSpelled source t x → is_word_kind x.kind ≡ true
      → word_at source t ≡ x.text
  key_here t x s h = ap chars s.1
      ∙ chars-IsAscii x.text (word_ascii x.text (word_test x.text (form_word x.text x.kind s.2 h)))

  abbrev IsNote : AnnotationSyntax → Note → Type 0
  IsNote a n = (word_at source a.key ≡ n.0) × IsNoteValue source a.value n.1

  record Listed (ts : List Token) (written : List Note) : Type 0 where
    syns : List AnnotationSyntax
    parsed : AreAnnotations ts syns
    are : AllZip IsNote syns written

  listed : {u : List Lexeme} {written : List Note} → AreNotesOf u written → (ts : List Token) → Spells source ts u
      → Listed ts written
  listed no_note [] s = record { syns = []; parsed = grammar.none; are = tt }
  listed no_note (t ∷ ts) s = absurd s
  listed (bare_note ka kk h) [] s = absurd s
  listed (bare_note ka kk h) (a ∷ []) s = absurd s.1
  listed (bare_note {k = x} ka kk h) (a ∷ k ∷ ts) s =
      let r = listed h ts s.1.1 in
      let first : AnnotationSyntax = record { key = k; value = None } in
      record {
        syns = first ∷ r.syns;
        parsed = grammar.bare (s.0.0 ∙ ka) (ap is_word_kind s.1.0.0 ∙ kk) r.parsed;
        are = ((key_here k x s.1.0 kk, tt), r.are);
      }
  listed (valued_note body ka kk ko kv e u kc h) [] s = absurd s
  listed (valued_note body ka kk ko kv e u kc h) (a ∷ []) s = absurd s.1
  listed (valued_note body ka kk ko kv e u kc h) (a ∷ k ∷ []) s = absurd s.1.1
  listed (valued_note body ka kk ko kv e u kc h) (a ∷ k ∷ o ∷ []) s = absurd s.1.1.1
  listed (valued_note body ka kk ko kv e u kc h) (a ∷ k ∷ o ∷ v ∷ []) s = absurd s.1.1.1.1
  listed (valued_note {k = x} body ka kk ko kv e u kc h) (a ∷ k ∷ o ∷ v ∷ c ∷ ts) s =
      let r = listed h ts s.1.1.1.1.1 in
      let first : AnnotationSyntax = record { key = k; value = Some v } in
      record {
        syns = first ∷ r.syns;
        parsed = grammar.valued (s.0.0 ∙ ka) (ap is_word_kind s.1.0.0 ∙ kk) (s.1.1.0.0 ∙ ko) (s.1.1.1.0.0 ∙ kv)
            (s.1.1.1.1.0.0 ∙ kc) r.parsed;
        are = ((key_here k x s.1.0 kk, (body, s.1.1.1.0.1 ∙ e, u)), r.are);
      }

  as_many : (syns : List AnnotationSyntax) (written : List Note) → AllZip IsNote syns written
      → length written ≡ length syns
  as_many [] [] z = refl
  as_many [] (n ∷ ns) z = absurd z
  as_many (a ∷ syns) [] z = absurd z
  as_many (a ∷ syns) (n ∷ ns) z = ap suc (as_many syns ns z.1)

  has_each : (notes : Notes) (syns : List AnnotationSyntax) (written : List Note) → AllZip IsNote syns written
      → AllByRecursion (λ (n : Note). lookup (λ key. bytes_eq key.text n.0) notes ≡ Some n.1) written
      → All (HasNote source notes) syns
  has_each notes [] [] z h = All-nil (HasNote source notes)
  has_each notes [] (n ∷ ns) z h = absurd z
  has_each notes (a ∷ syns) [] z h = absurd z
  has_each notes (a ∷ syns) (n ∷ ns) z h =
      All-cons (HasNote source notes) a syns
      (n.1, subst (λ w. lookup (λ key. bytes_eq key.text w) notes ≡ Some n.1) (sym z.0.0) h.0, z.0.1)
      (has_each notes syns ns z.1 h.1)

  -- the second of two with one key
  other_key : (n : Note) (middle : List AnnotationSyntax) (second : AnnotationSyntax) (back : List AnnotationSyntax)
      (written : List Note)
      → AllZip IsNote (middle ++ second ∷ back) written → HaveOtherNotes n written → word_at source second.key ≡ n.0
      → ⊥
  other_key n [] second back [] z h e = absurd z
  other_key n [] second back (m ∷ ms) z h e = h.0 (sym e ∙ z.0.0)
  other_key n (a ∷ middle) second back [] z h e = absurd z
  other_key n (a ∷ middle) second back (m ∷ ms) z h e = other_key n middle second back ms z.1 h.1 e

  no_second : (front middle back : List AnnotationSyntax) (first second : AnnotationSyntax) (written : List Note)
      → AllZip IsNote (front ++ first ∷ (middle ++ second ∷ back)) written → AreApart written
      → word_at source first.key ≡ word_at source second.key → ⊥
  no_second [] middle back first second [] z h e = absurd z
  no_second [] middle back first second (n ∷ ns) z h e = other_key n middle second back ns z.1 h.0 (sym e ∙ z.0.0)
  no_second (a ∷ front) middle back first second [] z h e = absurd z
  no_second (a ∷ front) middle back first second (n ∷ ns) z h e = no_second front middle back first second ns z.1 h.1 e

  module _ (never_both : (body value : List ℕ) (at : ℕ) → Unescapes body value → BadEscape body at → ⊥) where
    no_bad_value : (t : Token) (at : ℕ) (value : Option (List ℕ)) → IsNoteValue source (Some t) value
        → IsBadEscapeAt source t at → ⊥
    no_bad_value t at None h b = absurd h
    no_bad_value t at (Some value) h b =
        let whole : 34 ∷ (h.0 ++ 34 ∷ []) ≡ 34 ∷ (b.0 ++ 34 ∷ []) = sym h.1 ∙ b.2 in
        let same : h.0 ++ 34 ∷ [] ≡ b.0 ++ 34 ∷ [] = cc in
        never_both b.0 value b.1 (subst (λ x. Unescapes x value) (append_cancel_right h.0 b.0 (34 ∷ []) same) h.2) b.3

    faultless : (syns : List AnnotationSyntax) (written : List Note) → AllZip IsNote syns written → AreApart written
        → IsFaultless source (annotations syns)
    faultless syns written z h fault end (note_escape front back key t at e b) =
        let x : AnnotationSyntax = record { key = key; value = Some t } in
        let p = paired IsNote front x back written (subst (λ l. AllZip IsNote l written) e z) in
        no_bad_value t at p.0.1 p.1.1 b
    faultless syns written z h fault end (duplicate front middle back first second key e f g o p) =
        no_second front middle back first second written (subst (λ l. AllZip IsNote l written) e z) h (f ∙ sym g)

    pub read_notes : {u : List Lexeme} {written : List Note} {notes : Notes} → AreNotesOf u written
        → AreArranged written notes → (ts : List Token) → Spells source ts u → ReadsNotes source ts notes
    read_notes {u} {written} {notes} h a ts s =
        let r = listed h ts s in
        record {
          syns = r.syns;
          parsed = r.parsed;
          are = record {
            sorted = a.sorted;
            as_many = a.as_many
                ∙ as_many r.syns written r.are;
            each = has_each notes r.syns written r.are a.each;
          };
          lawful = faultless r.syns written r.are a.apart;
        }
