-- Annotations without a fault spell the notes that they make.
use Rattle.std.proofs.Common.{◌≡◌, ℕ, suc, true, List, [], ◌∷◌, ◌++◌, Option, Some, None, length, refl, sym, ap, ◌∙◌}
use Rattle.std.proofs.Common.{subst, append_assoc, inl, inr, ◌⊎◌}
use Rattle.std.specs.List.{All, AllZip, AllByRecursion}
use Rattle.std.specs.Map.{lookup}
use Rattle.std.specs.Str.{bytes_eq}
use Rattle.std.proofs.lemmas.Bool.{cases_Bool, false≢true}
use Rattle.std.proofs.lemmas.List.Elements.{All-nil, All-cons, All-head, All-tail, All-append}
use Rattle.std.proofs.lemmas.Slice.Eq.{bytes_eq-Decides}
use Rattle.cedar_data.specs.Words as words
use Rattle.schema_syntax_grammar.specs.Grammar.{is_word_kind}
use Rattle.schema_syntax_grammar.specs.declared.token_kind.TokenKind.TheVariants.{StringLit, At, LParen, RParen}
use Rattle.schema_syntax_tokens.specs.declared.token.Token.{Token}
use Rattle.schema_syntax_tokens.specs.Laid.{Lexeme, IsSpelled, Spells}
use Rattle.schema_syntax_parser.specs.declared.syntax.AnnotationSyntax.{AnnotationSyntax}
use Rattle.schema_syntax_parser.specs.Syntax.{AreAnnotations}
use Rattle.schema_syntax_parser.specs.Syntax as grammar
use Rattle.schema_syntax_reader.specs.Leaves.{Notes, word_at, IsNoteValue, HasNote, AreNotes}
use Rattle.schema_syntax_reader.specs.Sites.{annotations}
use Rattle.schema_syntax_reader.specs.UserFaults.{IsOtherKey, duplicate}
use Rattle.schema_syntax_reader.proofs.PlacedWords.{form_word, word_test}
use Rattle.laws_written.specs.Reads.{IsFaultless}
use Rattle.laws_written.specs.Notes.{Note, AreNotesOf, no_note, bare_note, valued_note, HaveOtherNotes, AreApart}
use Rattle.laws_written.specs.Notes.{SpellNotes}
use Rattle.laws_written.proofs.ReadingNotes.{key_here}

module _ (source : List ℕ) where
  -- an annotation and its note: the key is a word
  abbrev Is : AnnotationSyntax → Note → Type 0
  Is a n = (word_at source a.key ≡ n.0) × (words.is_word (word_at source a.key) ≡ true)

  record Gathered (notes : Notes) (syns : List AnnotationSyntax) (u : List Lexeme) : Type 0 where
    written : List Note
    spell : AreNotesOf u written
    are : AllZip Is syns written
    each : AllByRecursion (λ (n : Note). lookup (λ key. bytes_eq key.text n.0) notes ≡ Some n.1) written

  word_so : (t : Token) (x : Lexeme) → IsSpelled source t x → is_word_kind t.kind ≡ true
      → (word_at source t ≡ x.text) × (words.is_word (word_at source t) ≡ true)
  word_so t x s h =
      let kind : is_word_kind x.kind ≡ true = ap is_word_kind (sym s.0) ∙ h in
      let here = key_here source t x s kind in
      (here, ap words.is_word here ∙ word_test x.text (form_word x.text x.kind s.2 kind))

  bare_gathered : (notes : Notes) (a k : Token) (x y : Lexeme) (u : List Lexeme) (syns : List AnnotationSyntax)
      → (value : Option (List ℕ)) → lookup (λ key. bytes_eq key.text (word_at source k)) notes ≡ Some value
      → IsNoteValue source None value
      → IsSpelled source k y → x.kind ≡ At → is_word_kind k.kind ≡ true → Gathered notes syns u
      → Gathered notes (record { key = k; value = None } ∷ syns) (x ∷ y ∷ u)
  bare_gathered notes a k x y u syns (Some v) found is s ka kk r = absurd is
  bare_gathered notes a k x y u syns None found is s ka kk r =
      let w = word_so k y s kk in
      record {
        written = (y.text, None) ∷ r.written;
        spell = bare_note ka (ap is_word_kind (sym s.0) ∙ kk) r.spell;
        are = (w, r.are);
        each = (subst (λ z. lookup (λ key. bytes_eq key.text z) notes ≡ Some None) w.0 found, r.each);
      }

  valued_gathered : (notes : Notes) (k v : Token) (x y o z c : Lexeme) (u : List Lexeme) (syns : List AnnotationSyntax)
      → (value : Option (List ℕ)) → lookup (λ key. bytes_eq key.text (word_at source k)) notes ≡ Some value
      → IsNoteValue source (Some v) value
      → IsSpelled source k y → IsSpelled source v z → x.kind ≡ At → is_word_kind k.kind ≡ true → o.kind ≡ LParen
      → z.kind ≡ StringLit → c.kind ≡ RParen → Gathered notes syns u
      → Gathered notes (record { key = k; value = Some v } ∷ syns) (x ∷ y ∷ o ∷ z ∷ c ∷ u)
  valued_gathered notes k v x y o z c u syns None found is s sv ka kk ko kv kc r = absurd is
  valued_gathered notes k v x y o z c u syns (Some value) found is s sv ka kk ko kv kc r =
      let w = word_so k y s kk in
      record {
        written = (y.text, Some value) ∷ r.written;
        spell = valued_note is.0 ka (ap is_word_kind (sym s.0) ∙ kk) ko kv (sym sv.1 ∙ is.1) is.2 kc r.spell;
        are = (w, r.are);
        each = (subst (λ q. lookup (λ key. bytes_eq key.text q) notes ≡ Some (Some value)) w.0 found, r.each);
      }

  gathered : (notes : Notes) {ts : List Token} {syns : List AnnotationSyntax} → AreAnnotations ts syns
      → All (HasNote source notes) syns → (u : List Lexeme) → Spells source ts u → Gathered notes syns u
  gathered notes grammar.none h [] s = record { written = []; spell = no_note; are = tt; each = tt }
  gathered notes grammar.none h (x ∷ u) s = absurd s
  gathered notes (grammar.bare ka kk r) h [] s = absurd s
  gathered notes (grammar.bare ka kk r) h (x ∷ []) s = absurd s.1
  gathered notes (grammar.bare {a = a} {k = k} {xs = syns} ka kk r) h (x ∷ y ∷ u) s =
      let first : AnnotationSyntax = record { key = k; value = None } in
      let n = All-head (HasNote source notes) first syns h in
      bare_gathered notes a k x y u syns n.0 n.1 n.2 s.1.0 (sym s.0.0 ∙ ka) kk
      (gathered notes r (All-tail (HasNote source notes) first syns h) u s.1.1)
  gathered notes (grammar.valued ka kk ko kv kc r) h [] s = absurd s
  gathered notes (grammar.valued ka kk ko kv kc r) h (x ∷ []) s = absurd s.1
  gathered notes (grammar.valued ka kk ko kv kc r) h (x ∷ y ∷ []) s = absurd s.1.1
  gathered notes (grammar.valued ka kk ko kv kc r) h (x ∷ y ∷ o ∷ []) s = absurd s.1.1.1
  gathered notes (grammar.valued ka kk ko kv kc r) h (x ∷ y ∷ o ∷ z ∷ []) s = absurd s.1.1.1.1
  gathered notes (grammar.valued {k = k} {v = v} {xs = syns} ka kk ko kv kc r) h (x ∷ y ∷ o ∷ z ∷ c ∷ u) s =
      let first : AnnotationSyntax = record { key = k; value = Some v } in
      let n = All-head (HasNote source notes) first syns h in
      valued_gathered notes k v x y o z c u syns n.0 n.1 n.2 s.1.0 s.1.1.1.0 (sym s.0.0 ∙ ka) kk (sym s.1.1.0.0 ∙ ko)
      (sym s.1.1.1.0.0 ∙ kv) (sym s.1.1.1.1.0.0 ∙ kc)
      (gathered notes r (All-tail (HasNote source notes) first syns h) u s.1.1.1.1.1)

  -- the first annotation with a key, where there is one
  record Found (key : List ℕ) (xs : List AnnotationSyntax) : Type 0 where
    middle : List AnnotationSyntax
    second : AnnotationSyntax
    back : List AnnotationSyntax
    whole : xs ≡ middle ++ second ∷ back
    same : word_at source second.key ≡ key
    others : All (IsOtherKey source key) middle

  search_key : (key : List ℕ) (xs : List AnnotationSyntax) → All (IsOtherKey source key) xs ⊎ Found key xs
  search_key key [] = inl (All-nil (IsOtherKey source key))
  search_key key (x ∷ xs) =
      elim (cases_Bool (bytes_eq (word_at source x.key) key)) [
        | inl e ↦ inr (record {
          middle = [];
          second = x;
          back = xs;
          whole = refl;
          same = (bytes_eq-Decides (word_at source x.key) key).0 e;
          others = All-nil (IsOtherKey source key);
        })
        | inr n ↦ further (λ e. false≢true (sym n ∙ (bytes_eq-Decides (word_at source x.key) key).1 e))
            (search_key key xs)
      ]
    where
      further : IsOtherKey source key x → All (IsOtherKey source key) xs ⊎ Found key xs
          → All (IsOtherKey source key) (x ∷ xs) ⊎ Found key (x ∷ xs)
      further h (inl a) = inl (All-cons (IsOtherKey source key) x xs h a)
      further h (inr f) = inr (record {
        middle = x ∷ f.middle;
        second = f.second;
        back = f.back;
        whole = ap (λ l. x ∷ l) f.whole;
        same = f.same;
        others = All-cons (IsOtherKey source key) x f.middle h f.others;
      })

  -- the key of this one is another than those of the rest
  abbrev Differs : List AnnotationSyntax → AnnotationSyntax → Type 0
  Differs rest b = All (IsOtherKey source (word_at source b.key)) rest

  -- each key in front is another than those behind
  abbrev Clear : List AnnotationSyntax → List AnnotationSyntax → Type 0
  Clear front rest = All (λ b. All (IsOtherKey source (word_at source b.key)) rest) front

  abbrev AreWords : List AnnotationSyntax → Type 0
  AreWords xs = All (λ a. words.is_word (word_at source a.key) ≡ true) xs

  turned : (front : List AnnotationSyntax) (a : AnnotationSyntax) (rest : List AnnotationSyntax)
      → Clear front (a ∷ rest) → All (IsOtherKey source (word_at source a.key)) front
  turned [] a rest h = All-nil (IsOtherKey source (word_at source a.key))
  turned (b ∷ front) a rest h =
      All-cons (IsOtherKey source (word_at source a.key)) b front
      (λ e. All-head (IsOtherKey source (word_at source b.key)) a rest (All-head (Differs (a ∷ rest)) b front h)
      (sym e)) (turned front a rest (All-tail (Differs (a ∷ rest)) b front h))

  shorter : (front : List AnnotationSyntax) (a : AnnotationSyntax) (rest : List AnnotationSyntax)
      → Clear front (a ∷ rest) → Clear front rest
  shorter [] a rest h = All-nil (Differs rest)
  shorter (b ∷ front) a rest h =
      All-cons (Differs rest) b front
      (All-tail (IsOtherKey source (word_at source b.key)) a rest (All-head (Differs (a ∷ rest)) b front h))
      (shorter front a rest (All-tail (Differs (a ∷ rest)) b front h))

  -- all keys are apart
  abbrev KeysApart : List AnnotationSyntax → Type 0
  KeysApart [] = Unit {0}
  KeysApart (a ∷ xs) = All (IsOtherKey source (word_at source a.key)) xs × KeysApart xs

  apart_at : (all front : List AnnotationSyntax) (a : AnnotationSyntax) (rest : List AnnotationSyntax)
      → all ≡ front ++ a ∷ rest → IsFaultless source (annotations all) → AreWords (a ∷ rest) → Clear front (a ∷ rest)
      → All (IsOtherKey source (word_at source a.key)) rest ⊎ Found (word_at source a.key) rest
      → All (IsOtherKey source (word_at source a.key)) rest
  apart_at all front a rest e f w h (inl o) = o
  apart_at all front a rest e f w h (inr d) =
      absurd (f _ _ (duplicate front d.middle d.back a d.second
      (record {
        text = word_at source a.key;
        word = All-head (λ b. words.is_word (word_at source b.key) ≡ true) a rest w;
      })
      (e ∙ ap (λ l. front ++ a ∷ l) d.whole) refl d.same (turned front a rest h) d.others))

  keys_apart : (all front rest : List AnnotationSyntax) → all ≡ front ++ rest → IsFaultless source (annotations all)
      → AreWords rest → Clear front rest → KeysApart rest
  keys_apart all front [] e f w h = tt
  keys_apart all front (a ∷ rest) e f w h =
      let here = apart_at all front a rest e f w h (search_key (word_at source a.key) rest) in (
        here,
        keys_apart all (front ++ a ∷ []) rest (e ∙ sym (append_assoc front (a ∷ []) rest)) f
            (All-tail (λ b. words.is_word (word_at source b.key) ≡ true) a rest w)
            (All-append (Differs rest) front (a ∷ []) (shorter front a rest h)
            (All-cons (Differs rest) a [] here (All-nil (Differs rest)))),
      )

  all_words : (syns : List AnnotationSyntax) (written : List Note) → AllZip Is syns written → AreWords syns
  all_words [] [] z = All-nil (λ b. words.is_word (word_at source b.key) ≡ true)
  all_words [] (n ∷ ns) z = absurd z
  all_words (a ∷ syns) [] z = absurd z
  all_words (a ∷ syns) (n ∷ ns) z =
      All-cons (λ b. words.is_word (word_at source b.key) ≡ true) a syns z.0.1 (all_words syns ns z.1)

  other_notes : (n : Note) (a : AnnotationSyntax) → word_at source a.key ≡ n.0
      → (syns : List AnnotationSyntax) (written : List Note) → AllZip Is syns written
      → All (IsOtherKey source (word_at source a.key)) syns → HaveOtherNotes n written
  other_notes n a e [] [] z h = tt
  other_notes n a e [] (m ∷ ms) z h = absurd z
  other_notes n a e (b ∷ syns) [] z h = absurd z
  other_notes n a e (b ∷ syns) (m ∷ ms) z h = (
    λ same. All-head (IsOtherKey source (word_at source a.key)) b syns h (z.0.0 ∙ (sym same ∙ sym e)),
    other_notes
        n a e syns ms z.1 (All-tail (IsOtherKey source (word_at source a.key)) b syns h),
  )

  notes_apart : (syns : List AnnotationSyntax) (written : List Note) → AllZip Is syns written → KeysApart syns
      → AreApart written
  notes_apart [] [] z h = tt
  notes_apart [] (n ∷ ns) z h = absurd z
  notes_apart (a ∷ syns) [] z h = absurd z
  notes_apart (a ∷ syns) (n ∷ ns) z h = (other_notes n a z.0.0 syns ns z.1 h.0, notes_apart syns ns z.1 h.1)

  as_many : (syns : List AnnotationSyntax) (written : List Note) → AllZip Is syns written
      → length syns ≡ length written
  as_many [] [] z = refl
  as_many [] (n ∷ ns) z = absurd z
  as_many (a ∷ syns) [] z = absurd z
  as_many (a ∷ syns) (n ∷ ns) z = ap suc (as_many syns ns z.1)

  pub back_notes : (ts : List Token) (syns : List AnnotationSyntax) (notes : Notes) (u : List Lexeme)
      → AreAnnotations ts syns → AreNotes source syns notes → IsFaultless source (annotations syns)
      → Spells source ts u → SpellNotes u notes
  back_notes ts syns notes u h are f s =
      let g = gathered notes h are.each u s in
      let apart = keys_apart syns [] syns refl f (all_words syns g.written g.are) (All-nil (Differs syns)) in
      record {
        written = g.written;
        spell = g.spell;
        arranged = record {
          sorted = are.sorted;
          as_many = are.as_many
              ∙ as_many syns g.written g.are;
          each = g.each;
          apart = notes_apart syns g.written g.are apart;
        };
      }
