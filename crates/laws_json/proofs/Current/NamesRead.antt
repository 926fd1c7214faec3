-- Words and names are read from their texts.
use Rattle.std.proofs.Common.{◌≡◌, ℕ, ◌<◌, Bool, true, false, not, ◌||◌, ◌==◌, List, [], ◌∷◌, ◌++◌, length, take, drop}
use Rattle.std.proofs.Common.{find, Some, None, refl, sym, subst, arith, append-nil, ap, ◌∙◌}
use Rattle.std.specs.Prelude.{codes}
use Rattle.std.specs.Char.{is_whitespace}
use Rattle.std.specs.Cmp.{first_so, second_so}
use Rattle.std.specs.List.{list_all, list_any, prefix_len}
use Rattle.std.specs.Str.{IsAscii}
use Rattle.std.proofs.lemmas.Bool.Decides.{nat_tests}
use Rattle.std.proofs.lemmas.List.{drop_at, take_at}
use Rattle.std.proofs.lemmas.Str.{IsAscii-append, chars-IsAscii}
use Rattle.std.proofs.lemmas.Str.Ascii.{IsAscii-cons}
use Rattle.std.proofs.Math.Bool.{not-not}
use Rattle.cedar_data.specs.Words.{is_word_start, is_word_part, is_word}
use Rattle.cedar_data.proofs.Ascii.{word_ascii, start_part}
use Rattle.cedar_identifiers.specs.Names.{texts_of, components_of, name_text}
use Rattle.cedar_identifiers.specs.NamePieces.{starts_twice, blank_len, piece_len, BeginsWith, here, piece}
use Rattle.cedar_identifiers.specs.NameReading.{due_behind, separated, ReadsAs}
use Rattle.cedar_identifiers.specs.Words.{is_reserved, is_cedar}
use Rattle.cedar_identifiers.specs.declared.any_id.AnyId.{AnyId}
use Rattle.cedar_identifiers.specs.declared.id.Id.{Id}
use Rattle.cedar_identifiers.specs.declared.internal_name.InternalName.{InternalName}
use Rattle.cedar_identifiers.specs.declared.name.Name.{Name}
use Rattle.cedar_identifiers.specs.declared.name_kind.NameKind.TheVariants as kind
use Rattle.cedar_identifiers.specs.declared.unreserved_id.UnreservedId.{UnreservedId}
use Rattle.cedar_identifiers.proofs.Ids.{id_is_word}

-- ---- bytes of words

start_free : (b : ℕ) → is_word_start b ≡ true → ((b == 47) ≡ false) × (is_whitespace b ≡ false)
start_free b h = (grind (arith, nat_tests), grind (arith, nat_tests))

-- ---- one piece at the front

not_twice : (b : ℕ) (bs : List ℕ) → (b == 47) ≡ false → starts_twice 47 (b ∷ bs) ≡ false
not_twice b [] h = refl
not_twice b (c ∷ bs) h = rw h refl

no_blank : (b : ℕ) (bs : List ℕ) → IsAscii (b ∷ bs) → (b == 47) ≡ false → is_whitespace b ≡ false
    → blank_len (b ∷ bs) ≡ 0
unfolding blank_len
no_blank b bs low slash white = rw (not_twice b bs slash, chars-IsAscii (b ∷ bs) low, white) refl

one_piece : (text p more rest : List ℕ) (pieces : List (List ℕ)) → blank_len text ≡ 0 → text ≡ p ++ more
    → piece_len text ≡ length p → 0 < length p → BeginsWith more pieces rest → BeginsWith text (p ∷ pieces) rest
one_piece text p more rest pieces bare is len some h =
    let behind : drop (piece_len text) text ≡ more = rw (len, is) (drop_at p more (length p) refl) in
    let front : take (piece_len text) text ≡ p = rw (len, is) (take_at p more (length p) refl) in
    subst (λ q. BeginsWith text (q ∷ pieces) rest) front
    (piece bare (omega (arith, len, some)) (subst (λ t. BeginsWith t pieces rest) (sym behind) h))

-- the text is over, or goes on with another byte than that of a word
abbrev Stops : List ℕ → Type 0
Stops [] = Unit {0}
Stops (b ∷ bs) = is_word_part b ≡ false

parts_len : (bs rest : List ℕ) → list_all is_word_part bs ≡ true → Stops rest
    → prefix_len is_word_part (bs ++ rest) ≡ length bs
parts_len [] [] h s = refl
parts_len [] (r ∷ rest) h s = rw s refl
parts_len (b ∷ bs) rest h s =
    let first = first_so (is_word_part b) (list_all is_word_part bs) h in
    let others = parts_len bs rest (second_so (is_word_part b) (list_all is_word_part bs) h) s in
    rw first (omega (arith, others))

word_len : (w rest : List ℕ) → is_word w ≡ true → Stops rest → piece_len (w ++ rest) ≡ length w
word_len [] rest h s = cc
word_len (b ∷ bs) rest h s =
    let start = first_so (is_word_start b) (list_all is_word_part bs) h in
    let parts = parts_len bs rest (second_so (is_word_start b) (list_all is_word_part bs) h) s in
    rw (start, start_part b start) (omega (arith, parts))

word_bare : (w rest : List ℕ) → is_word w ≡ true → IsAscii (w ++ rest) → blank_len (w ++ rest) ≡ 0
word_bare [] rest h low = cc
word_bare (b ∷ bs) rest h low =
    let free = start_free b (first_so (is_word_start b) (list_all is_word_part bs) h) in
    no_blank b (bs ++ rest) low free.0 free.1

pub word_some : (w : List ℕ) → is_word w ≡ true → 0 < length w
word_some [] h = cc
word_some (b ∷ bs) h = omega arith

word_piece : (w more rest : List ℕ) (pieces : List (List ℕ)) → is_word w ≡ true → Stops more → IsAscii (w ++ more)
    → BeginsWith more pieces rest → BeginsWith (w ++ more) (w ∷ pieces) rest
word_piece w more rest pieces h s low behind =
    one_piece (w ++ more) w more rest pieces (word_bare w more h low) refl (word_len w more h s) (word_some w h) behind

separator_piece : (more rest : List ℕ) (pieces : List (List ℕ)) → IsAscii more → BeginsWith more pieces rest
    → BeginsWith (codes "::" ++ more) (codes "::" ∷ pieces) rest
separator_piece more rest pieces low h =
    let all = IsAscii-cons 58 (58 ∷ more) (omega arith) (IsAscii-cons 58 more (omega arith) low) in
    one_piece (codes "::" ++ more) (codes "::") more rest pieces (no_blank 58 (58 ∷ more) all refl refl) refl refl
    (omega arith) h

-- ---- all pieces

abbrev AreWords : List (List ℕ) → Type 0
AreWords [] = Unit {0}
AreWords (w ∷ ws) = (is_word w ≡ true) × AreWords ws

names_ascii : (w : List ℕ) (ws : List (List ℕ)) → AreWords (w ∷ ws) → IsAscii (name_text (w ∷ ws))
names_ascii w [] h = word_ascii w h.0
names_ascii w (v ∷ ws) h =
    IsAscii-append w (codes "::" ++ name_text (v ∷ ws)) (word_ascii w h.0)
    (IsAscii-cons 58 (58 ∷ name_text (v ∷ ws)) (omega arith)
    (IsAscii-cons 58 (name_text (v ∷ ws)) (omega arith) (names_ascii v ws h.1)))

begins : (w : List ℕ) (ws : List (List ℕ)) → AreWords (w ∷ ws)
    → BeginsWith (name_text (w ∷ ws)) (separated (w ∷ ws)) []
begins w [] h =
    subst (λ t. BeginsWith t (w ∷ []) []) (append-nil w)
    (word_piece w [] [] [] h.0 tt (subst IsAscii (sym (append-nil w)) (word_ascii w h.0)) here)
begins w (v ∷ ws) h =
    let tail = name_text (v ∷ ws) in
    word_piece w (codes "::" ++ tail) [] (codes "::" ∷ separated (v ∷ ws)) h.0 refl (names_ascii w (v ∷ ws) h)
    (separator_piece tail [] (separated (v ∷ ws)) (names_ascii v ws h.1) (begins v ws h.1))

due : (w : List ℕ) (ws : List (List ℕ)) → AreWords (w ∷ ws) → due_behind false true (separated (w ∷ ws)) ≡ Some false
due w [] h = rw h.0 refl
due w (v ∷ ws) h = rw h.0 (due v ws h.1)

due_alone : (w : List ℕ) → is_word w ≡ true → due_behind true true (w ∷ []) ≡ Some false
due_alone w h = rw h refl

none_refused : (p : List ℕ → Bool) (ws : List (List ℕ)) → list_any p ws ≡ false → find p ws ≡ None
none_refused p [] h = refl
none_refused p (w ∷ ws) h = by (p w) refl h (none_refused p ws)
  where
    by : (b : Bool) → p w ≡ b → (b || list_any p ws) ≡ false → (list_any p ws ≡ false → find p ws ≡ None)
        → find p (w ∷ ws) ≡ None
    by true e k rest = cc
    by false e k rest = rw e (rest k)

-- ---- words and names

id_free : (id : Id) → is_reserved id.text ≡ false
id_free id =
    sym (not-not (is_reserved id.text)) ∙ ap not (second_so (is_word id.text) (not (is_reserved id.text)) id.word)

ids_words : (ids : List Id) → AreWords (texts_of ids)
ids_words [] = tt
ids_words (id ∷ ids) = (id_is_word id.text id.word, ids_words ids)

ids_free : (ids : List Id) → list_any is_reserved (texts_of ids) ≡ false
ids_free [] = refl
ids_free (id ∷ ids) = rw (id_free id) (ids_free ids)

either_none : (p q : List ℕ → Bool) (ws : List (List ℕ)) → list_any p ws ≡ false → list_any q ws ≡ false
    → list_any (λ w. p w || q w) ws ≡ false
either_none p q [] h k = refl
either_none p q (w ∷ ws) h k = by (p w) (q w) refl refl h k (either_none p q ws)
  where
    by : (b c : Bool) → p w ≡ b → q w ≡ c → (b || list_any p ws) ≡ false → (c || list_any q ws) ≡ false
        → (list_any p ws ≡ false → list_any q ws ≡ false → list_any (λ w. p w || q w) ws ≡ false)
        → list_any (λ w. p w || q w) (w ∷ ws) ≡ false
    by true c e f h k rest = cc
    by false true e f h k rest = cc
    by false false e f h k rest = rw (e, f) (rest h k)

pub internal_reads : (n : InternalName) → ReadsAs kind.InternalName (name_text (components_of n)) (components_of n)
internal_reads n =
    let words = ids_words (n.first ∷ n.others) in
    record {
      has = record {
        pieces = begins n.first.text (texts_of n.others) words;
        whole = due n.first.text
            (texts_of n.others) words;
      };
      allowed = none_refused is_reserved (components_of n) (ids_free (n.first ∷ n.others));
      normal = refl;
    }

pub name_reads : (n : Name) → ReadsAs kind.Name (name_text (components_of n.name)) (components_of n.name)
name_reads n =
    let words = ids_words (n.name.first ∷ n.name.others) in
    record {
      has = record {
        pieces = begins n.name.first.text (texts_of n.name.others) words;
        whole = due n.name.first.text
            (texts_of n.name.others) words;
      };
      allowed = none_refused (λ w. is_reserved w || is_cedar w) (components_of n.name)
          (either_none is_reserved is_cedar (components_of n.name) (ids_free
          (n.name.first ∷ n.name.others)) n.unreserved);
      normal = refl;
    }

pub id_reads : (id : UnreservedId) → ReadsAs kind.UnreservedId id.id.text (id.id.text ∷ [])
id_reads id =
    let words = ids_words (id.id ∷ []) in
    record {
      has = record {
        pieces = begins id.id.text [] words;
        whole = due_alone id.id.text (id_is_word id.id.text id.id.word);
      };
      allowed = none_refused (λ w. is_reserved w || is_cedar w) (id.id.text ∷ [])
          (either_none is_reserved is_cedar (id.id.text ∷ []) (ids_free (id.id ∷ [])) (rw id.unreserved refl));
      normal = refl;
    }

pub key_reads : (key : AnyId) → ReadsAs kind.AnyId key.text (key.text ∷ [])
key_reads key = record {
  has = record { pieces = begins key.text [] (key.word, tt); whole = due_alone key.text key.word };
  allowed = refl;
  normal = refl;
}
