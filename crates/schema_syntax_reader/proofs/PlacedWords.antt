-- The word at a token's place is a word, and its bytes are its characters.
use Rattle.std.proofs.Common.{◌≡◌, ℕ, Bool, true, false, not, ◌&&◌, ◌==◌, if◌then◌else◌, List, [], ◌∷◌, slice_range}
use Rattle.std.proofs.Common.{Option, Some, None, refl, sym, ap, ◌∙◌, subst, inl, inr}
use Rattle.std.specs.List.{list_all}
use Rattle.std.proofs.lemmas.Str.{chars-IsAscii}
use Rattle.std.proofs.lemmas.Bool.{and_from}
use Rattle.std.proofs.lemmas.List.Sums.{list_all-from_AllPass}
use Rattle.cedar_data.specs.Words.{is_word_start, is_word_part, is_word}
use Rattle.cedar_data.proofs.Ascii.{word_ascii}
use Rattle.schema_syntax_grammar.specs.declared.token_kind.TokenKind.{TokenKind}
use Rattle.schema_syntax_grammar.specs.declared.token_kind.TokenKind.TheVariants.{PathSep}
use Rattle.schema_syntax_grammar.specs.Grammar as kind
use Rattle.schema_syntax_tokens.specs.declared.token.Token.{Token}
use Rattle.schema_syntax_tokens.specs.Forms.{IsWord, single_mark, mark_kind, IsForm}
use Rattle.cedar_identifiers.specs.Words.{is_reserved, is_id}
use Rattle.schema_syntax_reader.specs.Leaves.{word_at}
use Rattle.schema_syntax_reader.specs.Stops.{IsPlacedWord}

-- no word, where there is a kind
abbrev IsMark : Option TokenKind → Type 0
IsMark None = Unit {0}
IsMark (Some k) = kind.is_word_kind k ≡ false

mark_or : (b : Bool) (x r : Option TokenKind) → IsMark x → IsMark r → IsMark (if b then x else r)
mark_or true x r p q = p
mark_or false x r p q = q

single_marks : (b : ℕ) → IsMark (single_mark b)
single_marks b =
    mark_or (b == 64) _ _ refl (mark_or (b == 44) _ _ refl
    (mark_or (b == 59) _ _ refl (mark_or (b == 58) _ _ refl (mark_or (b == 40) _ _ refl (mark_or (b == 41) _ _ refl
    (mark_or (b == 123) _ _ refl (mark_or (b == 125) _ _ refl
    (mark_or (b == 91) _ _ refl (mark_or (b == 93) _ _ refl (mark_or (b == 60) _ _ refl (mark_or (b == 62) _ _ refl
    (mark_or (b == 63) _ _ refl (mark_or (b == 61) _ _ refl tt)))))))))))))

marks : (w : List ℕ) → IsMark (mark_kind w)
marks [] = tt
marks (b ∷ []) = single_marks b
marks (b ∷ c ∷ []) = mark_or (b == 58 && c == 58) (Some PathSep) None refl tt
marks (b ∷ c ∷ d ∷ bs) = tt

-- what has the kind of a word is a word
pub form_word : (w : List ℕ) (k : TokenKind) → IsForm w k → kind.is_word_kind k ≡ true → IsWord w
form_word w k (inl h) e = h.0
form_word w k (inr (inl m)) e = let f : kind.is_word_kind k ≡ false = subst IsMark m (marks w) in cc
form_word w k (inr (inr s)) e = let f : false ≡ true = sym (ap kind.is_word_kind s.1) ∙ e in cc

pub word_test : (w : List ℕ) → IsWord w → is_word w ≡ true
word_test [] h = absurd h
word_test (b ∷ bs) h = and_from (is_word_start b) (list_all is_word_part bs) h.0
    (list_all-from_AllPass is_word_part bs h.1)

placed_test : (source : List ℕ) (t : Token) → IsPlacedWord source t
    → is_word (slice_range source t.loc.start t.loc.end) ≡ true
placed_test source t p = word_test (slice_range source t.loc.start t.loc.end)
    (form_word (slice_range source t.loc.start t.loc.end) t.kind p.0.form p.1)

-- the bytes at the place are the characters there
pub word_is_bytes : (source : List ℕ) (t : Token) → IsPlacedWord source t
    → word_at source t ≡ slice_range source t.loc.start t.loc.end
word_is_bytes source t p = chars-IsAscii (slice_range source t.loc.start t.loc.end)
    (word_ascii (slice_range source t.loc.start t.loc.end) (placed_test source t p))

pub word_there : (source : List ℕ) (t : Token) → IsPlacedWord source t → is_word (word_at source t) ≡ true
word_there source t p = ap is_word (word_is_bytes source t p) ∙ placed_test source t p

pub id_there : (source : List ℕ) (t : Token) → IsPlacedWord source t → is_reserved (word_at source t) ≡ false
    → is_id (word_at source t) ≡ true
id_there source t p h = and_from (is_word (word_at source t)) (not (is_reserved (word_at source t)))
    (word_there source t p) (ap not h)
