-- Pieces behind pieces.
use Rattle.std.proofs.Common.{◌≡◌, ℕ, zero, suc, Bool, true, false, not, cond, List, [], ◌∷◌, ◌++◌, refl, sym, ap, ◌∙◌}
use Rattle.std.proofs.Common.{subst, append_assoc, inl, ◌+◌, arith}
use Rattle.std.specs.Prelude.{codes}
use Rattle.std.specs.Str.{bytes_eq}
use Rattle.std.specs.List.{list_all}
use Rattle.std.specs.Cmp.{first_so, second_so}
use Rattle.std.proofs.lemmas.List.Sums.{AllPass-from_list_all}
use Rattle.std.proofs.lemmas.Bool.{not-true, or_parts}
use Rattle.cedar_data.specs.Words.{is_word_start, is_word_part}
use Rattle.cedar_data.specs.Words as words
use Rattle.schema_syntax_grammar.specs.declared.token_kind.TokenKind.{TokenKind}
use Rattle.schema_syntax_grammar.specs.declared.token_kind.TokenKind.TheVariants.{KwNamespace, KwEntity, KwExternal}
use Rattle.schema_syntax_grammar.specs.declared.token_kind.TokenKind.TheVariants.{KwIn, KwType, KwSet, KwAppliesTo}
use Rattle.schema_syntax_grammar.specs.declared.token_kind.TokenKind.TheVariants.{KwPrincipal, KwAction, KwResource}
use Rattle.schema_syntax_grammar.specs.declared.token_kind.TokenKind.TheVariants.{KwContext, KwTags, KwEnum}
use Rattle.schema_syntax_grammar.specs.Grammar.{is_ident}
use Rattle.schema_syntax_tokens.specs.Forms.{IsWord, word_kind}
use Rattle.schema_syntax_tokens.specs.Laid.{Piece, gap, lexeme, piece_text, laid, lexemes_of, AreBlanks, none, blank}
use Rattle.schema_syntax_tokens.specs.Laid.{Edge, free, word, colon, is_calm, Follow, done, by_gap, by_blanks}
use Rattle.schema_syntax_tokens.specs.Laid.{by_lexeme}
use Rattle.schema_syntax_tokens.proofs.Standing.{at_word, word_kind_word, edge_of_word}
use Rattle.cedar_identifiers.specs.Words.{is_reserved, is_id}
use Rattle.cedar_names.specs.CanonicalText.{spaces}
use Rattle.laws_written.specs.Printed as printed

pub laid-append : (ps qs : List Piece) → laid (ps ++ qs) ≡ laid ps ++ laid qs
laid-append [] qs = refl
laid-append (p ∷ ps) qs = ap (λ t. piece_text p ++ t) (laid-append ps qs)
    ∙ sym (append_assoc (piece_text p) (laid ps) (laid qs))

pub lexemes-append : (ps qs : List Piece) → lexemes_of (ps ++ qs) ≡ lexemes_of ps ++ lexemes_of qs
lexemes-append [] qs = refl
lexemes-append (gap b ∷ ps) qs = lexemes-append ps qs
lexemes-append (lexeme x ∷ ps) qs = ap (λ l. x ∷ l) (lexemes-append ps qs)

-- what may stand behind a word may stand behind nothing
pub from_free : {e : Edge} {ps : List Piece} → Follow e ps → Follow free ps
from_free (done h) = done refl
from_free (by_gap g s) = by_gap g s
from_free (by_blanks g s) = by_blanks g (from_free s)
from_free (by_lexeme f m s) = by_lexeme f refl s

pub calm : {e : Edge} {ps : List Piece} → is_calm e ≡ true → Follow word ps → Follow e ps
calm {e = free} h s = from_free s
calm {e = word} h s = s
calm {e = colon} h s = cc

pub follow_append : {e : Edge} {ps : List Piece} (qs : List Piece) → Follow e ps → Follow word qs
    → Follow e (ps ++ qs)
follow_append qs (done h) s = calm h s
follow_append qs (by_gap g r) s = by_gap g (follow_append qs r s)
follow_append qs (by_blanks g r) s = by_blanks g (follow_append qs r s)
follow_append qs (by_lexeme f m r) s = by_lexeme f m (follow_append qs r s)

pub blank_spaces : (n : ℕ) → AreBlanks (spaces n)
blank_spaces zero = none
blank_spaces (suc n) = blank refl (blank_spaces n)

pub one_space : AreBlanks (codes " ")
one_space = blank refl none

pub one_line_end : AreBlanks (codes "\n")
one_line_end = blank refl none

-- an indentation is some space
pub by_indent : {e : Edge} {ps : List Piece} (n : ℕ) → Follow free ps → Follow e (gap (spaces (n + 2)) ∷ ps)
by_indent {e} {ps} n s =
    let two : n + 2 ≡ suc (suc n) = omega arith in
    subst (λ k. Follow e (gap (spaces k) ∷ ps)) (sym two) (by_gap (blank_spaces (suc (suc n))) s)

-- words
is_word_so : (c : List ℕ) → words.is_word c ≡ true → IsWord c
is_word_so [] h = cc
is_word_so (b ∷ bs) h = (
  first_so (is_word_start b) (list_all is_word_part bs) h,
  AllPass-from_list_all is_word_part
      bs (second_so (is_word_start b) (list_all is_word_part bs) h),
)

at_in : (c : Bool) (x r k : TokenKind) → c ≡ false → (r ≡ k → is_ident k ≡ true) → cond c x r ≡ k → is_ident k ≡ true
at_in true x r k n there e = cc
at_in false x r k n there e = there e

ident_of_kind : (w : List ℕ) (k : TokenKind) → bytes_eq w (codes "in") ≡ false → word_kind w ≡ k → is_ident k ≡ true
ident_of_kind w k n e =
    at_word is_ident (bytes_eq w (codes "namespace")) KwNamespace _ k refl
    (at_word is_ident (bytes_eq w (codes "entity")) KwEntity _ k refl
    (at_word is_ident (bytes_eq w (codes "external")) KwExternal _ k refl
    (at_in (bytes_eq w (codes "in")) KwIn _ k n
    (at_word is_ident (bytes_eq w (codes "type")) KwType _ k refl
    (at_word is_ident (bytes_eq w (codes "Set")) KwSet _ k refl
    (at_word is_ident (bytes_eq w (codes "appliesTo")) KwAppliesTo _ k refl
    (at_word is_ident (bytes_eq w (codes "principal")) KwPrincipal _ k refl
    (at_word is_ident (bytes_eq w (codes "action")) KwAction _ k refl
    (at_word is_ident (bytes_eq w (codes "resource")) KwResource _ k refl
    (at_word is_ident (bytes_eq w (codes "context")) KwContext _ k refl
    (at_word is_ident (bytes_eq w (codes "tags")) KwTags _ k refl
    (at_word is_ident (bytes_eq w (codes "enum")) KwEnum _ k refl
    (λ f. subst (λ y. is_ident y ≡ true) f refl))))))))))))) e

no_in : (c : List ℕ) → is_reserved c ≡ false → bytes_eq c (codes "in") ≡ false
no_in c h = (or_parts (bytes_eq c (codes "in")) _ h).0

-- a word that may be a name has the kind of one
pub ident_kind_of : (c : List ℕ) → is_id c ≡ true → is_ident (word_kind c) ≡ true
ident_kind_of c h = ident_of_kind c (word_kind c)
    (no_in c (not-true (is_reserved c) (second_so (words.is_word c) (not (is_reserved c)) h))) refl

pub then_word : {ps : List Piece} (c : List ℕ) → words.is_word c ≡ true → Follow word ps
    → Follow free (printed.word c ∷ ps)
then_word {ps} c h s = by_lexeme (inl (is_word_so c h, refl)) refl
    (subst (λ e. Follow e ps) (sym (edge_of_word (word_kind c) (word_kind_word c))) s)

pub then_id : {ps : List Piece} (c : List ℕ) → is_id c ≡ true → Follow word ps → Follow free (printed.word c ∷ ps)
then_id c h s = then_word c (first_so (words.is_word c) (not (is_reserved c)) h) s
