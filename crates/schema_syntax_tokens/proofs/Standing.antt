-- A lexeme is the longest token before what does not prolong it.
use Rattle.std.proofs.Common.{◌≡◌, ◌≢◌, ℕ, ◌+◌, Bool, true, false, cond, List, [], ◌∷◌, ◌++◌, length, get_or, Some}
use Rattle.std.proofs.Common.{refl, sym, ap, ◌∙◌, subst, inl, inr, arith}
use Rattle.std.specs.Prelude.{codes}
use Rattle.std.specs.List.{AllPass, prefix_len}
use Rattle.std.specs.Str.{bytes_eq}
use Rattle.std.proofs.lemmas.List.{append_assoc, take_at, get_or_at, length-append}
use Rattle.std.proofs.lemmas.List.Elements.{All-head, All-tail}
use Rattle.std.proofs.lemmas.Bool.{cases_Bool}
use Rattle.cedar_data.specs.Words.{is_word_start, is_word_part}
use Rattle.cedar_data.proofs.Ascii.{start_part}
use Rattle.schema_syntax_grammar.specs.declared.token_kind.TokenKind.{TokenKind}
use Rattle.schema_syntax_grammar.specs.declared.token_kind.TokenKind.TheVariants.{KwNamespace, KwEntity, KwExternal}
use Rattle.schema_syntax_grammar.specs.declared.token_kind.TokenKind.TheVariants.{KwIn, KwType, KwSet, KwAppliesTo}
use Rattle.schema_syntax_grammar.specs.declared.token_kind.TokenKind.TheVariants.{KwPrincipal, KwAction, KwResource}
use Rattle.schema_syntax_grammar.specs.declared.token_kind.TokenKind.TheVariants.{KwContext, KwTags, KwEnum, StringLit}
use Rattle.schema_syntax_grammar.specs.declared.token_kind.TokenKind.TheVariants.{PathSep, Colon}
use Rattle.schema_syntax_grammar.specs.Grammar.{is_word_kind}
use Rattle.schema_syntax_tokens.specs.Forms.{IsWord, word_kind, single_mark, mark_kind, IsBody, IsBodyEnd, IsForm}
use Rattle.schema_syntax_tokens.specs.Scans.{IsLongest}
use Rattle.schema_syntax_tokens.specs.Laid.{Edge, free, word, colon, edge_of}
use Rattle.schema_syntax_tokens.proofs.Longest.{longest_word, longest_string, longest_mark, longest_colons, mark_start}
use Rattle.schema_syntax_tokens.proofs.Longest.{mark_no_word, mark_no_quote, two_colons}

-- what follows does not go on with what stands in front
abbrev pub Ends : Edge → List ℕ → Type 0
Ends free after = Unit {0}
Ends word [] = Unit {0}
Ends word (b ∷ bs) = is_word_part b ≡ false
Ends colon [] = Unit {0}
Ends colon (b ∷ bs) = b ≢ 58

-- what passes as a kind that is chosen, or as another
pub at_word : (P : TokenKind → Bool) (c : Bool) (x r k : TokenKind) → P x ≡ true → (r ≡ k → P k ≡ true)
    → cond c x r ≡ k → P k ≡ true
at_word P true x r k h there e = subst (λ y. P y ≡ true) e h
at_word P false x r k h there e = there e

kind_of_word : (w : List ℕ) (k : TokenKind) → word_kind w ≡ k → is_word_kind k ≡ true
kind_of_word w k e =
    at_word is_word_kind (bytes_eq w (codes "namespace")) KwNamespace _ k refl
    (at_word is_word_kind (bytes_eq w (codes "entity")) KwEntity _ k refl
    (at_word is_word_kind (bytes_eq w (codes "external")) KwExternal _ k refl
    (at_word is_word_kind (bytes_eq w (codes "in")) KwIn _ k refl
    (at_word is_word_kind (bytes_eq w (codes "type")) KwType _ k refl
    (at_word is_word_kind (bytes_eq w (codes "Set")) KwSet _ k refl
    (at_word is_word_kind (bytes_eq w (codes "appliesTo")) KwAppliesTo _ k refl
    (at_word is_word_kind (bytes_eq w (codes "principal")) KwPrincipal _ k refl
    (at_word is_word_kind (bytes_eq w (codes "action")) KwAction _ k refl
    (at_word is_word_kind (bytes_eq w (codes "resource")) KwResource _ k refl
    (at_word is_word_kind (bytes_eq w (codes "context")) KwContext _ k refl
    (at_word is_word_kind (bytes_eq w (codes "tags")) KwTags _ k refl
    (at_word is_word_kind (bytes_eq w (codes "enum")) KwEnum _ k refl
    (λ f. subst (λ y. is_word_kind y ≡ true) f refl))))))))))))) e

-- the kind of a word is one
pub word_kind_word : (w : List ℕ) → is_word_kind (word_kind w) ≡ true
word_kind_word w = kind_of_word w (word_kind w) refl

pub edge_of_word : (k : TokenKind) → is_word_kind k ≡ true → edge_of k ≡ word
edge_of_word k h = rw h refl

prefix_stops : (after : List ℕ) → Ends word after → prefix_len is_word_part after ≡ 0
prefix_stops [] e = refl
prefix_stops (b ∷ bs) e = ap (λ t. cond t (1 + prefix_len is_word_part bs) 0) e

prefix_all : (w after : List ℕ) → AllPass is_word_part w → Ends word after
    → prefix_len is_word_part (w ++ after) ≡ length w
prefix_all [] after h e = prefix_stops after e
prefix_all (b ∷ bs) after h e =
    ap (λ t. cond t (1 + prefix_len is_word_part (bs ++ after)) 0) (All-head (λ x. is_word_part x ≡ true) b bs h)
    ∙ omega (arith, prefix_all bs after (All-tail (λ x. is_word_part x ≡ true) b bs h) e)

stands_word : (w after : List ℕ) → IsWord w → Ends word after → IsLongest (w ++ after) (word_kind w) (length w)
stands_word [] after h e = absurd h
stands_word (b ∷ bs) after h e =
    let n : prefix_len is_word_part (b ∷ (bs ++ after)) ≡ length (b ∷ bs) =
    ap (λ t. cond t (1 + prefix_len is_word_part (bs ++ after)) 0) (start_part b h.0)
    ∙ omega (arith, prefix_all bs after h.1 e) in
    subst (λ x. IsLongest (b ∷ (bs ++ after)) (word_kind x) (length (b ∷ bs)))
    (take_at (b ∷ bs) after (length (b ∷ bs)) refl)
    (longest_word (b ∷ (bs ++ after)) (length (b ∷ bs)) h.0 (sym n))

not_word_start : (b : ℕ) (k : TokenKind) → single_mark b ≡ Some k → is_word_start b ≡ false
not_word_start b k h = elim (cases_Bool (is_word_start b))
    [ inl w ↦ absurd (mark_no_word b (mark_start b [] k h) w) | inr w ↦ w ]

no_second : (after : List ℕ) → Ends colon after → get_or after 0 0 ≢ 58
no_second [] e = omega arith
no_second (b ∷ bs) e = e

is_colon : (b : ℕ) (k : TokenKind) → single_mark b ≡ Some k → b ≡ 58 → k ≡ Colon
is_colon b k h e = let f : Some Colon ≡ Some k = sym (ap single_mark e) ∙ h in cc

stands_single : (b : ℕ) (after : List ℕ) (k : TokenKind) → single_mark b ≡ Some k → Ends (edge_of k) after
    → IsLongest (b ∷ after) k 1
stands_single b after k h e =
    longest_mark b after k (not_word_start b k h) (mark_no_quote b (mark_start b [] k h))
    (λ f. no_second after (subst (λ x. Ends (edge_of x) after) (is_colon b k h f) e)) h

stands_mark : (w after : List ℕ) (k : TokenKind) → mark_kind w ≡ Some k → Ends (edge_of k) after
    → IsLongest (w ++ after) k (length w)
stands_mark [] after k h e = cc
stands_mark (b ∷ []) after k h e = stands_single b after k h e
stands_mark (b ∷ c ∷ []) after k h e =
    let p = two_colons b c k h in
    let s : Some PathSep ≡ Some k = sym (ap (λ x. mark_kind (x ∷ c ∷ [])) p.0 ∙ ap (λ x. mark_kind (58 ∷ x ∷ [])) p.1)
    ∙ h in
    let kind : PathSep ≡ k = cc in
    subst (λ x. IsLongest (b ∷ c ∷ after) x 2) kind (longest_colons b c after p.0 p.1)
stands_mark (b ∷ c ∷ d ∷ bs) after k h e = cc

-- a string, whatever follows it
stands_string : (body after : List ℕ) → IsBody body
    → IsLongest ((34 ∷ (body ++ 34 ∷ [])) ++ after) StringLit (length (34 ∷ (body ++ 34 ∷ [])))
stands_string body after is =
    let whole : (body ++ 34 ∷ []) ++ after ≡ body ++ 34 ∷ after = append_assoc body (34 ∷ []) after in
    let ends : IsBodyEnd (body ++ 34 ∷ after) (length body) =
    record {
      in_range = omega (arith, length-append body (34 ∷ after));
      body = subst (λ t. IsBody t) (sym (take_at body (34 ∷ after) (length body) refl)) is;
      quote = get_or_at body 34 after 0 (length body) refl;
    } in
    let size : length body + 2 ≡ length (34 ∷ (body ++ 34 ∷ [])) = omega (arith, length-append body (34 ∷ [])) in
    subst (λ n. IsLongest ((34 ∷ (body ++ 34 ∷ [])) ++ after) StringLit n) size
    (longest_string (34 ∷ ((body ++ 34 ∷ []) ++ after)) (length body) refl
    (subst (λ t. IsBodyEnd t (length body)) (sym whole) ends))

pub stands : (w after : List ℕ) (k : TokenKind) → IsForm w k → Ends (edge_of k) after
    → IsLongest (w ++ after) k (length w)
stands w after k (inl f) e =
    let ends : Ends word after = subst (λ x. Ends x after)
    (edge_of_word k (ap is_word_kind f.1 ∙ word_kind_word w)) e in
    subst (λ x. IsLongest (w ++ after) x (length w)) (sym f.1) (stands_word w after f.0 ends)
stands w after k (inr (inl f)) e = stands_mark w after k f e
stands w after k (inr (inr f)) e =
    subst (λ x. IsLongest (w ++ after) x (length w)) (sym f.1)
    (subst (λ x. IsLongest (x ++ after) StringLit (length x)) (sym f.0.2) (stands_string f.0.0 after f.0.1))
