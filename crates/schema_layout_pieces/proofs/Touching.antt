-- What may stand behind a token without a gap.
use Rattle.std.proofs.Common.{◌≡◌, ◌≢◌, ℕ, Bool, true, false, not, ◌&&◌, ◌||◌, cond, if◌then◌else◌, Some}
use Rattle.std.proofs.Common.{List, [], ◌∷◌, ◌++◌, ◌⊎◌, refl, sym, ap, ◌∙◌, inl, inr, arith, is_some}
use Rattle.std.proofs.lemmas.Bool.{agree_below_at, and_parts, or_cases}
use Rattle.cedar_data.specs.Words.{is_word_start, is_word_part}
use Rattle.schema_syntax_grammar.specs.declared.token_kind.TokenKind.{TokenKind}
use Rattle.schema_syntax_grammar.specs.declared.token_kind.TokenKind.TheVariants.{Colon, PathSep, LBrace, RBrace}
use Rattle.schema_syntax_grammar.specs.Grammar.{is_word_kind, same_kind}
use Rattle.schema_syntax_grammar.proofs.Accept.{at_kind}
use Rattle.schema_syntax_tokens.specs.Forms.{single_mark, mark_kind, IsForm}
use Rattle.schema_syntax_tokens.specs.Laid.{Lexeme, Edge, free, word, colon, edge_of}
use Rattle.schema_syntax_tokens.proofs.Ends.{mark_ascii}
use Rattle.schema_syntax_tokens.proofs.Longest.{mark_byte, two_colons, no_form_nil}
use Rattle.schema_syntax_tokens.proofs.Standing.{Ends, word_kind_word}
use Rattle.schema_layout_pieces.specs.Kinds.{has_colon, is_apart}
use Rattle.schema_layout_pieces.specs.declared.context.Gap.{Gap}
use Rattle.schema_layout_pieces.specs.declared.context.Gap.TheVariants.{NoGap, Space, NewLine}
use Rattle.schema_layout_pieces.specs.Layout.{Before, clings, holds, between}
use Rattle.schema_layout_pieces.proofs.Sentences.{chosen}

not_true : (b : Bool) → not b ≡ true → b ≡ false
not_true true h = cc
not_true false h = refl

plain_mark : ℕ → Bool
plain_mark b = not (is_some (single_mark b)) || not (is_word_part b)

single_no_part : (b : ℕ) (k : TokenKind) → single_mark b ≡ Some k → is_word_part b ≡ false
unfolding plain_mark
single_no_part b k h =
    let t : plain_mark b ≡ true = agree_below_at plain_mark (λ _. true) 128 b refl (mark_ascii b (mark_byte b k h)) in
    not_true (is_word_part b) (chosen (is_some (single_mark b)) (not (is_word_part b)) t (ap is_some h))

mark_no_part : (b : ℕ) (bs : List ℕ) (k : TokenKind) → mark_kind (b ∷ bs) ≡ Some k → is_word_part b ≡ false
mark_no_part b [] k h = single_no_part b k h
mark_no_part b (c ∷ []) k h = ap is_word_part (two_colons b c k h).0
mark_no_part b (c ∷ d ∷ bs) k h = cc

-- what is no word begins with no part of a word
form_no_part : (w rest : List ℕ) (k : TokenKind) → IsForm w k → is_word_kind k ≡ false → Ends word (w ++ rest)
form_no_part w rest k (inl f) h = let e : false ≡ true = sym h ∙ (ap is_word_kind f.1 ∙ word_kind_word w) in cc
form_no_part [] rest k (inr f) h = absurd (no_form_nil k (inr f))
form_no_part (b ∷ bs) rest k (inr (inl f)) h = mark_no_part b bs k f
form_no_part (b ∷ bs) rest k (inr (inr f)) h =
    let e : b ≡ 34 = let g : b ∷ bs ≡ 34 ∷ (f.0.0 ++ 34 ∷ []) = f.0.2 in cc in ap is_word_part e

mark_no_colon : (b : ℕ) (bs : List ℕ) (k : TokenKind) → mark_kind (b ∷ bs) ≡ Some k → not (has_colon k) ≡ true → b ≢ 58
mark_no_colon b [] k h n e =
    let s : Some Colon ≡ Some k = sym (ap single_mark e) ∙ h in
    let c : Colon ≡ k = cc in
    let f : not (has_colon Colon) ≡ true = ap (λ j. not (has_colon j)) c ∙ n in cc
mark_no_colon b (c ∷ []) k h n e =
    let p = two_colons b c k h in
    let s : Some PathSep ≡ Some k = sym (ap (λ x. mark_kind (x ∷ c ∷ [])) p.0 ∙ ap (λ x. mark_kind (58 ∷ x ∷ [])) p.1)
    ∙ h in
    let d : PathSep ≡ k = cc in
    let f : not (has_colon PathSep) ≡ true = ap (λ j. not (has_colon j)) d ∙ n in cc
mark_no_colon b (c ∷ d ∷ bs) k h n e = cc

-- what is neither `:` nor `::` begins with no colon
form_no_colon : (w rest : List ℕ) (k : TokenKind) → IsForm w k → not (has_colon k) ≡ true → Ends colon (w ++ rest)
form_no_colon [] rest k f h = absurd (no_form_nil k f)
form_no_colon (b ∷ bs) rest k (inl f) h =
    λ e. let g : is_word_start 58 ≡ true = ap is_word_start (sym e) ∙ f.0.0 in cc
form_no_colon (b ∷ bs) rest k (inr (inl f)) h = mark_no_colon b bs k f h
form_no_colon (b ∷ bs) rest k (inr (inr f)) h =
    λ e. let g : b ∷ bs ≡ 34 ∷ (f.0.0 ++ 34 ∷ []) = f.0.2 in let q : b ≡ 34 = cc in omega (arith, e, q)

pub ends_space : (e : Edge) (after : List ℕ) → Ends e (32 ∷ after)
ends_space free after = tt
ends_space word after = refl
ends_space colon after = omega arith

pub ends_line_feed : (e : Edge) (after : List ℕ) → Ends e (10 ∷ after)
ends_line_feed free after = tt
ends_line_feed word after = refl
ends_line_feed colon after = omega arith

past_line : (c : Bool) (r : Gap) → cond c NewLine r ≡ NoGap → r ≡ NoGap
past_line true r h = cc
past_line false r h = h

no_gap_or : (c : Bool) (r : Gap) → cond c NoGap r ≡ NoGap → (c ≡ true) ⊎ (r ≡ NoGap)
no_gap_or true r h = inl refl
no_gap_or false r h = inr h

no_space : (c : Bool) → cond c NewLine Space ≡ NoGap → ⊥
no_space true h = cc
no_space false h = cc

-- without a gap there are `{` and `}`, or a kind that clings, or one that holds
touching : (f : Before) (b : TokenKind) → between f b ≡ NoGap
    → (same_kind f.kind LBrace && same_kind b RBrace ≡ true) ⊎ (clings b || holds f.kind ≡ true)
touching f b h =
    elim (no_gap_or (same_kind f.kind LBrace && same_kind b RBrace) _ h) [
      | inl e ↦ inl e
      | inr r ↦ elim (no_gap_or (clings b || holds f.kind) _ (past_line _ _ r))
          [ inl e ↦ inr e | inr s ↦ absurd (no_space _ s) ]
    ]

brace_no_word : (k : TokenKind) → same_kind k RBrace ≡ true → is_word_kind k ≡ false
brace_no_word k e =
    not_true (is_word_kind k) (chosen (same_kind k RBrace) (not (is_word_kind k))
    (at_kind (λ j. not (same_kind j RBrace) || not (is_word_kind j)) k refl) e)

clings_no_word : (k : TokenKind) → clings k ≡ true → is_word_kind k ≡ false
clings_no_word k e =
    not_true (is_word_kind k) (chosen (clings k) (not (is_word_kind k))
    (at_kind (λ j. not (clings j) || not (is_word_kind j)) k refl) e)

holds_no_word : (k : TokenKind) → holds k ≡ true → is_word_kind k ≡ false
holds_no_word k e =
    not_true (is_word_kind k) (chosen (holds k) (not (is_word_kind k))
    (at_kind (λ j. not (holds j) || not (is_word_kind j)) k refl) e)

-- behind a word no word stands without a gap
word_touches : (f : Before) (b : TokenKind) → between f b ≡ NoGap → is_word_kind f.kind ≡ true → is_word_kind b ≡ false
word_touches f b h w =
    elim (touching f b h) [
      | inl e ↦ brace_no_word b (and_parts (same_kind f.kind LBrace) (same_kind b RBrace) e).1
      | inr e ↦ elim (or_cases (clings b) (holds f.kind) e) [
        | inl c ↦ clings_no_word b c
        | inr c ↦ let g : true ≡ false = sym w ∙ holds_no_word f.kind c in cc
      ]
    ]

by_edge : (c d : Bool) (after : List ℕ) → (c ≡ true → Ends word after) → (d ≡ true → Ends colon after)
    → Ends (if c then word else if d then colon else free) after
by_edge true d after f g = f refl
by_edge false true after f g = g refl
by_edge false false after f g = tt

apart_here : (k j : TokenKind) (ks : List TokenKind) → is_apart (k ∷ j ∷ ks) ≡ true → same_kind k Colon ≡ true
    → not (has_colon j) ≡ true
apart_here k j ks h e =
    let g = (and_parts (not (same_kind k Colon) || not (has_colon j)) (is_apart (j ∷ ks)) h).0 in
    chosen (same_kind k Colon) (not (has_colon j)) g e

-- a token that follows without a gap does not merge
pub ends_touching : (f : Before) (x : Lexeme) (rest : List ℕ) (ks : List TokenKind) → IsForm x.text x.kind
    → between f x.kind ≡ NoGap → is_apart (f.kind ∷ x.kind ∷ ks) ≡ true → Ends (edge_of f.kind) (x.text ++ rest)
ends_touching f x rest ks i h a =
    by_edge (is_word_kind f.kind) (same_kind f.kind Colon) (x.text ++ rest)
    (λ w. form_no_part x.text rest x.kind i (word_touches f x.kind h w))
    (λ c. form_no_colon x.text rest x.kind i (apart_here f.kind x.kind ks a c))
