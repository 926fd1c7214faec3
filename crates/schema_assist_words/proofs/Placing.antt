-- Tokens of the text before a place, as tokens of the whole text.
use Rattle.std.proofs.Common.{◌≡◌, ℕ, ◌+◌, ◌-◌, ◌<◌, ◌≤◌, List, length, take, drop, get_or, refl, sym, ap}
use Rattle.std.proofs.Common.{◌∙◌, subst, arith, inl, inr, slice_range, Some, None, slice_get}
use Rattle.std.specs.Prelude.{Result, Ok, Err, IfOk, IfErr}
use Rattle.std.specs.List.{All}
use Rattle.std.specs.Str.{IsCharBoundary, chars}
use Rattle.std.proofs.lemmas.Bool.{cases_lt}
use Rattle.std.proofs.lemmas.List.{drop-take, length-take-le, get_or-take, take-take}
use Rattle.std.proofs.lemmas.List.Elements.{All-weaker, All-get_or}
use Rattle.std.proofs.lemmas.Option.{slice_get_cases, same_Some}
use Rattle.cedar_data.specs.Span.{Span}
use Rattle.schema_syntax_grammar.specs.Fault.{IsFault}
use Rattle.schema_syntax_grammar.specs.declared.token_kind.TokenKind.{TokenKind}
use Rattle.schema_syntax_grammar.specs.declared.token_kind.TheConstants.{ALL_KINDS}
use Rattle.schema_syntax_tokens.specs.declared.token.Token.{Token}
use Rattle.schema_syntax_tokens.specs.Forms.{IsForm, IsWord}
use Rattle.schema_syntax_tokens.specs.Scans.{Scans, IsPlaced}
use Rattle.schema_syntax_tokens.specs.TokenLists.{kinds_of}
use Rattle.schema_syntax_grammar.specs.Grammar.{Viable}
use Rattle.schema_syntax.specs.SyntaxFaults.IsSyntaxFault.{unrecognized_token, invalid_token}
use Rattle.schema_syntax.specs.declared.syntax_fault.SyntaxFault.TheVariants as fault
use Rattle.schema_syntax_errors.specs.declared.parse_error.ParseError.{ParseError}
use Rattle.schema_syntax_errors.specs.declared.parse_error.ParseError.TheVariants.{InvalidToken, UnrecognizedToken}
use Rattle.schema_assist_words.specs.Before.{IsPartialWord, StandBefore, IsWrittenWord}
use Rattle.schema_assist_words.specs.Cuts.{IsCutOf, IsReadTo, IsStandingBehind, IsStandingRefusal}
use Rattle.schema_assist_words.specs.Refusals.{IsHeadFault, IsTokenError, IsAssistRefusal}
use Rattle.schema_assist_words.specs.declared.text_before.TextBefore.{TextBefore}
use Rattle.schema_assist_words.specs.declared.text_before.AssistError.{AssistError}
use Rattle.schema_assist_words.specs.declared.text_before.AssistError.TheVariants.{BadPlace, Syntax, Memory}
use Rattle.schema_assist_words.proofs.Cut.{ends_before}

-- fronts of fronts
front_front : (n m : ℕ) (xs : List ℕ) → n ≤ m → take n (take m xs) ≡ take n xs
front_front n m xs h = take-take n m xs h

-- a part of a front is that part of the whole
pub part_of_front : (xs : List ℕ) (n s e : ℕ) → s ≤ e → e ≤ n → slice_range (take n xs) s e ≡ slice_range xs s e
part_of_front xs n s e h l =
    let m : n ≡ s + (n - s) = omega arith in
    let cut : drop s (take n xs) ≡ take (n - s) (drop s xs) =
    ap (λ k. drop s (take k xs)) m ∙ drop-take s (n - s) xs in
    ap (λ x. take (e - s) x) cut ∙ front_front (e - s) (n - s) (drop s xs) (omega arith)

-- a place between characters of a front that ends between characters
boundary_in : (xs : List ℕ) (n i : ℕ) → IsCharBoundary xs n → IsCharBoundary (take n xs) i → IsCharBoundary xs i
boundary_in xs n i whole h =
    let size : length (take n xs) ≡ n = length-take-le n xs whole.0 in
    let within : i ≤ n = omega (arith, h.0) in (
      omega (arith, whole.0),
      λ l high. elim (cases_lt i n) [
        | inl lt ↦
            let same : get_or (take n xs) i 0 ≡ get_or xs i 0 = get_or-take n xs i 0 lt in
            omega (arith, h.1 (omega arith) (omega (arith, same)), same)
        | inr ge ↦
            let at : i ≡ n = omega arith in
            let here : get_or xs i 0 ≡ get_or xs n 0 = ap (λ k. get_or xs k 0) at in
            omega (arith, whole.1 (omega arith) (omega (arith, here)), here)
      ],
    )

module _ (text : List ℕ) (n : ℕ) (at : IsCharBoundary text n) where
  end_within : (i : ℕ) → IsCharBoundary (take n text) i → i ≤ n
  end_within i h = omega (arith, h.0, length-take-le n text at.0)

  placed_one : (t : Token) → IsPlaced (take n text) t → IsPlaced text t
  placed_one t p = record {
    in_order = p.in_order;
    start = boundary_in text n t.loc.start at p.start;
    stop = boundary_in text n t.loc.end at p.stop;
    form = subst (λ w. IsForm w t.kind)
        (part_of_front text n t.loc.start t.loc.end (omega (arith, p.in_order)) (end_within t.loc.end p.stop)) p.form;
  }

  -- tokens of the front stand in the whole
  pub placed_in : (head : List ℕ) (tokens : List Token) → head ≡ take n text → All (IsPlaced head) tokens
      → All (IsPlaced text) tokens
  placed_in head tokens e h =
      All-weaker (IsPlaced (take n text)) (IsPlaced text) placed_one tokens
      (subst (λ x. All (IsPlaced x) tokens) e h)

  pub written_in : (head : List ℕ) (s : Span) → head ≡ take n text → s.start ≤ s.end → IsWrittenWord head s
      → IsWrittenWord text s
  written_in head s e order h =
      let w = subst (λ x. IsWrittenWord x s) e h in
      let part = part_of_front text n s.start s.end order (end_within s.end w.stop) in
      record {
        start = boundary_in text n s.start at w.start;
        stop = boundary_in text n s.end at w.stop;
        word = elim w.word [
          | inl nothing ↦ inl (sym part ∙ nothing)
          | inr word ↦ inr (subst (λ x. IsWord x) part word)
        ];
      }

-- what stands at a token in front of a place
pub token_part : (head : List ℕ) (n at : ℕ) (tokens : List Token) (place : ℕ) (t : Token)
    → Scans (take n head) tokens at → at ≤ n → slice_get tokens place ≡ Some t → All (IsPlaced head) tokens
    → slice_range (take n head) t.loc.start t.loc.end ≡ slice_range head t.loc.start t.loc.end
token_part head n at tokens place t scans l found placed = elim (slice_get_cases tokens place).1 [
  | inl here ↦
      let same : here.0 ≡ t = same_Some here.0 t (sym here.2 ∙ found) in
      let is : get_or tokens place t ≡ t = subst (λ d. get_or tokens place d ≡ d) same here.3 in
      let ends : t.loc.end ≤ at = subst (λ x. x.loc.end ≤ at) is
      (All-get_or (λ x. x.loc.end ≤ at) tokens place t here.1 (ends_before 0 (take n head) tokens at scans)) in
      let order : IsPlaced head t = subst (λ x. IsPlaced head x) is
      (All-get_or (IsPlaced head) tokens place t here.1 placed) in
      part_of_front head n t.loc.start t.loc.end (omega (arith, order.in_order)) (omega arith)
  | inr none ↦ (let e : Some t ≡ None = sym found ∙ none.1 in absurd (cc))
]

-- the fault of a head that a token in front of its partial word is
pub token_fault : (head : List ℕ) (front : List Token) (start stop place : ℕ) (expected : List TokenKind)
    (error : ParseError) → IsReadTo head front start stop → IsFault ALL_KINDS (kinds_of front) place expected
    → IsTokenError head front place expected error → IsHeadFault head error
token_fault head front start stop place expected error (partial, same, r) is (t, found, told) =
    let text = take partial.start head in
    let part = token_part head partial.start stop front place t r.scans r.before found r.placed in
    record {
      partial = partial;
      fault = fault.UnrecognizedToken t.loc.start (chars (slice_range text t.loc.start t.loc.end)) t.loc.end expected;
      partial_word = r.partial_word;
      is = unrecognized_token front stop place t r.scans found is;
      within = tt;
      told = told ∙ ap (λ x. UnrecognizedToken t.loc.start (chars x) t.loc.end expected) (sym part);
    }

-- and the one that a place is where no token stands
pub place_fault : (head : List ℕ) (front : List Token) (start stop : ℕ) → IsReadTo head front start stop
    → stop < start → Viable (kinds_of front) → IsHeadFault head (InvalidToken stop)
place_fault head front start stop (partial, same, r) before viable = record {
  partial = partial;
  fault = fault.InvalidToken stop;
  partial_word = r.partial_word;
  is = invalid_token front stop r.scans (omega (arith, length-take-le partial.start head r.within, same)) viable;
  within = tt;
  told = refl;
}

pub reads_all : (head : List ℕ) (front : List Token) (start stop : ℕ) → IsReadTo head front start stop → start ≤ stop
    → stop ≡ start
reads_all head front start stop (partial, same, r) h = omega (arith, r.before, same)

-- the tokens of a head are those before the place
pub front_in : (text head : List ℕ) (at : ℕ) (partial : Span) (front : List Token) → IsCharBoundary text at
    → head ≡ take at text → IsCutOf head partial front partial.start → Viable (kinds_of front)
    → StandBefore text at partial front
front_in text head at partial front whole e r viable =
    let start : partial.start ≤ at = omega (arith, r.within, ap length e, length-take-le at text whole.0) in
    let texts : take partial.start head ≡ take partial.start text =
    ap (λ x. take partial.start x) e ∙ take-take partial.start at text start in
    record {
      place = whole;
      partial_word = subst (λ x. IsPartialWord x partial) e r.partial_word;
      scans = subst (λ x. Scans x front partial.start) texts r.scans;
      viable = viable;
    }

-- what is read of the head is what stands before the place
module _ (text head : List ℕ) (at : ℕ) (whole : IsCharBoundary text at) (e : head ≡ take at text) where
  pub answer_front : (r : Result TextBefore AssistError)
      → IfOk r (λ b. IsCutOf head b.partial b.front.items b.partial.start)
      → IfOk r (λ b. IsStandingBehind (kinds_of b.front.items) b.standing)
      → IfOk r (λ b. StandBefore text at b.partial b.front.items)
  answer_front (Ok b) h s = front_in text head at b.partial b.front.items whole e h s.viable
  answer_front (Err x) h s = tt

  pub answer_placed : (r : Result TextBefore AssistError)
      → IfOk r (λ b. IsCutOf head b.partial b.front.items b.partial.start)
      → IfOk r (λ b. All (IsPlaced text) b.front.items)
  answer_placed (Ok b) h = placed_in text at whole head b.front.items e h.placed
  answer_placed (Err x) h = tt

  pub answer_word : (r : Result TextBefore AssistError)
      → IfOk r (λ b. IsCutOf head b.partial b.front.items b.partial.start)
      → IfOk r (λ b. IsWrittenWord text b.partial)
  answer_word (Ok b) h = written_in text at whole head b.partial e (omega (arith, h.within, h.ends)) h.word
  answer_word (Err x) h = tt

  pub answer_refused : (r : Result TextBefore AssistError) → IfErr r (IsStandingRefusal head)
      → IfErr r (IsAssistRefusal text at)
  answer_refused (Ok b) h = tt
  answer_refused (Err BadPlace) h = absurd h
  answer_refused (Err (Syntax error)) h = (whole, subst (λ x. IsHeadFault x error) e h)
  answer_refused (Err Memory) h = tt
