-- A head without its partial word.
use Rattle.std.proofs.Common.{◌≡◌, ℕ, ◌-◌, ◌≤◌, List, [], ◌∷◌, ◌++◌, length, take, drop, sym, ap}
use Rattle.std.proofs.Common.{◌∙◌, subst, arith, inl, inr, slice_range}
use Rattle.std.specs.List.{All}
use Rattle.std.proofs.lemmas.List.{take-append-drop, take_all, length-take-le, length-append, take_at}
use Rattle.std.proofs.lemmas.List.Elements.{All-head}
use Rattle.std.proofs.lemmas.Str.{IsCharBoundary-end}
use Rattle.cedar_data.proofs.Lists.{All-front, All-back}
use Rattle.schema_syntax_tokens.specs.declared.token.Token.{Token}
use Rattle.schema_syntax_tokens.specs.Scans.{Scans, IsPlaced}
use Rattle.schema_assist_words.specs.Before.{IsWordBefore, IsWrittenWord}
use Rattle.schema_assist_words.proofs.Cut.{cut_scan}
use Rattle.schema_assist_words.proofs.Forms.{form_word}

-- nothing stands in an empty place
empty_part : (xs : List ℕ) (n : ℕ) → slice_range xs n n ≡ []
empty_part xs n = let e : n - n ≡ 0 = omega arith in ap (λ k. take k (drop n xs)) e

-- at the end, no word is written
pub written_end : (head : List ℕ) → IsWrittenWord head (record { start = length head; end = length head })
written_end head = record {
  start = IsCharBoundary-end head;
  stop = IsCharBoundary-end head;
  word = inl (empty_part head (length head));
}

pub whole_head : (head : List ℕ) (tokens : List Token) (at : ℕ) → Scans head tokens at
    → Scans (take (length head) head) tokens at
whole_head head tokens at h = subst (λ x. Scans x tokens at) (sym (take_all (length head) head (omega arith))) h

module _ (head : List ℕ) (tokens front : List Token) (last : Token) (at : ℕ) (scans : Scans head tokens at)
    (placed : All (IsPlaced head) tokens) (is : IsWordBefore tokens (length head) front last) where
  all_placed : All (IsPlaced head) (front ++ last ∷ [])
  all_placed = subst (λ ts. All (IsPlaced head) ts) is.split placed

  pub front_placed : All (IsPlaced head) front
  front_placed = All-front (IsPlaced head) front (last ∷ []) all_placed

  last_placed : IsPlaced head last
  last_placed = All-head (IsPlaced head) last [] (All-back (IsPlaced head) front (last ∷ []) all_placed)

  pub start_within : last.loc.start ≤ length head
  start_within = last_placed.start.0

  -- the word that is written
  pub written_word : IsWrittenWord head last.loc
  written_word = record {
    start = last_placed.start;
    stop = last_placed.stop;
    word = inr (form_word (slice_range head last.loc.start last.loc.end) last.kind last_placed.form is.word);
  }

  -- in front of it are the other tokens
  pub front_scanned : Scans (take last.loc.start head) front last.loc.start
  front_scanned =
      let pre = take last.loc.start head in
      let tail = drop last.loc.start head in
      let whole : Scans (pre ++ tail) (front ++ last ∷ []) at =
      subst (λ x. Scans x (front ++ last ∷ []) at) (sym (take-append-drop last.loc.start head))
      (subst (λ ts. Scans head ts at) is.split scans) in
      cut_scan 0 pre tail front last at whole
      (omega (arith, length-take-le last.loc.start head start_within))

-- what is left of the tokens without the last
pub popped : (old new front : List Token) (last : Token) (n : ℕ) → new ≡ take (n - 1) old → length old ≡ n
    → old ≡ front ++ last ∷ [] → front ≡ new
popped old new front last n rest size split =
    let m : length front ≡ n - 1 = omega (arith, size, ap length split, length-append front (last ∷ [])) in
    sym (take_at front (last ∷ []) (n - 1) m) ∙ ap (λ x. take (n - 1) x) (sym split) ∙ sym rest
