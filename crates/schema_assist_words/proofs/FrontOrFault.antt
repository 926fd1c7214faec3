-- A text before a place has tokens with which some schema begins, or a fault.
use Rattle.std.proofs.Common.{◌≡◌, ℕ, ◌+◌, ◌<◌, ◌≤◌, List, [], ◌∷◌, ◌++◌, length, take, drop, refl, sym}
use Rattle.std.proofs.Common.{◌∙◌, subst, arith, inl, inr, Some, None, slice_get}
use Rattle.std.specs.List.{All}
use Rattle.std.proofs.lemmas.List.{take-append-drop, length-take, length-map, take-take}
use Rattle.std.proofs.lemmas.List.Elements.{All-head}
use Rattle.std.proofs.lemmas.Option.{slice_get_cases}
use Rattle.cedar_data.proofs.Lists.{All-back}
use Rattle.cedar_data.specs.Span.{Span}
use Rattle.schema_syntax_grammar.specs.Grammar.{Kinds, Viable}
use Rattle.schema_syntax_tokens.specs.declared.token.Token.{Token}
use Rattle.schema_syntax_tokens.specs.Scans.{Scans}
use Rattle.schema_syntax_tokens.specs.TokenLists.{kinds_of}
use Rattle.schema_syntax.specs.SyntaxFaults.{IsSyntaxFault}
use Rattle.schema_syntax.specs.SyntaxFaults.IsSyntaxFault.{unrecognized_token, invalid_token, unrecognized_eof}
use Rattle.schema_syntax.specs.declared.syntax_fault.SyntaxFault.{SyntaxFault}
use Rattle.schema_assist_words.specs.declared.text_before.AssistError.{AssistError}
use Rattle.schema_assist_words.specs.declared.text_before.AssistError.TheVariants.{BadPlace, Syntax, Memory}
use Rattle.schema_assist_words.specs.Before.{IsPartialWord, StandBefore}
use Rattle.schema_assist_words.specs.Before.IsPartialWord.{a_word, no_word}
use Rattle.schema_assist_words.specs.Refusals.{IsAssistRefusal, IsWithin}
use Rattle.schema_assist_words.proofs.Cut.{in_order}

-- a partial word starts within the head
pub starts_within : {head : List ℕ} {partial : Span} → IsPartialWord head partial → partial.start ≤ length head
starts_within (a_word tokens front last stop scans is) =
    let all : All (λ t. t.loc.start ≤ t.loc.end) (front ++ last ∷ []) =
    subst (λ ts. All (λ t. t.loc.start ≤ t.loc.end) ts) is.split (in_order 0 _ tokens stop scans) in
    let one : last.loc.start ≤ last.loc.end = All-head (λ t. t.loc.start ≤ t.loc.end) last []
    (All-back (λ t. t.loc.start ≤ t.loc.end) front (last ∷ []) all) in
    omega (arith, is.ends)
starts_within (no_word tokens stop scans none) = omega arith

within_list : (ts : List Token) (i : ℕ) (t : Token) → slice_get ts i ≡ Some t → i < length ts
within_list ts i t e = elim (slice_get_cases ts i).1 [
  | inl here ↦ here.1
  | inr none ↦ (let f : Some t ≡ None = sym e ∙ none.1 in absurd (cc))
]

module _ (one_scan : (text : List ℕ) (ts us : List Token) (at bt : ℕ) → Scans text ts at → Scans text us bt
    → (ts ≡ us) × (at ≡ bt)) (fronts : (front rest : Kinds) → Viable (front ++ rest) → Viable front) where
  -- tokens to the end of a text, with which some schema begins, leave no fault before its end
  no_fault : {text : List ℕ} {fault : SyntaxFault} → IsSyntaxFault text fault → IsWithin fault
      → (front : List Token) (end : ℕ) → Scans text front end → length text ≤ end → Viable (kinds_of front) → ⊥
  no_fault {text} (unrecognized_token tokens at place token scans found is) w front end all l viable =
      let same : tokens ≡ front = (one_scan text tokens front at end scans all).0 in
      let size : length (kinds_of tokens) ≡ length tokens = length-map tokens (λ t. t.kind) in
      let here : place < length (kinds_of tokens) = omega (arith, size, within_list tokens place token found) in
      is.stops here (fronts (take (place + 1) (kinds_of tokens)) (drop (place + 1) (kinds_of tokens))
      (subst (λ x. Viable x) (sym (take-append-drop (place + 1) (kinds_of tokens)))
      (subst (λ ts. Viable (kinds_of ts)) (sym same) viable)))
  no_fault {text} (invalid_token tokens at scans before _) w front end all l viable =
      let same : at ≡ end = (one_scan text tokens front at end scans all).1 in omega arith
  no_fault (unrecognized_eof tokens last scans is) w front end all l viable = w

  module _ (one_word : (head : List ℕ) (first second : Span) → IsPartialWord head first → IsPartialWord head second
      → first ≡ second) where
    pub front_or_fault : (text : List ℕ) (at : ℕ) (partial : Span) (front : List Token) (error : AssistError)
        → StandBefore text at partial front → IsAssistRefusal text at error → error ≡ Memory
    front_or_fault text at partial front BadPlace h r = absurd (r h.place)
    front_or_fault text at partial front Memory h r = refl
    front_or_fault text at partial front (Syntax error) h (_, r) =
        let head = take at text in
        let same : r.partial ≡ partial = one_word head r.partial partial r.partial_word h.partial_word in
        let start : partial.start ≤ at =
        omega (arith, starts_within h.partial_word, length-take at text) in
        let texts : take partial.start head ≡ take partial.start text = take-take partial.start at text start in
        let is : IsSyntaxFault (take partial.start text) r.fault =
        subst (λ x. IsSyntaxFault x r.fault) texts
        (subst (λ p. IsSyntaxFault (take p.start head) r.fault) same r.is) in
        absurd (no_fault is r.within front partial.start h.scans (omega (arith, length-take partial.start text))
        h.viable)
