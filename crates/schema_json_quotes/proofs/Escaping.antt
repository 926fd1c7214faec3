-- A text as it stands in a JSON string: up to the next byte that is escaped, that byte, and what follows it.
use Rattle.std.proofs.Common.{◌≡◌, ℕ, ◌+◌, ◌<◌, true, not, ◌==◌, ◌||◌, List, ◌∷◌, ◌++◌, length}
use Rattle.std.proofs.Common.{take, drop, get_or, sym, ap, ◌∙◌, inl, inr, arith, nat_lt}
use Rattle.std.specs.Str.{IsUtf8, IsCharBoundary}
use Rattle.std.proofs.lemmas.List.{take-append-drop, drop_more}
use Rattle.std.proofs.lemmas.List.Concat.{flat_map-append}
use Rattle.std.proofs.lemmas.Bool.{or_cases, ltb-true, eqb-true}
use Rattle.std.proofs.lemmas.Str.{IsUtf8-drop, IsCharBoundary-before_ascii, IsCharBoundary-after_ascii}
use Rattle.json.specs.Run.{is_stop}
use Rattle.json.specs.Print.{escape, escape_byte}
use Rattle.json.proofs.Printed.Plain.{escape_on_plain}
use Rattle.schema_json_quotes.specs.Escapes.{NoneJsonEscaped, IsNextJsonEscape}

stop_ascii : (c : ℕ) → is_stop c ≡ true → c < 128
stop_ascii c h =
    elim (or_cases ((c == 34) || (c == 92)) (nat_lt c 32) h) [
      | inl a ↦ elim (or_cases (c == 34) (c == 92) a)
          [ inl e ↦ omega (arith, eqb-true c 34 e) | inr e ↦ omega (arith, eqb-true c 92 e) ]
      | inr l ↦ omega (arith, ltb-true c 32 l)
    ]

-- bytes of which none is escaped stand as they are
pub escape_plain : (bs : List ℕ) → NoneJsonEscaped bs → escape bs ≡ bs
escape_plain bs all = escape_on_plain true bs (λ k p q. ap not (all k 0 q))

cut_next : (rest : List ℕ) (at : ℕ) → at < length rest
    → (rest ≡ take at rest ++ get_or rest at 0 ∷ drop 1 (drop at rest))
cut_next rest at l =
    let first : drop at rest ≡ get_or rest at 0 ∷ drop (at + 1) rest = drop_more rest at 0 l in
    let same : drop 1 (drop at rest) ≡ drop (at + 1) rest = ap (λ t. drop 1 t) first in
    sym (take-append-drop at rest) ∙ ap (λ t. take at rest ++ t) (first ∙ ap (λ t. get_or rest at 0 ∷ t) (sym same))

module _ (rest text : List ℕ) (at : ℕ) (h : IsNextJsonEscape rest at text) where
  pub boundary_at_escape : IsCharBoundary rest at
  boundary_at_escape = IsCharBoundary-before_ascii rest at h.in_range (stop_ascii (get_or rest at 0) h.escaped)

  pub boundary_after_escaped : IsUtf8 rest → IsCharBoundary (drop at rest) 1
  boundary_after_escaped u =
      let first : drop at rest ≡ get_or rest at 0 ∷ drop (at + 1) rest = drop_more rest at 0 h.in_range in
      let byte : get_or (drop at rest) 0 0 ≡ get_or rest at 0 = ap (λ t. get_or t 0 0) first in
      let some : 0 < length (drop at rest) = omega (arith, ap length first) in
      IsCharBoundary-after_ascii (drop at rest) 0 (IsUtf8-drop rest at u boundary_at_escape) some
      (omega (arith, byte, stop_ascii (get_or rest at 0) h.escaped))

  pub text_after_escape : IsUtf8 rest → IsUtf8 (drop 1 (drop at rest))
  text_after_escape u =
      IsUtf8-drop (drop at rest) 1 (IsUtf8-drop rest at u boundary_at_escape) (boundary_after_escaped u)

  -- what is to be written, up to the next escape, the escape, and what follows
  pub left_to_escape : escape rest ≡ take at rest ++ (text ++ escape (drop 1 (drop at rest)))
  left_to_escape =
      ap escape (cut_next rest at h.in_range)
      ∙ flat_map-append escape_byte (take at rest) (get_or rest at 0 ∷ drop 1 (drop at rest))
      ∙ (λ i. escape_plain (take at rest) h.plain i ++ (sym h.written i ++ escape (drop 1 (drop at rest))))
