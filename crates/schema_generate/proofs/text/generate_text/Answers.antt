use Rattle.std.proofs.Common.{◌≡◌, ◌∙◌, ◌++◌, ℕ, zero, suc, ◌+◌, List, [], ◌∷◌, flat_map, sym, ap, arith}
use Rattle.std.proofs.Common.{append_assoc}
use Rattle.std.specs.List.{range_with_len}
use Rattle.std.proofs.lemmas.Grind.{common_steps, flat_map-append}
use Rattle.std.proofs.lemmas.List.{append-nil}
use Rattle.schema_generate.specs.Generated.{entity_line, action_line, lines_of}
use Rattle.schema_generate.proofs.Ascii.{generated_ascii}
use Rattle.schema_generate.proofs.text.generate_text.Goals as goal

-- one number more
counted_last : (from n last : ℕ) → from + n ≡ last → range_with_len from (suc n) ≡ range_with_len from n ++ last ∷ []
counted_last from zero last e = let same : from ≡ last = omega arith in ap (λ k. k ∷ []) same
counted_last from (suc n) last e = ap (λ l. from ∷ l) (counted_last (from + 1) n last (omega arith))

flat_last : (f : ℕ → List ℕ) (n : ℕ)
    → flat_map f (range_with_len 0 (n + 1)) ≡ flat_map f (range_with_len 0 n) ++ f n
flat_last f n =
    let on : n + 1 ≡ suc n = omega arith in
    ap (λ k. flat_map f (range_with_len 0 k)) on
    ∙ (ap (flat_map f) (counted_last 0 n n (omega arith))
    ∙ (flat_map-append f (range_with_len 0 n) (n ∷ [])
    ∙ ap (λ l. flat_map f (range_with_len 0 n) ++ l) (append-nil (f n))))

pub loop-i-preserved : goal.loop-i-preserved
loop-i-preserved c =
    let n = c.args.n in
    let i = c.loop-i.i in
    c.in_ok-push_action.ensures
    ∙ (ap (λ l. l ++ action_line n i) (c.in_ok-push_entity.ensures
    ∙ ap (λ l. l ++ entity_line n i) c.loop-i.invariant)
    ∙ (append_assoc (flat_map (lines_of n) (range_with_len 0 i)) (entity_line n i) (action_line n i)
    ∙ sym (flat_last (lines_of n) i)))

pub returns-clause-ascii : goal.returns-clause-ascii
returns-clause-ascii c = generated_ascii c.args.n c.requires.some c.requires.size

pub returns-clause-text : goal.returns-clause-text
returns-clause-text c = grind (arith, common_steps)
