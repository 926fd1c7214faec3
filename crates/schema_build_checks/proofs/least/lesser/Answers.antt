use Rattle.std.proofs.Common.{◌≡◌, [], ◌∷◌, ◌++◌, sym, ap, ◌∙◌, subst, MatchOption, is_lt}
use Rattle.std.proofs.lemmas.List.MinMax.{ranks_by}
use Rattle.schema_build_checks.specs.Least.{IsFirstLeast}
use Rattle.schema_build_checks.proofs.Leasts.{least_alone, least_kept, least_taken}
use Rattle.schema_build_checks.proofs.least.lesser.Goals as goal

pub returns-then-is_lt : goal.returns-then-is_lt
returns-then-is_lt g c = λ xs h.
    least_taken g.T.Ord.cmp (ranks_by g.met.T.Ord.total (λ x. x)) xs c.in-Some.other c.args.item
    (subst (λ l. MatchOption l (xs ≡ []) (IsFirstLeast g.T.Ord.cmp xs)) c.in-Some.is h)
    (ap is_lt (sym c.cmp.ensures) ∙ sym c.is_lt.ensures ∙ c.if-is_lt.true)

pub returns-else-is_lt : goal.returns-else-is_lt
returns-else-is_lt g c = λ xs h.
    least_kept g.T.Ord.cmp xs c.in-Some.other c.args.item
    (subst (λ l. MatchOption l (xs ≡ []) (IsFirstLeast g.T.Ord.cmp xs)) c.in-Some.is h)
    (ap is_lt (sym c.cmp.ensures) ∙ sym c.is_lt.ensures ∙ c.if-is_lt.false)

pub returns-in-None : goal.returns-in-None
returns-in-None g c = λ xs h.
    subst (λ l. IsFirstLeast g.T.Ord.cmp (l ++ c.args.item ∷ []) c.args.item)
    (sym (subst (λ l. MatchOption l (xs ≡ []) (IsFirstLeast g.T.Ord.cmp xs)) c.in-None.is h))
    (least_alone g.T.Ord.cmp c.args.item)
