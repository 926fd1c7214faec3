-- What a query over the table shows: the rows that pass, and all of them.
use Rattle.std.proofs.Common.{◌≡◌, List, [], ◌∷◌, map, Bool, true, false, cond, flat_map, refl, sym, ap, subst, ◌∙◌}
use Rattle.std.proofs.Common.{inl, inr}
use Rattle.std.specs.List.{Contains, list_all}
use Rattle.std.proofs.lemmas.List.Sorted.{Contains-permutation, IsPermutation-sym}
use Rattle.sqlite.specs.declared.types.Value.TheVariants.{Null}
use Rattle.sqlite.specs.Order.{Row}
use Rattle.sqlite.specs.Term.{Term, Env, eval_all, holds}
use Rattle.sqlite.specs.Query.{IsAnswerAs, output, Output}
use Rattle.sqlite.specs.Tree.{Trees}
use Rattle.sqlite_value.specs.declared.keys.Key.{Key}
use Rattle.sqlite_rules.specs.Lists.{Has}
use Rattle.sqlite_rules.proofs.ListLemmas.{has_left, has_right, has_either, has_contained, contains_had}
use Rattle.schema_registry_table.proofs.StatementLemmas.{one_table}

has_mapped : {X Y : Type 0} (f : X → Y) (xs : List X) (y : Y) → Has (map f xs) y → (x : X) × Has xs x × (y ≡ f x)
has_mapped f [] y h = absurd h
has_mapped f (x ∷ xs) y (inl same) = (x, inl refl, same)
has_mapped f (x ∷ xs) y (inr later) = let found = has_mapped f xs y later in (found.0, inr found.1, found.2)

mapped_has : {X Y : Type 0} (f : X → Y) (xs : List X) (x : X) → Has xs x → Has (map f xs) (f x)
mapped_has f [] x h = absurd h
mapped_has f (y ∷ xs) x (inl same) = inl (ap f same)
mapped_has f (y ∷ xs) x (inr later) = inr (mapped_has f xs x later)

permuted : {X : Type 0} (xs ys : List X) (x : X) → Rattle.std.specs.Prelude.IsPermutation xs ys → Has xs x → Has ys x
permuted xs ys x same h = has_contained ys x (Contains-permutation xs ys x same (contains_had xs x h))

module _ (filter : List Term) (params : Row) where
  abbrev pub passes : Row → Bool
  passes r = list_all (holds (params ∷ r ∷ [])) filter

  abbrev chosen : Row → List Env
  chosen r = cond (passes r) ((params ∷ r ∷ []) ∷ []) []

  has_chosen : (rows : List Row) (env : Env) → Has (flat_map chosen rows) env
      → (r : Row) × Has rows r × (passes r ≡ true) × (env ≡ params ∷ r ∷ [])
  has_chosen [] env h = absurd h
  has_chosen (r ∷ rows) env h = elim (has_either (chosen r) (flat_map chosen rows) env h) [
    | inl here ↦ at_row (passes r) refl here
    | inr later ↦ let found = has_chosen rows env later in (found.0, inr found.1, found.2, found.3)
  ]
    where
      at_row : (b : Bool) → passes r ≡ b → Has (cond b ((params ∷ r ∷ []) ∷ []) []) env
          → (x : Row) × Has (r ∷ rows) x × (passes x ≡ true) × (env ≡ params ∷ x ∷ [])
      at_row true is (inl same) = (r, inl refl, is, same)
      at_row true is (inr none) = absurd none
      at_row false is none = absurd none

  chosen_has : (rows : List Row) (r : Row) → Has rows r → passes r ≡ true → Has (flat_map chosen rows) (params ∷ r ∷ [])
  chosen_has [] r h is = absurd h
  chosen_has (y ∷ rows) r (inl same) is = has_left (chosen y) (flat_map chosen rows) (params ∷ r ∷ [])
      (subst (λ x. Has (chosen x) (params ∷ r ∷ [])) same (rw is (inl refl)))
  chosen_has (y ∷ rows) r (inr later) is = has_right (chosen y) (flat_map chosen rows) (params ∷ r ∷ [])
      (chosen_has rows r later is)

  module _ (project : List Term) (order : List (Term × Key)) (db : Trees) (rows : List Row)
      (a : IsAnswerAs Null (one_table filter project order) db params rows) where
    abbrev out : Env → Output
    out = output (one_table filter project order)

    outputs : a.kept ≡ map out (flat_map chosen (db 0))
    outputs = a.distinct ∙ ap (map out) a.grouped

    pub shown_from : (x : Row) → Has rows x → (r : Row) × Has (db 0) r × (passes r ≡ true)
        × (x ≡ eval_all project (params ∷ r ∷ []))
    shown_from x h =
        let o = has_mapped (λ (o : Output). o.1) a.ordered x (subst (λ xs. Has xs x) a.shown h) in
        let kept = subst (λ xs. Has xs o.0) outputs
        (permuted a.ordered a.kept o.0 (IsPermutation-sym _ _ a.same) o.1) in
        let env = has_mapped out (flat_map chosen (db 0)) o.0 kept in
        let r = has_chosen (db 0) env.0 env.1 in
        (r.0, r.1, r.2, o.2 ∙ ap (λ (p : Output). p.1) env.2 ∙ ap (eval_all project) r.3)

    pub shows_all : (r : Row) → Has (db 0) r → passes r ≡ true → Has rows (eval_all project (params ∷ r ∷ []))
    shows_all r h is =
        let env = mapped_has out (flat_map chosen (db 0)) (params ∷ r ∷ []) (chosen_has (db 0) r h is) in
        let kept = subst (λ xs. Has xs (out (params ∷ r ∷ []))) (sym outputs) env in
        let o = permuted a.kept a.ordered (out (params ∷ r ∷ [])) a.same kept in
        subst (λ xs. Has xs (eval_all project (params ∷ r ∷ []))) (sym a.shown)
        (mapped_has (λ (o : Output). o.1) a.ordered (out (params ∷ r ∷ [])) o)
