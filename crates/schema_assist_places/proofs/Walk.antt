-- What the machine traces, one token further.
use Rattle.std.proofs.Common.{◌≡◌, ℕ, suc, ◌+◌, ◌<◌, ◌≤◌, List, [], ◌∷◌, ◌++◌, length, map, take, get_or, Option, Some}
use Rattle.std.proofs.Common.{None, refl, sym, ap, ◌∙◌, subst, arith, add-one}
use Rattle.std.proofs.Math.Seq.{take-suc}
use Rattle.std.specs.Prelude.{slice_get}
use Rattle.std.proofs.lemmas.List.{get_or-map, length-map, length-take-le, take_all}
use Rattle.std.proofs.lemmas.Option.{slice_get-get_or}
use Rattle.schema_syntax_grammar.specs.declared.token_kind.TokenKind.{TokenKind}
use Rattle.schema_syntax_grammar.specs.declared.token_kind.TokenKind.TheVariants.{KwNamespace, Identifier}
use Rattle.schema_syntax_grammar.specs.declared.symbol.Symbol.{Symbol}
use Rattle.schema_syntax_grammar.specs.declared.symbol.Symbol.TheVariants.{Schema}
use Rattle.schema_syntax_grammar.specs.Machine.{step, bind, run}
use Rattle.schema_syntax_grammar.proofs.Faults.{cut_short}
use Rattle.schema_assist_places.specs.declared.role.Role.{Role}
use Rattle.schema_assist_places.specs.declared.duty.Duty.{Duty}
use Rattle.schema_assist_places.specs.declared.duty.Duty.TheVariants.{Begins}
use Rattle.schema_assist_places.specs.Homes.{StandsIn}
use Rattle.schema_assist_places.specs.Trace.{taken, on_stack, trace, space_after, space_behind, role_in, space_of}
use Rattle.schema_assist_places.proofs.Tracing.{stands_so, so_stands, role_begins}

-- the namespace after one token more
behind_one : (i : ℕ) (now : Option ℕ) (ds : List Duty) (d : Duty)
    → space_behind i now (ds ++ d ∷ []) ≡ space_after (space_behind i now ds) (i + length ds) d
behind_one i now [] d = ap (λ n. space_after now n d) (omega arith)
behind_one i now (c ∷ ds) d =
    behind_one (i + 1) (space_after now i c) ds d
    ∙ ap (λ n. space_after (space_behind (i + 1) (space_after now i c) ds) n d) (omega arith)

-- a trace is as long as its kinds

long_at : (f : List TokenKind) (t : List Symbol) (o : Option (List Symbol))
    → ((r : List Symbol) → run r f ≡ Some t → length (trace r f) ≡ length f) → bind o (λ r. run r f) ≡ Some t
    → length (on_stack o (λ r. trace r f)) ≡ length f
long_at f t None more h = cc
long_at f t (Some r) more h = more r h

long : (f : List TokenKind) (s t : List Symbol) → run s f ≡ Some t → length (trace s f) ≡ length f
long [] s t e = refl
long (j ∷ f) s t e = ap (λ n. suc n) (long_at f t (step s j) (λ r h. long f r t h) e)

-- a trace of one kind more

more_at : (f : List TokenKind) (k : TokenKind) (t : List Symbol) (o : Option (List Symbol))
    → ((r : List Symbol) → run r f ≡ Some t → trace r (f ++ k ∷ []) ≡ trace r f ++ taken t k ∷ [])
    → bind o (λ r. run r f) ≡ Some t
    → on_stack o (λ r. trace r (f ++ k ∷ [])) ≡ on_stack o (λ r. trace r f) ++ taken t k ∷ []
more_at f k t None more h = cc
more_at f k t (Some r) more h = more r h

on_stack_none : (o : Option (List Symbol)) → on_stack o (λ r. trace r []) ≡ []
on_stack_none None = refl
on_stack_none (Some r) = refl

trace_more : (f : List TokenKind) (k : TokenKind) (s t : List Symbol) → run s f ≡ Some t
    → trace s (f ++ k ∷ []) ≡ trace s f ++ taken t k ∷ []
trace_more [] k s t e = let same : s ≡ t = cc in
    ap (λ m. taken s k ∷ m) (on_stack_none (step s k)) ∙ ap (λ r. taken r k ∷ []) same
trace_more (j ∷ f) k s t e = ap (λ m. taken s j ∷ m) (more_at f k t (step s j) (λ r h. trace_more f k r t h) e)

some_kind : (j k : TokenKind) → Some j ≡ Some k → j ≡ k
some_kind j k e = cc

module _ {T : Type 0} (f : T → TokenKind) (tokens : List T) (i : ℕ) (old : List Symbol) (token : T)
    (lt : i < length tokens) (here : token ≡ get_or tokens i token)
    (e : run (Schema ∷ []) (take i (map f tokens)) ≡ Some old) where
  kinds_further : take (i + 1) (map f tokens) ≡ take i (map f tokens) ++ f token ∷ []
  kinds_further =
      let same : get_or (map f tokens) i KwNamespace ≡ f token =
      get_or-map f tokens i token KwNamespace lt ∙ ap f (sym here) in
      rw (add-one, take-suc (map f tokens) i KwNamespace (rw length-map lt), same) refl

  -- the namespace after one token more of the list
  pub space_further : (now : Option ℕ) → space_of (take i (map f tokens)) ≡ now
      → space_of (take (i + 1) (map f tokens)) ≡ space_after now i (taken old (f token))
  space_further now h =
      let front = take i (map f tokens) in
      let fits : i ≤ length (map f tokens) = rw length-map (omega arith) in
      let size : length (trace (Schema ∷ []) front) ≡ i = long front (Schema ∷ []) old e
      ∙ length-take-le i (map f tokens) fits in
      let place : 0 + length (trace (Schema ∷ []) front) ≡ i = omega (arith, size) in
      ap space_of kinds_further
      ∙ (ap (λ m. space_behind 0 None m) (trace_more front (f token) (Schema ∷ []) old e)
      ∙ (behind_one 0 None (trace (Schema ∷ []) front) (taken old (f token))
      ∙ (ap (λ n. space_after (space_of front) n (taken old (f token))) place
      ∙ ap (λ s. space_after s i (taken old (f token))) h)))

  -- where the next token is not taken, nothing stands behind the whole list
  pub not_taken : step old (f token) ≡ None → (role : Role) (space : Option ℕ) → StandsIn (map f tokens) role space → ⊥
  not_taken none role space s =
      let within : i < length (map f tokens) = rw length-map lt in
      let next : slice_get (map f tokens) i ≡ Some (f token) =
      slice_get-get_or (map f tokens) i KwNamespace within
      ∙ ap (λ k. Some k) (get_or-map f tokens i token KwNamespace lt ∙ ap f (sym here)) in
      cut_short (map f tokens) i old within e
      (λ k h. let same : k ≡ f token = some_kind k (f token) (sym h ∙ next) in rw same none) (s.0, s.1)

module _ {T : Type 0} (f : T → TokenKind) (tokens : List T) (i : ℕ) (stack : List Symbol) (space : Option ℕ)
    (all : length tokens ≤ i) (e : run (Schema ∷ []) (take i (map f tokens)) ≡ Some stack)
    (h : space_of (take i (map f tokens)) ≡ space) where
  whole : take i (map f tokens) ≡ map f tokens
  whole = take_all i (map f tokens) (rw length-map all)

  whole_run : run (Schema ∷ []) (map f tokens) ≡ Some stack
  whole_run = subst (λ w. run (Schema ∷ []) w ≡ Some stack) whole e

  -- what stands behind all the tokens
  pub stands_at_end : (role : Role) → taken stack Identifier ≡ Begins role → StandsIn (map f tokens) role space
  stands_at_end role t = so_stands (map f tokens) stack role space whole_run (ap role_in t)
      (subst (λ w. space_of w ≡ space) whole h)

  -- where no word in a role is taken, none stands
  pub none_at_end : ((role : Role) → taken stack Identifier ≡ Begins role → ⊥) → (role : Role) (other : Option ℕ)
      → StandsIn (map f tokens) role other → ⊥
  none_at_end none role other s =
      let so = stands_so (map f tokens) stack role other whole_run s in
      none role (role_begins (taken stack Identifier) role so.0)
