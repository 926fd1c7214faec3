-- What is marked is what the machine traces, and so the stack tells which role stands.
use Rattle.std.proofs.Common.{◌≡◌, ℕ, take, List, [], ◌∷◌, ◌++◌, length, Bool, true, false, ◌&&◌, Option, Some, None}
use Rattle.std.proofs.Common.{refl}
use Rattle.std.proofs.Common.{sym, ap, ◌∙◌, subst, append_assoc}
use Rattle.std.specs.Prelude.{slice_get, is_some}
use Rattle.schema_syntax_grammar.specs.declared.token_kind.TokenKind.{TokenKind}
use Rattle.schema_syntax_grammar.specs.declared.token_kind.TokenKind.TheVariants.{KwNamespace, At, Identifier}
use Rattle.schema_syntax_grammar.specs.declared.symbol.Symbol.{Symbol}
use Rattle.schema_syntax_grammar.specs.declared.symbol.Symbol.TheVariants.{Schema, Item, ContextType, Types, Paths}
use Rattle.schema_syntax_grammar.specs.declared.symbol.Symbol.TheVariants.{Refs, RefList, AnyType}
use Rattle.schema_syntax_grammar.specs.Grammar.{Sentence, Viable, same_kind}
use Rattle.schema_syntax_grammar.specs.Table.{after_front, is_nullable}
use Rattle.schema_syntax_grammar.specs.Machine.{advance, step, on_some, accepts, bind, run}
use Rattle.schema_syntax_grammar.proofs.Stops.{stop, implies, fronts_stop}
use Rattle.schema_syntax_grammar.proofs.Accept.{Fine, at_kind, fine_run, fine_start, kinds_equal}
use Rattle.schema_syntax_grammar.proofs.Main.{no_stack, may_iff}
use Rattle.schema_assist_places.specs.declared.role.Role.{Role}
use Rattle.schema_assist_places.specs.Duties.{begun, duties, Stands}
use Rattle.schema_assist_places.specs.Homes.{homes, StandsIn}
use Rattle.schema_assist_places.proofs.Spaces.{home_of}
use Rattle.schema_assist_places.proofs.Alike.{duty_of_role, role_of_duty}
use Rattle.schema_assist_places.specs.declared.duty.Duty.{Duty}
use Rattle.schema_assist_places.specs.declared.duty.Duty.TheVariants.{Begins, Outside}
use Rattle.schema_assist_places.specs.Trace.{duty_of, item_duty, duty_or, taken, on_stack, trace, role_in, role_of}
use Rattle.schema_assist_places.specs.Trace.{space_behind, space_of}
use Rattle.schema_assist_places.proofs.Marks.{Marks, nothing, skip, takes}
use Rattle.schema_assist_places.proofs.Marked.{sentence_marks}

-- an implication that passes, at a premise that holds
apply : (a b : Bool) → implies a b ≡ true → a ≡ true → b ≡ true
apply true b i e = i
apply false b i e = cc

-- a symbol that may be nothing begins with what would make more of it
front_stops : (x : Symbol) (k : TokenKind) (next : List Symbol) → is_nullable x ≡ true → after_front x k ≡ Some next
    → stop x k ≡ true
front_stops x k next n e =
    apply (is_nullable x && is_some (after_front x k)) (stop x k)
    (at_kind (λ j. implies (is_nullable x && is_some (after_front x j)) (stop x j)) k (fronts_stop x)) (rw (n, e) refl)

-- the machine takes the kinds, and they do what it traces
abbrev Traced : List Symbol → List TokenKind → List Duty → Type 0
Traced s w m = (accepts s w ≡ true) × (m ≡ trace s w)

-- a symbol that is left out, by how it would go on
skipped_at : (x : Symbol) (s : List Symbol) (k : TokenKind) (w : List TokenKind) (m : List Duty)
    (o : Option (List Symbol)) → after_front x k ≡ o → is_nullable x ≡ true
    → ((j : TokenKind) → stop x j ≡ true → step s j ≡ None) → Traced s (k ∷ w) m → Traced (x ∷ s) (k ∷ w) m
skipped_at x s k w m None g n stuck h = ((rw (g, n) h.0), (rw (g, n) h.1))
skipped_at x s k w m (Some next) g n stuck h =
    let none = stuck k (front_stops x k next n g) in
    let no : on_some (step s k) (λ t. accepts t w) ≡ false = rw none refl in
    cc

skipped : (x : Symbol) (s : List Symbol) (w : List TokenKind) (m : List Duty) → is_nullable x ≡ true
    → ((j : TokenKind) → stop x j ≡ true → step s j ≡ None) → Traced s w m → Traced (x ∷ s) w m
skipped x s [] m n stuck h = ((rw n h.0), h.1)
skipped x s (k ∷ w) m n stuck h = skipped_at x s k w m (after_front x k) refl n stuck h

-- what is marked is what the machine traces
pub traced : {s : List Symbol} {w : List TokenKind} {m : List Duty} → Marks s w m → Fine s → Traced s w m
traced nothing fine = (refl, refl)
traced (skip {x = x} {s = s} {w = w} {m = m} n f) fine = skipped x s w m n fine.0 (traced f fine.1)
traced (takes {x = x} {k = k} {next = next} {s = s} {w = w} {m = m} g f) fine =
    let fine' : Fine (next ++ s) = fine_run (k ∷ []) (x ∷ s) (next ++ s) fine (rw g refl) in
    let h = traced f fine' in ((rw g h.0), (rw g (ap (λ z. duty_of x k ∷ z) h.1)))

append_nil : {A : Type 0} (w : List A) → w ++ [] ≡ w
append_nil [] = refl
append_nil (k ∷ w) = ap (λ v. k ∷ v) (append_nil w)

-- what the tokens of a sentence do is what the machine traces
pub sentence_traced : {w : List TokenKind} (r : Sentence w) → duties Outside r ≡ trace (Schema ∷ []) w
sentence_traced {w = w} r =
    let h = traced (sentence_marks r) fine_start in
    sym (append_nil (duties Outside r)) ∙ (h.1 ∙ ap (trace (Schema ∷ [])) (append_nil w))

-- what the token behind a front does

step_on : (j k : TokenKind) (f g : List TokenKind) (s t : List Symbol) (o : Option (List Symbol)) → step s j ≡ o
    → ((r : List Symbol) → run r f ≡ Some t → slice_get (trace r (f ++ k ∷ g)) (length f) ≡ Some (taken t k))
    → bind o (λ r. run r f) ≡ Some t
    → slice_get (on_stack o (λ r. trace r (f ++ k ∷ g))) (length f) ≡ Some (taken t k)
step_on j k f g s t None e more h = cc
step_on j k f g s t (Some r) e more h = more r h

pub at_place : (f : List TokenKind) (k : TokenKind) (g : List TokenKind) (s t : List Symbol) → run s f ≡ Some t
    → slice_get (trace s (f ++ k ∷ g)) (length f) ≡ Some (taken t k)
at_place [] k g s t e = let same : s ≡ t = cc in ap (λ r. Some (taken r k)) same
at_place (j ∷ f) k g s t e = step_on j k f g s t (step s j) refl (λ r h. at_place f k g r t h) e

step_end : (f : List TokenKind) (o : Option (List Symbol))
    → ((r : List Symbol) → slice_get (trace r (f ++ [])) (length f) ≡ None)
    → slice_get (on_stack o (λ r. trace r (f ++ []))) (length f) ≡ None
step_end f None more = refl
step_end f (Some r) more = more r

no_place : (f : List TokenKind) (s : List Symbol) → slice_get (trace s (f ++ [])) (length f) ≡ None
no_place [] s = refl
no_place (j ∷ f) s = step_end f (step s j) (λ r. no_place f r)

-- only identifiers begin a path in a role

begun_role : (role : Role) (k : TokenKind) → same_kind Identifier k ≡ false → role_in (begun role k) ≡ None
begun_role role Identifier e = cc
begun_role role _ e = refl

item_role : (k : TokenKind) → role_in (item_duty k) ≡ None
item_role KwNamespace = refl
item_role At = refl
item_role _ = refl

duty_role : (x : Symbol) (k : TokenKind) → same_kind Identifier k ≡ false → role_in (duty_of x k) ≡ None
duty_role Schema k e = item_role k
duty_role Item k e = item_role k
duty_role ContextType k e = begun_role _ k e
duty_role Types k e = begun_role _ k e
duty_role Paths k e = begun_role _ k e
duty_role Refs k e = begun_role _ k e
duty_role RefList k e = begun_role _ k e
duty_role AnyType k e = begun_role _ k e
duty_role _ k e = refl

or_role : (o : Option (List Symbol)) (n : Bool) (here below : Duty) → role_in here ≡ None → role_in below ≡ None
    → role_in (duty_or o n here below) ≡ None
or_role (Some next) n here below e f = e
or_role None true here below e f = f
or_role None false here below e f = refl

taken_role : (s : List Symbol) (k : TokenKind) → same_kind Identifier k ≡ false → role_in (taken s k) ≡ None
taken_role [] k e = refl
taken_role (x ∷ s) k e =
    or_role (after_front x k) (is_nullable x) (duty_of x k) (taken s k) (duty_role x k e) (taken_role s k e)

role_by : (s : List Symbol) (k : TokenKind) (role : Role) (b : Bool) → same_kind Identifier k ≡ b
    → taken s k ≡ Begins role → role_of s ≡ Some role
role_by s k role true e h = let same = kinds_equal Identifier k e in rw (same, h) refl
role_by s k role false e h = let no = taken_role s k e in
    let yes : role_in (taken s k) ≡ Some role = rw h refl in cc

some_duty : (c d : Duty) → Some c ≡ Some d → c ≡ d
some_duty c d e = cc

-- where a role stands behind a front, it is that of the stack
pub stands_role : (front : List TokenKind) (stack : List Symbol) (role : Role) → run (Schema ∷ []) front ≡ Some stack
    → Stands front role → role_of stack ≡ Some role
stands_role front stack role e ([], s, h) =
    let t = ap (λ m. slice_get m (length front)) (sentence_traced s) in
    let no = no_place front (Schema ∷ []) in cc
stands_role front stack role e (k ∷ more, s, h) =
    let t = ap (λ m. slice_get m (length front)) (sentence_traced s) in
    let at = at_place front k more (Schema ∷ []) stack e in
    role_by stack k role (same_kind Identifier k) refl (some_duty _ _ (sym at ∙ (sym t ∙ h)))

-- a duty with a role
pub role_begins : (d : Duty) (role : Role) → role_in d ≡ Some role → d ≡ Begins role
role_begins (Begins r) role e = let same : r ≡ role = cc in ap Begins same
role_begins _ role e = cc

-- what has a role is taken

taken_some_at : (o : Option (List Symbol)) (n : Bool) (here below : Duty) (s : List Symbol) (p : Option (List Symbol))
    (role : Role) → (role_in below ≡ Some role → is_some p ≡ true) → role_in (duty_or o n here below) ≡ Some role
    → is_some (advance o n s p) ≡ true
taken_some_at (Some next) n here below s p role more e = refl
taken_some_at None true here below s p role more e = more e
taken_some_at None false here below s p role more e = cc

taken_some : (s : List Symbol) (k : TokenKind) (role : Role) → role_in (taken s k) ≡ Some role
    → is_some (step s k) ≡ true
taken_some [] k role e = cc
taken_some (x ∷ s) k role e = taken_some_at
    (after_front x k) (is_nullable x) (duty_of x k) (taken s k) s (step s k) role
    (λ h. taken_some s k role h) e

-- the role of the stack stands
pub role_stands : (front : List TokenKind) (stack : List Symbol) (role : Role) → run (Schema ∷ []) front ≡ Some stack
    → role_of stack ≡ Some role → Stands front role
role_stands front stack role e h =
    let v : Viable (front ++ Identifier ∷ []) = (may_iff front stack e Identifier).0
    (taken_some stack Identifier role h) in
    let s : Sentence (front ++ Identifier ∷ v.0) = subst Sentence (append_assoc front (Identifier ∷ []) v.0) v.1 in
    let t = ap (λ m. slice_get m (length front)) (sentence_traced s) in
    let at = at_place front Identifier v.0 (Schema ∷ []) stack e in
    (Identifier ∷ v.0, s, t ∙ (at ∙ ap (λ d. Some d) (role_begins (taken stack Identifier) role h)))

-- the front of a trace

step_front : (f g : List TokenKind) (t : List Symbol) (o : Option (List Symbol))
    → ((r : List Symbol) → run r f ≡ Some t → take (length f) (trace r (f ++ g)) ≡ trace r f)
    → bind o (λ r. run r f) ≡ Some t
    → take (length f) (on_stack o (λ r. trace r (f ++ g))) ≡ on_stack o (λ r. trace r f)
step_front f g t None more h = cc
step_front f g t (Some r) more h = more r h

front_trace : (f g : List TokenKind) (s t : List Symbol) → run s f ≡ Some t
    → take (length f) (trace s (f ++ g)) ≡ trace s f
front_trace [] g s t e = refl
front_trace (j ∷ f) g s t e =
    ap (λ m. taken s j ∷ m) (step_front f g t (step s j) (λ r h. front_trace f g r t h) e)

same_space : (front more : List TokenKind) (stack : List Symbol) (s : Sentence (front ++ more))
    → run (Schema ∷ []) front ≡ Some stack
    → space_behind 0 None (take (length front) (duties Outside s)) ≡ space_of front
same_space front more stack s e =
    ap (λ m. space_behind 0 None (take (length front) m)) (sentence_traced s)
    ∙ ap (λ m. space_behind 0 None m) (front_trace front more (Schema ∷ []) stack e)

-- where a role stands, the namespace around it is the machine's
home_at : (front more : List TokenKind) (stack : List Symbol) (role : Role) (s : Sentence (front ++ more))
    → run (Schema ∷ []) front ≡ Some stack → slice_get (duties Outside s) (length front) ≡ Some (Begins role)
    → slice_get (homes 0 s) (length front) ≡ Some (space_of front)
home_at front more stack role s e h =
    home_of s (length front) role h ∙ ap (λ n. Some n) (same_space front more stack s e)

some_home : (a b : Option ℕ) → Some a ≡ Some b → a ≡ b
some_home a b e = cc

-- what stands is what the machine says
pub stands_so : (front : List TokenKind) (stack : List Symbol) (role : Role) (home : Option ℕ)
    → run (Schema ∷ []) front ≡ Some stack → StandsIn front role home
    → (role_of stack ≡ Some role) × (space_of front ≡ home)
stands_so front stack role home e (more, s, h, i) =
    let d = duty_of_role s (length front) role h in (
      (stands_role front stack role e (more, s, d)),
      (some_home (space_of front) home (sym (home_at front more stack role s e d) ∙ i)),
    )

-- what the machine says stands
pub so_stands : (front : List TokenKind) (stack : List Symbol) (role : Role) (home : Option ℕ)
    → run (Schema ∷ []) front ≡ Some stack → role_of stack ≡ Some role → space_of front ≡ home
    → StandsIn front role home
so_stands front stack role home e h i =
    let r = role_stands front stack role e h in
    (r.0, r.1, role_of_duty r.1 (length front) role r.2, home_at front r.0 stack role r.1 e r.2 ∙ ap (λ n. Some n) i)

-- at most one role and one namespace

one_place_by : (front : List TokenKind) (first second : Role) (here there : Option ℕ) (o : Option (List Symbol))
    → run (Schema ∷ []) front ≡ o → StandsIn front first here → StandsIn front second there
    → (first ≡ second) × (here ≡ there)
one_place_by front first second here there None e f g = absurd (no_stack front e (f.0, f.1))
one_place_by front first second here there (Some stack) e f g =
    let a = stands_so front stack first here e f in
    let b = stands_so front stack second there e g in ((cc), (sym a.1 ∙ b.1))

pub one_place : (front : List TokenKind) (first second : Role) (here there : Option ℕ) → StandsIn front first here
    → StandsIn front second there → (first ≡ second) × (here ≡ there)
one_place front first second here there f g =
    one_place_by front first second here there (run (Schema ∷ []) front) refl f g

-- where the machine stops, nothing stands
pub none_stands : (front : List TokenKind) → run (Schema ∷ []) front ≡ None → (role : Role) (space : Option ℕ)
    → StandsIn front role space → ⊥
none_stands front e role space f = no_stack front e (f.0, f.1)
