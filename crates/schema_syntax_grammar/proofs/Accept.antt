-- The machine accepts what the stack stands for, and each stack that it reaches can be completed.
use Rattle.std.proofs.Common.{◌≡◌, ℕ, zero, suc, ◌≤◌, ◌<◌, List, [], ◌∷◌, ◌++◌, Bool, true, false, ◌&&◌, ◌||◌, Option}
use Rattle.std.proofs.Common.{Some, None, refl, sym, ap, ◌∙◌, subst, append_assoc, get_or, arith, ◌⊎◌, inl, inr}
use Rattle.std.specs.Prelude.{nat_lt, if◌then◌else◌, is_some, not}
use Rattle.std.proofs.lemmas.Bool.{eqb-true, ltb-true, lt-ltb}
use Rattle.schema_syntax_grammar.specs.declared.token_kind.TokenKind.{TokenKind}
use Rattle.schema_syntax_grammar.specs.declared.token_kind.TokenKind.TheVariants.{KwNamespace, KwEntity, KwExternal}
use Rattle.schema_syntax_grammar.specs.declared.token_kind.TokenKind.TheVariants.{KwIn, KwType, KwSet, KwAppliesTo}
use Rattle.schema_syntax_grammar.specs.declared.token_kind.TokenKind.TheVariants.{KwPrincipal, KwAction, KwResource}
use Rattle.schema_syntax_grammar.specs.declared.token_kind.TokenKind.TheVariants.{KwContext, KwTags, KwEnum, Identifier}
use Rattle.schema_syntax_grammar.specs.declared.token_kind.TokenKind.TheVariants.{StringLit, At, Comma, Semi, Colon}
use Rattle.schema_syntax_grammar.specs.declared.token_kind.TokenKind.TheVariants.{PathSep, LParen, RParen, LBrace}
use Rattle.schema_syntax_grammar.specs.declared.token_kind.TokenKind.TheVariants.{RBrace, LBracket, RBracket, Less}
use Rattle.schema_syntax_grammar.specs.declared.token_kind.TokenKind.TheVariants.{Greater, Question, Equals, End}
use Rattle.schema_syntax_grammar.specs.declared.token_kind.TheConstants.{ALL_KINDS}
use Rattle.schema_syntax_grammar.specs.declared.symbol.Symbol.{Symbol}
use Rattle.schema_syntax_grammar.specs.declared.symbol.Symbol.TheVariants.{Schema}
use Rattle.schema_syntax_grammar.specs.Table.{Row, rows, is_at, find, after_front, is_nullable}
use Rattle.schema_syntax_grammar.specs.Grammar.{kind_number, same_kind}
use Rattle.schema_syntax_grammar.specs.Machine.{advance, step, all_nullable, on_some, accepts, bind, run}
use Rattle.schema_syntax_grammar.proofs.Stops.{all_kinds, listed, stop, implies, closed, all_rows, rows_closed}
use Rattle.schema_syntax_grammar.proofs.Stops.{fronts_stop, start_kind, rank, all_below, leads_down, leads}
use Rattle.schema_syntax_grammar.proofs.Theory.{Forest, nothing, skip, take, and_left, and_right}

-- tests

-- a kind by its kind_number
of_number : ℕ → TokenKind
of_number n = get_or ALL_KINDS n Identifier

-- each kind is the one of its kind_number
kind_of_number : (k : TokenKind) → of_number (kind_number k) ≡ k
unfolding of_number
kind_of_number KwNamespace = refl
kind_of_number KwEntity = refl
kind_of_number KwExternal = refl
kind_of_number KwIn = refl
kind_of_number KwType = refl
kind_of_number KwSet = refl
kind_of_number KwAppliesTo = refl
kind_of_number KwPrincipal = refl
kind_of_number KwAction = refl
kind_of_number KwResource = refl
kind_of_number KwContext = refl
kind_of_number KwTags = refl
kind_of_number KwEnum = refl
kind_of_number Identifier = refl
kind_of_number StringLit = refl
kind_of_number At = refl
kind_of_number Comma = refl
kind_of_number Semi = refl
kind_of_number Colon = refl
kind_of_number PathSep = refl
kind_of_number LParen = refl
kind_of_number RParen = refl
kind_of_number LBrace = refl
kind_of_number RBrace = refl
kind_of_number LBracket = refl
kind_of_number RBracket = refl
kind_of_number Less = refl
kind_of_number Greater = refl
kind_of_number Question = refl
kind_of_number Equals = refl
kind_of_number End = refl

-- each kind is in the list of all
pub kind_listed : (k : TokenKind) → listed ALL_KINDS k ≡ true
kind_listed KwNamespace = refl
kind_listed KwEntity = refl
kind_listed KwExternal = refl
kind_listed KwIn = refl
kind_listed KwType = refl
kind_listed KwSet = refl
kind_listed KwAppliesTo = refl
kind_listed KwPrincipal = refl
kind_listed KwAction = refl
kind_listed KwResource = refl
kind_listed KwContext = refl
kind_listed KwTags = refl
kind_listed KwEnum = refl
kind_listed Identifier = refl
kind_listed StringLit = refl
kind_listed At = refl
kind_listed Comma = refl
kind_listed Semi = refl
kind_listed Colon = refl
kind_listed PathSep = refl
kind_listed LParen = refl
kind_listed RParen = refl
kind_listed LBrace = refl
kind_listed RBrace = refl
kind_listed LBracket = refl
kind_listed RBracket = refl
kind_listed Less = refl
kind_listed Greater = refl
kind_listed Question = refl
kind_listed Equals = refl
kind_listed End = refl

-- kinds with one kind_number are one kind
pub kinds_equal : (a b : TokenKind) → same_kind a b ≡ true → a ≡ b
kinds_equal a b e = sym (kind_of_number a)
    ∙ (ap of_number (eqb-true (kind_number a) (kind_number b) e) ∙ kind_of_number b)

pub or_cases : (a b : Bool) → a || b ≡ true → (a ≡ true) ⊎ (b ≡ true)
or_cases true b e = inl refl
or_cases false b e = inr e

-- what passes for all listed kinds passes for each of them
at_listed : (p : TokenKind → Bool) (ks : List TokenKind) (k : TokenKind) → all_kinds p ks ≡ true → listed ks k ≡ true
    → p k ≡ true
at_listed p [] k a l = cc
at_listed p (j ∷ js) k a l =
    elim (or_cases (same_kind j k) (listed js k) l) [
      | inl e ↦ subst (λ x. p x ≡ true) (kinds_equal j k e) (and_left _ _ a)
      | inr m ↦ at_listed p js k
          (and_right _ _ a) m
    ]

-- what passes for all kinds passes for each
pub at_kind : (p : TokenKind → Bool) (k : TokenKind) → all_kinds p ALL_KINDS ≡ true → p k ≡ true
at_kind p k a = at_listed p ALL_KINDS k a (kind_listed k)

-- an implication that passes, at a premise that holds
apply : (a b : Bool) → implies a b ≡ true → a ≡ true → b ≡ true
apply true b i e = i
apply false b i e = cc

-- an option that is no `Some`
not_some : {A : Type 0} (o : Option A) → not (is_some o) ≡ true → o ≡ None
not_some None e = refl
not_some (Some x) e = cc

-- a stack on which no symbol can take what is for a later one
abbrev pub Fine : List Symbol → Type 0
Fine [] = Unit {0}
Fine (x ∷ s) = ((k : TokenKind) → stop x k ≡ true → step s k ≡ None) × Fine s

-- a stack stays stuck where the rest of it does
stuck_on : {R : Type 0} (o : Option (List Symbol)) (n m : Bool) (a t : List Symbol) (p q : Option (List Symbol))
    → advance o n a p ≡ None → (n && m ≡ true → R) → (p ≡ None → (m ≡ true → R) → q ≡ None) → advance o n t q ≡ None
stuck_on (Some next) n m a t p q e f ih = cc
stuck_on None true m a t p q e f ih = ih e f
stuck_on None false m a t p q e f ih = refl

-- no front of a list of symbols, nor of what follows it where the list may be nothing
step_append : (a s : List Symbol) (k : TokenKind) → step a k ≡ None → (all_nullable a ≡ true → step s k ≡ None)
    → step (a ++ s) k ≡ None
step_append [] s k e f = f refl
step_append (x ∷ a) s k e f = stuck_on (after_front x k) (is_nullable x) (all_nullable a) a (a ++ s) (step a k)
    (step (a ++ s) k) e f (λ g h. step_append a s k g h)

-- symbols with closed ends, put on a fine stack
fine_append : (f : TokenKind → Bool) (a s : List Symbol) → closed f a ≡ true
    → ((k : TokenKind) → f k ≡ true → step s k ≡ None) → Fine s → Fine (a ++ s)
fine_append f [] s c g h = h
fine_append f (y ∷ ys) s c g h = (
  λ k e.
      let at = apply (stop y k) _ (at_kind
      (λ j. implies (stop y j) (not (is_some (step ys j)) && implies (all_nullable ys) (f j))) k (and_left _ _ c)) e in
      step_append ys s k (not_some (step ys k) (and_left _ _ at))
      (λ n. g k (apply (all_nullable ys) (f k) (and_right _ _ at) n)),
  fine_append f ys s (and_right _ _ c) g h,
)

-- the row that a look-up finds first
found_at : (p : Row → Bool) (r : Row) (rest : Option (List Symbol)) (next : List Symbol) (b : Bool) → p r ≡ true
    → (rest ≡ Some next → (q : Row) × (q.next ≡ next) × (p q ≡ true)) → (if b then Some r.next else rest) ≡ Some next
    → (q : Row) × (q.next ≡ next) × (p q ≡ true)
found_at p r rest next true h more e = (r, (cc), h)
found_at p r rest next false h more e = more e

-- what a look-up finds is in some row
pub found_row : (p : Row → Bool) (rs : List Row) (k : TokenKind) (next : List Symbol) → all_rows p rs ≡ true
    → find rs k ≡ Some next → (r : Row) × (r.next ≡ next) × (p r ≡ true)
found_row p [] k next a e = cc
found_row p (r ∷ rs) k next a e =
    found_at p r (find rs k) next (is_at r.front k) (and_left _ _ a) (λ h. found_row p rs k next (and_right _ _ a) h) e

-- a fine stack stays fine where its first symbol goes on
fine_next : (x : Symbol) (k : TokenKind) (next s : List Symbol) → after_front x k ≡ Some next → Fine (x ∷ s)
    → Fine (next ++ s)
unfolding after_front
fine_next x k next s e h =
    let r = found_row (λ r. closed (stop x) r.next) (rows x) k next (rows_closed x) e in
    fine_append (stop x) next s (subst (λ n. closed (stop x) n ≡ true) r.1 r.2) h.0 h.1

-- a symbol that may be nothing begins with what would make more of it
front_stops : (x : Symbol) (k : TokenKind) (next : List Symbol) → is_nullable x ≡ true → after_front x k ≡ Some next
    → stop x k ≡ true
front_stops x k next n e =
    apply (is_nullable x && is_some (after_front x k)) (stop x k)
    (at_kind (λ j. implies (is_nullable x && is_some (after_front x j)) (stop x j)) k (fronts_stop x)) (rw (n, e) refl)

-- a symbol that is left out, before a first token
skipped_at : (x : Symbol) (k : TokenKind) (s : List Symbol) (w : List TokenKind) (o : Option (List Symbol))
    → after_front x k ≡ o → is_nullable x ≡ true → ((j : TokenKind) → stop x j ≡ true → step s j ≡ None)
    → on_some (step s k) (λ t. accepts t w) ≡ true → on_some (advance o true s (step s k)) (λ t. accepts t w) ≡ true
skipped_at x k s w None g n h e = e
skipped_at x k s w (Some next) g n h e =
    let none = h k (front_stops x k next n g) in
    let no : on_some (step s k) (λ t. accepts t w) ≡ false = rw none refl in
    cc

-- a stack accepts what it accepts without a symbol that may be nothing
skipped : (x : Symbol) (s : List Symbol) (w : List TokenKind) → is_nullable x ≡ true
    → ((k : TokenKind) → stop x k ≡ true → step s k ≡ None) → accepts s w ≡ true → accepts (x ∷ s) w ≡ true
skipped x s [] n h e = rw n e
skipped x s (k ∷ w) n h e = rw n (skipped_at x k s w (after_front x k) refl n h e)

-- what the stack stands for is accepted
pub read : {a : List Symbol} {w : List TokenKind} → Forest a w → (s : List Symbol) (v : List TokenKind)
    → Fine (a ++ s) → accepts s v ≡ true → accepts (a ++ s) (w ++ v) ≡ true
read nothing s v fine e = e
read {w = w} (skip {x = x} {s = a} n f) s v fine e = skipped x (a ++ s) (w ++ v) n fine.0 (read f s v fine.1 e)
read (take {x = x} {k = k} {next = next} {s = a} {u = p} {v = q} g f h) s v fine e =
    let rest = read h s v fine.1 e in
    let inner = read f (a ++ s) (q ++ v) (fine_next x k next (a ++ s) g fine) rest in
    rw g (subst (λ r. accepts (next ++ (a ++ s)) r ≡ true) (sym (append_assoc p q v)) inner)

-- every stack that comes up can be completed

abbrev pub Completed : List Symbol → Type 0
Completed s = (c : List TokenKind) × (accepts s c ≡ true)

-- both parts of a test
and_both : (a b : Bool) → a ≡ true → b ≡ true → a && b ≡ true
and_both true b e f = f
and_both false b e f = cc

-- a choice by its left part
or_left : (a b : Bool) → a ≡ true → a || b ≡ true
or_left true b e = refl
or_left false b e = cc

-- a choice by its right part
or_right : (a b : Bool) → b ≡ true → a || b ≡ true
or_right true b e = refl
or_right false b e = e

-- what is below a rank is below a greater one
below_more : (m n : ℕ) (a : List Symbol) → m ≤ n → all_below m a ≡ true → all_below n a ≡ true
below_more m n [] l e = refl
below_more m n (y ∷ ys) l e =
    and_both _ _
    (elim (or_cases (is_nullable y) (nat_lt (rank y) m) (and_left _ _ e)) [
      | inl h ↦ or_left _ _ h
      | inr h ↦ let lt = ltb-true (rank y) m h in or_right (is_nullable y) _ (lt-ltb (rank y) n (omega (arith, lt)))
    ])
    (below_more m n ys l (and_right _ _ e))

-- no rank is below zero
no_less : (n : ℕ) → nat_lt n 0 ≡ true → ⊥
no_less n e = let h = ltb-true n 0 e in omega (arith, h)

-- a symbol that isn't is_nullable goes on by its least kind
led : (x : Symbol) (o : Option (List Symbol)) → after_front x (start_kind x) ≡ o → leads_down x o ≡ true
    → (is_nullable x ≡ true) ⊎ ((next : List Symbol) × (after_front x (start_kind x) ≡ Some next)
    × (all_below (rank x) next ≡ true))
led x None g e = inl e
led x (Some next) g e = elim (or_cases (is_nullable x) (all_below (rank x) next) e)
    [ inl h ↦ inl h | inr h ↦ inr (next, g, h) ]

-- a stack is completed through its first symbol
took : (x : Symbol) (k : TokenKind) (next s : List Symbol) (c : List TokenKind) → after_front x k ≡ Some next
    → accepts (next ++ s) c ≡ true → Completed (x ∷ s)
took x k next s c g e = (k ∷ c, rw g e)

-- symbols of rank below n can be completed on a stack that can
completed : (n : ℕ) (a s : List Symbol) → all_below n a ≡ true → Fine (a ++ s) → Completed s → Completed (a ++ s)
completed n [] s b fine c = c
completed zero (x ∷ a) s b fine c =
    let rest = completed zero a s (and_right _ _ b) fine.1 c in
    elim (or_cases (is_nullable x) (nat_lt (rank x) 0) (and_left _ _ b))
    [ inl h ↦ (rest.0, skipped x (a ++ s) rest.0 h fine.0 rest.1) | inr h ↦ absurd (no_less (rank x) h) ]
completed (suc n) (x ∷ a) s b fine c =
    let rest : Completed (a ++ s) = completed (suc n) a s
    (and_right (is_nullable x || nat_lt (rank x) (suc n)) (all_below (suc n) a) b) fine.1 c in
    elim (or_cases (is_nullable x) (nat_lt (rank x) (suc n)) (and_left _ _ b)) [
      | inl h ↦ (rest.0, skipped x (a ++ s) rest.0 h fine.0 rest.1)
      | inr h ↦
          let lt : rank x < suc n = ltb-true (rank x) (suc n) h in
          elim (led x (after_front x (start_kind x)) refl (leads x)) [
            | inl m ↦ (rest.0, skipped x (a ++ s) rest.0 m fine.0 rest.1)
            | inr l ↦
                let le : rank x ≤ n = omega (arith, lt) in
                let more = completed n l.0 (a ++ s) (below_more (rank x) n l.0 le l.2)
                (fine_next x (start_kind x) l.0 (a ++ s) l.1 fine) rest in
                took x (start_kind x) l.0 (a ++ s) more.0 l.1 more.1
          ]
    ]

-- each fine stack can be completed
pub completes : (s : List Symbol) → Fine s → Completed s
completes [] fine = ([], refl)
completes (x ∷ s) fine =
    let b : nat_lt (rank x) (suc (rank x)) ≡ true = lt-ltb (rank x) (suc (rank x)) (omega arith) in
    completed (suc (rank x)) (x ∷ []) s (and_both _ _ (or_right (is_nullable x) _ b) refl) fine (completes s fine.1)

-- runs

-- a fine stack stays fine after a token, by how its first symbol goes on
fine_step_at : (x : Symbol) (s t : List Symbol) (k : TokenKind) (o : Option (List Symbol)) (n : Bool)
    → after_front x k ≡ o → Fine (x ∷ s) → (step s k ≡ Some t → Fine t) → advance o n s (step s k) ≡ Some t → Fine t
fine_step_at x s t k (Some next) n g fine below h =
    let e : next ++ s ≡ t = cc in subst Fine e (fine_next x k next s g fine)
fine_step_at x s t k None true g fine below h = below h
fine_step_at x s t k None false g fine below h = cc

-- a fine stack stays fine after a token
fine_step : (s t : List Symbol) (k : TokenKind) → Fine s → step s k ≡ Some t → Fine t
fine_step [] t k fine e = cc
fine_step (x ∷ s) t k fine e =
    fine_step_at x s t k (after_front x k) (is_nullable x) refl fine (λ h. fine_step s t k fine.1 h) e

-- a fine stack stays fine after tokens, by the first of them
fine_run_at : (w : List TokenKind) (s t : List Symbol) (k : TokenKind) (o : Option (List Symbol)) → Fine s
    → step s k ≡ o → ((r : List Symbol) → Fine r → run r w ≡ Some t → Fine t) → bind o (λ r. run r w) ≡ Some t
    → Fine t
fine_run_at w s t k None fine g ih h = cc
fine_run_at w s t k (Some r) fine g ih h = ih r (fine_step s r k fine g) h

-- a fine stack stays fine after tokens
pub fine_run : (w : List TokenKind) (s t : List Symbol) → Fine s → run s w ≡ Some t → Fine t
fine_run [] s t fine e = let e' : s ≡ t = cc in subst Fine e' fine
fine_run (k ∷ w) s t fine e = fine_run_at w s t k (step s k) fine refl (λ r f h. fine_run w r t f h) e

-- to accept two lists, after the first step
accepts_run_at : (u v : List TokenKind) (o : Option (List Symbol))
    → ((t : List Symbol) → accepts t (u ++ v) ≡ on_some (run t u) (λ r. accepts r v))
    → on_some o (λ t. accepts t (u ++ v)) ≡ on_some (bind o (λ t. run t u)) (λ r. accepts r v)
accepts_run_at u v None ih = refl
accepts_run_at u v (Some t) ih = ih t

-- to accept two lists is to accept the second after a run over the first
pub accepts_run : (u v : List TokenKind) (s : List Symbol) → accepts s (u ++ v) ≡ on_some (run s u) (λ t. accepts t v)
accepts_run [] v s = refl
accepts_run (k ∷ u) v s = accepts_run_at u v (step s k) (λ t. accepts_run u v t)

abbrev pub start : List Symbol
start = Schema ∷ []

-- the first stack is fine
pub fine_start : Fine start
fine_start = ((λ k e. refl), tt)
