-- The machine's answers, in the grammar's words.
use Rattle.std.proofs.Common.{◌≡◌, List, [], ◌∷◌, ◌++◌, true, false, Option, Some, None, refl, sym, ap, ◌∙◌, subst}
use Rattle.std.proofs.Common.{IsTrue, is_some, ◌↔◌}
use Rattle.schema_syntax_grammar.specs.declared.token_kind.TokenKind.{TokenKind}
use Rattle.schema_syntax_grammar.specs.declared.token_kind.TokenKind.TheVariants.{End}
use Rattle.schema_syntax_grammar.specs.declared.symbol.Symbol.{Symbol}
use Rattle.schema_syntax_grammar.specs.declared.symbol.Symbol.TheVariants.{Schema}
use Rattle.schema_syntax_grammar.specs.Grammar.{Sentence, Viable, MayFollow}
use Rattle.schema_syntax_grammar.specs.Machine.{step, all_nullable, accepts, bind, run, may}
use Rattle.schema_syntax_grammar.proofs.Theory.{Forest, stands}
use Rattle.schema_syntax_grammar.proofs.Accept.{read, fine_start, completes, fine_run, accepts_run}
use Rattle.schema_syntax_grammar.proofs.Complete.{sentence_forest}
use Rattle.schema_syntax_grammar.proofs.Sound.{forest_sentence, append_nil}

-- what the machine accepts is a sentence
pub accepted_sentence : (w : List TokenKind) → accepts (Schema ∷ []) w ≡ true → Sentence w
accepted_sentence w e = forest_sentence (stands w (Schema ∷ []) e)

-- the machine accepts each sentence
pub sentence_accepted : (w : List TokenKind) → Sentence w → accepts (Schema ∷ []) w ≡ true
sentence_accepted w p =
    let f = sentence_forest p in
    let f' = subst (Forest (Schema ∷ [])) (append_nil w) f in
    let e = read f' [] [] fine_start refl in
    subst (λ v. accepts (Schema ∷ []) v ≡ true) (append_nil w) e

-- where the machine stops, no sentence begins so
pub no_stack : (w : List TokenKind) → run (Schema ∷ []) w ≡ None → Viable w → ⊥
no_stack w e v =
    let a = sentence_accepted (w ++ v.0) v.1 in
    let b : accepts (Schema ∷ []) (w ++ v.0) ≡ false = accepts_run w v.0 (Schema ∷ []) ∙ rw e refl in
    cc

-- a run over two lists, after its first step
run_append_at : (u v : List TokenKind) (o : Option (List Symbol))
    → ((t : List Symbol) → run t (u ++ v) ≡ bind (run t u) (λ r. run r v))
    → bind o (λ t. run t (u ++ v)) ≡ bind (bind o (λ t. run t u)) (λ r. run r v)
run_append_at u v None ih = refl
run_append_at u v (Some t) ih = ih t

-- a run over two lists is one after the other
run_append : (u v : List TokenKind) (s : List Symbol) → run s (u ++ v) ≡ bind (run s u) (λ t. run t v)
run_append [] v s = refl
run_append (k ∷ u) v s = run_append_at u v (step s k) (λ t. run_append u v t)

module _ (w : List TokenKind) (stack : List Symbol) (e : run (Schema ∷ []) w ≡ Some stack) where
  -- what is accepted after the kinds is what their stack accepts
  on_stack : (v : List TokenKind) → accepts (Schema ∷ []) (w ++ v) ≡ accepts stack v
  on_stack v = accepts_run w v (Schema ∷ []) ∙ rw e refl

  -- the kinds are accepted where their stack may stand for nothing
  on_stack_end : accepts (Schema ∷ []) w ≡ all_nullable stack
  on_stack_end = ap (accepts (Schema ∷ [])) (sym (append_nil w)) ∙ on_stack []

  -- the end may come exactly where the kinds are a sentence
  pub end_iff : IsTrue (all_nullable stack) ↔ Sentence w
  end_iff = ((λ t. accepted_sentence w (on_stack_end ∙ t)), (λ s. sym on_stack_end ∙ sentence_accepted w s))

  -- kinds with a stack begin a sentence
  pub stack_viable : Viable w
  stack_viable =
      let c = completes stack (fine_run w (Schema ∷ []) stack fine_start e) in
      (c.0, accepted_sentence (w ++ c.0) (on_stack c.0 ∙ c.1))

-- a run over one kind more
pub one_more : (w : List TokenKind) (stack : List Symbol) (k : TokenKind) → run (Schema ∷ []) w ≡ Some stack
    → run (Schema ∷ []) (w ++ k ∷ []) ≡ bind (step stack k) (λ t. Some t)
one_more w stack k e = run_append w (k ∷ []) (Schema ∷ []) ∙ rw e refl

-- one kind more begins a sentence exactly where there is a stack after it
goes_on : (w : List TokenKind) (k : TokenKind) (o : Option (List Symbol))
    → run (Schema ∷ []) (w ++ k ∷ []) ≡ bind o (λ t. Some t) → IsTrue (is_some o) ↔ Viable (w ++ k ∷ [])
goes_on w k None r = ((λ t. cc), (λ v. absurd (no_stack (w ++ k ∷ []) r v)))
goes_on w k (Some t) r = ((λ _. stack_viable (w ++ k ∷ []) t r), (λ v. refl))

-- the machine takes a kind exactly where a sentence begins so
pub kind_iff : (w : List TokenKind) (stack : List Symbol) → run (Schema ∷ []) w ≡ Some stack → (k : TokenKind)
    → IsTrue (is_some (step stack k)) ↔ Viable (w ++ k ∷ [])
kind_iff w stack e k = goes_on w k (step stack k) (one_more w stack k e)

-- the test that the code makes is that the kind may follow
pub may_iff : (w : List TokenKind) (stack : List Symbol) → run (Schema ∷ []) w ≡ Some stack → (k : TokenKind)
    → IsTrue (may stack k) ↔ MayFollow w k
may_iff w stack e End = end_iff w stack e
may_iff w stack e k = kind_iff w stack e k

-- kinds that are a sentence are viable
pub sentence_viable : (w : List TokenKind) → Sentence w → Viable w
sentence_viable w s = ([], subst Sentence (sym (append_nil w)) s)
