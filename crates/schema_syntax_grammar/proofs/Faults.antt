-- Where the kinds stop being the beginning of a sentence.
use Rattle.std.proofs.Common.{◌≡◌, ℕ, ◌+◌, ◌<◌, ◌≤◌, List, [], ◌∷◌, ◌++◌, length, map, take, drop, get_or}
use Rattle.std.proofs.Common.{true, false, Option, Some, None, sym, ap, ◌∙◌, subst, arith, add-one, append_assoc, inl}
use Rattle.std.proofs.Common.{inr, IsTrue}
use Rattle.std.proofs.Common.{◌↔◌}
use Rattle.std.specs.Prelude.{slice_get}
use Rattle.std.proofs.Math.Seq.{take-suc, take-length}
use Rattle.std.proofs.lemmas.Option.{slice_get-get_or, slice_get_past}
use Rattle.std.proofs.lemmas.List.{take-append-drop, get_or-map, length-map}
use Rattle.std.proofs.lemmas.Bool.{cases_lt}
use Rattle.std.specs.List.{filter}
use Rattle.schema_syntax_grammar.specs.declared.token_kind.TokenKind.{TokenKind}
use Rattle.schema_syntax_grammar.specs.declared.token_kind.TokenKind.TheVariants.{KwNamespace}
use Rattle.schema_syntax_grammar.specs.declared.token_kind.TheConstants.{ALL_KINDS}
use Rattle.schema_syntax_grammar.specs.declared.symbol.Symbol.{Symbol}
use Rattle.schema_syntax_grammar.specs.declared.symbol.Symbol.TheVariants.{Schema}
use Rattle.schema_syntax_grammar.specs.Grammar.{Sentence, Viable, IsExpected}
use Rattle.schema_syntax_grammar.specs.Fault.{IsFault}
use Rattle.schema_syntax_grammar.specs.Machine.{step, all_nullable, bind, run, may}
use Rattle.schema_syntax_grammar.proofs.Main.{no_stack, one_more, stack_viable, end_iff, may_iff, sentence_viable}

-- a front of viable kinds is viable
pub front_viable : (a b : List TokenKind) → Viable (a ++ b) → Viable a
front_viable a b v = (b ++ v.0, rw append_assoc at v.1)

module _ (kinds : List TokenKind) (i : ℕ) (old : List Symbol) (lt : i < length kinds)
    (e : run (Schema ∷ []) (take i kinds) ≡ Some old) where
  -- a run over one kind more of the list
  one_further : (o : Option (List Symbol)) → step old (get_or kinds i KwNamespace) ≡ o
      → run (Schema ∷ []) (take (i + 1) kinds) ≡ bind o (λ t. Some t)
  one_further o s =
      rw (add-one, take-suc kinds i KwNamespace lt)
      (one_more (take i kinds) old (get_or kinds i KwNamespace) e ∙ ap (λ x. bind x (λ t. Some t)) s)

  -- the stack after one kind more
  pub further : (new : List Symbol) → step old (get_or kinds i KwNamespace) ≡ Some new
      → run (Schema ∷ []) (take (i + 1) kinds) ≡ Some new
  further new s = one_further (Some new) s

  -- where the next kind is not taken, one kind more begins no sentence
  pub stopped : ((k : TokenKind) → slice_get kinds i ≡ Some k → step old k ≡ None) → Viable (take (i + 1) kinds) → ⊥
  stopped stops v = no_stack (take (i + 1) kinds)
      (one_further None (stops (get_or kinds i KwNamespace) (slice_get-get_or kinds i KwNamespace lt))) v

  -- kinds of which not all are read are not viable
  pub cut_short : ((k : TokenKind) → slice_get kinds i ≡ Some k → step old k ≡ None) → Viable kinds → ⊥
  cut_short stops v = stopped stops
      (front_viable (take (i + 1) kinds) (drop (i + 1) kinds) (subst Viable (sym (take-append-drop (i + 1) kinds)) v))

  -- nor are they a sentence
  pub cut_iff : ((k : TokenKind) → slice_get kinds i ≡ Some k → step old k ≡ None) → IsTrue false ↔ Sentence kinds
  cut_iff stops = ((λ t. cc), (λ s. absurd (cut_short stops (sentence_viable kinds s))))

-- the stack after one token more, whose kind it takes
pub further_of : {T : Type 0} (f : T → TokenKind) (tokens : List T) (i : ℕ) (old new : List Symbol) (token : T)
    → i < length tokens → token ≡ get_or tokens i token → run (Schema ∷ []) (take i (map f tokens)) ≡ Some old
    → step old (f token) ≡ Some new → run (Schema ∷ []) (take (i + 1) (map f tokens)) ≡ Some new
further_of f tokens i old new token lt here e s =
    let same : get_or (map f tokens) i KwNamespace ≡ f token =
    get_or-map f tokens i token KwNamespace lt ∙ ap f (sym here) in
    further (map f tokens) i old (rw length-map lt) e new (rw same s)

-- no kind stands past the end
pub none_past : {T : Type 0} (f : T → TokenKind) (tokens : List T) (k : TokenKind) (P : Type 0)
    → slice_get (map f tokens) (length tokens) ≡ Some k → P
none_past f tokens k P e =
    let past : length (map f tokens) ≤ length tokens = rw length-map (omega arith) in
    let n = slice_get_past (map f tokens) (length tokens) past in cc

-- the stack after all the kinds
pub whole : (kinds : List TokenKind) (i : ℕ) (s : List Symbol) → i ≤ length kinds → length kinds ≤ i
    → run (Schema ∷ []) (take i kinds) ≡ Some s → run (Schema ∷ []) kinds ≡ Some s
whole kinds i s le ge e =
    let n : i ≡ length kinds = omega arith in
    let t : take i kinds ≡ kinds = ap (λ j. take j kinds) n ∙ take-length kinds in
    subst (λ w. run (Schema ∷ []) w ≡ Some s) t e

-- where the end may come after all the kinds, they are a sentence
pub whole_sentence : (kinds : List TokenKind) (i : ℕ) (s : List Symbol) → i ≡ length kinds
    → run (Schema ∷ []) (take i kinds) ≡ Some s → all_nullable s ≡ true → Sentence kinds
whole_sentence kinds i s n e a = (end_iff kinds s (whole kinds i s (omega arith) (omega arith) e)).0 a

-- what the stack allows after all the kinds
pub expected : (kinds list : List TokenKind) (i : ℕ) (s : List Symbol) → i ≤ length kinds → length kinds ≤ i
    → run (Schema ∷ []) (take i kinds) ≡ Some s → list ≡ filter (may s) ALL_KINDS
    → Viable kinds × IsExpected ALL_KINDS kinds list
expected kinds list i s le ge e l =
    let r = whole kinds i s le ge e in (stack_viable kinds s r, (may s, may_iff kinds s r, l))

-- where a kind is not taken or the end may not come, the kinds are no sentence
no_whole : (kinds : List TokenKind) (i : ℕ) (s : List Symbol) → i ≤ length kinds
    → run (Schema ∷ []) (take i kinds) ≡ Some s → ((k : TokenKind) → slice_get kinds i ≡ Some k → step s k ≡ None)
    → (i ≡ length kinds → all_nullable s ≡ false) → Sentence kinds → ⊥
no_whole kinds i s le e stops ends h =
    elim (cases_lt i (length kinds)) [
      | inl lt ↦ cut_short kinds i s lt e stops (sentence_viable kinds h)
      | inr ge ↦
          let n : i ≡ length kinds = omega (arith, ge, le) in
          let yes = (end_iff kinds s (whole kinds i s le ge e)).1 h in
          let no_end = ends n in
          cc
    ]

-- what the longest front says of the fault
pub fault : (kinds list : List TokenKind) (i : ℕ) (s : List Symbol) → i ≤ length kinds
    → run (Schema ∷ []) (take i kinds) ≡ Some s → ((k : TokenKind) → slice_get kinds i ≡ Some k → step s k ≡ None)
    → (i ≡ length kinds → all_nullable s ≡ false) → list ≡ filter (may s) ALL_KINDS → IsFault ALL_KINDS kinds i list
fault kinds list i s le e stops ends l = record {
  within = le;
  viable = stack_viable (take i kinds) s e;
  stops = λ lt. stopped kinds i s lt e stops;
  no_sentence = no_whole kinds i s le e stops ends;
  expected = (may s, may_iff (take i kinds) s e, l);
}
