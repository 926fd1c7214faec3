-- A place is refused for one reason.
use Rattle.std.proofs.Common.{◌≡◌, ◌≢◌, ℕ, List, refl, sym, ap, subst, ◌∙◌, take}
use Rattle.cedar_data.specs.Span.{Span}
use Rattle.schema_syntax.specs.SyntaxFaults.{IsSyntaxFault}
use Rattle.schema_syntax.specs.ParseAnswers.{error_of}
use Rattle.schema_syntax.specs.declared.syntax_fault.SyntaxFault.{SyntaxFault}
use Rattle.schema_syntax_errors.specs.declared.parse_error.ParseError.{ParseError}
use Rattle.schema_assist_words.specs.Before.{IsPartialWord}
use Rattle.schema_assist_words.specs.Refusals.{IsHeadFault, IsAssistRefusal}
use Rattle.schema_assist_words.specs.declared.text_before.AssistError.{AssistError}
use Rattle.schema_assist_words.specs.declared.text_before.AssistError.TheVariants.{BadPlace, Syntax, Memory}

module _ (one_word : (head : List ℕ) (first second : Span) → IsPartialWord head first → IsPartialWord head second
    → first ≡ second)
    (one_fault : (text : List ℕ) (fault other : SyntaxFault) → IsSyntaxFault text fault → IsSyntaxFault text other
    → fault ≡ other) where
  one_head_fault : (head : List ℕ) (error other : ParseError) → IsHeadFault head error → IsHeadFault head other
      → error ≡ other
  one_head_fault head error other h k =
      let same = one_word head h.partial k.partial h.partial_word k.partial_word in
      let there : IsSyntaxFault (take h.partial.start head) k.fault =
      subst (λ (p : Span). IsSyntaxFault (take p.start head) k.fault) (sym same) k.is in
      h.told ∙ (ap error_of (one_fault (take h.partial.start head) h.fault k.fault h.is there) ∙ sym k.told)

  pub one_reason : (text : List ℕ) (at : ℕ) (error other : AssistError) → error ≢ Memory → other ≢ Memory
      → IsAssistRefusal text at error → IsAssistRefusal text at other → error ≡ other
  one_reason text at BadPlace BadPlace n m h k = refl
  one_reason text at BadPlace (Syntax f) n m h k = absurd (h k.0)
  one_reason text at BadPlace Memory n m h k = absurd (m refl)
  one_reason text at (Syntax e) BadPlace n m h k = absurd (k h.0)
  one_reason text at (Syntax e) (Syntax f) n m h k = ap Syntax (one_head_fault (take at text) e f h.1 k.1)
  one_reason text at (Syntax e) Memory n m h k = absurd (m refl)
  one_reason text at Memory other n m h k = absurd (n refl)
