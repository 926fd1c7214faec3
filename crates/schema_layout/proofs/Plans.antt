-- For the same words and the same input there is one report at most.
use Rattle.std.proofs.Common.{◌≡◌, ◌<◌, ◌≤◌, ℕ, List, [], ◌∷◌, refl, sym, ap, ◌∙◌, subst, arith, IsUtf8, Result, length}
use Rattle.std.proofs.Common.{get_or}
use Rattle.std.specs.Result.{IfOk}
use Rattle.std.specs.declared.alloc.AllocError.{AllocError}
use Rattle.std.proofs.lemmas.Result.{IfOk-weaker}
use Rattle.cedar_runs.specs.declared.reply.Reply.{Reply}
use Rattle.cedar_runs.specs.Reports.{Report, report_of, IsTextReport, too_long, not_text, answered}
use Rattle.schema_syntax_errors.specs.declared.parse_error.ParseError.{ParseError}
use Rattle.schema_syntax_errors.specs.declared.parse_errors.ParseErrors.{ParseErrors}
use Rattle.schema_syntax.specs.ParseAnswers.{IsTreeOfText, IsErrorOf}
use Rattle.schema_syntax_tree.specs.declared.annotated.Annotated.{Annotated}
use Rattle.schema_syntax_tree.specs.declared.namespace.Namespace.{Namespace}
use Rattle.schema_layout_pieces.specs.Pieces.{SourcePiece, IsPieces}
use Rattle.schema_layout_pieces.specs.Layout.{laid}
use Rattle.schema_layout.specs.Plans.{IsLayoutAnswer, done, refused, done_report, refused_report, IsLayoutPlan, usage}
use Rattle.schema_layout.specs.Plans.{asked}

-- the reply says what the report says
pub so : (P : Report → Type 0) (r : Result Reply AllocError) (report : Report) → P report
    → IfOk r (λ reply. report_of reply ≡ report) → IfOk r (λ reply. P (report_of reply))
so P r report h is = IfOk-weaker r _ _ (λ reply e. subst P (sym e) h) is

module _ (one_list : (text : List ℕ) (ps qs : List SourcePiece) → IsPieces text ps → IsPieces text qs → ps ≡ qs)
    (one_error : (text : List ℕ) → IsUtf8 text → (e f : ParseError) → IsErrorOf text e → IsErrorOf text f → e ≡ f)
    (apart : (text : List ℕ) (tree : List (Annotated Namespace)) (e : ParseError) → IsTreeOfText text tree
    → IsErrorOf text e → ⊥) where
  told_once : (errors others : ParseErrors) (e f : ParseError) → errors.errors ≡ e ∷ [] → others.errors ≡ f ∷ []
      → e ≡ f → refused_report errors ≡ refused_report others
  told_once errors others e f h k same =
      let all : errors.errors ≡ others.errors = h ∙ (ap (λ x. x ∷ []) same ∙ sym k) in
      ap (λ x. refused_report (record { errors = x })) all

  one_answer : (text : List ℕ) (report other : Report) → IsUtf8 text → IsLayoutAnswer text report
      → IsLayoutAnswer text other → report ≡ other
  one_answer text report other u (done out t (ps, h, e)) (done out' t' (qs, k, f)) =
      ap done_report (e ∙ (ap laid (one_list text ps qs h k) ∙ sym f))
  one_answer text report other u (done out t h) (refused errors (e, is, k)) = absurd (apart text t.0 e t.1 k)
  one_answer text report other u (refused errors (e, is, k)) (done out t h) = absurd (apart text t.0 e t.1 k)
  one_answer text report other u (refused errors (e, is, h)) (refused others (f, too, k)) =
      told_once errors others e f is too (one_error text u e f h k)

  one_text_report : (bytes : List ℕ) (report other : Report) → IsTextReport IsLayoutAnswer bytes report
      → IsTextReport IsLayoutAnswer bytes other → report ≡ other
  one_text_report bytes report other (too_long h) (too_long k) = refl
  one_text_report bytes report other (too_long h) (not_text s k) = absurd (omega (arith, h, s))
  one_text_report bytes report other (too_long h) (answered s u k) = absurd (omega (arith, h, s))
  one_text_report bytes report other (not_text s h) (too_long k) = absurd (omega (arith, k, s))
  one_text_report bytes report other (not_text s h) (not_text t k) = refl
  one_text_report bytes report other (not_text s h) (answered t u k) = absurd (h u)
  one_text_report bytes report other (answered s u h) (too_long k) = absurd (omega (arith, k, s))
  one_text_report bytes report other (answered s u h) (not_text t k) = absurd (k u)
  one_text_report bytes report other (answered s u h) (answered t v k) = one_answer bytes report other u h k

  pub one_layout_plan : (words : List (List ℕ)) (bytes : List ℕ) (report other : Report)
      → IsLayoutPlan words bytes report → IsLayoutPlan words bytes other → report ≡ other
  one_layout_plan words bytes report other (usage h) (usage k) = refl
  one_layout_plan words bytes report other (usage h) (asked c a k) = absurd (h c a)
  one_layout_plan words bytes report other (asked c a h) (usage k) = absurd (k c a)
  one_layout_plan words bytes report other (asked c a h) (asked d b k) = one_text_report bytes report other h k

-- a list of one item is that item
pub one_word : {A : Type 0} (xs : List A) (x : A) → 1 ≤ length xs → length xs < 2 → x ≡ get_or xs 0 x → xs ≡ x ∷ []
one_word [] x some few is = absurd (omega arith)
one_word (y ∷ []) x some few is = ap (λ z. z ∷ []) (sym is)
one_word (y ∷ z ∷ xs) x some few is = absurd (omega arith)
