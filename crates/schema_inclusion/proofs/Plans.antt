-- For the same words and the same input there is one report at most.
use Rattle.std.proofs.Common.{◌≡◌, ◌≢◌, ℕ, List, [], ◌∷◌, ◌++◌, Option, refl, sym, ap, ◌∙◌, subst, arith}
use Rattle.std.proofs.Common.{Result, IsUtf8}
use Rattle.std.specs.Prelude.{codes}
use Rattle.std.specs.Option.{option_map}
use Rattle.std.specs.Str.{encode_utf8_all}
use Rattle.std.specs.Result.{IfOk}
use Rattle.std.specs.declared.alloc.AllocError.{AllocError}
use Rattle.std.proofs.lemmas.Result.{IfOk-weaker}
use Rattle.cedar_messages.specs.Messages.{AreMessages}
use Rattle.cedar_names.specs.Meaning.{SchemaMeaning}
use Rattle.cedar_names.specs.declared.extension_table.ExtensionTable.{ExtensionTable}
use Rattle.cedar_schema_core.specs.Commands.{AsksForTable}
use Rattle.cedar_runs.specs.declared.reply.Reply.{Reply}
use Rattle.cedar_runs.specs.declared.status.Status.TheVariants.{Refused}
use Rattle.cedar_runs.specs.Reports.{Report, report_of}
use Rattle.laws_inclusion.specs.TextMeans.{TextMeans}
use Rattle.schema_build.specs.TextErrorTexts.{text_error_text}
use Rattle.schema_build.specs.Texts.{IsTextError}
use Rattle.schema_build.specs.declared.text_errors.CedarSchemaError.{CedarSchemaError}
use Rattle.schema_build.specs.declared.text_errors.CedarSchemaError.TheVariants as refused
use Rattle.schema_inclusion_values.specs.Admits.{SchemaValue}
use Rattle.schema_inclusion_values.specs.Lost.{lost}
use Rattle.schema_inclusion_check.specs.Subjects.{subject}
use Rattle.schema_inclusion_texts.specs.Inclusions.{IsInclusionAnswer}
use Rattle.schema_inclusion.specs.declared.run.Include.{Include}
use Rattle.schema_inclusion.specs.Plans.{Asks, done_report, refused_report, IsTextsReport, compared}
use Rattle.schema_inclusion.specs.Plans.{old_refused, new_refused, IsInclusionReport, too_long, not_two, two}
use Rattle.schema_inclusion.specs.Plans.{IsInclusionPlan, usage, asked}

-- the reply says what the report says
pub so : (P : Report → Type 0) (r : Result Reply AllocError) (report : Report) → P report
    → IfOk r (λ reply. report_of reply ≡ report) → IfOk r (λ reply. P (report_of reply))
so P r report h is = IfOk-weaker r _ _ (λ reply e. subst P (sym e) h) is

-- the two first words differ
pub words_differ : codes "include" ≢ codes "include-with"
words_differ e = cc

-- words ask for one comparison
pub one_include : ((plain with : List ℕ) (words : List (List ℕ)) (t u : ExtensionTable) → plain ≢ with
    → AsksForTable plain with words t → AsksForTable plain with words u → t ≡ u)
    → (words : List (List ℕ)) (c d : Include) → Asks words c → Asks words d → c ≡ d
one_include one words c d a b =
    ap (λ t. let r : Include = record { table = t } in r)
    (one (codes "include") (codes "include-with") words c.table d.table words_differ a b)

both_same : (a b c d : List ℕ) → a ∷ b ∷ [] ≡ c ∷ d ∷ [] → (a ≡ c) × (b ≡ d)
both_same a b c d e = (cc, cc)

module _ (one_table : (plain with : List ℕ) (words : List (List ℕ)) (t u : ExtensionTable) → plain ≢ with
    → AsksForTable plain with words t → AsksForTable plain with words u → t ≡ u)
    (one_messages : (bytes : List ℕ) (messages others : List (List ℕ)) → AreMessages bytes messages
    → AreMessages bytes others → messages ≡ others)
    (one_meaning : (text : List ℕ) (table : ExtensionTable) (m n : SchemaMeaning) → TextMeans text table m
    → TextMeans text table n → m ≡ n)
    (one_refusal : (text : List ℕ) (table : ExtensionTable) (e other : CedarSchemaError) → IsUtf8 text
    → e ≢ refused.Memory → other ≢ refused.Memory → IsTextError text table e → IsTextError text table other
    → text_error_text e ≡ text_error_text other)
    (nothing : (text : List ℕ) (table : ExtensionTable) (e : CedarSchemaError) (m : SchemaMeaning)
    → e ≢ refused.Memory → IsTextError text table e → TextMeans text table m → ⊥) where
  one_subject : (old new : List ℕ) (table : ExtensionTable) (found other : Option SchemaValue)
      → IsInclusionAnswer old new table found → IsInclusionAnswer old new table other
      → option_map subject found ≡ option_map subject other
  one_subject old new table found other h k =
      let olds = one_meaning old table h.old k.old h.old_means k.old_means in
      let news = one_meaning new table h.new k.new h.new_means k.new_means in
      h.chosen ∙ ((λ i. option_map subject (lost (olds i) (news i))) ∙ sym k.chosen)

  refused_alike : (e other : CedarSchemaError) → text_error_text e ≡ text_error_text other
      → refused_report e ≡ refused_report other
  refused_alike e other same = λ i. record {
    status = Refused;
    out = [];
    err = encode_utf8_all (codes "error: " ++ (same i ++ codes "\n"));
  }

  one_texts_report : (table : ExtensionTable) (old new : List ℕ) (report other : Report) → IsUtf8 old → IsUtf8 new
      → IsTextsReport table old new report → IsTextsReport table old new other → report ≡ other
  one_texts_report table old new report other u v (compared found h) (compared found' k) =
      ap done_report (one_subject old new table found found' h k)
  one_texts_report table old new report other u v (compared found h) (old_refused e n k) =
      absurd (nothing old table e h.old n k h.old_means)
  one_texts_report table old new report other u v (compared found h) (new_refused e n m k) =
      absurd (nothing new table e h.new n k h.new_means)
  one_texts_report table old new report other u v (old_refused e n h) (compared found k) =
      absurd (nothing old table e k.old n h k.old_means)
  one_texts_report table old new report other u v (old_refused e n h) (old_refused f m k) =
      refused_alike e f (one_refusal old table e f u n m h k)
  one_texts_report table old new report other u v (old_refused e n h) (new_refused f l (m, means) k) =
      absurd (nothing old table e m n h means)
  one_texts_report table old new report other u v (new_refused e n m h) (compared found k) =
      absurd (nothing new table e k.new n h k.new_means)
  one_texts_report table old new report other u v (new_refused e n (m, means) h) (old_refused f l k) =
      absurd (nothing old table f m l k means)
  one_texts_report table old new report other u v (new_refused e n m h) (new_refused f l p k) =
      refused_alike e f (one_refusal new table e f v n l h k)

  one_report : (table : ExtensionTable) (bytes : List ℕ) (report other : Report)
      → IsInclusionReport table bytes report → IsInclusionReport table bytes other → report ≡ other
  one_report table bytes report other (too_long h) (too_long k) = refl
  one_report table bytes report other (too_long h) (not_two s n) = absurd (omega (arith, h, s))
  one_report table bytes report other (too_long h) (two s a b t k) = absurd (omega (arith, h, s))
  one_report table bytes report other (not_two s n) (too_long k) = absurd (omega (arith, k, s))
  one_report table bytes report other (not_two s n) (not_two t k) = refl
  one_report table bytes report other (not_two s n) (two t a b two_are k) = absurd (n a b two_are)
  one_report table bytes report other (two s a b t h) (too_long k) = absurd (omega (arith, k, s))
  one_report table bytes report other (two s a b are h) (not_two t n) = absurd (n a b are)
  one_report table bytes report other (two s a b are h) (two t c d too k) =
      let same = both_same a b c d (one_messages bytes (a ∷ b ∷ []) (c ∷ d ∷ []) are.messages too.messages) in
      one_texts_report table a b report other are.old_utf8 are.new_utf8 h
      (subst (λ x. IsTextsReport table x b other) (sym same.0)
      (subst (λ x. IsTextsReport table c x other) (sym same.1) k))

  pub one_inclusion_plan : (words : List (List ℕ)) (bytes : List ℕ) (report other : Report)
      → IsInclusionPlan words bytes report → IsInclusionPlan words bytes other → report ≡ other
  one_inclusion_plan words bytes report other (usage h) (usage k) = refl
  one_inclusion_plan words bytes report other (usage h) (asked c a k) = absurd (h c a)
  one_inclusion_plan words bytes report other (asked c a h) (usage k) = absurd (k c a)
  one_inclusion_plan words bytes report other (asked c a h) (asked d b k) =
      one_report c.table bytes report other h
      (subst (λ (x : Include). IsInclusionReport x.table bytes other) (sym (one_include one_table words c d a b)) k)
