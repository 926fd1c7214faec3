-- For the same words and the same input there is one report at most.
use Rattle.std.proofs.Common.{◌≡◌, ◌≢◌, ℕ, List, [], refl, sym, ap, subst, arith, Result}
use Rattle.std.specs.Prelude.{codes}
use Rattle.std.specs.Result.{IfOk}
use Rattle.std.specs.declared.alloc.AllocError.{AllocError}
use Rattle.std.proofs.lemmas.Result.{IfOk-weaker}
use Rattle.cedar_messages.specs.Messages.{AreMessages}
use Rattle.cedar_names.specs.Meaning.{SchemaMeaning}
use Rattle.cedar_names.specs.declared.extension_table.ExtensionTable.{ExtensionTable}
use Rattle.cedar_schema_core.specs.Commands.{AsksForTable}
use Rattle.cedar_schema_core.specs.Meanings.{TextMeaning}
use Rattle.cedar_runs.specs.declared.reply.Reply.{Reply}
use Rattle.cedar_runs.specs.Reports.{Report, report_of}
use Rattle.schema_registry.specs.Replies.{AreMeanings, AreAllReplies, AreReplies}
use Rattle.schema_registry.specs.declared.run.Register.{Register}
use Rattle.schema_registry.specs.Plans.{Asks, IsRegistryAnswer, too_long, cut_short, done, done_report, IsRegistryPlan}
use Rattle.schema_registry.specs.Plans.{usage, asked}
use Rattle.schema_registry.proofs.Meanings.{one_replies, once, none_once}

-- the reply says what the report says
pub so : (P : Report → Type 0) (r : Result Reply AllocError) (report : Report) → P report
    → IfOk r (λ reply. report_of reply ≡ report) → IfOk r (λ reply. P (report_of reply))
so P r report h is = IfOk-weaker r _ _ (λ reply e. subst P (sym e) h) is

-- the two first words differ
pub words_differ : codes "register" ≢ codes "register-with"
words_differ e = cc

-- words ask for one registry
pub one_register : ((plain with : List ℕ) (words : List (List ℕ)) (t u : ExtensionTable) → plain ≢ with
    → AsksForTable plain with words t → AsksForTable plain with words u → t ≡ u)
    → (words : List (List ℕ)) (c d : Register) → Asks words c → Asks words d → c ≡ d
one_register one words c d a b =
    ap (λ t. let r : Register = record { table = t } in r)
    (one (codes "register") (codes "register-with") words c.table d.table words_differ a b)

module _ (one_table : (plain with : List ℕ) (words : List (List ℕ)) (t u : ExtensionTable) → plain ≢ with
    → AsksForTable plain with words t → AsksForTable plain with words u → t ≡ u)
    (one : (text : List ℕ) (table : ExtensionTable) (m n : SchemaMeaning) → TextMeaning text table m
    → TextMeaning text table n → m ≡ n)
    (one_messages : (bytes : List ℕ) (messages others : List (List ℕ)) → AreMessages bytes messages
    → AreMessages bytes others → messages ≡ others)
    (one_meanings : (table : ExtensionTable) (messages : List (List ℕ)) (all others : List SchemaMeaning)
    → AreMeanings table messages all → AreMeanings table messages others → all ≡ others) where
  one_out : (table : ExtensionTable) (bytes out other : List ℕ) → AreAllReplies table bytes out
      → AreAllReplies table bytes other → out ≡ other
  one_out table bytes out other h k =
      let messages = one_messages bytes h.messages k.messages h.are k.are in
      let means : AreMeanings table h.messages k.meanings =
      subst (λ ms. AreMeanings table ms k.meanings) (sym messages) k.mean in
      let meanings = one_meanings table h.messages h.meanings k.meanings h.mean means in
      let replies : AreReplies table h.meanings h.messages other =
      subst (λ ns. AreReplies table ns h.messages other) (sym meanings)
      (subst (λ ms. AreReplies table k.meanings ms other) (sym messages) k.replies) in
      one_replies table (λ text. one text table) h.meanings
      (once table [] h.messages h.meanings h.mean (none_once table))
      h.messages out other h.replies replies

  one_answer : (table : ExtensionTable) (bytes : List ℕ) (report other : Report)
      → IsRegistryAnswer table bytes report → IsRegistryAnswer table bytes other → report ≡ other
  one_answer table bytes report other (too_long h) (too_long k) = refl
  one_answer table bytes report other (too_long h) (cut_short s n) = absurd (omega (arith, h, s))
  one_answer table bytes report other (too_long h) (done s out k) = absurd (omega (arith, h, s))
  one_answer table bytes report other (cut_short s n) (too_long k) = absurd (omega (arith, k, s))
  one_answer table bytes report other (cut_short s n) (cut_short t k) = refl
  one_answer table bytes report other (cut_short s n) (done t out k) = absurd (n k.messages k.are)
  one_answer table bytes report other (done s out h) (too_long k) = absurd (omega (arith, k, s))
  one_answer table bytes report other (done s out h) (cut_short t n) = absurd (n h.messages h.are)
  one_answer table bytes report other (done s out h) (done t out' k) =
      ap done_report (one_out table bytes out out' h k)

  pub one_registry_plan : (words : List (List ℕ)) (bytes : List ℕ) (report other : Report)
      → IsRegistryPlan words bytes report → IsRegistryPlan words bytes other → report ≡ other
  one_registry_plan words bytes report other (usage h) (usage k) = refl
  one_registry_plan words bytes report other (usage h) (asked c a k) = absurd (h c a)
  one_registry_plan words bytes report other (asked c a h) (usage k) = absurd (k c a)
  one_registry_plan words bytes report other (asked c a h) (asked d b k) =
      one_answer c.table bytes report other h
      (subst (λ (x : Register). IsRegistryAnswer x.table bytes other) (sym (one_register one_table words c d a b)) k)
