-- What the program is to do.
use Rattle.std.proofs.Common.{◌≡◌, ◌≢◌, ◌≤◌, ℕ, List, length, Result, Option, Some, sym, ap, subst, IsUtf8}
use Rattle.std.proofs.Common.{◌∙◌}
use Rattle.std.specs.Option.{option_map}
use Rattle.std.specs.Str.{encode_utf8_all}
use Rattle.std.specs.Result.{IfOk}
use Rattle.std.specs.declared.alloc.AllocError.{AllocError}
use Rattle.std.proofs.lemmas.Result.{IfOk-weaker}
use Rattle.cedar_data.specs.declared.text.Text.{Text}
use Rattle.cedar_io.specs.Input.{max_input}
use Rattle.cedar_names.specs.declared.extension_table.ExtensionTable.{ExtensionTable}
use Rattle.schema_generate.specs.Generated.{max_size, generated}
use Rattle.cedar_schema_core.specs.declared.command.Command.{Command}
use Rattle.cedar_schema_core.specs.declared.command.Command.TheVariants.{Recover, Check, ToJson, FromJson, Generate}
use Rattle.cedar_schema_core_faults.specs.declared.recover_error.RecoverError.{RecoverError}
use Rattle.cedar_schema_core_faults.specs.declared.recover_error.RecoverError.TheVariants.{Memory}
use Rattle.cedar_runs.specs.declared.reply.Reply.{Reply}
use Rattle.cedar_runs.specs.Reports.{Report, report_of, answered}
use Rattle.cedar_schema_core.specs.Answers.{RefusesText, IsRefusedBy}
use Rattle.cedar_schema_core.specs.Commands.{Asks, IsSized, own_text}
use Rattle.cedar_schema_core.specs.Plan.{IsAnswer, refused, done, IsInputPlan, IsPlan, made, refused_report}
use Rattle.cedar_schema_core.specs.Meanings.{IsValid}
use Rattle.cedar_schema_core.specs.Recovery.{IsRefusal}
use Rattle.cedar_schema_core.proofs.Words.{sized}

-- the command has the text that is found
pub has_own : (c : Command) (found : Option Text) (text : Text) → found ≡ Some text
    → option_map encode_utf8_all found ≡ own_text c → own_text c ≡ Some (encode_utf8_all text)
has_own c found text some is = sym is ∙ ap (option_map encode_utf8_all) some

-- the reply says what the report says
pub so : (P : Report → Type 0) (r : Result Reply AllocError) (report : Report) → P report
    → IfOk r (λ reply. report_of reply ≡ report) → IfOk r (λ reply. P (report_of reply))
so P r report h told = IfOk-weaker r _ _ (λ reply e. subst P (sym e) h) told

-- where nothing is written of it, the text is refused
pub refused_answer : (c : Command) (text : List ℕ) (fault : RecoverError) (r : Result Reply AllocError)
    → IsRefusedBy c text fault → IfOk r (λ reply. (fault ≢ Memory) × (report_of reply ≡ refused_report text fault))
    → IfOk r (λ reply. IsAnswer c text (report_of reply))
refused_answer c text fault r refusal told =
    IfOk-weaker r _ _ (λ reply h. subst (IsAnswer c text) (sym h.1) (refused fault h.0 refusal)) told

-- a short input that is a text is answered as that text
pub text_planned : (c : Command) (text bytes : List ℕ) (r : Result Reply AllocError) → text ≡ bytes → IsUtf8 bytes
    → length bytes ≤ max_input → IfOk r (λ reply. IsAnswer c text (report_of reply))
    → IfOk r (λ reply. IsInputPlan c bytes (report_of reply))
text_planned c text bytes r same utf8 short told =
    IfOk-weaker r _ _ (λ reply h. answered short utf8 (subst (λ t. IsAnswer c t (report_of reply)) same h)) told

-- the text that a command makes for itself is never refused
module _ (valid : (size : ℕ) (table : ExtensionTable) → 1 ≤ size → size ≤ max_size → IsValid (generated size) table)
    (apart : (text : List ℕ) (table : ExtensionTable) (e : RecoverError) → IsRefusal text table e → e ≢ Memory
    → IsValid text table → ⊥) where
  not_refused : (c : Command) (text : List ℕ) (e : RecoverError) → IsSized c → own_text c ≡ Some text → e ≢ Memory
      → RefusesText c text e → ⊥
  not_refused (Recover table) text e s own n h = cc
  not_refused (Check table) text e s own n h = cc
  not_refused (ToJson table) text e s own n h = cc
  not_refused (FromJson form table) text e s own n h = cc
  not_refused (Generate size table) text e s own n h =
      let same : generated size ≡ text = cc in
      apart text table e h n (subst (λ t. IsValid t table) same (valid size table s.0 s.1))

  own_planned : (words : List (List ℕ)) (bytes : List ℕ) (c : Command) (text : List ℕ) (report : Report)
      → Asks words c → own_text c ≡ Some text → IsAnswer c text report → IsPlan words bytes report
  own_planned words bytes c text report a own (refused e n h) =
      absurd (not_refused c text e (sized words c a) own n h.refuses)
  own_planned words bytes c text report a own (done out w h) = made c a text own out w h

  -- the reply for that text
  pub own_answered : (words : List (List ℕ)) (bytes : List ℕ) (r : Result Reply AllocError) (c : Command)
      (text : List ℕ) → Asks words c → own_text c ≡ Some text → IfOk r (λ reply. IsAnswer c text (report_of reply))
      → IfOk r (λ reply. IsPlan words bytes (report_of reply))
  own_answered words bytes r c text a own told =
      IfOk-weaker r _ _ (λ reply h. own_planned words bytes c text (report_of reply) a own h) told
