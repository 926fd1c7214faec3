-- For the same words and the same input there is one report at most.
use Rattle.std.proofs.Common.{◌≡◌, ◌≢◌, ◌<◌, ◌^◌, ℕ, List, refl, sym, ap, ◌∙◌, subst, arith, [], IsUtf8, Some, None}
use Rattle.std.specs.Prelude.{decimal}
use Rattle.std.proofs.lemmas.Fmt.{decimal_injective}
use Rattle.schema_convert_errors.specs.declared.warnings.SchemaWarning.{SchemaWarning}
use Rattle.cedar_schema_core.specs.declared.command.Command.{Command}
use Rattle.cedar_schema_core.specs.declared.command.Command.TheVariants.{Recover, Check, ToJson, FromJson, Generate}
use Rattle.cedar_schema_core.specs.declared.json_texts.JsonForm.TheVariants.{Current, Deprecated}
use Rattle.cedar_schema_core_faults.specs.declared.recover_error.RecoverError.{RecoverError}
use Rattle.cedar_schema_core_faults.specs.declared.recover_error.RecoverError.TheVariants.{Memory}
use Rattle.std.specs.Str.{encode_utf8_all}
use Rattle.cedar_schema_core_faults.specs.Told.{fault_text}
use Rattle.cedar_runs.specs.declared.status.Status.TheVariants.{Refused}
use Rattle.cedar_schema_core.specs.Answers.{Writes, RefusesText, IsWrittenBy}
use Rattle.cedar_schema_core.specs.Commands.{IsTableInOrder, Asks, recover, recover_with, check, to_json, from_json}
use Rattle.cedar_schema_core.specs.Commands.{from_deprecated}
use Rattle.cedar_schema_core.specs.Commands.{generate, own_text, ReadsInput}
use Rattle.cedar_runs.specs.Reports.{Report, too_long, not_text}
use Rattle.cedar_schema_core.specs.Plan.{IsAnswer, refused, done, done_report, IsInputPlan}
use Rattle.cedar_runs.specs.Reports.{answered}
use Rattle.cedar_schema_core.specs.Plan.{IsPlan, usage, asked, made}
use Rattle.cedar_schema_core.proofs.OneTable.{one_table_of_texts, one_table_of_names}
use Rattle.cedar_schema_core.proofs.Words.{never_both}

-- words ask for one command
pub one_command : (words : List (List ℕ)) (c d : Command) → Asks words c → Asks words d → c ≡ d
one_command words c d (recover t e h) (recover u f k) = ap Recover (one_table_of_texts t u (h ∙ sym k))
one_command words c d (recover t e h) (check u f k) = cc
one_command words c d (recover t e h) (to_json u f k) = cc
one_command words c d (recover t e h) (from_json u f k) = cc
one_command words c d (recover t e h) (recover_with names u f k) = cc
one_command words c d (recover_with names t e h) (recover u f k) = cc
one_command words c d (check t e h) (recover u f k) = cc
one_command words c d (check t e h) (check u f k) = ap Check (one_table_of_texts t u (h ∙ sym k))
one_command words c d (check t e h) (to_json u f k) = cc
one_command words c d (check t e h) (from_json u f k) = cc
one_command words c d (check t e h) (recover_with names u f k) = cc
one_command words c d (recover_with names t e h) (check u f k) = cc
one_command words c d (to_json t e h) (recover u f k) = cc
one_command words c d (to_json t e h) (check u f k) = cc
one_command words c d (to_json t e h) (to_json u f k) = ap ToJson (one_table_of_texts t u (h ∙ sym k))
one_command words c d (to_json t e h) (from_json u f k) = cc
one_command words c d (to_json t e h) (recover_with names u f k) = cc
one_command words c d (recover_with names t e h) (to_json u f k) = cc
one_command words c d (from_json t e h) (recover u f k) = cc
one_command words c d (from_json t e h) (check u f k) = cc
one_command words c d (from_json t e h) (to_json u f k) = cc
one_command words c d (from_json t e h) (from_json u f k) = ap (FromJson Current) (one_table_of_texts t u (h ∙ sym k))
one_command words c d (from_json t e h) (recover_with names u f k) = cc
one_command words c d (recover_with names t e h) (from_json u f k) = cc
one_command words c d (recover_with names t e h) (recover_with others u f k) =
    let same : others ≡ names = cc in
    ap Recover (one_table_of_names names t u h (subst (λ ns. IsTableInOrder ns u) same k))
one_command words c d (generate n t e some small h) (recover u f k) = cc
one_command words c d (generate n t e some small h) (check u f k) = cc
one_command words c d (generate n t e some small h) (to_json u f k) = cc
one_command words c d (generate n t e some small h) (from_json u f k) = cc
one_command words c d (generate n t e some small h) (recover_with names u f k) = cc
one_command words c d (recover t e h) (generate n u f some small k) = cc
one_command words c d (check t e h) (generate n u f some small k) = cc
one_command words c d (to_json t e h) (generate n u f some small k) = cc
one_command words c d (from_json t e h) (generate n u f some small k) = cc
one_command words c d (recover_with names t e h) (generate n u f some small k) = cc
one_command words c d (recover t e h) (from_deprecated u f k) = cc
one_command words c d (check t e h) (from_deprecated u f k) = cc
one_command words c d (to_json t e h) (from_deprecated u f k) = cc
one_command words c d (from_deprecated t e h) (recover u f k) = cc
one_command words c d (from_deprecated t e h) (check u f k) = cc
one_command words c d (from_deprecated t e h) (to_json u f k) = cc
one_command words c d (from_json t e h) (from_deprecated u f k) = cc
one_command words c d (from_deprecated t e h) (from_json u f k) = cc
one_command words c d (from_deprecated t e h) (from_deprecated u f k) =
    ap (FromJson Deprecated) (one_table_of_texts t u (h ∙ sym k))
one_command words c d (from_deprecated t e h) (recover_with names u f k) = absurd (never_both names (sym f ∙ e))
one_command words c d (recover_with names t e h) (from_deprecated u f k) = absurd (never_both names (sym e ∙ f))
one_command words c d (generate n t e some small h) (from_deprecated u f k) = cc
one_command words c d (from_deprecated t e h) (generate n u f some small k) = cc
one_command words c d (generate n t e some small h) (generate m u f more fits k) =
    let below : n < 2 ^ 64 = omega (arith, small) in
    let fit : m < 2 ^ 64 = omega (arith, fits) in
    let digits : decimal n ≡ decimal m = cc in
    let sizes = decimal_injective n m below fit digits in
    let tables = one_table_of_texts t u (h ∙ sym k) in
    λ i. Generate (sizes i) (tables i)

-- where a command with a text of its own is asked for, none is that reads the input
pub no_reader : (words : List (List ℕ)) (c : Command) (text : List ℕ) → Asks words c → own_text c ≡ Some text
    → (d : Command) → Asks words d → ReadsInput d → ⊥
no_reader words c text a own d b reads =
    let none : own_text c ≡ None = subst ReadsInput (sym (one_command words c d a b)) reads in cc

module _ (writes : (c : Command) (text out other : List ℕ) (v w : List SchemaWarning) → Writes c text out v
    → Writes c text other w → (out ≡ other) × (v ≡ w))
    (refuses : (c : Command) (text : List ℕ) (e other : RecoverError) → IsUtf8 text → e ≢ Memory → other ≢ Memory
    → RefusesText c text e → RefusesText c text other → fault_text text e ≡ fault_text text other)
    (apart : (c : Command) (text out : List ℕ) (w : List SchemaWarning) (e : RecoverError) → e ≢ Memory
    → RefusesText c text e → Writes c text out w → ⊥) where
  one_answer : (c : Command) (text : List ℕ) (report other : Report) → IsUtf8 text → IsAnswer c text report
      → IsAnswer c text other → report ≡ other
  one_answer c text report other u (refused e n h) (refused f m k) =
      ap (λ told. let r : Report = record { status = Refused; out = []; err = encode_utf8_all told } in r)
      (refuses c text e f u n m h.refuses k.refuses)
  one_answer c text report other u (refused e n h) (done out w k) = absurd (apart c text out w e n h.refuses k.writes)
  one_answer c text report other u (done out w h) (refused e n k) = absurd (apart c text out w e n k.refuses h.writes)
  one_answer c text report other u (done out v h) (done out' w k) =
      let same = writes c text out out' v w h.writes k.writes in
      λ i. done_report (same.0 i) (same.1 i)

  one_input_plan : (c : Command) (bytes : List ℕ) (report other : Report) → IsInputPlan c bytes report
      → IsInputPlan c bytes other → report ≡ other
  one_input_plan c bytes report other (too_long h) (too_long k) = refl
  one_input_plan c bytes report other (too_long h) (not_text s k) = absurd (omega (arith, h, s))
  one_input_plan c bytes report other (too_long h) (answered s u k) = absurd (omega (arith, h, s))
  one_input_plan c bytes report other (not_text s h) (too_long k) = absurd (omega (arith, k, s))
  one_input_plan c bytes report other (not_text s h) (not_text t k) = refl
  one_input_plan c bytes report other (not_text s h) (answered t u k) = absurd (h u)
  one_input_plan c bytes report other (answered s u h) (too_long k) = absurd (omega (arith, k, s))
  one_input_plan c bytes report other (answered s u h) (not_text t k) = absurd (k u)
  one_input_plan c bytes report other (answered s u h) (answered t v k) = one_answer c bytes report other u h k

  one_made : (c : Command) (text other : List ℕ) → own_text c ≡ Some text → own_text c ≡ Some other
      → (out out' : List ℕ) (v w : List SchemaWarning) → IsWrittenBy c text out v → IsWrittenBy c other out' w
      → done_report out v ≡ done_report out' w
  one_made c text other own its out out' v w h k =
      let texts : other ≡ text = cc in
      let same = writes c text out out' v w h.writes (subst (λ t. Writes c t out' w) texts k.writes) in
      λ i. done_report (same.0 i) (same.1 i)

  pub one_plan_from : (words : List (List ℕ)) (bytes : List ℕ) (report other : Report) → IsPlan words bytes report
      → IsPlan words bytes other → report ≡ other
  one_plan_from words bytes report other (usage h) (usage k) = refl
  one_plan_from words bytes report other (usage h) (asked c a r k) = absurd (h c a)
  one_plan_from words bytes report other (usage h) (made c a text own out w k) = absurd (h c a)
  one_plan_from words bytes report other (asked c a r h) (usage k) = absurd (k c a)
  one_plan_from words bytes report other (asked c a r h) (asked d b s k) =
      one_input_plan c bytes report other h (subst (λ e. IsInputPlan e bytes other) (sym (one_command words c d a b)) k)
  one_plan_from words bytes report other (asked c a r h) (made d b text own out w k) =
      absurd (no_reader words d text b own c a r)
  one_plan_from words bytes report other (made c a text own out v h) (usage k) = absurd (k c a)
  one_plan_from words bytes report other (made c a text own out v h) (asked d b s k) =
      absurd (no_reader words c text a own d b s)
  one_plan_from words bytes report other (made c a text own out v h) (made d b text' own' out' w k) =
      let same : d ≡ c = sym (one_command words c d a b) in
      one_made c text text' own (subst (λ e. own_text e ≡ Some text') same own') out out' v w h
      (subst (λ e. IsWrittenBy e text' out' w) same k)
