-- For the same words and the same input there is one report at most.
use Rattle.std.proofs.Common.{◌≡◌, ◌≢◌, ◌<◌, ◌≤◌, ℕ, List, [], ◌∷◌, ◌++◌, refl, sym, ap, ◌∙◌, subst, arith, Result}
use Rattle.std.proofs.Common.{Option, Some, None, MatchOption, String, Global, length, get_or}
use Rattle.std.specs.Prelude.{codes, map}
use Rattle.std.specs.List.{flat_map}
use Rattle.std.specs.Result.{IfOk}
use Rattle.std.specs.Str.{encode_utf8_all}
use Rattle.std.specs.Str.Parse.{digits_value}
use Rattle.std.specs.String.{string_bytes}
use Rattle.std.specs.declared.alloc.AllocError.{AllocError}
use Rattle.std.proofs.lemmas.Result.{IfOk-weaker}
use Rattle.cedar_names.specs.declared.extension_table.ExtensionTable.{ExtensionTable}
use Rattle.cedar_runs.specs.declared.reply.Reply.{Reply}
use Rattle.cedar_runs.specs.declared.status.Status.TheVariants.{Done}
use Rattle.cedar_runs.specs.Reports.{Report, report_of, IsTextReport, too_long, not_text, answered}
use Rattle.cedar_schema_core.specs.Commands.{AsksForTable, standard, IsStandard}
use Rattle.schema_build.specs.Texts.{IsParseRefusal}
use Rattle.schema_convert.specs.Translated.{IsTranslationOfText, IsParseFailureOf}
use Rattle.schema_convert_errors.specs.declared.error_list.CedarSchemaParseErrors.{CedarSchemaParseErrors}
use Rattle.schema_convert_errors.specs.declared.error_list.CedarSchemaParseErrors.TheVariants as parse
use Rattle.schema_convert_errors.specs.declared.warnings.SchemaWarning.{SchemaWarning}
use Rattle.schema_syntax_errors.specs.declared.parse_error.ParseError.{ParseError}
use Rattle.schema_assist_offers.specs.Offers.{Known}
use Rattle.schema_assist_words.specs.Refusals.{IsAssistRefusal}
use Rattle.schema_assist_words.specs.declared.text_before.AssistError.{AssistError}
use Rattle.schema_assist_words.specs.declared.text_before.AssistError.TheVariants.{BadPlace, Syntax, Memory}
use Rattle.schema_assist.specs.Assistance.{IsAssistance}
use Rattle.schema_assist.specs.Lines.{kind_line, name_line}
use Rattle.schema_assist.specs.Words.{IsPlaceWord}
use Rattle.schema_assist.specs.declared.assistance.Assistance.{Assistance}
use Rattle.schema_assist.specs.declared.run.AssistAt.{AssistAt}
use Rattle.schema_assist.specs.Plans.{Asks, IsKnownFrom, its_own, nothing, IsAssistAnswer, done, no_place, fault}
use Rattle.schema_assist.specs.Plans.{no_names, done_report, fault_report, IsAssistPlan, usage, asked}

-- the reply says what the report says
pub so : (P : Report → Type 0) (r : Result Reply AllocError) (report : Report) → P report
    → IfOk r (λ reply. report_of reply ≡ report) → IfOk r (λ reply. P (report_of reply))
so P r report h is = IfOk-weaker r _ _ (λ reply e. subst P (sym e) h) is

words_differ : codes "at" ≢ codes "with"
words_differ e = cc

place_or_memory : BadPlace ≢ Memory
place_or_memory e = cc

fault_or_memory : (e : ParseError) → Syntax e ≢ Memory
fault_or_memory e h = cc

same_fault : (e f : ParseError) → Syntax e ≡ Syntax f → e ≡ f
same_fault e f h = cc

same_word : (words : List (List ℕ)) (w v : List ℕ) → words ≡ codes "at" ∷ w ∷ [] → words ≡ codes "at" ∷ v ∷ [] → w ≡ v
same_word words w v h k = let both : codes "at" ∷ w ∷ [] ≡ codes "at" ∷ v ∷ [] = sym h ∙ k in cc

-- the words ask for the place that the word behind `at` says, or for none
pub asked_at : (words : List (List ℕ)) (word : List ℕ) (found : Option AssistAt) → words ≡ codes "at" ∷ word ∷ []
    → MatchOption found ((place : ℕ) → IsPlaceWord word place → ⊥) (λ c. IsPlaceWord word c.place × IsStandard c.table)
    → MatchOption found ((c : AssistAt) → Asks words c → ⊥) (Asks words)
asked_at words word None are none = λ c asks.
    none c.place (subst (λ w. IsPlaceWord w c.place) (same_word words asks.word word asks.are are) asks.place)
asked_at words word (Some c) are h = record { word = word; are = are; place = h.0; table = h.1 }

-- words ask for one place
pub one_at : ((plain with : List ℕ) (words : List (List ℕ)) (t u : ExtensionTable) → plain ≢ with
    → AsksForTable plain with words t → AsksForTable plain with words u → t ≡ u)
    → (words : List (List ℕ)) (c d : AssistAt) → Asks words c → Asks words d → c ≡ d
one_at one_table words c d a b =
    let word = same_word words a.word b.word a.are b.are in
    let place : c.place ≡ d.place = a.place.value ∙ (ap (digits_value 10) word ∙ sym b.place.value) in
    let table = one_table (codes "at") (codes "with") (codes "at" ∷ []) c.table d.table words_differ
    (standard refl a.table) (standard refl b.table) in
    λ i. record { place = place i; table = table i }

module _ (one_table : (plain with : List ℕ) (words : List (List ℕ)) (t u : ExtensionTable) → plain ≢ with
    → AsksForTable plain with words t → AsksForTable plain with words u → t ≡ u)
    (one_translation : (text : List ℕ) (table : ExtensionTable) (f g : Known) (v w : List SchemaWarning)
    → IsTranslationOfText text table f v → IsTranslationOfText text table g w → (f ≡ g) × (v ≡ w))
    (refused_or_translated : (text : List ℕ) (table : ExtensionTable) (e : CedarSchemaParseErrors) (f : Known)
    (w : List SchemaWarning) → IsParseRefusal text e → IsTranslationOfText text table f w → ⊥)
    (one_assistance : (text : List ℕ) (at : ℕ) (known : Known) (table : ExtensionTable) (first second : Assistance)
    → IsAssistance text at known table first → IsAssistance text at known table second
    → (first.partial ≡ second.partial) × (first.expected.items ≡ second.expected.items)
    × (first.names.items ≡ second.names.items))
    (assisted_or_refused : (text : List ℕ) (at : ℕ) (known : Known) (table : ExtensionTable) (a : Assistance)
    (error : AssistError) → IsAssistance text at known table a → IsAssistRefusal text at error → error ≡ Memory)
    (one_refusal : (text : List ℕ) (at : ℕ) (error other : AssistError) → error ≢ Memory → other ≢ Memory
    → IsAssistRefusal text at error → IsAssistRefusal text at other → error ≡ other) where
  one_known : (text : List ℕ) (table : ExtensionTable) (f g : Known) → IsKnownFrom text table f
      → IsKnownFrom text table g → f ≡ g
  one_known text table f g (its_own _ (v, h)) (its_own _ (w, k)) = (one_translation text table f g v w h k).0
  one_known text table f g (its_own _ (v, h)) (nothing e k) = absurd (refused_or_translated text table e f v k h)
  one_known text table f g (nothing e k) (its_own _ (v, h)) = absurd (refused_or_translated text table e g v k h)
  one_known text table f g (nothing e k) (nothing d l) = refl

  one_report : (text : List ℕ) (at : ℕ) (table : ExtensionTable) (f g : Known) (a b : Assistance)
      → f ≡ g → IsAssistance text at f table a → IsAssistance text at g table b → done_report a ≡ done_report b
  one_report text at table f g a b same h k =
      let there : IsAssistance text at f table b = subst (λ x. IsAssistance text at x table b) (sym same) k in
      let all = one_assistance text at f table a b h there in
      λ i. record {
        status = Done;
        out = encode_utf8_all (flat_map kind_line (all.1 i) ++ flat_map name_line (all.2 i));
        err = [];
      }

  one_answer : (at : ℕ) (table : ExtensionTable) (text : List ℕ) (report other : Report)
      → IsAssistAnswer at table text report → IsAssistAnswer at table text other → report ≡ other
  one_answer at table text report other (done f a known h) (done g b there k) =
      one_report text at table f g a b (one_known text table f g known there) h k
  one_answer at table text report other (done f a known h) (no_place k) =
      absurd (place_or_memory (assisted_or_refused text at f table a BadPlace h k))
  one_answer at table text report other (done f a known h) (fault e k) =
      absurd (fault_or_memory e (assisted_or_refused text at f table a (Syntax e) h k))
  one_answer at table text report other (no_place h) (done g b there k) =
      absurd (place_or_memory (assisted_or_refused text at g table b BadPlace k h))
  one_answer at table text report other (no_place h) (no_place k) = refl
  one_answer at table text report other (no_place h) (fault e k) = absurd (h k.0)
  one_answer at table text report other (fault e h) (done g b there k) =
      absurd (fault_or_memory e (assisted_or_refused text at g table b (Syntax e) k h))
  one_answer at table text report other (fault e h) (no_place k) = absurd (k h.0)
  one_answer at table text report other (fault e h) (fault f k) =
      ap fault_report (same_fault e f
      (one_refusal text at (Syntax e) (Syntax f) (fault_or_memory e) (fault_or_memory f) h k))

  one_text_report : (at : ℕ) (table : ExtensionTable) (bytes : List ℕ) (report other : Report)
      → IsTextReport (IsAssistAnswer at table) bytes report → IsTextReport (IsAssistAnswer at table) bytes other
      → report ≡ other
  one_text_report at table bytes report other (too_long h) (too_long k) = refl
  one_text_report at table bytes report other (too_long h) (not_text s k) = absurd (omega (arith, h, s))
  one_text_report at table bytes report other (too_long h) (answered s u k) = absurd (omega (arith, h, s))
  one_text_report at table bytes report other (not_text s h) (too_long k) = absurd (omega (arith, k, s))
  one_text_report at table bytes report other (not_text s h) (not_text t k) = refl
  one_text_report at table bytes report other (not_text s h) (answered t u k) = absurd (h u)
  one_text_report at table bytes report other (answered s u h) (too_long k) = absurd (omega (arith, k, s))
  one_text_report at table bytes report other (answered s u h) (not_text t k) = absurd (k u)
  one_text_report at table bytes report other (answered s u h) (answered t v k) =
      one_answer at table bytes report other h k

  pub one_assist_plan : (words : List (List ℕ)) (bytes : List ℕ) (report other : Report)
      → IsAssistPlan words bytes report → IsAssistPlan words bytes other → report ≡ other
  one_assist_plan words bytes report other (usage h) (usage k) = refl
  one_assist_plan words bytes report other (usage h) (asked c a k) = absurd (h c a)
  one_assist_plan words bytes report other (asked c a h) (usage k) = absurd (k c a)
  one_assist_plan words bytes report other (asked c a h) (asked d b k) =
      one_text_report c.place c.table bytes report other h
      (subst (λ (x : AssistAt). IsTextReport (IsAssistAnswer x.place x.table) bytes other)
      (sym (one_at one_table words c d a b)) k)

-- what is known where a text is refused and memory suffices
pub known_of_refused : (text : List ℕ) (table : ExtensionTable) (e : CedarSchemaParseErrors) (known : Known)
    → IsParseFailureOf text e → e ≢ parse.Memory → known ≡ no_names → IsKnownFrom text table known
known_of_refused text table (parse.SyntaxError e) known h n is =
    subst (IsKnownFrom text table) (sym is) (nothing (parse.SyntaxError e) h)
known_of_refused text table (parse.JsonError e) known h n is =
    subst (IsKnownFrom text table) (sym is) (nothing (parse.JsonError e) h)
known_of_refused text table parse.Memory known h n is = absurd (n refl)

-- a list of two items is those
pub two_words : {A : Type 0} (xs : List A) (x y : A) → 2 ≤ length xs → length xs < 3 → x ≡ get_or xs 0 x
    → y ≡ get_or xs 1 y → xs ≡ x ∷ y ∷ []
two_words [] x y some few is also = absurd (omega arith)
two_words (v ∷ []) x y some few is also = absurd (omega arith)
two_words (v ∷ w ∷ []) x y some few is also = cc
two_words (u ∷ v ∷ w ∷ xs) x y some few is also = absurd (omega arith)
