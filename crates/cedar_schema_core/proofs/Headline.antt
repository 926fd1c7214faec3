-- A run of a recovery is done exactly where its input is valid, or memory was out before it wrote.
use Rattle.std.proofs.Common.{◌≡◌, ◌≤◌, ◌⊎◌, ◌↔◌, ℕ, List, [], ◌∷◌, ◌++◌, Option, Some, None, inl, inr, length, IsUtf8}
use Rattle.std.proofs.Common.{refl, sym, ap, ◌∙◌, subst}
use Rattle.cedar_io.specs.Outside.{Appends}
use Rattle.cedar_io.specs.Input.{HadLeft, max_input}
use Rattle.schema_convert_errors.specs.declared.warnings.SchemaWarning.{SchemaWarning}
use Rattle.cedar_names.specs.CanonicalText.{canonical_text}
use Rattle.cedar_names.specs.Meaning.{SchemaMeaning}
use Rattle.cedar_names.specs.declared.extension_table.ExtensionTable.{ExtensionTable}
use Rattle.cedar_schema_core.specs.declared.command.Command.{Command}
use Rattle.cedar_schema_core.specs.declared.command.Command.TheVariants.{Recover}
use Rattle.cedar_runs.specs.declared.status.Status.{Status}
use Rattle.cedar_runs.specs.declared.status.Status.TheVariants.{Done, Refused, Usage, NotText, TooLong}
use Rattle.cedar_schema_core.specs.Answers.{Writes}
use Rattle.cedar_schema_core.specs.Commands.{Asks, own_text}
use Rattle.cedar_schema_core.specs.Meanings.{TextMeaning}
use Rattle.cedar_runs.specs.Reports.{Report, too_long, not_text, answered}
use Rattle.cedar_schema_core.specs.Plan.{IsAnswer, refused, done, IsInputPlan}
use Rattle.cedar_schema_core.specs.Plan.{IsPlan, usage, asked, made, done_report}
use Rattle.cedar_runs.specs.Runs.{Device, planned, read_fault, TookWhole, whole}
use Rattle.cedar_runs.specs.Runs.{out_failed, err_failed, delivered, wanted_memory, NoneCounted}
use Rattle.cedar_schema_core.specs.Run.{IsToolRun}
use Rattle.cedar_schema_core.specs.Headline.{InputMeans, WroteMeaning, WroteNothing}
use Rattle.cedar_schema_core.proofs.Constructed.{warned, valid_planned}

-- what was left is what is told
told : (o : Option (List ℕ)) (all bytes : List ℕ) → o ≡ Some all → HadLeft o bytes → all ≡ bytes
told None all bytes e h = cc
told (Some left) all bytes e h = let same : left ≡ all = cc in sym same ∙ h

-- what was taken behind the same bytes is the same
same_back : (xs ys zs : List ℕ) → xs ++ ys ≡ xs ++ zs → ys ≡ zs
same_back [] ys zs e = e
same_back (x ∷ xs) ys zs e = same_back xs ys zs (let k : xs ++ ys ≡ xs ++ zs = cc in k)

same_taken : (before after : Option (List ℕ)) (taken x y : List ℕ) → before ≡ Some taken → Appends before x after
    → Appends before y after → x ≡ y
same_taken None after taken x y e h k = cc
same_taken (Some old) after taken x y e h k = same_back old x y (let s : old ++ x ≡ old ++ y = cc in s)

-- what a done plan says of the input: it means something, and the canonical text of that is written
record MeansOut (bytes : List ℕ) (table : ExtensionTable) (out : List ℕ) : Type 0 where
  meaning : SchemaMeaning
  input : InputMeans bytes table meaning
  text : out ≡ canonical_text meaning

refused_done : Refused ≡ Done → ⊥
refused_done e = cc

usage_done : Usage ≡ Done → ⊥
usage_done e = cc

too_long_done : TooLong ≡ Done → ⊥
too_long_done e = cc

not_text_done : NotText ≡ Done → ⊥
not_text_done e = cc

none_some : (text : List ℕ) → None ≡ Some text → ⊥
none_some text e = cc

module _ (table : ExtensionTable) (bytes : List ℕ) (short : length bytes ≤ max_input) (utf8 : IsUtf8 bytes) where
  writes_means : (out : List ℕ) (w : List SchemaWarning) → Writes (Recover table) bytes out w
      → MeansOut bytes table out
  writes_means out w (m, means, warns, text) = record {
    meaning = m;
    input = record { short = short; utf8 = utf8; means = means };
    text = text;
  }

  answer_done : (c : Command) → c ≡ Recover table → (report : Report) → IsAnswer c bytes report
      → report.status ≡ Done → MeansOut bytes table report.out
  answer_done c same report (refused e n h) d = absurd (refused_done d)
  answer_done c same report (done out w h) d =
      writes_means out w (subst (λ x. Writes x bytes out w) same h.writes)

module _ (words : List (List ℕ)) (table : ExtensionTable)
    (single : (c d : Command) → Asks words c → Asks words d → c ≡ d) (asks : Asks words (Recover table)) where
  input_done : (c : Command) → c ≡ Recover table → (bytes : List ℕ) (report : Report) → IsInputPlan c bytes report
      → report.status ≡ Done → MeansOut bytes table report.out
  input_done c same bytes report (too_long h) d = absurd (too_long_done d)
  input_done c same bytes report (not_text s h) d = absurd (not_text_done d)
  input_done c same bytes report (answered s u h) d = answer_done table bytes s u c same report h d

  done_means : (bytes : List ℕ) (report : Report) → IsPlan words bytes report → report.status ≡ Done
      → MeansOut bytes table report.out
  done_means bytes report (usage none) d = absurd (usage_done d)
  done_means bytes report (asked c a r p) d = input_done c (single c (Recover table) a asks) bytes report p d
  done_means bytes report (made c a text own out w h) d =
      absurd (none_some text (subst (λ x. own_text x ≡ Some text) (single c (Recover table) a asks) own))

  module _ (one : (bytes : List ℕ) (report other : Report) → IsPlan words bytes report → IsPlan words bytes other
      → report ≡ other)
      (keeps : (text : List ℕ) (m : SchemaMeaning) → TextMeaning text table m → TextMeaning (canonical_text m) table m)
      (apart : (text other : List ℕ) (m n : SchemaMeaning) → TextMeaning text table m → TextMeaning other table n
      → canonical_text m ≡ canonical_text n → m ≡ n)
      (source out err : Device) (bytes taken : List ℕ) (left : source.before ≡ Some bytes)
      (tells : out.before ≡ Some taken) where
    -- a valid input: what is planned for it was written
    wrote : (report : Report) → IsPlan words bytes report → TookWhole out report.out → (m : SchemaMeaning)
        → InputMeans bytes table m → WroteMeaning table m out report.status
    wrote report p o m h =
        let w = warned bytes table m h.means in
        let same = one bytes report (done_report (canonical_text m) w.0) p
        (valid_planned words bytes table m w.0 asks h.utf8 h.short h.means w.1) in
        record {
          done = ap (λ r. r.status) same;
          written = subst (λ (r : Report). Appends out.before r.out out.after) same o.took;
          keeps = keeps bytes m h.means;
        }

    -- and where the run is done, and what the sink took is the canonical text of a meaning, the input has that meaning
    meant : (report : Report) → IsPlan words bytes report → TookWhole out report.out → (m : SchemaMeaning)
        → WroteMeaning table m out report.status → InputMeans bytes table m
    meant report p o m h =
        let d = done_means bytes report p h.done in
        let texts : canonical_text m ≡ report.out =
        same_taken out.before out.after taken (canonical_text m) report.out tells h.written o.took in
        subst (λ n. InputMeans bytes table n)
        (sym (apart (canonical_text m) bytes m d.meaning h.keeps d.input.means (texts ∙ d.text))) d.input

    abbrev Recovers : Status → Type 0
    Recovers status =
        WroteNothing out err status
        ⊎ (((m : SchemaMeaning) → InputMeans bytes table m ↔ WroteMeaning table m out status)
        × (status ≡ Done → (m : SchemaMeaning) × InputMeans bytes table m))

    both : (report : Report) → IsPlan words bytes report → TookWhole out report.out → Recovers report.status
    both report p o = inr (
      (λ m. (wrote report p o m, meant report p o m)),
      (λ d. let k = done_means bytes report p d in (k.meaning, k.input)),
    )

    pub recovers : (status : Status) → IsToolRun words source out err status → NoneCounted source out err
        → Recovers status
    recovers status (delivered report (planned all had p l s) (whole o e)) n =
        both report (subst (λ b. IsPlan words b report) (sym (told source.before bytes all left had)) p) o
    recovers status (delivered report (read_fault i w) (whole o e)) n = absurd (n.none_read w)
    recovers status (delivered report h (out_failed f s)) n = absurd (n.none_out f.counted)
    recovers status (delivered report h (err_failed o f)) n = absurd (n.none_err f.counted)
    recovers status (wanted_memory u o e) n = inl (record { memory = refl; out_same = o; err_same = e })
