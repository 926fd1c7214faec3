-- A JSON text says one fragment, or is refused for one cause.
use Rattle.std.proofs.Common.{◌≡◌, ◌≢◌, ℕ, true, List, [], ◌∷◌, ◌++◌, Some, None, All, refl, sym, ap}
use Rattle.std.proofs.Common.{◌∙◌, subst, true≢false}
use Rattle.std.specs.Str.{chars}
use Rattle.std.proofs.lemmas.List.Elements.{All-head, All-tail}
use Rattle.std.proofs.lemmas.Option.{same_Some, none-some}
use Rattle.serde_json.specs.Data.{Data}
use Rattle.serde_json.specs.Read.{read}
use Rattle.serde_json.specs.Written.{has_float}
use Rattle.cedar_identifiers.specs.declared.name_text.NameText as ghosts
use Rattle.cedar_identifiers.specs.declared.raw_name.RawName.{RawName}
use Rattle.schema_json.specs.declared.fragment.Fragment.{Fragment}
use Rattle.schema_json_errors.specs.declared.json_error.JsonDeserializationError.{JsonDeserializationError}
use Rattle.schema_json_errors.specs.declared.json_fault.JsonFault.{JsonFault}
use Rattle.schema_json_errors.specs.declared.json_fault.JsonFault.TheVariants as cause
use Rattle.schema_json_keys.specs.Keys.{Key, ComesAgain, FirstAgain, keys_of, RepeatedKey}
use Rattle.schema_json_shapes.specs.Walk.{fragment, demands}
use Rattle.schema_json_shapes.specs.Shapes.{IsFragment}
use Rattle.schema_json_shapes.proofs.Demands.{met_or_unmet}
use Rattle.schema_json_io.specs.Advice.{advice_on, beside}
use Rattle.schema_json_io.specs.Causes.{IsFirstJsonFault, IsTextCauseBy, IsJsonTextError}
use Rattle.schema_json_io.specs.Faults.{of_shape}
use Rattle.schema_json_io.specs.Texts.{HasNoRepeat, Holds, TextShape}
use Rattle.laws_json.proofs.Current.OneFragment.{one_fragment, one_fault_of}

pub one_value : (text : List ℕ) (d e : Data) → read text ≡ Some d → read text ≡ Some e → d ≡ e
one_value text d e h k = same_Some d e (sym h ∙ k)

-- ---- the first key that comes again

first_again : (before : List Key) (a : Key) (after others : List Key) (b : Key) (behind : List Key)
    → before ++ a ∷ after ≡ others ++ b ∷ behind → All (λ k. ¬ ComesAgain k) before → All (λ k. ¬ ComesAgain k) others
    → ComesAgain a → ComesAgain b → a ≡ b
first_again [] a after [] b behind e h k again too = cc
first_again [] a after (c ∷ others) b behind e h k again too =
    let same : a ≡ c = cc in
    absurd (All-head (λ k. ¬ ComesAgain k) c others k (subst ComesAgain same again))
first_again (c ∷ before) a after [] b behind e h k again too =
    let same : b ≡ c = cc in
    absurd (All-head (λ k. ¬ ComesAgain k) c before h (subst ComesAgain same too))
first_again (c ∷ before) a after (d ∷ others) b behind e h k again too =
    let rest : before ++ a ∷ after ≡ others ++ b ∷ behind = cc in
    first_again before a after others b behind rest (All-tail (λ k. ¬ ComesAgain k) c before h)
    (All-tail (λ k. ¬ ComesAgain k) d others k) again too

one_repeated : (text x y : List ℕ) → RepeatedKey text x → RepeatedKey text y → x ≡ y
one_repeated text x y (j, is, f) (i, too, g) =
    let same : i ≡ j = same_Some i j (sym too ∙ is) in
    let g' : FirstAgain (keys_of j) y = subst (λ z. FirstAgain (keys_of z) y) same g in
    let keys : f.again ≡ g'.again = first_again f.before f.again f.after g'.before g'.again g'.after (sym f.stands
    ∙ g'.stands) f.first g'.first f.comes_again g'.comes_again in
    sym f.named ∙ (ap (λ (k : Key). k.name) keys ∙ g'.named)

-- ---- causes

-- the cause of a refusal, other than being out of memory, where this tells the first fault of a value
pub data CauseOf (IsFirst : Data → JsonFault → Type 0) (text : List ℕ) (e : JsonFault) : Type 0 where
  no_json : e ≡ cause.NotJson → read text ≡ None → CauseOf IsFirst text e
  repeats : (d : Data) (key : List ℕ) → read text ≡ Some d → RepeatedKey text key → e ≡ cause.RepeatedKey (chars key)
      → CauseOf IsFirst text e
  floats : (d : Data) → read text ≡ Some d → HasNoRepeat text → has_float d ≡ true → e ≡ cause.Float
      → CauseOf IsFirst text e
  misshapen : (d : Data) → Holds text d → IsFirst d e → CauseOf IsFirst text e

module _ (IsFirst : Data → JsonFault → Type 0) (text : List ℕ) where
  pub cause_of : (e : JsonFault) → e ≢ cause.Memory → IsTextCauseBy IsFirst text e → CauseOf IsFirst text e
  cause_of cause.NotJson n h = no_json refl h
  cause_of (cause.RepeatedKey name) n h = repeats h.0 h.2 h.1 h.3 (ap cause.RepeatedKey h.4)
  cause_of cause.Float n h = floats h.0 h.1 h.2 h.3 refl
  cause_of cause.Memory n h = absurd (n refl)
  cause_of _ n h = misshapen h.0 h.1 h.2

  -- a text that holds a value without a first fault is not refused
  pub caused : (d : Data) (e : JsonFault) → Holds text d → (IsFirst d e → ⊥) → CauseOf IsFirst text e → ⊥
  caused d e holds lawful (no_json p r) = none-some d (sym r ∙ holds.reads)
  caused d e holds lawful (repeats d' key s rep p) = holds.once key rep
  caused d e holds lawful (floats d' s once wide p) =
      true≢false (sym wide ∙ (ap has_float (one_value text d' d s holds.reads) ∙ holds.whole))
  caused d e holds lawful (misshapen d' holds' first) =
      lawful (subst (λ z. IsFirst z e) (one_value text d' d holds'.reads holds.reads) first)

  pub one_cause : ((d : Data) (e f : JsonFault) → IsFirst d e → IsFirst d f → e ≡ f) → (e f : JsonFault)
      → CauseOf IsFirst text e → CauseOf IsFirst text f → e ≡ f
  one_cause one e f (no_json p r) (no_json q s) = p ∙ sym q
  one_cause one e f (no_json p r) (repeats d key s rep q) = absurd (none-some d (sym r ∙ s))
  one_cause one e f (no_json p r) (floats d s once wide q) = absurd (none-some d (sym r ∙ s))
  one_cause one e f (no_json p r) (misshapen d holds first) = absurd (none-some d (sym r ∙ holds.reads))
  one_cause one e f (repeats d key s rep p) (no_json q r) = absurd (none-some d (sym r ∙ s))
  one_cause one e f (repeats d key s rep p) (repeats d' key' s' rep' q) =
      p ∙ (ap (λ k. cause.RepeatedKey (chars k)) (one_repeated text key key' rep rep') ∙ sym q)
  one_cause one e f (repeats d key s rep p) (floats d' s' once wide q) = absurd (once key rep)
  one_cause one e f (repeats d key s rep p) (misshapen d' holds first) = absurd (holds.once key rep)
  one_cause one e f (floats d s once wide p) (no_json q r) = absurd (none-some d (sym r ∙ s))
  one_cause one e f (floats d s once wide p) (repeats d' key s' rep q) = absurd (once key rep)
  one_cause one e f (floats d s once wide p) (floats d' s' once' wide' q) = p ∙ sym q
  one_cause one e f (floats d s once wide p) (misshapen d' holds first) =
      absurd (true≢false (sym wide ∙ (ap has_float (one_value text d d' s holds.reads) ∙ holds.whole)))
  one_cause one e f (misshapen d holds first) (no_json q r) = absurd (none-some d (sym r ∙ holds.reads))
  one_cause one e f (misshapen d holds first) (repeats d' key s rep q) = absurd (holds.once key rep)
  one_cause one e f (misshapen d holds first) (floats d' s once wide q) =
      absurd (true≢false (sym wide ∙ (ap has_float (one_value text d' d s holds.reads) ∙ holds.whole)))
  one_cause one e f (misshapen d holds first) (misshapen d' holds' first') =
      one d e f first (subst (λ z. IsFirst z f) (one_value text d' d holds'.reads holds.reads) first')

first_once : (d : Data) (e f : JsonFault) → IsFirstJsonFault d e → IsFirstJsonFault d f → e ≡ f
first_once d e f (x, is, told) (y, is', told') =
    told ∙ (ap of_shape (one_fault_of (demands fragment [] d) x y is is') ∙ sym told')

pub one_error : (text : List ℕ) (e f : JsonDeserializationError) → e.fault ≢ cause.Memory → f.fault ≢ cause.Memory
    → IsJsonTextError text e → IsJsonTextError text f → e ≡ f
one_error text e f m n h k =
    let same : e.fault ≡ f.fault = one_cause IsFirstJsonFault text first_once e.fault f.fault
    (cause_of IsFirstJsonFault text e.fault m h.0) (cause_of IsFirstJsonFault text f.fault n k.0) in
    let advice : e.advice ≡ f.advice = h.1 ∙ (ap (λ c. beside c (advice_on text)) same ∙ sym k.1) in
    λ i. record { fault = same i; advice = advice i }

-- ---- fragments

module _ {G : ghosts.Ghosts RawName} where
  pub one_text_fragment : (text : List ℕ) (f g : Fragment RawName G) → TextShape text f → TextShape text g → f ≡ g
  one_text_fragment text f g (d, holds, shape) (e, holds', shape') =
      let same : e ≡ d = one_value text e d holds'.reads holds.reads in
      one_fragment d f g shape.1 (subst (λ z. IsFragment z g) same shape'.1)

  pub said_or_refused : (text : List ℕ) (f : Fragment RawName G) (e : JsonDeserializationError) → TextShape text f
      → e.fault ≢ cause.Memory → IsJsonTextError text e → ⊥
  said_or_refused text f e (d, holds, shape) n k =
      caused IsFirstJsonFault text d e.fault holds
      (λ (x, is, told). met_or_unmet (demands fragment [] d) x shape.0 is)
      (cause_of IsFirstJsonFault text e.fault n k.0)
