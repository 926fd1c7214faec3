-- What texts mean whose fragments say what is written of closed meanings.
use Rattle.std.proofs.Common.{◌≡◌, ◌↔◌, ℕ, Bool, true, List, length, refl, sym, ap, ◌∙◌, subst}
use Rattle.std.specs.Str.{encode_utf8_all}
use Rattle.std.proofs.lemmas.Str.{encodes_same}
use Rattle.cedar_identifiers.specs.declared.raw_name.RawName.{RawName}
use Rattle.cedar_names.specs.CanonicalText.{canonical_text, schema_text}
use Rattle.cedar_names.specs.Meaning.{SchemaMeaning}
use Rattle.cedar_names.specs.declared.extension_table.ExtensionTable.{ExtensionTable}
use Rattle.schema_syntax_grammar.specs.Grammar.{Sentence}
use Rattle.schema_syntax_parser.specs.Syntax.{IsSyntax}
use Rattle.schema_syntax_parser.specs.declared.syntax.ItemSyntax.{ItemSyntax}
use Rattle.schema_syntax_tokens.specs.TokenLists.{kinds_of}
use Rattle.schema_syntax_tokens.specs.declared.token.Token.{Token}
use Rattle.schema_json.specs.declared.fragment.Fragment.{Fragment}
use Rattle.schema_json.specs.AsWritten.{as_written}
use Rattle.schema_json_io.specs.Texts.{TextShape}
use Rattle.schema_compat.specs.Causes.{OldText}
use Rattle.schema_convert_faults.specs.Shadowings.{shadowings}
use Rattle.schema_convert_plain.specs.Translation.{translated}
use Rattle.laws_written.specs.Written.{WrittenItem}
use Rattle.schema_build_checks.specs.Rows.{Never}
use Rattle.schema_build_parts.specs.BuildFaults.{BuildFault}
use Rattle.schema_build.specs.Meaning.{FragmentMeaning}
use Rattle.schema_build_text.specs.Captured.{IsUncaptured}
use Rattle.laws_translate.specs.TranslatedAs.{IsTranslatedAs}
use Rattle.laws_build.specs.Closure.Closed.{IsClosed}
use Rattle.laws_build.specs.Closure.HalfFilled.{IsHalfFilled}
use Rattle.cedar_schema_core.specs.declared.json_texts.JsonForm.{JsonForm}
use Rattle.cedar_schema_core.specs.declared.json_texts.JsonForm.TheVariants.{Current, Deprecated}
use Rattle.cedar_schema_core.specs.Json.{JsonMeaning, IsRecoveredJson}
use Rattle.cedar_schema_core.specs.Meanings.{TextMeaning}
use Rattle.cedar_schema_core.specs.Recovery.{IsRecovered}
use Rattle.cedar_schema_core.specs.declared.recover.Recovered.{Recovered}

-- a text that is translated to a fragment which means m without a fault means m
pub text_means : (sentences : (tokens : List Token) (items : List ItemSyntax) → IsSyntax tokens items
    → Sentence (kinds_of tokens)) (text : List ℕ) (w : List WrittenItem) (table : ExtensionTable) (m : SchemaMeaning)
    (t : IsTranslatedAs text w) → FragmentMeaning (translated t.reads.tree) table m
    → Never (BuildFault (translated t.reads.tree) table) → IsUncaptured m → TextMeaning text table m
text_means sentences text w table m t means none free =
    let r = t.reads in
    record {
      fragment = translated r.tree;
      translated = (
        shadowings r.tree table,
        (
          r.tree,
          record {
            tokens = r.tokens;
            are = record { scans = r.scans; sentence = sentences r.tokens r.items r.syntax };
            tree = record { items = r.items; syntax = r.syntax; lawful = r.lawful; tree = r.is };
          },
          record { lawful = t.lawful; is = refl; warned = refl },
        ),
      );
      faultless = none;
      means = means;
      uncaptured = free;
    }

-- Of two texts with one meaning, of which the one is the other's canonical text: what is recovered of it is itself.
module _ (one : (text : List ℕ) (table : ExtensionTable) (m n : SchemaMeaning) → TextMeaning text table m
    → TextMeaning text table n → m ≡ n) (table : ExtensionTable) (m : SchemaMeaning) (r s : Recovered)
    (canonical : encode_utf8_all r.text ≡ canonical_text m) (means : TextMeaning (encode_utf8_all r.text) table m)
    (again : IsRecovered (encode_utf8_all r.text) table s) where
  same_meaning : again.meaning ≡ m
  same_meaning = one (encode_utf8_all r.text) table again.meaning m again.means means

  pub text_again : s.text ≡ r.text
  text_again = encodes_same s.text r.text (again.canonical ∙ (ap canonical_text same_meaning ∙ sym canonical))

  pub counts_again : r.entity_types ≡ length m.entities → r.actions ≡ length m.actions
      → (s.entity_types ≡ r.entity_types) × (s.actions ≡ r.actions)
  counts_again entities actions = (
    again.entity_types ∙ (ap (λ (m : SchemaMeaning). length m.entities) same_meaning ∙ sym entities),
    again.actions ∙ (ap (λ (m : SchemaMeaning). length m.actions) same_meaning ∙ sym actions),
  )

module _ (one : (text : List ℕ) (table : ExtensionTable) (m n : SchemaMeaning) → TextMeaning text table m
    → TextMeaning text table n → m ≡ n)
    (same : (closing : Bool) (text : List ℕ) (table : ExtensionTable) (m : SchemaMeaning) → TextMeaning text table m
    → TextMeaning (schema_text closing m) table m) where
  pub told_apart : (text other : List ℕ) (table : ExtensionTable) (m n : SchemaMeaning) → TextMeaning text table m
      → TextMeaning other table n → canonical_text m ≡ canonical_text n ↔ m ≡ n
  told_apart text other table m n a b = (
    λ e. one (canonical_text m) table m n (same true text table m a)
        (subst (λ l. TextMeaning l table n) (sym e) (same true other table n b)),
    λ e. ap canonical_text e,
  )

  -- the recovered text means what the text means
  pub recovered_means : (text : List ℕ) (table : ExtensionTable) (r : Recovered) (h : IsRecovered text table r)
      → TextMeaning (encode_utf8_all r.text) table h.meaning
  recovered_means text table r h =
      subst (λ l. TextMeaning l table h.meaning) (sym h.canonical) (same true text table h.meaning h.means)

  pub one_text : (text : List ℕ) (table : ExtensionTable) (r s : Recovered) → IsRecovered text table r
      → IsRecovered (encode_utf8_all r.text) table s → s.text ≡ r.text
  one_text text table r s h k = text_again one table h.meaning r s h.canonical (recovered_means text table r h) k

  pub one_count : (text : List ℕ) (table : ExtensionTable) (r s : Recovered) → IsRecovered text table r
      → IsRecovered (encode_utf8_all r.text) table s
      → (s.entity_types ≡ r.entity_types) × (s.actions ≡ r.actions)
  one_count text table r s h k =
      counts_again one table h.meaning r s h.canonical (recovered_means text table r h) k h.entity_types h.actions

module _ (one : (text : List ℕ) (table : ExtensionTable) (m n : SchemaMeaning) → TextMeaning text table m
    → TextMeaning text table n → m ≡ n)
    (json : (closing : Bool) (form : JsonForm) (text : List ℕ) (table : ExtensionTable) (m : SchemaMeaning)
    → JsonMeaning form text table m → TextMeaning (schema_text closing m) table m ↔ (¬ IsHalfFilled m)) where
  -- the text that is recovered from JSON means what that means, where it is not half filled
  pub json_means : (form : JsonForm) (text : List ℕ) (table : ExtensionTable) (r : Recovered)
      (h : IsRecoveredJson form text table r)
      → ¬ IsHalfFilled h.meaning → TextMeaning (encode_utf8_all r.text) table h.meaning
  json_means form text table r h whole =
      subst (λ l. TextMeaning l table h.meaning) (sym h.canonical)
      ((json true form text table h.meaning h.means).1 whole)

  pub one_json_text : (form : JsonForm) (text : List ℕ) (table : ExtensionTable) (r s : Recovered)
      (h : IsRecoveredJson form text table r)
      → ¬ IsHalfFilled h.meaning → IsRecovered (encode_utf8_all r.text) table s → s.text ≡ r.text
  one_json_text form text table r s h whole k =
      text_again one table h.meaning r s h.canonical (json_means form text table r h whole) k

  pub one_json_count : (form : JsonForm) (text : List ℕ) (table : ExtensionTable) (r s : Recovered)
      (h : IsRecoveredJson form text table r)
      → ¬ IsHalfFilled h.meaning → IsRecovered (encode_utf8_all r.text) table s
      → (s.entity_types ≡ r.entity_types) × (s.actions ≡ r.actions)
  one_json_count form text table r s h whole k =
      counts_again one table h.meaning r s h.canonical (json_means form text table r h whole) k h.entity_types h.actions

-- the canonical text of what a JSON text means, where that is one
pub json_kept : ((form : JsonForm) (text : List ℕ) (table : ExtensionTable) (m n : SchemaMeaning)
    → JsonMeaning form text table m → JsonMeaning form text table n → m ≡ n)
    → ((closing : Bool) (form : JsonForm) (text : List ℕ) (table : ExtensionTable) (m : SchemaMeaning)
    → JsonMeaning form text table m → TextMeaning (schema_text closing m) table m ↔ (¬ IsHalfFilled m))
    → (form : JsonForm) (text : List ℕ) (table : ExtensionTable) (m n : SchemaMeaning) (written : List ℕ)
    → written ≡ canonical_text m → JsonMeaning form text table m → JsonMeaning form text table n
    → TextMeaning written table n ↔ (¬ IsHalfFilled n)
json_kept one json form text table m n written is h k =
    subst (λ t. TextMeaning t table n ↔ (¬ IsHalfFilled n)) (ap canonical_text (one form text table n m k h) ∙ sym is)
    (json true form text table n k)

-- what a JSON text means is closed exactly where it is not half filled, in each form
abbrev pub ClosedFrom : (List ℕ → Fragment RawName as_written → Type 0) → Type 0
ClosedFrom Says = (text : List ℕ) (table : ExtensionTable) (f : Fragment RawName as_written) (m : SchemaMeaning)
    → Says text f → FragmentMeaning f table m → Never (BuildFault f table) → IsUncaptured m
    → IsClosed table m ↔ (¬ IsHalfFilled m)

pub json_closed : ClosedFrom TextShape → ClosedFrom OldText → (form : JsonForm) (text : List ℕ) (table : ExtensionTable)
    (m : SchemaMeaning) → JsonMeaning form text table m → IsClosed table m ↔ (¬ IsHalfFilled m)
json_closed current old Current text table m j =
    current text table j.fragment m j.says j.means j.faultless j.uncaptured
json_closed current old Deprecated text table m j =
    old text table j.fragment m j.says j.means j.faultless j.uncaptured
