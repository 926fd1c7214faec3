-- What is told of a refusal of a text is one.
use Rattle.std.proofs.Common.{◌≡◌, ◌≢◌, ℕ, List, [], ◌∷◌, ◌++◌, map, None, refl, sym, ap, ◌∙◌, subst, IsUtf8}
use Rattle.std.specs.Prelude.{codes}
use Rattle.std.specs.Str.{chars}
use Rattle.std.specs.List.{flat_map}
use Rattle.cedar_identifiers.specs.Names.{components_of, name_text}
use Rattle.cedar_identifiers.specs.declared.raw_name.RawName.{RawName}
use Rattle.cedar_names.specs.Meaning.{SchemaMeaning}
use Rattle.cedar_names.specs.declared.extension_table.ExtensionTable.{ExtensionTable}
use Rattle.schema_syntax_tree.specs.declared.annotated.Annotated.{Annotated}
use Rattle.schema_syntax_tree.specs.declared.namespace.Namespace.{Namespace}
use Rattle.schema_syntax_errors.specs.declared.parse_error.ParseError.{ParseError}
use Rattle.schema_syntax.specs.ParseAnswers.{IsTreeOfText, IsErrorOf}
use Rattle.schema_json.specs.declared.fragment.Fragment.{Fragment}
use Rattle.schema_json.specs.AsWritten.{as_written}
use Rattle.schema_convert_errors.specs.declared.error_list.CedarSchemaParseErrors.{CedarSchemaParseErrors}
use Rattle.schema_convert_errors.specs.declared.error_list.CedarSchemaParseErrors.TheVariants as parse
use Rattle.schema_convert_errors.specs.declared.warnings.SchemaWarning.{SchemaWarning}
use Rattle.schema_convert_faults.specs.Faults.{translation_faults}
use Rattle.schema_convert.specs.Translated.{IsTranslationOfText}
use Rattle.schema_build_errors.specs.CapturedTexts.{captured_text, captured_message, user_text}
use Rattle.schema_build_errors.specs.declared.captured.CapturedItem.{CapturedItem}
use Rattle.schema_build_errors.specs.declared.captured.CapturedItem.TheVariants as item
use Rattle.schema_build_errors.specs.declared.captured.ReferenceCaptured.{ReferenceCaptured}
use Rattle.schema_build_errors.specs.declared.schema_error.SchemaError.{SchemaError}
use Rattle.schema_build_parts.specs.BuildFaults.{BuildFault}
use Rattle.schema_build_text.specs.Captured.{IsCapturedItem, IsFirstOf, IsFirstCaptured, captured_items}
use Rattle.schema_build_text.specs.Walk.{ItemContent, entity_type, action}
use Rattle.schema_build_types.specs.Standing.{schema_as_built}
use Rattle.schema_syntax_tokens.specs.Quotes.{quoted}
use Rattle.schema_build.specs.FaultsTold.{AreToldAlike, IsInOrder}
use Rattle.schema_build.specs.Meaning.{FragmentMeaning}
use Rattle.cedar_schema_core_faults.specs.Told.{Told, fault_text, told_lines, told_schema, told_translation}
use Rattle.cedar_schema_core_faults.specs.Told.{told_parse}
use Rattle.cedar_schema_core_faults.specs.declared.recover_error.RecoverError.{RecoverError}
use Rattle.cedar_schema_core_faults.specs.declared.recover_error.RecoverError.TheVariants.{Parse, Schema, Captured}
use Rattle.cedar_schema_core_faults.specs.declared.recover_error.RecoverError.TheVariants.{Memory}
use Rattle.schema_build.specs.Texts.{IsParseRefusal}
use Rattle.cedar_schema_core.specs.Recovery.{IsRefusal}
use Rattle.cedar_schema_core.proofs.TranslatedInOrder.{in_order}

-- the first captured item is told in one way
item_once : (x : ItemContent) (i j : CapturedItem) → IsCapturedItem x i → IsCapturedItem x j → user_text i ≡ user_text j
item_once (entity_type e) (item.EntityType v) (item.EntityType w) h k =
    ap (λ word. codes "entity type `" ++ (word ++ codes "`")) (h ∙ sym k)
item_once (entity_type e) (item.EntityType v) (item.Action w) h k = absurd k
item_once (entity_type e) (item.Action v) j h k = absurd h
item_once (action a) (item.Action v) (item.Action w) h k =
    ap (λ id. codes "action `" ++ (chars (quoted id) ++ codes "`")) (h ∙ sym k)
item_once (action a) (item.Action v) (item.EntityType w) h k = absurd k
item_once (action a) (item.EntityType v) j h k = absurd h

pub captured_once : (items : List ItemContent) (a b : ReferenceCaptured) → IsFirstOf items a → IsFirstOf items b
    → captured_text a ≡ captured_text b
captured_once [] a b h k = absurd h
captured_once (x ∷ others) a b h k =
    let places : components_of a.namespace.name ≡ components_of b.namespace.name = h.0 ∙ sym k.0 in
    let users : user_text a.item ≡ user_text b.item = item_once x a.item b.item h.1 k.1 in
    λ i. captured_message (name_text (places i)) (users i)

-- the words of one fault, told of both
pub told_once : (e other : SchemaError) → AreToldAlike e other
    → flat_map told_lines (told_schema e ∷ []) ≡ flat_map told_lines (told_schema other ∷ [])
told_once e other a = λ i.
    let t : Told = record { text = a.text i; labels = a.labels i; help = a.help i } in flat_map told_lines (t ∷ [])

module _
    (one : (text : List ℕ) (tree other : List (Annotated Namespace)) → IsTreeOfText text tree
    → IsTreeOfText text other → tree ≡ other)
    (either : (text : List ℕ) (schema : List (Annotated Namespace)) (error : ParseError) → IsTreeOfText text schema
    → IsErrorOf text error → ⊥)
    (error_once : (text : List ℕ) → IsUtf8 text → (e other : ParseError) → IsErrorOf text e
    → IsErrorOf text other → e ≡ other)
    (translation : (text : List ℕ) (table : ExtensionTable) (f g : Fragment RawName as_written)
    (v w : List SchemaWarning) → IsTranslationOfText text table f v → IsTranslationOfText text table g w
    → (f ≡ g) × (v ≡ w))
    (apart : (text : List ℕ) (table : ExtensionTable) (e : CedarSchemaParseErrors) (f : Fragment RawName as_written)
    (w : List SchemaWarning) → IsParseRefusal text e → IsTranslationOfText text table f w → ⊥)
    (meaning : (f : Fragment RawName as_written) (table : ExtensionTable) (m n : SchemaMeaning)
    → FragmentMeaning f table m → FragmentMeaning f table n → m ≡ n)
    (build_once : (f : Fragment RawName as_written) (table : ExtensionTable) (e other : SchemaError) → IsInOrder f
    → BuildFault f table e → BuildFault f table other → AreToldAlike e other)
    (text : List ℕ) (utf8 : IsUtf8 text) (table : ExtensionTable) where
  parse_once : (a b : CedarSchemaParseErrors) → IsParseRefusal text a → IsParseRefusal text b
      → fault_text text (Parse a) ≡ fault_text text (Parse b)
  parse_once parse.Memory b h k = absurd h
  parse_once (parse.SyntaxError x) parse.Memory h k = absurd k
  parse_once (parse.SyntaxError x) (parse.SyntaxError y) (e, is, h) (g, too, k) =
      let same : e ≡ g = error_once text utf8 e g h k in
      let lists : x.errors ≡ y.errors = is ∙ ap (λ z. z ∷ []) same ∙ sym too in
      ap (λ l. flat_map told_lines (map (told_parse text) l)) lists
  parse_once (parse.SyntaxError x) (parse.JsonError y) (e, is, h) (tree, tree_is, k) =
      absurd (either text tree e tree_is h)
  parse_once (parse.JsonError x) parse.Memory h k = absurd k
  parse_once (parse.JsonError x) (parse.SyntaxError y) (tree, tree_is, h) (e, is, k) =
      absurd (either text tree e tree_is k)
  parse_once (parse.JsonError x) (parse.JsonError y) (tree, tree_is, h) (other, other_is, k) =
      let same : tree ≡ other = one text tree other tree_is other_is in
      let lists : x.errors ≡ y.errors = h.all ∙ ap translation_faults same ∙ sym k.all in
      ap (λ l. flat_map told_lines (map told_translation l)) lists

  -- a fragment of the text is in order
  ordered : (f : Fragment RawName as_written) (w : List SchemaWarning) → IsTranslationOfText text table f w
      → IsInOrder f
  ordered f w (tree, tree_is, t) = subst IsInOrder (sym t.is) (in_order tree)

  -- what is told of a refusal of the text is one
  pub refusal_once : (e other : RecoverError) → e ≢ Memory → other ≢ Memory → IsRefusal text table e
      → IsRefusal text table other → fault_text text e ≡ fault_text text other
  refusal_once (Parse a) (Parse b) n m h k = parse_once a b h k
  refusal_once (Parse a) (Schema b) n m h (f, (w, t), k) = absurd (apart text table a f w h t)
  refusal_once (Parse a) (Captured b) n m h k = absurd (apart text table a k.fragment k.translated.0 h k.translated.1)
  refusal_once (Schema a) (Parse b) n m (f, (w, t), h) k = absurd (apart text table b f w k t)
  refusal_once (Schema a) (Schema b) n m (f, (v, t), h) (g, (w, u), k) =
      let same : f ≡ g = (translation text table f g v w t u).0 in
      told_once a b (build_once g table a b (ordered g w u) (subst (λ z. BuildFault z table a) same h) k)
  refusal_once (Schema a) (Captured b) n m (f, (w, t), h) k =
      let same : f ≡ k.fragment = (translation text table f k.fragment w k.translated.0 t k.translated.1).0 in
      absurd (k.faultless a (subst (λ z. BuildFault z table a) same h))
  refusal_once (Captured a) (Parse b) n m h k = absurd (apart text table b h.fragment h.translated.0 k h.translated.1)
  refusal_once (Captured a) (Schema b) n m h (f, (w, t), k) =
      let same : f ≡ h.fragment = (translation text table f h.fragment w h.translated.0 t h.translated.1).0 in
      absurd (h.faultless b (subst (λ z. BuildFault z table b) same k))
  refusal_once (Captured a) (Captured b) n m h k =
      let same : h.fragment ≡ k.fragment =
      (translation text table h.fragment k.fragment h.translated.0 k.translated.0 h.translated.1 k.translated.1).0 in
      let means : h.meaning ≡ k.meaning = meaning k.fragment table h.meaning k.meaning
      (subst (λ z. FragmentMeaning z table h.meaning) same h.means) k.means in
      let first : IsFirstCaptured k.meaning a = subst (λ z. IsFirstCaptured z a) means h.first in
      ap (λ words. let t : Told = record { text = words; labels = []; help = None } in flat_map told_lines (t ∷ []))
      (captured_once (captured_items (schema_as_built k.meaning)) a b first k.first)
  refusal_once Memory other n m h k = absurd (n refl)
  refusal_once e Memory n m h k = absurd (m refl)
