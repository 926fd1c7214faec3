-- Texts that spell what is rearranged are translated to fragments that declare the same.
use Rattle.std.proofs.Common.{◌≡◌, ℕ, List, [], length, refl, sym, ap, ◌∙◌, subst}
use Rattle.std.specs.List.{All, AllByRecursion, AllZip}
use Rattle.schema_syntax_grammar.specs.Grammar.{Sentence}
use Rattle.schema_syntax_tokens.specs.Laid.{Lexeme, Spells}
use Rattle.schema_syntax_tokens.specs.Scans.{Scans}
use Rattle.schema_syntax_tokens.specs.TokenLists.{kinds_of}
use Rattle.schema_syntax_tokens.specs.declared.token.Token.{Token}
use Rattle.cedar_identifiers.specs.declared.raw_name.RawName.{RawName}
use Rattle.cedar_names.specs.declared.extension_table.ExtensionTable.{ExtensionTable}
use Rattle.schema_syntax_parser.specs.Syntax.{IsSyntax}
use Rattle.schema_syntax_parser.specs.declared.syntax.ItemSyntax.{ItemSyntax}
use Rattle.schema_syntax_tree.specs.declared.annotated.Annotated.{Annotated}
use Rattle.schema_syntax_tree.specs.declared.namespace.Namespace.{Namespace}
use Rattle.schema_syntax_reader.specs.Sites.{sites_of}
use Rattle.schema_syntax_reader.specs.Trees.{IsTreeOf}
use Rattle.schema_syntax.specs.ParseAnswers.{IsTreeOfText}
use Rattle.schema_json.specs.declared.fragment.Fragment.{Fragment}
use Rattle.schema_json.specs.AsWritten.{as_written}
use Rattle.laws_written.specs.Reads.{IsFaultless, ReadsSchema}
use Rattle.laws_written.specs.ReadsBack.{ReadsBack}
use Rattle.laws_written.specs.Said.{SaidAll}
use Rattle.laws_written.specs.Shows.{SaysItem}
use Rattle.laws_written.specs.Spellings.{SpellsSchema}
use Rattle.laws_written.specs.Written.{WrittenItem}
use Rattle.laws_written.proofs.ReadingBack.{lawful_so, faultless_all}
use Rattle.schema_convert_errors.specs.declared.warnings.SchemaWarning.{SchemaWarning}
use Rattle.schema_convert_faults.specs.Faults.{translation_faults}
use Rattle.schema_convert_faults.specs.Shadowings.{shadowings}
use Rattle.schema_convert_plain.specs.Translation.{translated}
use Rattle.schema_convert.specs.Translated.{IsTranslationOfText}
use Rattle.laws_translate.specs.FragmentsSay.{FragmentSays}
use Rattle.laws_translate.specs.Named.{IsWellNamed}
use Rattle.laws_translate.specs.Sayable.{IsSayable}
use Rattle.schema_build.specs.FaultsTold.{IsInOrder}
use Rattle.laws_build.proofs.Closure.Spelled.{schema_good}
use Rattle.laws_build.specs.Orders.Alike.{declared_alone, DeclareTheSame}
use Rattle.laws_build.specs.Orders.Reordered.{AreRearranged}
use Rattle.laws_build.specs.Orders.Texts.{IsWrittenAs, HaveTheSameTokens, IsTranslatedAlike}

abbrev Frag : Type 0
Frag = Fragment RawName as_written

abbrev Tree : Type 0
Tree = List (Annotated Namespace)

module _ (sentences : (tokens : List Token) (items : List ItemSyntax) → IsSyntax tokens items
    → Sentence (kinds_of tokens))
    (reads : (source : List ℕ) (u : List Lexeme) (w : List WrittenItem) → SpellsSchema u w → (ts : List Token)
    → Spells source ts u → ReadsSchema source ts w)
    (one_tree : (text : List ℕ) (tree other : Tree) → IsTreeOfText text tree → IsTreeOfText text other
    → tree ≡ other)
    (say : (tree : Tree) (w : List WrittenItem) → AllZip SaysItem tree w → AllByRecursion IsWellNamed w
    → translation_faults tree ≡ [] → FragmentSays (translated tree) w)
    (decide_to : (tree : Tree) (w : List WrittenItem) → AllZip SaysItem tree w → AllByRecursion IsWellNamed w
    → translation_faults tree ≡ [] → IsSayable w)
    (decide_from : (tree : Tree) (w : List WrittenItem) → AllZip SaysItem tree w → AllByRecursion IsWellNamed w
    → IsSayable w → translation_faults tree ≡ [])
    (too : (w v : List WrittenItem) → AreRearranged w v → IsSayable w → IsSayable v)
    (declare : (f g : Frag) (w v : List WrittenItem) → FragmentSays f w → FragmentSays g v → AreRearranged w v
    → IsSayable w → DeclareTheSame f g)
    (ordered : (f : Frag) (w : List WrittenItem) → FragmentSays f w → IsInOrder f) where
  -- a text that spells what is written reads back
  reads_back : (text : List ℕ) (w : List WrittenItem) → IsWrittenAs text w → ReadsBack text w
  reads_back text w h =
      let r = reads text h.lexemes w h.spell h.read.tokens h.read.spells in
      record {
        tokens = h.read.tokens;
        scans = h.read.scans;
        items = r.syns;
        syntax = r.parsed;
        lawful = lawful_so text r.syns r.lawful;
        tree = r.nodes;
        is = r.are;
        says = r.says;
      }

  tree_of : (text : List ℕ) (w : List WrittenItem) (r : ReadsBack text w) → IsTreeOfText text r.tree
  tree_of text w r = record {
    tokens = r.tokens;
    are = record { scans = r.scans; sentence = sentences r.tokens r.items r.syntax };
    tree = record { items = r.items; syntax = r.syntax; lawful = r.lawful; tree = r.is };
  }

  pub translated_alike : (text other : List ℕ) (table : ExtensionTable) (w v : List WrittenItem) (f : Frag)
      (warnings : List SchemaWarning) → IsWrittenAs text w → IsWrittenAs other v → AreRearranged w v
      → IsTranslationOfText text table f warnings → IsTranslatedAlike other table f
  translated_alike text other table w v f warnings h k r (tree, is, t) =
      let first = reads_back text w h in
      let second = reads_back other v k in
      let same : tree ≡ first.tree = one_tree text tree first.tree is (tree_of text w first) in
      let named = (schema_good h.lexemes w h.spell).0 in
      let also = (schema_good k.lexemes v k.spell).0 in
      let lawful : translation_faults first.tree ≡ [] = ap translation_faults (sym same) ∙ t.lawful in
      let sayable = decide_to first.tree w first.says named lawful in
      let faultless = decide_from second.tree v second.says also (too w v r sayable) in
      let says = say first.tree w first.says named lawful in
      let others = say second.tree v second.says also faultless in
      let fragment : f ≡ translated first.tree = t.is ∙ ap translated same in
      record {
        fragment = translated second.tree;
        warnings = shadowings second.tree table;
        translated = (
          second.tree,
          tree_of other v second,
          record { lawful = faultless; is = refl; warned = refl },
        );
        same = ap declared_alone fragment
            ∙ declare (translated first.tree) (translated second.tree) w v says others r sayable;
        ordered = ordered (translated second.tree) v others;
      }

module _ (spelled : (source : List ℕ) (ts : List Token) (items : List ItemSyntax) (tree : Tree) (u : List Lexeme)
    → IsSyntax ts items → IsTreeOf source items tree → All (IsFaultless source) (sites_of items)
    → Spells source ts u → SaidAll SaysItem (SpellsSchema u) tree) where
  -- lexemes of the tokens of a text with a tree spell something
  pub written : (text : List ℕ) (tree : Tree) (u : List Lexeme) (is : IsTreeOfText text tree) → Spells text is.tokens u
      → (w : List WrittenItem) × SpellsSchema u w
  written text tree u is spells =
      let said = spelled text is.tokens is.tree.items tree u is.tree.syntax is.tree.tree
      (faultless_all text is.tree.items is.tree.lawful [] (sites_of is.tree.items) refl) spells in
      (said.written, said.spell)

  pub written_so : (text : List ℕ) (tree : Tree) (u : List Lexeme) (is : IsTreeOfText text tree)
      → Spells text is.tokens u → (w : List WrittenItem) × IsWrittenAs text w
  written_so text tree u is spells =
      let (w, spell) = written text tree u is spells in (
        w,
        record {
          lexemes = u;
          read = record { tokens = is.tokens; scans = is.are.scans; spells = spells };
          spell = spell;
        },
      )

  module _ (scan : (text : List ℕ) (ts us : List Token) (at bt : ℕ) → Scans text ts at → Scans text us bt
      → (ts ≡ us) × (at ≡ bt))
      (alike : (text other : List ℕ) (table : ExtensionTable) (w v : List WrittenItem) (f : Frag)
      (warnings : List SchemaWarning) → IsWrittenAs text w → IsWrittenAs other v → AreRearranged w v
      → IsTranslationOfText text table f warnings → IsTranslatedAlike other table f)
      (itself : (w : List WrittenItem) → AreRearranged w w) where
    pub same_tokens_alike : (text other : List ℕ) (table : ExtensionTable) (f : Frag) (warnings : List SchemaWarning)
        → HaveTheSameTokens text other → IsTranslationOfText text table f warnings → IsTranslatedAlike other table f
    same_tokens_alike text other table f warnings h (tree, is, t) =
        let one = (scan text h.first.tokens is.tokens (length text) (length text) h.first.scans is.are.scans).0 in
        let (w, spell) = written text tree h.lexemes is (subst (λ ts. Spells text ts h.lexemes) one h.first.spells) in
        alike text other table w w f warnings
        (record { lexemes = h.lexemes; read = h.first; spell = spell })
        (record { lexemes = h.lexemes; read = h.second; spell = spell }) (itself w) (tree, is, t)
