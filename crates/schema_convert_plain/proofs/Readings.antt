-- Items that are read and gathered one after another.
use Rattle.std.proofs.Common.{◌≡◌, ℕ, List, [], ◌∷◌, ◌++◌, map, Option, Some, None, refl, sym, ap, subst}
use Rattle.std.specs.List.{AllByRecursion, AllZip}
use Rattle.std.specs.List.Sorted.{IsStrictlySortedBy}
use Rattle.std.specs.Map.{keys_of}
use Rattle.std.specs.Prelude.{IfSome}
use Rattle.std.specs.declared.cmp.Ordering.TheVariants.{Less}
use Rattle.cedar_data.specs.Text.{text_cmp}
use Rattle.schema_syntax_tokens.specs.declared.token.Token.{Token}
use Rattle.cedar_identifiers.specs.declared.any_id.AnyId.{AnyId}
use Rattle.cedar_identifiers.specs.declared.raw_name.RawName.{RawName}
use Rattle.cedar_names.specs.declared.extension_table.ExtensionTable.{ExtensionTable}
use Rattle.schema_syntax_parser.specs.declared.syntax.ItemSyntax.{ItemSyntax}
use Rattle.schema_syntax_parser.specs.declared.syntax.ItemSyntax.TheVariants as item
use Rattle.schema_syntax_tree.specs.declared.annotated.Annotated.{Annotated}
use Rattle.schema_syntax_tree.specs.declared.namespace.Namespace.{Namespace}
use Rattle.schema_syntax_tree.specs.declared.path.Path.{Path}
use Rattle.schema_syntax_reader.specs.Trees.{IsItemOf}
use Rattle.schema_syntax_reader.specs.LawfulTrees.{IsLawfulTree}
use Rattle.schema_syntax_reader.proofs.ItemReads.{ReadItems, all_items}
use Rattle.schema_json.specs.declared.fragment.Fragment.{Fragment}
use Rattle.schema_json.specs.Orders.{annotation_key_cmp}
use Rattle.schema_json.specs.AsWritten.{as_written}
use Rattle.schema_convert_plain.specs.Gathered.{IsGatheredOf}
use Rattle.schema_convert_openings.specs.Joined.{named, named_so}
use Rattle.schema_convert_plain.specs.Plain.{HasRisingNotes}
use Rattle.schema_convert_plain.specs.Translation.{IsTranslation}
use Rattle.schema_convert_plain.specs.declared.gathering.Gathered.{Gathered}

-- what was gathered is of the items before the rest of the tokens
pub record HasRead (source : List ℕ) (tokens : List Token) (table : ExtensionTable) (rest : List Token) (g : Gathered)
    : Type 0 where
  pub tree : List (Annotated Namespace)
  pub read : ReadItems source tokens rest tree
  pub is : IsGatheredOf table tree g

keys_below : {X : Type 0} (k : AnyId) (notes : List (AnyId × X))
    → AllByRecursion (λ t. text_cmp k.text t ≡ Less) (map (λ note. note.0.text) notes)
    → AllByRecursion (λ q. annotation_key_cmp k q ≡ Less) (keys_of notes)
keys_below k [] all = tt
keys_below k (n ∷ notes) all = (all.0, keys_below k notes all.1)

keys_rise : {X : Type 0} (notes : List (AnyId × X)) → IsStrictlySortedBy text_cmp (map (λ note. note.0.text) notes)
    → IsStrictlySortedBy annotation_key_cmp (keys_of notes)
unfolding IsStrictlySortedBy
keys_rise [] sorted = tt
keys_rise (n ∷ notes) sorted = (keys_below n.0 notes sorted.0, keys_rise notes sorted.1)

no_keys : {X : Type 0} (notes : List (AnyId × X)) → notes ≡ [] → IsStrictlySortedBy annotation_key_cmp (keys_of notes)
unfolding IsStrictlySortedBy
no_keys {X} notes none = subst (λ l. IsStrictlySortedBy annotation_key_cmp (keys_of l)) (sym none)
    (keys_rise {X = X} [] tt)

rises : (source : List ℕ) (i : ItemSyntax) (n : Annotated Namespace) → IsItemOf source i n → HasRisingNotes n
rises source (item.Namespace list p decls loc) n is = keys_rise n.annotations.0 is.5.sorted
rises source (item.Decl x) n is = no_keys n.annotations.0 (ap (λ (m : Annotated Namespace). m.annotations.0) is.1)

all_rise : (source : List ℕ) (items : List ItemSyntax) (tree : List (Annotated Namespace))
    → AllZip (IsItemOf source) items tree
    → AllByRecursion HasRisingNotes tree
all_rise source [] [] is = tt
all_rise source [] (n ∷ tree) is = absurd is
all_rise source (i ∷ items) [] is = absurd is
all_rise source (i ∷ items) (n ∷ tree) is = (rises source i n is.0, all_rise source items tree is.1)

named_rise : (tree : List (Annotated Namespace)) → AllByRecursion HasRisingNotes tree
    → AllByRecursion HasRisingNotes (named tree)
named_rise [] all = tt
named_rise (n ∷ tree) all = by (named_rise tree all.1) n.item.name
  where
    by : AllByRecursion HasRisingNotes (named tree) → (name : Option Path)
        → AllByRecursion HasRisingNotes (named_so name n ++ named tree)
    by rest None = rest
    by rest (Some path) = (all.0, rest)

pub tree_rises : (source : List ℕ) (tokens : List Token) (tree : List (Annotated Namespace))
    → IsLawfulTree source tokens tree → AllByRecursion HasRisingNotes (named tree)
tree_rises source tokens tree lawful = named_rise tree (all_rise source lawful.items tree lawful.tree)

-- where no token is left, the fragment of what was gathered is that of the tree
pub found : (source : List ℕ) (tokens : List Token) (table : ExtensionTable) (rest : List Token) (g : Gathered)
    (o : Option (Fragment RawName as_written)) → HasRead source tokens table rest g → rest ≡ []
    → IfSome o (λ f. (other : ExtensionTable) (tree : List (Annotated Namespace)) → IsGatheredOf other tree g
    → AllByRecursion HasRisingNotes (named tree) → IsTranslation tree other f [])
    → IfSome o (λ f. (tree : List (Annotated Namespace)) × IsLawfulTree source tokens tree
    × IsTranslation tree table f [])
found source tokens table rest g None so_far end h = tt
found source tokens table rest g (Some f) so_far end h =
    let lawful = all_items source tokens rest so_far.tree so_far.tree so_far.read end refl in
    (so_far.tree, lawful, h table so_far.tree so_far.is (tree_rises source tokens so_far.tree lawful))
