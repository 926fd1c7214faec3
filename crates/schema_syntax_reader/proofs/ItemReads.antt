-- Items of tokens that are read one after another.
use Rattle.std.proofs.Common.{◌≡◌, ℕ, ◌+◌, List, [], ◌∷◌, ◌++◌, length, take, drop, refl, sym, ap, ◌∙◌, subst}
use Rattle.std.proofs.Common.{append_assoc, append-nil, arith}
use Rattle.std.proofs.lemmas.List.{take-append-drop, length-append, drop_at}
use Rattle.std.specs.List.{All, AllZip}
use Rattle.std.proofs.lemmas.List.Elements.{All-nil, All-head, All-append}
use Rattle.std.proofs.lemmas.Grind.{flat_map-append}
use Rattle.std.proofs.lemmas.Slice.Zip.{all_zipped_more}
use Rattle.cedar_data.proofs.Lists.{All-back}
use Rattle.schema_syntax_grammar.specs.Grammar.{Sentence}
use Rattle.schema_syntax_tokens.specs.declared.token.Token.{Token}
use Rattle.schema_syntax_tokens.specs.Scans.{Scans, IsPlaced}
use Rattle.schema_syntax_tokens.specs.TokenLists.{kinds_of}
use Rattle.schema_syntax_parser.specs.declared.syntax.ItemSyntax.{ItemSyntax}
use Rattle.schema_syntax_parser.specs.Syntax.{IsItem, IsSyntax, IsFirstItem, none, more}
use Rattle.schema_syntax_parser.proofs.Back.{one_syntax}
use Rattle.schema_syntax_parser.proofs.Made.{made}
use Rattle.schema_syntax_tree.specs.declared.annotated.Annotated.{Annotated}
use Rattle.schema_syntax_tree.specs.declared.namespace.Namespace.{Namespace}
use Rattle.schema_syntax_reader.specs.declared.stopped.Stopped.{Stopped}
use Rattle.schema_syntax_reader.specs.Sites.{item_sites, sites_of}
use Rattle.schema_syntax_reader.specs.Placed.{IsScanned, NoSiteFault}
use Rattle.schema_syntax_reader.specs.Stops.{IsStopped}
use Rattle.schema_syntax_reader.specs.Trees.{IsItemOf}
use Rattle.schema_syntax_reader.specs.LawfulTrees.{IsLawfulTree, IsStopOf}
use Rattle.schema_syntax_reader.proofs.Order.{all_lawful, stop_of}
use Rattle.schema_syntax_reader.proofs.Readings.{Faultless, stopped_left, stopped_right}
use Rattle.schema_syntax_reader.proofs.Rising.{scans_rise}
use Rattle.schema_syntax_reader.proofs.Scanned.{items_scanned}

module _ (source : List ℕ) (tokens : List Token) where
  -- the namespaces are those of the items before the rest of the tokens
  pub record ReadItems (rest : List Token) (namespaces : List (Annotated Namespace)) : Type 0 where
    pub done : List ItemSyntax
    pub others : List ItemSyntax
    pub syntax : IsSyntax tokens (done ++ others)
    pub left : IsSyntax rest others
    pub each : AllZip (IsItemOf source) done namespaces
    pub lawful : Faultless source (sites_of done)

  -- the namespaces are those of the items before this one, which is the next
  pub record NextItem (item : ItemSyntax) (after : List Token) (namespaces : List (Annotated Namespace))
      : Type 0 where
    pub done : List ItemSyntax
    pub others : List ItemSyntax
    pub syntax : IsSyntax tokens (done ++ item ∷ others)
    pub left : IsSyntax after others
    pub each : AllZip (IsItemOf source) done namespaces
    pub lawful : Faultless source (sites_of done)

  pub no_item_yet : (rest : List Token) (namespaces : List (Annotated Namespace)) → Sentence (kinds_of tokens)
      → rest ≡ tokens → namespaces ≡ [] → ReadItems rest namespaces
  no_item_yet rest namespaces sentence all empty =
      let m = made sentence tokens refl in
      record {
        done = [];
        others = m.0;
        syntax = m.1;
        left = subst (λ ts. IsSyntax ts m.0) (sym all) m.1;
        each = subst (AllZip (IsItemOf source) []) (sym empty) tt;
        lawful = All-nil (NoSiteFault source);
      }

  -- what is left is the syntax of the rest, so that its kinds are those of a schema
  pub next_is : (rest : List Token) (item : ItemSyntax) (after : List Token) (namespaces : List (Annotated Namespace))
      → ReadItems rest namespaces → IsFirstItem rest item after → NextItem item after namespaces
  next_is rest item after namespaces so_far f =
      let m = made f.sentence after refl in
      let here : IsSyntax rest (item ∷ m.0) = subst (λ ts. IsSyntax ts (item ∷ m.0)) (sym f.split) (more f.is m.1) in
      let same : so_far.others ≡ item ∷ m.0 = one_syntax rest so_far.others (item ∷ m.0) so_far.left here in
      record {
        done = so_far.done;
        others = m.0;
        syntax = subst (λ xs. IsSyntax tokens (so_far.done ++ xs)) same so_far.syntax;
        left = m.1;
        each = so_far.each;
        lawful = so_far.lawful;
      }

  module _ (item : ItemSyntax) (after : List Token) (namespaces : List (Annotated Namespace))
      (next : NextItem item after namespaces) where
    pub one_scanned : (at : ℕ) → Scans source tokens at → All (IsPlaced source) tokens
        → IsScanned IsItem source item
    one_scanned at scans placed =
        let all = items_scanned source tokens (next.done ++ item ∷ next.others) next.syntax
        (record { placed = placed; rise = scans_rise source tokens at scans }) in
        All-head (IsScanned IsItem source) item next.others
        (All-back (IsScanned IsItem source) next.done (item ∷ next.others) all)

    pub one_more_item : (namespace : Annotated Namespace) (grown : List (Annotated Namespace))
        → IsItemOf source item namespace → Faultless source (item_sites item)
        → grown ≡ namespaces ++ namespace ∷ [] → ReadItems after grown
    one_more_item namespace grown is all into =
        let sites : sites_of (next.done ++ item ∷ []) ≡ sites_of next.done ++ item_sites item =
        flat_map-append item_sites next.done (item ∷ [])
        ∙ ap (λ l. sites_of next.done ++ l) (append-nil (item_sites item)) in
        record {
          done = next.done ++ item ∷ [];
          others = next.others;
          syntax = subst (IsSyntax tokens) (sym (append_assoc next.done (item ∷ []) next.others)) next.syntax;
          left = next.left;
          each = subst (AllZip (IsItemOf source) (next.done ++ item ∷ [])) (sym into)
              (all_zipped_more (IsItemOf source) next.done namespaces item namespace next.each is);
          lawful = subst (Faultless source) (sym sites)
              (All-append (NoSiteFault source) (sites_of next.done) (item_sites item) next.lawful all);
        }

    pub stopped_at_item : (at : ℕ) (e : Stopped) → Scans source tokens at → All (IsPlaced source) tokens
        → IsStopped source (item_sites item) e → IsStopOf source tokens e
    stopped_at_item at e scans placed stop =
        stop_of source tokens at (next.done ++ item ∷ next.others) e scans placed next.syntax
        (subst (λ l. IsStopped source l e) (sym (flat_map-append item_sites next.done (item ∷ next.others)))
        (stopped_right source (sites_of next.done) (item_sites item ++ sites_of next.others) e next.lawful
        (stopped_left source (item_sites item) (sites_of next.others) e stop)))

  pub all_items : (rest : List Token) (namespaces schema : List (Annotated Namespace)) → ReadItems rest namespaces
      → rest ≡ [] → schema ≡ namespaces → IsLawfulTree source tokens schema
  all_items rest namespaces schema so_far end same =
      let nothing : so_far.others ≡ [] = one_syntax [] so_far.others []
      (subst (λ ts. IsSyntax ts so_far.others) end so_far.left) none in
      let whole : so_far.done ++ so_far.others ≡ so_far.done = ap (λ xs. so_far.done ++ xs) nothing
      ∙ append-nil so_far.done in
      record {
        items = so_far.done;
        syntax = subst (IsSyntax tokens) whole so_far.syntax;
        lawful = all_lawful source so_far.done so_far.lawful;
        tree = subst (AllZip (IsItemOf source) so_far.done) (sym same) so_far.each;
      }

-- what stands behind a first item, among all the tokens that are kept
pub kept_after : (kept : List Token) (at : ℕ) (rest : List Token) (item : ItemSyntax) (after : List Token)
    → rest ≡ drop at kept → IsFirstItem rest item after → (behind : ℕ) → behind + length after ≡ length kept
    → drop behind kept ≡ after
kept_after kept at rest item after from first behind sum =
    let whole : kept ≡ (take at kept ++ first.front) ++ after = sym (take-append-drop at kept)
    ∙ (ap (λ l. take at kept ++ l) (sym from ∙ first.split) ∙ sym (append_assoc (take at kept) first.front after)) in
    let size = ap length whole ∙ length-append (take at kept ++ first.front) after in
    ap (λ l. drop behind l) whole
    ∙ drop_at (take at kept ++ first.front) after behind (omega (arith, sum, size))
