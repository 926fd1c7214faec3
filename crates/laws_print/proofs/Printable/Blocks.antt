-- What a printable fragment has in each of its namespaces.
use Rattle.std.proofs.Common.{◌≡◌, Bool, true, false, not, List, [], ◌∷◌, map, filter, cond, refl}
use Rattle.std.specs.Cmp.{first_so, second_so}
use Rattle.std.specs.List.{AllByRecursion, flat_map, list_all}
use Rattle.std.proofs.lemmas.Bool.{not-true}
use Rattle.cedar_data.proofs.Every.{All-weaker}
use Rattle.cedar_data.proofs.Lists.{empty_before, empty_behind}
use Rattle.cedar_identifiers.specs.declared.raw_name.RawName.{RawName}
use Rattle.cedar_names.specs.declared.extension_table.ExtensionTable.{ExtensionTable}
use Rattle.schema_json.specs.Keywords.{is_keyword_name}
use Rattle.schema_json.specs.declared.fragment.Fragment.{Fragment}
use Rattle.schema_json.specs.AsWritten.{as_written}
use Rattle.schema_json_walk.specs.Walk.{itself, of_namespace}
use Rattle.schema_print.specs.Collisions.{declared_in, is_shapeless, block_shapeless}
use Rattle.schema_print.specs.Printable.{IsClosedPart, IsBare, IsWithoutAttributes, has_printable_context}
use Rattle.schema_print.specs.Printable.{has_whole_targets}
use Rattle.schema_print.specs.Printable.{is_annotated_where_named, IsPrintable}
use Rattle.laws_print.specs.Printed.CedarForm.{Block}
use Rattle.laws_print.proofs.Printable.PartsOfEach.{in_each}

-- each item passes a test
each_passes : {A : Type 0} (test : A → Bool) (xs : List A) → list_all test xs ≡ true
    → AllByRecursion (λ x. test x ≡ true) xs
each_passes test [] h = tt
each_passes test (x ∷ xs) h =
    (first_so (test x) (list_all test xs) h, each_passes test xs (second_so (test x) (list_all test xs) h))

each_gives_none : {A B : Type 0} (give : A → List B) (xs : List A) → flat_map give xs ≡ []
    → AllByRecursion (λ x. give x ≡ []) xs
each_gives_none give [] h = tt
each_gives_none give (x ∷ xs) h = (
  empty_before (give x) (flat_map give xs) h,
  each_gives_none give xs (empty_behind (give x) (flat_map give xs) h),
)

-- where nothing is kept, each item is passed over
none_kept : {A B : Type 0} (test : A → Bool) (name : A → B) (xs : List A) → map name (filter test xs) ≡ []
    → AllByRecursion (λ x. test x ≡ false) xs
none_kept test name [] h = tt
none_kept {A} test name (x ∷ xs) h = by (test x) refl h (λ k. none_kept test name xs k)
  where
    by : (b : Bool) → test x ≡ b → map name (cond b (x ∷ filter test xs) (filter test xs)) ≡ []
        → (map name (filter test xs) ≡ [] → AllByRecursion (λ (y : A). test y ≡ false) xs)
        → (test x ≡ false) × AllByRecursion (λ (y : A). test y ≡ false) xs
    by true e k more = absurd (cc)
    by false e k more = (e, more k)

-- a namespace of a printable fragment
pub record IsPrintableBlock (e : Block) : Type 0 where
  pub closed : AllByRecursion IsClosedPart (of_namespace itself e.1)
  pub bare : AllByRecursion IsBare (of_namespace itself e.1)
  pub without : AllByRecursion IsWithoutAttributes (of_namespace itself e.1)
  pub annotated : is_annotated_where_named e.0 e.1.annotations ≡ true
  pub words : AllByRecursion (λ c. is_keyword_name c.0.id.id.text ≡ false) e.1.common_types
  pub shaped : AllByRecursion (λ d. is_shapeless d.1 ≡ false) e.1.entity_types
  pub contexts : AllByRecursion (λ a. has_printable_context a.1.applies_to ≡ true) e.1.actions
  pub targets : AllByRecursion (λ a. has_whole_targets a.1.applies_to ≡ true) e.1.actions

abbrev worded : Block → Bool
worded e = list_all (λ c. not (is_keyword_name c.0.id.id.text)) e.1.common_types

abbrev told : Block → Bool
told e = list_all (λ a. has_printable_context a.1.applies_to) e.1.actions

abbrev whole : Block → Bool
whole e = list_all (λ a. has_whole_targets a.1.applies_to) e.1.actions

block_words : (e : Block) → worded e ≡ true
    → AllByRecursion (λ c. is_keyword_name c.0.id.id.text ≡ false) e.1.common_types
block_words e h =
    All-weaker (λ c. not (is_keyword_name c.0.id.id.text) ≡ true) (λ c. is_keyword_name c.0.id.id.text ≡ false)
    (λ c k. not-true (is_keyword_name c.0.id.id.text) k) e.1.common_types
    (each_passes (λ c. not (is_keyword_name c.0.id.id.text)) e.1.common_types h)

blocks : (es : List Block) → AllByRecursion (λ e. AllByRecursion IsClosedPart (of_namespace itself e.1)) es
    → AllByRecursion (λ e. AllByRecursion IsBare (of_namespace itself e.1)) es
    → AllByRecursion (λ e. AllByRecursion IsWithoutAttributes (of_namespace itself e.1)) es
    → AllByRecursion (λ e. is_annotated_where_named e.0 e.1.annotations ≡ true) es
    → AllByRecursion (λ e. worded e ≡ true) es → AllByRecursion (λ e. block_shapeless e ≡ []) es
    → AllByRecursion (λ e. told e ≡ true) es → AllByRecursion (λ e. whole e ≡ true) es
    → AllByRecursion IsPrintableBlock es
blocks [] closed bare without annotated words shaped contexts targets = tt
blocks (e ∷ es) (c, cs) (b, bs) (w, ws) (n, ns) (k, ks) (s, ss) (x, xs) (t, ts) = (
  record {
    closed = c;
    bare = b;
    without = w;
    annotated = n;
    words = block_words e k;
    shaped = none_kept (λ d. is_shapeless d.1) (λ d. declared_in e.0 d.0.id.text) e.1.entity_types s;
    contexts = each_passes (λ a. has_printable_context a.1.applies_to) e.1.actions x;
    targets = each_passes (λ a. has_whole_targets a.1.applies_to) e.1.actions t;
  },
  blocks es cs bs ws ns ks ss xs ts,
)

-- each namespace of a printable fragment is one
pub printable_blocks : (f : Fragment RawName as_written) (table : ExtensionTable) → IsPrintable f table
    → AllByRecursion IsPrintableBlock f.0
printable_blocks f table p =
    blocks f.0 (in_each (λ ns. IsClosedPart) f.0 p.closed) (in_each (λ ns. IsBare) f.0 p.bare)
    (in_each (λ ns. IsWithoutAttributes) f.0 p.attributes)
    (each_passes (λ (e : Block). is_annotated_where_named e.0 e.1.annotations) f.0 p.annotations)
    (each_passes worded f.0 p.words) (each_gives_none block_shapeless f.0 p.shapes)
    (each_passes told f.0 p.contexts) (each_passes whole f.0 p.targets)
