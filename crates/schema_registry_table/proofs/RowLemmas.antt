-- What the statements do with the rows of the table.
use Rattle.std.proofs.Common.{◌≡◌, ◌⊎◌, inl, inr, ℕ, zero, suc, pos, ℤ, List, [], ◌∷◌, ◌++◌, length, map, slice_get}
use Rattle.std.proofs.Common.{Bool, true, false, cond, Option, Ordering, Less, Equal, Greater, Some, None, Ok, Err}
use Rattle.std.proofs.Common.{Result, refl, sym, ap, subst, ◌∙◌}
use Rattle.std.specs.List.{Contains}
use Rattle.std.specs.Ordering.{is_eq}
use Rattle.std.proofs.lemmas.Bool.{and_parts, and_from}
use Rattle.std.proofs.lemmas.Cmp.{tied_itself, int_ranked}
use Rattle.std.proofs.lemmas.Option.{slice_get_read}
use Rattle.std.proofs.lemmas.Map.Lookups.{exact_bytes}
use Rattle.sha2.specs.Sha256.{sha256}
use Rattle.sqlite.specs.declared.types.Value.{Value}
use Rattle.sqlite.specs.declared.types.Value.TheVariants.{Null, Int, Real, Text, Blob}
use Rattle.sqlite.specs.Order.{Row, column, value_cmp}
use Rattle.sqlite.specs.Ops.{unary, binary, is_true, from_truth}
use Rattle.sqlite.specs.Program.{overlay}
use Rattle.sqlite.specs.Kind.TheVariants.{Integer}
use Rattle.sqlite.specs.Source.TheVariants.{Values}
use Rattle.sqlite.specs.Command.TheVariants.{Insert}
use Rattle.sqlite.specs.Collation.TheVariants.{Binary}
use Rattle.sqlite.specs.Edit.{edit_of, are_fresh, put_all}
use Rattle.sqlite.specs.Cast.{cast}
use Rattle.sqlite.specs.Rowids.TheVariants.{Chosen}
use Rattle.sqlite.specs.Does.{Tally, Does}
use Rattle.sqlite.specs.Effect.{Database, Answers}
use Rattle.sqlite.specs.Rows.{Written}
use Rattle.sqlite.specs.Tree.{Trees}
use Rattle.sqlite.specs.declared.run.Mode.{Mode}
use Rattle.sqlite_value.proofs.OrderLemmas.{value_cmp_total, value_cmp-Text, value_cmp-Int}
use Rattle.sqlite_sql.specs.declared.ops.BinaryOp.TheVariants.{Compare}
use Rattle.sqlite_sql.specs.declared.ops.CompareOp.TheVariants.{Eq}
use Rattle.sqlite_rules.specs.Lists.{Has}
use Rattle.sqlite_rules.proofs.ListLemmas.{has_contained, contains_had, has_got}
use Rattle.sqlite_rules.proofs.TableLemmas.{put_all_has, put_all_keeps, put_all_adds}
use Rattle.sqlite.proofs.Callers.{one_step}
use Rattle.schema_registry_table.specs.Statements.{entry_table, entry_schema}
use Rattle.schema_registry_table.specs.Table.{IsEntryRow, IsListedRow, AreRowsOf, Keeps, text_in}
use Rattle.schema_registry_table.proofs.StatementLemmas.{find_query, list_query, show_query, insert_terms}
use Rattle.schema_registry_table.proofs.QueryLemmas.{shown_from, shows_all}

-- ---- lists with one more text

pub got_push : {X : Type 0} (xs : List X) (y : X) (i : ℕ) (x : X) → slice_get (xs ++ y ∷ []) i ≡ Some x
    → (slice_get xs i ≡ Some x) ⊎ ((i ≡ length xs) × (x ≡ y))
got_push [] y zero x h = let same : x ≡ y = cc in inr (refl, same)
got_push [] y (suc i) x h = absurd cc
got_push (z ∷ xs) y zero x h = inl h
got_push (z ∷ xs) y (suc i) x h = elim (got_push xs y i x h) [ inl was ↦ inl was | inr new ↦ inr (ap suc new.0, new.1) ]

pub push_got : {X : Type 0} (xs : List X) (y : X) (i : ℕ) (x : X) → slice_get xs i ≡ Some x
    → slice_get (xs ++ y ∷ []) i ≡ Some x
push_got [] y i x h = absurd cc
push_got (z ∷ xs) y zero x h = h
push_got (z ∷ xs) y (suc i) x h = push_got xs y i x h

pub push_last : {X : Type 0} (xs : List X) (y : X) → slice_get (xs ++ y ∷ []) (length xs) ≡ Some y
push_last [] y = refl
push_last (z ∷ xs) y = push_last xs y

-- ---- what passes a comparison with a parameter

equal_passes : (v w : Value) → v ≡ w → (w ≡ Null → ⊥) → is_true (binary (Compare Eq Binary) v w) ≡ true
unfolding binary
equal_passes v Null same some = absurd (some refl)
equal_passes v (Int n) same some = rw (same, tied_itself value_cmp_total (Int n)) refl
equal_passes v (Real x) same some = rw (same, tied_itself value_cmp_total (Real x)) refl
equal_passes v (Text t) same some = rw (same, tied_itself value_cmp_total (Text t)) refl
equal_passes v (Blob b) same some = rw (same, tied_itself value_cmp_total (Blob b)) refl

text_passes : (t u : List ℕ) → is_true (binary (Compare Eq Binary) (Text t) (Text u)) ≡ true → t ≡ u
unfolding binary
text_passes t u h = go (value_cmp (Text t) (Text u)) refl h
  where
    go : (o : Ordering) → value_cmp (Text t) (Text u) ≡ o → is_true (from_truth (Some (is_eq o))) ≡ true → t ≡ u
    go Less is h = absurd cc
    go Equal is h = exact_bytes t u (sym (value_cmp-Text t u) ∙ is)
    go Greater is h = absurd cc

-- ---- what a query finds

got_contained : {X : Type 0} (xs : List X) (x : X) → Contains xs x → (i : ℕ) × (slice_get xs i ≡ Some x)
got_contained xs x h = (h.0, slice_get_read xs (length xs) h.0 x refl h.1 (sym h.2))

contained_got : {X : Type 0} (xs : List X) (i : ℕ) (x : X) → slice_get xs i ≡ Some x → Contains xs x
contained_got xs i x h = contains_had xs x (has_got xs i x h)

module _ (texts : List (List ℕ)) (text : List ℕ) (db : Database) (keeps : Keeps db texts) (shown : List Row) where
  abbrev sought : Row
  sought = Blob (sha256 text) ∷ Text text ∷ []

  pub found_text : Answers db (record { lets = []; body = find_query }) sought shown → (x : Row) → Has shown x
      → (id : ℕ) × (column x 0 ≡ Int (pos id)) × (slice_get texts id ≡ Some text)
  found_text a x h =
      let r = shown_from _ sought _ _ (overlay db.trees []) shown (a.answer Null) x h in
      let e = keeps.rows.each r.0 (contains_had (db.trees 0) r.0 r.1) in
      let second = (and_parts _ _ (and_parts _ _ r.2).1).0 in
      let same = text_passes e.1 text (subst (λ v. is_true (binary (Compare Eq Binary) v (Text text)) ≡ true)
      e.3.text_is second) in
      (e.0, ap (λ v. column v 0) r.3 ∙ e.3.id_is, subst (λ t. slice_get texts e.0 ≡ Some t) same e.2)

  pub unfound_text : Answers db (record { lets = []; body = find_query }) sought shown → shown ≡ []
      → Contains texts text → ⊥
  unfound_text a none stands =
      let at = got_contained texts text stands in
      let r = keeps.rows.all at.0 text at.1 in
      let passed = and_from _ _ (equal_passes (column r.0 2) (Blob (sha256 text)) r.2.sum_is (λ e. cc))
      (and_from _ _ (equal_passes (column r.0 3) (Text text) r.2.text_is (λ e. cc)) refl) in
      let there = shows_all _ sought _ _ (overlay db.trees []) shown (a.answer Null) r.0
      (has_contained (db.trees 0) r.0 r.1) passed in
      subst (λ xs. Has xs (column r.0 0 ∷ [])) none there

-- ---- what is shown at a place

int_passes : (m n : ℤ) → is_true (binary (Compare Eq Binary) (Int m) (Int n)) ≡ true → m ≡ n
unfolding binary
int_passes m n h = go (value_cmp (Int m) (Int n)) refl h
  where
    go : (o : Ordering) → value_cmp (Int m) (Int n) ≡ o → is_true (from_truth (Some (is_eq o))) ≡ true → m ≡ n
    go Less is h = absurd cc
    go Equal is h = int_ranked m n Equal (sym is ∙ value_cmp-Int m n)
    go Greater is h = absurd cc

module _ (texts : List (List ℕ)) (place : ℕ) (db : Database) (keeps : Keeps db texts) (shown : List Row)
    (a : Answers db (record { lets = []; body = show_query }) (Int (pos place) ∷ []) shown) where
  pub shown_text : (x : Row) → Has shown x → (text : List ℕ) × (column x 0 ≡ Text text)
      × (slice_get texts place ≡ Some text)
  shown_text x h =
      let r = shown_from _ (Int (pos place) ∷ []) _ _ (overlay db.trees []) shown (a.answer Null) x h in
      let e = keeps.rows.each r.0 (contains_had (db.trees 0) r.0 r.1) in
      let same = int_passes (pos e.0) (pos place)
      (subst (λ v. is_true (binary (Compare Eq Binary) v (Int (pos place))) ≡ true) e.3.id_is
      (and_parts _ _ r.2).0) in
      let at : e.0 ≡ place = cc in
      (e.1, ap (λ v. column v 0) r.3 ∙ e.3.text_is, subst (λ i. slice_get texts i ≡ Some e.1) at e.2)

  pub no_text : shown ≡ [] → slice_get texts place ≡ None
  no_text none = go (slice_get texts place) refl
    where
      go : (found : Option (List ℕ)) → slice_get texts place ≡ found → found ≡ None
      go None is = refl
      go (Some text) is =
          let r = keeps.rows.all place text is in
          let passed = and_from _ _ (equal_passes (column r.0 0) (Int (pos place)) r.2.id_is (λ e. cc)) refl in
          let there = shows_all _ (Int (pos place) ∷ []) _ _ (overlay db.trees []) shown (a.answer Null) r.0
          (has_contained (db.trees 0) r.0 r.1) passed in
          absurd (subst (λ xs. Has xs (column r.0 3 ∷ [])) none there)

-- ---- what a list shows

mapped_got : {X Y : Type 0} (f : X → Y) (xs : List X) (i : ℕ) (y : Y) → slice_get (map f xs) i ≡ Some y
    → (x : X) × (slice_get xs i ≡ Some x) × (y ≡ f x)
mapped_got f [] i y h = absurd cc
mapped_got f (x ∷ xs) zero y h = (x, refl, cc)
mapped_got f (x ∷ xs) (suc i) y h = mapped_got f xs i y h

got_mapped : {X Y : Type 0} (f : X → Y) (xs : List X) (i : ℕ) (x : X) → slice_get xs i ≡ Some x
    → slice_get (map f xs) i ≡ Some (f x)
got_mapped f [] i x h = absurd cc
got_mapped f (y ∷ xs) zero x h = let same : y ≡ x = cc in ap (λ z. Some (f z)) same
got_mapped f (y ∷ xs) (suc i) x h = got_mapped f xs i x h

pub listed_texts : (db : Database) (shown : List Row) → db.schema ≡ entry_schema
    → Answers db (record { lets = []; body = list_query }) [] shown
    → ((id : ℕ) (row : Row) → slice_get shown id ≡ Some row → IsListedRow id (text_in row) row)
    → Keeps db (map text_in shown)
listed_texts db shown schema a listed = record {
  schema_is = schema;
  rows = record {
    each = λ row h.
        let there = shows_all [] [] _ _ (overlay db.trees []) shown (a.answer Null) row
        (has_contained (db.trees 0) row h) refl in
        let at = got_contained shown _ (contains_had shown _ there) in
        let it = listed at.0 _ at.1 in (
          at.0,
          _,
          got_mapped text_in shown at.0 _ at.1,
          record
              { id_is = it.id_is; sum_is = it.sum_is; text_is = it.text_is },
        );
    all = λ id text h.
        let at = mapped_got text_in shown id text h in
        let it = listed id at.0 at.1 in
        let r = shown_from [] [] _ _ (overlay db.trees []) shown (a.answer Null) at.0 (has_got shown id at.0 at.1) in
        let same = λ (n : ℕ). ap (λ v. column v n) r.3 in (
          r.0,
          contains_had (db.trees 0) r.0 r.1,
          record {
            id_is = sym (same 0) ∙ it.id_is;
            sum_is = sym (same 1) ∙ it.sum_is ∙ ap (λ t. Blob (sha256 t)) (sym at.2);
            text_is = sym (same 2) ∙ it.text_is ∙ ap Text (sym at.2);
          },
        );
  };
}

-- ---- what an insert adds

either : (b : Bool) (x : Value) → cond b x x ≡ x
either true x = refl
either false x = refl

cast_null : cast Integer Null ≡ Null
unfolding unary
cast_null = either _ Null

cast_int : (n : ℤ) → cast Integer (Int n) ≡ Int n
unfolding unary
cast_int n = either _ (Int n)

abbrev new_row : ℕ → List ℕ → Row
new_row id text = Int (pos id) ∷ Null ∷ Blob (sha256 text) ∷ Text text ∷ []

rows_pushed : (texts : List (List ℕ)) (text : List ℕ) (rows : List Row) → AreRowsOf texts rows
    → are_fresh rows (new_row (length texts) text ∷ []) ≡ true
    → AreRowsOf (texts ++ text ∷ []) (put_all rows (new_row (length texts) text ∷ []))
rows_pushed texts text rows are fresh = record {
  each = λ row h. elim (put_all_has (new ∷ []) rows row (has_contained _ row h)) [
    | inl here ↦ at_new row here
    | inr was ↦ let e = are.each row (contains_had rows row was) in (e.0, e.1, push_got texts text e.0 e.1 e.2, e.3)
  ];
  all = λ id t h. elim (got_push texts text id t h) [
    | inl was ↦ let e = are.all id t was in (
      e.0,
      contains_had _ e.0
          (put_all_keeps (new ∷ []) rows e.0 fresh (has_contained rows e.0 e.1)),
      e.2,
    )
    | inr last ↦ (
      new,
      contains_had _ new (put_all_adds (new ∷ []) rows new fresh (inl refl)),
      record {
        id_is = ap (λ n. Int (pos n)) (sym last.0);
        sum_is = ap (λ u. Blob (sha256 u)) (sym last.1);
        text_is = ap Text (sym last.1);
      },
    )
  ];
}
  where
    new : Row
    new = new_row (length texts) text

    at_new : (row : Row) → Has (new ∷ []) row
        → (id : ℕ) × (t : List ℕ) × (slice_get (texts ++ text ∷ []) id ≡ Some t) × IsEntryRow id t row
    at_new row (inl same) = (
      length texts,
      text,
      push_last texts text,
      record {
        id_is = ap (λ v. column v 0) same;
        sum_is = ap (λ v. column v 2) same;
        text_is = ap (λ v. column v 3) same;
      },
    )
    at_new row (inr none) = absurd none

-- a part that gave a value did not stop on the way
went : {B E R : Type 0} {b : B} {Stops : E → Type 0} → ((stop : E) × Stops stop × (Ok b ≡ Err stop)) ⊎ R → R
went (inl stopped) = absurd (let e = stopped.2 in cc)
went (inr on) = on

same_value : {B E : Type 0} {a b : B} → ◌≡◌ {A = Result B E} (Ok a) (Ok b) → a ≡ b
same_value e = cc

pub added : (limit : Option ℕ) (mode : Mode) (texts : List (List ℕ)) (text sql : List ℕ) (db : Database)
    (tally : Tally) (after : Database) → Keeps db texts
    → Does limit mode (Int (pos (length texts)) ∷ Blob (sha256 text) ∷ Text text ∷ []) db sql None
    (Insert 0 (Values insert_terms 4)) (Ok (tally, after))
    → Keeps after (texts ++ text ∷ [])
added limit mode texts text sql db tally after keeps does =
    let params = Int (pos (length texts)) ∷ Blob (sha256 text) ∷ Text text ∷ [] in
    let command = Insert 0 (Values insert_terms 4) in
    let done = went (subst (λ s. Does limit mode params (record db { schema = s }) sql None command
    (Ok (tally, after))) keeps.schema_is does) in
    let now = ap (λ (p : Tally × Database). p.1) (same_value (went (went done.2).2).2) in
    let given = went done.1 in
    let written = went (went given.2).2 in
    let counted = went written.2 in
    let trees : done.0.trees ≡ written.0 = ap (λ (it : Written). it.trees) (same_value counted.2)
    ∙ same_value counted.1 in
    let step = one_step entry_schema _ db.trees written.0
    (edit_of db.trees entry_table [] Chosen 0 given.0) refl written.1 in
    let news : (edit_of db.trees entry_table [] Chosen 0 given.0).news ≡ new_row (length texts) text ∷ [] =
    ap (λ all. (edit_of db.trees entry_table [] Chosen 0 all).news) given.1.1
    ∙ rw (cast_int (pos (length texts)), cast_null) in
    let fresh = subst (λ xs. are_fresh (db.trees 0) xs ≡ true) news step.fresh in
    let rows : written.0 0 ≡ put_all (db.trees 0) (new_row (length texts) text ∷ []) = step.rows
    ∙ ap (put_all (db.trees 0)) news in
    let there : after.trees 0 ≡ put_all (db.trees 0) (new_row (length texts) text ∷ []) = ap
    (λ (d : Database). d.trees 0) now ∙ ap (λ (t : Trees). t 0) trees ∙ rows in
    record {
      schema_is = ap (λ (d : Database). d.schema) now;
      rows = subst (AreRowsOf (texts ++ text ∷ [])) (sym there)
          (rows_pushed texts text (db.trees 0) keeps.rows fresh);
    }
