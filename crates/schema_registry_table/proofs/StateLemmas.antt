-- How calls leave a connection that rests.
use Rattle.std.proofs.Common.{◌≡◌, ◌⊎◌, inl, inr, ℕ, pos, List, [], ◌∷◌, ◌++◌, append-nil, length, map, slice_get}
use Rattle.std.proofs.Common.{Bool, true, false, Option, Some, Ok, Err, Result, IsTrue, IfOk, IfErr, OnOk, OnErr}
use Rattle.std.proofs.Common.{MatchOption, None, sym, ap, subst, ◌∙◌}
use Rattle.std.specs.List.{Contains}
use Rattle.sha2.specs.Sha256.{sha256}
use Rattle.sqlite.specs.declared.types.Value.TheVariants.{Int, Text, Blob}
use Rattle.sqlite.specs.declared.error.Error.{Error}
use Rattle.sqlite.specs.Order.{Row, column}
use Rattle.sqlite.specs.Term.{Term}
use Rattle.sqlite.specs.Tree.{Trees}
use Rattle.sqlite.specs.Clock.{timed}
use Rattle.sqlite.specs.Command.TheVariants.{Insert}
use Rattle.sqlite.specs.Source.TheVariants.{Values}
use Rattle.sqlite.specs.Effect.{Database}
use Rattle.sqlite.specs.Listing.{understood}
use Rattle.sqlite.specs.State.{State, HasCleanDisk, Survives, CommitsShowing, IsUnchanged, IsRolledBack, Shown}
use Rattle.sqlite.specs.State.{ShowsRows, FailsToQuery, FailsToShow, IsNotRun, ExecutesIn, Executes, RunsCommand}
use Rattle.sqlite.specs.State.{shows_rows, mode_of, CommitsBy, MayCommit, text_of}
use Rattle.sqlite_schema.specs.declared.command.Returning.{Returning}
use Rattle.sqlite_resolve.specs.declared.compiled.Compiled.{Compiled}
use Rattle.sqlite.proofs.Callers.{IsPlain, command_of, statement_of, runs_as, reads_as, never_commits}
use Rattle.sqlite.proofs.StateLemmas.{survives_weaker}
use Rattle.sqlite_rules.specs.Lists.{Has}
use Rattle.schema_registry_table.specs.Statements.{find_text, insert_text, list_text, show_text, entry_schema}
use Rattle.schema_registry_table.specs.Table.{IsListedRow, AreRowsOf, Keeps, Rests, Stands, LeavesTexts, text_in}
use Rattle.schema_registry_table.proofs.StatementLemmas.{insert_is, plain_insert, insert_terms, find_is, plain_find}
use Rattle.schema_registry_table.proofs.StatementLemmas.{list_is, plain_list, show_is, plain_show, show_query}
use Rattle.schema_registry_table.proofs.RowLemmas.{added, found_text, unfound_text, listed_texts, shown_text, no_text}

-- a call that failed changed nothing, or undid what was not committed
abbrev pub Failed : State → State → Type 0
Failed old new = IsUnchanged old new ⊎ IsRolledBack old new

not_run : (old new : State) (sql : List ℕ) (params : Row) (e : Error) → IsNotRun old new sql params e → Failed old new
unfolding IsNotRun
not_run old new sql params e (inl h) = inl h.1
not_run old new sql params e (inr h) = inr h.3

not_ran : (old new : State) (sql : List ℕ) (c : Compiled) (params : Row) (e : Error)
    → RunsCommand old new sql c params (Err e) → Failed old new
not_ran old new sql c params e (inl h) = inl h.1
not_ran old new sql c params e (inr h) = inr h.3

pub not_executed : (sql : List ℕ) (params : Row) (old new : State) (e : Error) → Executes sql params old new (Err e)
    → Failed old new
unfolding ExecutesIn
not_executed sql params old new e (inl h) = not_run old new sql params e h
not_executed sql params old new e (inr h) = go (shows_rows false h.0) h.2
  where
    full : Row
    full = timed params (h.0).formats (h.1).now

    go : (b : Bool) → Rattle.std.specs.Prelude.MatchBool b
        ((◌≡◌ {A = Result ℕ Error} (Err e)
        (Err Rattle.sqlite.specs.declared.error.Error.TheVariants.ExecuteReturnedResults)) × IsUnchanged old new)
        (RunsCommand old new sql h.0 full (Err e)) → Failed old new
    go true it = inl it.1
    go false it = not_ran old new sql h.0 full e it

pub not_queried : (sql : List ℕ) (params : Row) (old new : State) (e : Error) → FailsToQuery sql params old new e
    → Failed old new
unfolding FailsToQuery
not_queried sql params old new e (inl h) = not_run old new sql params e h
not_queried sql params old new e (inr h) = go (h.0).returning h.2
  where
    full : Row
    full = timed params (h.0).formats (h.1).now

    go : (returning : Option Returning) → FailsToShow old new sql h.0 full e returning → Failed old new
    go None it = inl it.3
    go (Some what) it = not_ran old new sql h.0 full e it

pub stands_failed : (old new : State) (texts : List (List ℕ)) → Failed old new → Stands old texts → Stands new texts
stands_failed old new texts (inl u) s = (
  u.0.mode ∙ s.0,
  λ opened.
      let r = s.1 u.0.was_open in
      record {
        is_open = opened;
        autocommit = u.0.mode ∙ s.0;
        settled = u.0.now_is ∙ r.settled ∙ sym u.0.committed_is;
        keeps = subst (λ (d : Database). Keeps d texts) (sym u.0.committed_is) r.keeps;
      },
)
stands_failed old new texts (inr b) s = (
  b.autocommit,
  λ opened.
      let r = s.1 (b.was_open opened) in
      let undone = b.undone opened in
      record {
        is_open = opened;
        autocommit = b.autocommit;
        settled = undone.0 ∙ sym undone.1;
        keeps = subst (λ (d : Database). Keeps d texts) (sym undone.1) r.keeps;
      },
)

-- a query that answers found the connection open
pub was_open : (sql : List ℕ) (params : Row) (old new : State) (rows : List Row) → Shown sql params old new rows
    → IsTrue old.is_open
unfolding Shown
was_open sql params old new rows h = go (h.0).returning h.2
  where
    full : Row
    full = timed params (h.0).formats (h.1).now

    go : (returning : Option Returning) → ShowsRows old new sql h.0 full rows returning → IsTrue old.is_open
    go None it = it.3.0.was_open
    go (Some what) it = it.1.shown.was_open

pub plain_unchanged : (sql : List ℕ) (params : Row) (old new : State) (rows : List Row)
    → IsPlain (understood old.now.schema sql) → Shown sql params old new rows → IsUnchanged old new
unfolding Shown
plain_unchanged sql params old new rows plain h =
    let none = (subst IsPlain h.1.is plain).0 in
    let full = timed params h.0.formats h.1.now in
    let it = subst (ShowsRows old new sql h.0 full rows) none h.2 in it.3

-- what `now` has of a connection that rests
pub keeps_now : (s : State) (texts : List (List ℕ)) → Rests s texts → Keeps s.now texts
keeps_now s texts r = subst (λ (d : Database). Keeps d texts) (sym r.settled) r.keeps

pub stands_shown : (sql : List ℕ) (params : Row) (old new : State) (rows : List Row) (texts : List (List ℕ))
    → IsPlain (understood entry_schema sql) → Shown sql params old new rows → Stands old texts → Stands new texts
stands_shown sql params old new rows texts plain h s =
    let r = s.1 (was_open sql params old new rows h) in
    let known = subst (λ z. IsPlain (understood z sql)) (sym (keeps_now old texts r).schema_is) plain in
    stands_failed old new texts (inl (plain_unchanged sql params old new rows known h)) s

pub left_by_query : {V : Type 0} (items : V → List Row) (sql : List ℕ) (params : Row) (old new : State)
    (r : Result V Error) → IsPlain (understood entry_schema sql)
    → (HasCleanDisk new → IfOk r (λ v. Shown sql params old new (items v)))
    → (HasCleanDisk new → IfErr r (FailsToQuery sql params old new))
    → Survives old new (CommitsShowing sql params old) → LeavesTexts old new
left_by_query items sql params old new r plain ok err s = record {
  stands = λ clean texts. go r (ok clean) (err clean) texts;
  clean = s.clean;
  survives = λ texts rests. survives_weaker old new _ _
      (λ _ db. never_commits sql params old db (subst (λ z. IsPlain (understood z sql))
      (sym (keeps_now old texts rests).schema_is) plain)) s;
}
  where
    go : (r : Result _ Error) → IfOk r (λ v. Shown sql params old new (items v))
        → IfErr r (FailsToQuery sql params old new) → (texts : List (List ℕ)) → Stands old texts → Stands new texts
    go (Ok v) ok err texts st = stands_shown sql params old new (items v) texts plain ok st
    go (Err e) ok err texts st = stands_failed old new texts (not_queried sql params old new e err) st

pub rests_shown : (sql : List ℕ) (params : Row) (old new : State) (rows : List Row) (texts : List (List ℕ))
    → IsPlain (understood entry_schema sql) → Shown sql params old new rows
    → Stands old texts → Rests old texts × Rests new texts
rests_shown sql params old new rows texts plain h s =
    let r = s.1 (was_open sql params old new rows h) in
    let known = subst (λ z. IsPlain (understood z sql)) (sym (keeps_now old texts r).schema_is) plain in
    let u = plain_unchanged sql params old new rows known h in
    (r, (stands_failed old new texts (inl u) s).1 u.0.is_open)

-- ---- the statements

pub find_shows : (old new : State) (texts : List (List ℕ)) (text : List ℕ) (rows : List Row) → Rests old texts
    → Shown find_text (Blob (sha256 text) ∷ Text text ∷ []) old new rows
    → ((x : Row) → Has rows x → (id : ℕ) × (column x 0 ≡ Int (pos id)) × (slice_get texts id ≡ Some text))
    × (rows ≡ [] → Contains texts text → ⊥)
find_shows old new texts text rows r h =
    let keeps = keeps_now old texts r in
    let a = reads_as find_text (Blob (sha256 text) ∷ Text text ∷ []) old new entry_schema keeps.schema_is _ find_is.0
    plain_find find_is.1 rows h in
    (found_text texts text old.now keeps rows a, unfound_text texts text old.now keeps rows a)

pub insert_adds : (old new : State) (texts : List (List ℕ)) (text : List ℕ) (count : ℕ) → Rests old texts
    → Executes insert_text (Int (pos (length texts)) ∷ Blob (sha256 text) ∷ Text text ∷ []) old new (Ok count)
    → Rests new (texts ++ text ∷ [])
insert_adds old new texts text count r h =
    let params = Int (pos (length texts)) ∷ Blob (sha256 text) ∷ Text text ∷ [] in
    let keeps = keeps_now old texts r in
    let w = runs_as insert_text params old new entry_schema keeps.schema_is
    (Insert 0 (Values insert_terms 4)) insert_is plain_insert count h in
    let after = added old.step_limit (mode_of old) texts text
    (statement_of insert_text (understood entry_schema insert_text)) old.now w.tally new.now keeps w.changed in
    let committed : new.committed ≡ new.now = rw r.autocommit at w.shown.committed_is in
    record {
      is_open = w.shown.is_open;
      autocommit = w.shown.mode ∙ r.autocommit;
      settled = sym committed;
      keeps = subst (λ (d : Database). Keeps d (texts ++ text ∷ [])) (sym committed) after;
    }

pub insert_commits : (s : State) (texts : List (List ℕ)) (text : List ℕ) (db : Trees) → Rests s texts
    → CommitsBy insert_text (Int (pos (length texts)) ∷ Blob (sha256 text) ∷ Text text ∷ []) s db
    → AreRowsOf (texts ++ text ∷ []) (db 0)
unfolding CommitsBy
insert_commits s texts text db r h =
    let params = Int (pos (length texts)) ∷ Blob (sha256 text) ∷ Text text ∷ [] in
    let keeps = keeps_now s texts r in
    let known = sym h.1.is ∙ ap (λ z. understood z insert_text) keeps.schema_is in
    let bare = subst IsPlain (sym known) plain_insert in
    let may = rw (bare.0, bare.1, append-nil params) at h.2 in
    go (text_of insert_text h.0) (subst (λ k. MayCommit s None k (text_of insert_text h.0) params db)
    (ap command_of known ∙ insert_is) may)
  where
    go : (sql : List ℕ) → MayCommit s None (Insert 0 (Values insert_terms 4)) sql
        (Int (pos (length texts)) ∷ Blob (sha256 text) ∷ Text text ∷ []) db → AreRowsOf (texts ++ text ∷ []) (db 0)
    go sql (inl it) = absurd (elim it.0 [ inl e ↦ (let f = e in cc) | inr named ↦ (let f = named.2 in cc) ])
    go sql (inr it) =
        let after = added s.step_limit (mode_of s) texts text sql s.now it.1 it.2 (keeps_now s texts r) it.3 in
        subst (λ (t : Trees). AreRowsOf (texts ++ text ∷ []) (t 0)) (sym it.5) after.rows

pub list_shows : (old new : State) (rows : List Row) → old.now.schema ≡ entry_schema → old.in_transaction ≡ false
    → (IsTrue old.is_open → old.now ≡ old.committed) → Shown list_text [] old new rows
    → ((id : ℕ) (row : Row) → slice_get rows id ≡ Some row → IsListedRow id (text_in row) row)
    → Rests new (map text_in rows)
list_shows old new rows schema auto rests h listed =
    let settled = rests (was_open list_text [] old new rows h) in
    let a = reads_as list_text [] old new entry_schema schema _ list_is.0 plain_list list_is.1 rows h in
    let keeps = listed_texts old.now rows schema a listed in
    let u = plain_unchanged list_text [] old new rows
    (subst (λ z. IsPlain (understood z list_text)) (sym schema) plain_list) h in
    record {
      is_open = u.0.is_open;
      autocommit = u.0.mode ∙ auto;
      settled = u.0.now_is ∙ settled ∙ sym u.0.committed_is;
      keeps = subst (λ (d : Database). Keeps d (map text_in rows)) (sym (u.0.committed_is ∙ sym settled)) keeps;
    }

-- the first of the rows that were found tells whether the text stands, and its place
pub found_place : (old new : State) (texts : List (List ℕ)) (text : List ℕ) (rows : List Row) (found : Option ℕ)
    → Rests old texts
    → Shown find_text (Blob (sha256 text) ∷ Text text ∷ []) old new rows
    → MatchOption found (rows ≡ []) (λ n. (row : Row) × Has rows row × (column row 0 ≡ Int (pos n)))
    → MatchOption found (Contains texts text → ⊥) (λ place. slice_get texts place ≡ Some text)
found_place old new texts text rows None r h none = (find_shows old new texts text rows r h).1 none
found_place old new texts text rows (Some n) r h some =
    let it = (find_shows old new texts text rows r h).0 some.0 some.1 in
    let ids = sym it.1 ∙ some.2 in
    let at : it.0 ≡ n = cc in subst (λ k. slice_get texts k ≡ Some text) at it.2

pub at_text : (old new : State) (texts : List (List ℕ)) (place : ℕ) (rows : List Row) (found : Option (List ℕ))
    → Rests old texts
    → Shown show_text (Int (pos place) ∷ []) old new rows
    → MatchOption found (rows ≡ []) (λ t. (row : Row) × Has rows row × (column row 0 ≡ Text t))
    → found ≡ slice_get texts place
at_text old new texts place rows found r h first =
    let keeps = keeps_now old texts r in
    let a = reads_as show_text (Int (pos place) ∷ []) old new entry_schema keeps.schema_is _ show_is.0 plain_show
    show_is.1 rows h in
    go keeps a found first
  where
    go : (keeps : Keeps old.now texts) → Rattle.sqlite.specs.Effect.Answers old.now
        (record { lets = []; body = show_query }) (Int (pos place) ∷ []) rows
        → (found : Option (List ℕ)) → MatchOption found (rows ≡ [])
        (λ t. (row : Row) × Has rows row × (column row 0 ≡ Text t)) → found ≡ slice_get texts place
    go keeps a None none = sym (no_text texts place old.now keeps rows a none)
    go keeps a (Some t) some =
        let it = shown_text texts place old.now keeps rows a some.0 some.1 in
        let same : t ≡ it.0 = cc in ap Some same ∙ sym it.2

pub on_err : {A E P : Type 0} (r : Result A E) → P → OnErr r P
on_err (Ok a) p = tt
on_err (Err e) p = p

pub on_ok : {A E P : Type 0} (r : Result A E) → P → OnOk r P
on_ok (Ok a) p = p
on_ok (Err e) p = tt

pub if_ok : {A E : Type 0} {P Q : A → Type 0} (r : Result A E) → IfOk r P → ((a : A) → P a → Q a) → IfOk r Q
if_ok (Ok a) p f = f a p
if_ok (Err e) p f = tt
