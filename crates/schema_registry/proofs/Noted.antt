-- What a registry notes, by the meanings that were seen.
use Rattle.std.proofs.Common.{◌≡◌, ℕ, List, [], ◌∷◌, ◌++◌, map, length, Some, refl, sym, ap, ◌∙◌, subst}
use Rattle.std.proofs.Common.{slice_get}
use Rattle.std.specs.List.{AllByRecursion, Contains}
use Rattle.std.proofs.lemmas.List.{map-append, length-map}
use Rattle.std.proofs.lemmas.Option.{slice_get-map}
use Rattle.std.specs.Option.{option_map}
use Rattle.cedar_data.proofs.Every.{All-append}
use Rattle.cedar_names.specs.CanonicalText.{canonical_text}
use Rattle.cedar_names.specs.Meaning.{SchemaMeaning}
use Rattle.cedar_names.specs.declared.extension_table.ExtensionTable.{ExtensionTable}
use Rattle.cedar_schema_core.specs.Meanings.{TextMeaning}
use Rattle.schema_registry_entries.specs.Entries.{IsEntered, stood, added}
use Rattle.schema_registry.specs.Replies.{Means, IsAmong, ComeTo, meaningless, again, first, HasEntry, IsReply}
use Rattle.schema_registry.specs.Replies as reply
use Rattle.schema_registry.specs.Submissions.{RegistryState, IsNoted, not_text, refused, entered}
use Rattle.schema_registry.proofs.Places.{in_front, at_end, contained, all_at, image_at}
use Rattle.schema_registry.proofs.Meanings.{extends}

-- a text means this
abbrev pub IsMeant : ExtensionTable → SchemaMeaning → Type 0
IsMeant table m = (text : List ℕ) × TextMeaning text table m

-- the entries are the canonical texts of these meanings, each of which some text has
pub record Keeps (table : ExtensionTable) (registry : RegistryState) (seen : List SchemaMeaning) : Type 0 where
  pub table_is : registry.table ≡ table
  pub texts : registry.texts ≡ map canonical_text seen
  pub meant : AllByRecursion (IsMeant table) seen

-- what a note comes to
pub record Notes (table : ExtensionTable) (seen : List SchemaMeaning) (message line : List ℕ) (new : RegistryState)
    : Type 0 where
  pub seen_now : List SchemaMeaning
  pub keeps : Keeps table new seen_now
  pub comes : (rest : List (List ℕ)) (all : List SchemaMeaning) → ComeTo table seen_now rest all
      → ComeTo table seen (message ∷ rest) all
  pub replies : (rest : List (List ℕ)) (all : List SchemaMeaning) → ComeTo table seen_now rest all
      → IsReply table all message line

module _ (apart : (text other : List ℕ) (table : ExtensionTable) (m n : SchemaMeaning) → TextMeaning text table m
    → TextMeaning other table n → canonical_text m ≡ canonical_text n → m ≡ n)
    (table : ExtensionTable) (old : RegistryState) (seen : List SchemaMeaning) (k : Keeps table old seen) where
  -- what stands in the list that was seen stands in all
  has_place : (now all : List SchemaMeaning) (rest : List (List ℕ)) (id : ℕ) (m : SchemaMeaning)
      → slice_get now id ≡ Some m → ComeTo table now rest all → slice_get all id ≡ Some m
  has_place now all rest id m is c =
      let e = extends table now rest all c in
      subst (λ l. slice_get l id ≡ Some m) (sym e.1) (in_front now e.0 id m is)

  -- an entry that stood is of the meaning
  stood_there : (message : List ℕ) (m : SchemaMeaning) (id : ℕ) → TextMeaning message table m
      → slice_get old.texts id ≡ Some (canonical_text m) → slice_get seen id ≡ Some m
  stood_there message m id means is =
      let found = image_at canonical_text seen id (canonical_text m)
      (subst (λ l. slice_get l id ≡ Some (canonical_text m)) k.texts is) in
      let text = all_at (IsMeant table) seen id found.0 k.meant found.1 in
      found.1 ∙ ap Some (apart text.0 message table found.0 m text.1 means found.2)

  -- a meaning whose text stood nowhere was not seen
  not_seen : (m : SchemaMeaning) → (Contains old.texts (canonical_text m) → ⊥) → IsAmong seen m → ⊥
  not_seen m new (id, is) =
      new (subst (λ l. Contains l (canonical_text m)) (sym k.texts)
      (contained (map canonical_text seen) id (canonical_text m)
      (slice_get-map canonical_text seen id ∙ ap (option_map canonical_text) is)))

  entered_notes : (message : List ℕ) (m : SchemaMeaning) (id : ℕ) (texts : List (List ℕ)) → Means table message m
      → IsEntered (canonical_text m) old.texts id texts
      → Notes table seen message (reply.entry_line id) (record { texts = texts; table = table })
  entered_notes message m id texts means (stood is) =
      let here = stood_there message m id means.means is in
      record {
        seen_now = seen;
        keeps = record { table_is = refl; texts = k.texts; meant = k.meant };
        comes = λ rest all c. again seen message rest all m means (id, here) c;
        replies = λ rest all c. reply.entry id
            (record { meaning = m; means = means; place = has_place seen all rest id m here c });
      }
  entered_notes message m id texts means (added new at) =
      let now = seen ++ m ∷ [] in
      let place : id ≡ length seen = at ∙ (ap length k.texts ∙ length-map seen canonical_text) in
      let here : slice_get now id ≡ Some m = ap (slice_get now) place ∙ at_end seen m in
      record {
        seen_now = now;
        keeps = record {
          table_is = refl;
          texts = ap (λ l. l ++ canonical_text m ∷ []) k.texts ∙ sym (map-append canonical_text seen (m ∷ []));
          meant = All-append (IsMeant table) seen (m ∷ []) k.meant ((message, means.means), tt);
        };
        comes = λ rest all c. first seen message rest all m means (not_seen m new) c;
        replies = λ rest all c. reply.entry id
            (record { meaning = m; means = means; place = has_place now all rest id m here c });
      }

  pub noted : (message line : List ℕ) (new : RegistryState) → IsNoted old message new line
      → Notes table seen message line new
  noted message line new (not_text n) = record {
    seen_now = seen;
    keeps = k;
    comes = λ rest all c. meaningless seen message rest all (λ m h. n h.utf8) c;
    replies = λ rest all c. reply.not_text n;
  }
  noted message line new (refused u invalid) =
      let none : (m : SchemaMeaning) → Means table message m → ⊥ =
      λ m h. invalid (m, subst (λ t. TextMeaning message t m) (sym k.table_is) h.means) in
      record {
        seen_now = seen;
        keeps = k;
        comes = λ rest all c. meaningless seen message rest all none c;
        replies = λ rest all c. reply.refused u none;
      }
  noted message line new (entered u m means id _ same is) =
      let mine : Means table message m =
      record { utf8 = u; means = subst (λ t. TextMeaning message t m) k.table_is means } in
      subst (λ t. Notes table seen message (reply.entry_line id) (record { texts = new.texts; table = t }))
      (sym (same ∙ k.table_is)) (entered_notes message m id new.texts mine is)
