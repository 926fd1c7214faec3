-- Attributes with values, one after another.
use Rattle.std.proofs.Common.{◌≡◌, ℕ, ◌<◌, ◌+◌, Bool, true, false, cond, List, [], ◌∷◌, ◌++◌, drop, length, get_or}
use Rattle.std.proofs.Common.{refl}
use Rattle.std.proofs.Common.{sym, ap}
use Rattle.std.proofs.Common.{◌∙◌}
use Rattle.cedar_names.specs.Meaning.{PlainType, Attributes, no_more, attribute}
use Rattle.schema_build_types.specs.declared.types.Type.{«Type»}
use Rattle.schema_build_text.proofs.Rowed.{dropped}
use Rattle.schema_inclusion_values.specs.Checks.{some_value, some_entries}
use Rattle.schema_inclusion_values.specs.Seen.{value_of, entries_value}
use Rattle.schema_inclusion_values.specs.Values.{Text, Name, Val, Entries, no_entries, entry}
use Rattle.schema_inclusion_values.specs.declared.val.Val as held
use Rattle.schema_inclusion_types.specs.Entries.{entries_onto, some_onto}
use Rattle.schema_inclusion_types.specs.Kinds.{Attrs, plain, plain_attrs}

pub onto_nothing : (es : List (Text × held.Val)) → entries_onto es no_entries ≡ entries_value es
onto_nothing [] = refl
onto_nothing (e ∷ es) = ap (entry e.0 (value_of e.1)) (onto_nothing es)

pub onto_more : (es : List (Text × held.Val)) (e : Text × held.Val) (rest : Entries)
    → entries_onto (es ++ e ∷ []) rest ≡ entries_onto es (entry e.0 (value_of e.1) rest)
onto_more [] e rest = refl
onto_more (d ∷ es) e rest = ap (entry d.0 (value_of d.1)) (onto_more es e rest)

module _ (id_of : Name → Text) where
  pub some_onto_nothing : (fs : Attributes) → some_onto id_of fs no_entries ≡ some_entries id_of fs
  some_onto_nothing no_more = refl
  some_onto_nothing (attribute n r t fs) = λ i. cond r (entry n (some_value id_of t) (some_onto_nothing fs i))
      (some_onto_nothing fs i)

  -- one attribute, and those behind it
  pub some_step : (attrs : Attrs) (i : ℕ) (d : List ℕ × («Type» × Bool)) (rest : Entries) → i < length attrs
      → d ≡ get_or attrs i d → (r : Bool) → d.1.1 ≡ r
      → some_onto id_of (plain_attrs (drop i attrs)) rest
      ≡ cond r (entry d.0 (some_value id_of (plain d.1.0)) (some_onto id_of (plain_attrs (drop (i + 1) attrs)) rest))
      (some_onto id_of (plain_attrs (drop (i + 1) attrs)) rest)
  some_step attrs i d rest h e r same =
      let behind = some_onto id_of (plain_attrs (drop (i + 1) attrs)) rest in
      ap (λ xs. some_onto id_of (plain_attrs xs) rest) (dropped attrs i d h e)
      ∙ ap (λ b. cond b (entry d.0 (some_value id_of (plain d.1.0)) behind) behind) same
