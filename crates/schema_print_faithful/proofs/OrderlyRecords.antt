-- The attributes of a record rise by their names, and what is known of each.
use Rattle.std.proofs.Common.{◌≡◌, ℕ, List, [], ◌∷◌, refl, sym, ap, subst}
use Rattle.std.specs.List.{AllByRecursion}
use Rattle.std.specs.List.Sorted.{IsStrictlySortedBy}
use Rattle.std.specs.Map.{keys_of}
use Rattle.cedar_data.specs.Text.{text_cmp}
use Rattle.cedar_identifiers.specs.declared.raw_name.RawName.{RawName}
use Rattle.schema_json.specs.declared.types.TypeOfAttribute.{TypeOfAttribute, out-TypeOfAttribute}
use Rattle.laws_written.specs.Printed.{AreProperNotes}
use Rattle.laws_written.specs.Written.{rec}
use Rattle.schema_print_text.specs.PrintedTypes.{PrintedAttribute, printed_entries}
use Rattle.schema_print_text.proofs.Layers.{attribute_out}
use Rattle.laws_print.specs.Printed.Textual.{components_written, attribute_names, IsRisingType, AreRisingAttributes}
use Rattle.laws_print.specs.Printable.Orderly.{IsOrderlyType}

abbrev pub Entry : Type 0
Entry = List ℕ × TypeOfAttribute RawName

-- an attribute with rising annotations and an orderly type
abbrev pub IsOrderlyEntry : Entry → Type 0
IsOrderlyEntry e =
    AreProperNotes (out-TypeOfAttribute RawName e.1).annotations.0
    × IsOrderlyType (out-TypeOfAttribute RawName e.1).ty

pub attributes_rising : (es : List Entry) → AllByRecursion IsOrderlyEntry es
    → AreRisingAttributes (printed_entries components_written es)
attributes_rising [] h = tt
attributes_rising (e ∷ es) (h, hs) =
    let is = attribute_out RawName components_written e.1 in (
      subst (λ (p : PrintedAttribute). IsRisingType p.ty) (sym is) h.1,
      attributes_rising es hs,
      subst (λ (p : PrintedAttribute). AreProperNotes p.notes) (sym is) h.0,
    )

names_are : (es : List Entry) → keys_of es ≡ attribute_names (printed_entries components_written es)
names_are [] = refl
names_are (e ∷ es) = ap (λ l. e.0 ∷ l) (names_are es)

-- a record of these attributes
pub record_rising : (es : List Entry) → IsStrictlySortedBy text_cmp (keys_of es)
    → AreRisingAttributes (printed_entries components_written es)
    → IsRisingType (rec (printed_entries components_written es))
record_rising es rise types = (subst (IsStrictlySortedBy text_cmp) (names_are es) rise, types)
