use Rattle.std.proofs.Common.{Bool, true, refl, ap, sym, subst}
use Rattle.schema_syntax_tokens.specs.Laid.{laid}
use Rattle.cedar_identifiers.specs.declared.raw_name.RawName.{RawName}
use Rattle.cedar_names.specs.declared.extension_table.ExtensionTable.{ExtensionTable}
use Rattle.schema_json.specs.declared.fragment.Fragment.{Fragment}
use Rattle.schema_json.specs.AsWritten.{as_written}
use Rattle.schema_convert_faults.specs.Shadowings.{shadowings}
use Rattle.schema_convert_plain.specs.Translation.{translated}
use Rattle.schema_print.specs.Printable.{IsPrintable}
use Rattle.schema_print.specs.PrintedFragments.{fragment_text}
use Rattle.schema_print.proofs.Grouped.{groups_laid_out}
use Rattle.laws_print.specs.Printed.CedarForm.{cedar_form}
use Rattle.laws_print.specs.Printed.Textual.{components_written}
use Rattle.laws_print.specs.Printable.Orderly.{IsOrderly}
use Rattle.laws_print.specs.Printable.ReadAs.{IsReadAs}
use Rattle.laws_print.proofs.printable_fragments.printable_fragments_read_back.Goals as goal

pub returns : goal.returns
returns c =
    let reads : (closing : Bool) (f : Fragment RawName as_written) (table : ExtensionTable) → IsPrintable f table
    → IsOrderly f → IsReadAs (fragment_text components_written closing f) table (cedar_form f) =
    λ closing f table printable orderly.
    let groups = c.printable_fragments_are_written_in_groups.ensures f table printable in
    let textual = c.printable_fragments_are_textual.ensures f table printable orderly in
    let law = c.printed_fragments_read_back.ensures in
    let t = law.translated closing f groups.0 groups.1 textual in
    let back = t.reads in
    subst (λ text. IsReadAs text table (cedar_form f))
    (sym (ap laid (groups_laid_out components_written closing f groups.0 groups.1)))
    (record {
      fragment = translated back.tree;
      warnings = shadowings back.tree table;
      read = (
        back.tree,
        record {
          tokens = back.tokens;
          are = record {
            scans = back.scans;
            sentence = c.syntax_is_sentence.ensures back.tokens back.items back.syntax;
          };
          tree = record { items = back.items; syntax = back.syntax; lawful = back.lawful; tree = back.is };
        },
        record { lawful = t.lawful; is = refl; warned = refl },
      );
      same = law.same closing f groups.0 groups.1 textual t;
    }) in
    let alike = c.printable_fragments_resolve_alike.ensures in
    record {
      reads = reads;
      written = λ f table printable orderly. reads true f table printable orderly;
      resolves = λ f table printable. record {
        same_defined = alike.same_defined f table;
        found = alike.found f table printable;
        alike = alike.alike f table printable;
      };
    }
