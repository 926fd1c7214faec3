use Rattle.std.proofs.Common.{◌≡◌, ℕ, ◌<◌, List, false, take, map, None}
use Rattle.std.specs.List.{list_any}
use Rattle.std.specs.Str.{bytes_eq}
use Rattle.std.specs.String.{string_bytes}
use Rattle.cedar_names.specs.TableNames.{is_builtin, repeats, fault_at}
use Rattle.cedar_names.proofs.extension_table.ExtensionTable.new.Given as goal

abbrev pub invariant-loop-at : goal.invariant-loop-at
invariant-loop-at l = record {
  lawful : (k : ℕ) → k < l.at → fault_at (map (λ name. string_bytes name) l.names) k ≡ None;
  same : (text : List ℕ)
      → list_any (λ n. bytes_eq text n.id.text) l.seen.keys
      ≡ repeats (take l.at (map (λ name. string_bytes name) l.names)) text;
  extensions : list_any (λ n. is_builtin n.id.text) l.seen.keys ≡ false;
}
