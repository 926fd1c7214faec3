use Rattle.std.proofs.Common.{◌≡◌, ℕ, ◌*◌, ◌≤◌, max, Bool, true, ◌&&◌, List, length, refl, sym, ap, ◌∙◌, eqb, arith}
use Rattle.std.proofs.lemmas.Bool.{le-leb}
use Rattle.std.proofs.lemmas.Str.{chars-encodes}
use Rattle.std.specs.Str.{chars}
use Rattle.strsim.specs.Edits.{osa_table}
use Rattle.schema_report_likeness.specs.Likeness.{edits_between, name_size}
use Rattle.schema_report_likeness.proofs.likeness.is_alike.Goals as goal

all_hold : (p q r s : Bool) → p ≡ true → q ≡ true → r ≡ true → ((p && q) && (r && s)) ≡ s
all_hold p q r s a b c = rw (a, b, c) refl

pub returns : goal.returns
returns c =
    let name = c.args.name.now in
    let other = c.args.other.now in
    let from : chars c.as_str-from.result.now ≡ name =
    ap chars c.as_str-from.ensures.bytes ∙ chars-encodes name c.as_str-from.ensures.characters in
    let to : chars c.as_str-to.result.now ≡ other =
    ap chars c.as_str-to.ensures.bytes ∙ chars-encodes other c.as_str-to.ensures.characters in
    let found : c.in_ok-osa_distance.field-0 ≡ edits_between name other =
    c.in_ok-osa_distance.ensures.value ∙ (λ i. (osa_table (from i) (to i)).last_row (length (to i))) in
    let size : length c.as_str-from.result.now ≡ name_size name = ap length c.as_str-from.ensures.bytes in
    let other_size : length c.as_str-to.result.now ≡ name_size other = ap length c.as_str-to.ensures.bytes in
    let most : c.max.result ≡ max (name_size name) 3 = c.max.ensures ∙ ap (λ n. max n 3) size in
    let short : name_size name ≤ 64 = omega arith in
    let other_short : name_size other ≤ 64 = omega arith in
    let few : 3 * c.args.edits ≤ max (name_size name) 3 = omega arith in
    ap (λ n. eqb n c.args.edits) found
    ∙ sym (all_hold _ _ _ (eqb (edits_between name other) c.args.edits) (le-leb _ _ short) (le-leb _ _ other_short)
    (le-leb _ _ few))
