use Rattle.std.proofs.lemmas.Grind.{common_steps}
use Rattle.std.proofs.Common.{◌≡◌, ◌<◌, List, [], ℕ, false, ◌||◌, length, take, get_or, map, sym, ap, ◌∙◌, arith}
use Rattle.std.proofs.Common.{below_more}
use Rattle.std.specs.List.{list_any}
use Rattle.std.specs.Str.{bytes_eq}
use Rattle.std.specs.String.{string_bytes}
use Rattle.std.proofs.lemmas.List.{get_or-map, length-map}
use Rattle.std.proofs.lemmas.List.Folds.{list_any_more}
use Rattle.std.proofs.lemmas.Bool.{or_from, not-true}
use Rattle.cedar_names.specs.TableNames.{is_builtin, repeats, word_fault}
use Rattle.cedar_names.proofs.Faults.{no_fault, not_builtin}
use Rattle.cedar_names.proofs.extension_table.ExtensionTable.new.Goals as goal

pub loop-at-preserved : goal.loop-at-preserved
loop-at-preserved c =
    let names : List (List ℕ) = map (λ n. string_bytes n) c.args.names.now in
    let at = c.loop-at.at in
    let id = c.in_ok-id.id.id.text in
    let inv = c.loop-at.invariant in
    let there : at < length c.args.names.now = omega arith in
    let within : at < length names = omega (arith, length-map c.args.names.now (λ n. string_bytes n)) in
    let text : c.as_str.result.now ≡ get_or names at [] = c.as_str.ensures.value
    ∙ ap (λ n. string_bytes n) c.index-names-at.is
    ∙ sym (get_or-map (λ n. string_bytes n) c.args.names.now at c.index-names-at.result [] there) in
    let name : id ≡ get_or names at [] = c.in_ok-id.ensures.ok.0 ∙ text in
    let own = ap (λ t. word_fault at t) (sym text) ∙ c.in_ok-id.ensures.ok.1 in
    let new : repeats (take at names) (get_or names at []) ≡ false = ap (λ t. repeats (take at names) t) (sym name)
    ∙ sym (inv.same id) ∙ not-true (list_any (λ n. bytes_eq id n.id.text) c.loop-at.seen.keys)
    (sym c.in_ok-add.ensures.added ∙ c.if-not-branch.false) in
    record {
      lawful = below_more _ _ inv.lawful (no_fault names at own new);
      same = λ t. c.in_ok-add.ensures.same t ∙ ap (λ b. b || bytes_eq t id) (inv.same t)
          ∙ ap (λ x. repeats (take at names) t || bytes_eq t x) name
          ∙ sym (list_any_more (bytes_eq t) names at [] within);
      extensions = c.in_ok-add.ensures.builtin
          ∙ or_from _ _ inv.extensions (ap is_builtin name ∙ not_builtin at (get_or names at []) own);
    }

pub returns-clause-ok : goal.returns-clause-ok
returns-clause-ok c = grind (arith, common_steps)

pub returns-in_err-id-clause-err : goal.returns-in_err-id-clause-err
returns-in_err-id-clause-err c = grind (arith, common_steps)
