use Rattle.std.proofs.Common.{◌≡◌, [], ◌++◌, ap, sym, ◌∙◌, append_assoc}
use Rattle.std.proofs.lemmas.List.{append-nil}
use Rattle.std.proofs.lemmas.Str.{chars-nil}
use Rattle.std.specs.List.{flat_map}
use Rattle.std.specs.Str.{chars}
use Rattle.schema_report.specs.Escapes.{written_for}
use Rattle.schema_report.proofs.CharLemmas.{shorter}
use Rattle.schema_report.proofs.escape.push_escaped.Goals as goal

pub loop-c-smaller : goal.loop-c-smaller
loop-c-smaller c = shorter _ _ _ c.in-Some.ensures

pub loop-c-preserved : goal.loop-c-preserved
loop-c-preserved c =
    let left = flat_map (written_for c.args.escape) (chars c.in-Some.after.now) in
    record {
      written = ap (λ out. out ++ left) c.in_ok-push_one.ensures
          ∙ append_assoc c.loop-c.out (written_for c.args.escape c.in-Some.c) left
          ∙ ap (λ cs. c.loop-c.out ++ flat_map (written_for c.args.escape) cs) (sym c.in-Some.ensures.characters)
          ∙ c.loop-c.invariant.written;
      utf8 = c.in-Some.ensures.utf8;
    }

pub returns : goal.returns
returns c =
    let none : chars c.loop-c.rest.now ≡ [] = ap chars c.in_default.ensures ∙ chars-nil in
    sym (append-nil c.loop-c.out)
    ∙ ap (λ cs. c.loop-c.out ++ flat_map (written_for c.args.escape) cs) (sym none) ∙ c.loop-c.invariant.written
