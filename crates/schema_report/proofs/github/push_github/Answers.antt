use Rattle.std.proofs.Common.{◌++◌, codes, ap, ◌∙◌}
use Rattle.std.proofs.lemmas.Result.{on_ok_weaker}
use Rattle.std.specs.List.{flat_map}
use Rattle.std.specs.Str.{chars}
use Rattle.schema_report.specs.Escapes.{in_message, in_property}
use Rattle.schema_report.specs.GitHub.{region_properties, title_property, help_words}
use Rattle.schema_report.specs.Short.{severity_word}
use Rattle.schema_report.proofs.Chains.{step}
use Rattle.schema_report.proofs.github.push_github.Goals as goal

pub returns : goal.returns
returns c =
    let report = c.args.report.now in
    let r10 = codes "\n" in
    let r9 = help_words report.help ++ r10 in
    let r8 = flat_map in_message report.message ++ r9 in
    let r7 = codes "::" ++ r8 in
    let r6 = title_property report.rule ++ r7 in
    let r5 = region_properties report.places ++ r6 in
    let r4 = flat_map in_property (chars c.args.path.now) ++ r5 in
    let r3 = codes " file=" ++ r4 in
    let r2 = severity_word report.severity ++ r3 in
    on_ok_weaker c.push-4.result (λ e. step c.args.out.now (codes "::") r2 c.in_ok-push.ensures
    (step c.push.new.out (severity_word report.severity) r3 c.in_ok-push_severity.ensures
    (step c.push_severity.new.out (codes " file=") r4 c.in_ok-push-2.ensures
    (step c.push-2.new.out (flat_map in_property (chars c.args.path.now)) r5 c.in_ok-push_escaped.ensures
    (step c.push_escaped.new.out (region_properties report.places) r6 (c.in_ok-push_region.ensures ∙ ap (λ ps.
    c.push_escaped.new.out ++ region_properties ps) c.as_slice.ensures)
    (step c.push_region.new.out (title_property report.rule) r7 c.in_ok-push_title.ensures
    (step c.push_title.new.out (codes "::") r8 c.in_ok-push-3.ensures
    (step c.push-3.new.out (flat_map in_message report.message) r9 c.in_ok-push_text.ensures
    (step c.push_text.new.out (help_words report.help) r10 c.in_ok-push_help.ensures e))))))))) c.push-4.ensures
