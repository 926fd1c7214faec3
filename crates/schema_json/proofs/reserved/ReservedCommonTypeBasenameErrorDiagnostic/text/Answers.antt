use Rattle.std.proofs.Common.{◌++◌, ap, ◌∙◌, refl, codes}
use Rattle.cedar_data.proofs.Ascii.{chars-from_test}
use Rattle.schema_json.proofs.reserved.ReservedCommonTypeBasenameErrorDiagnostic.text.Goals as goal

pub returns : goal.returns
returns c = record {
  text = c.in_ok-push_text.ensures.ok
      ∙ ap (λ t. t ++ c.args.self.now.id.id.text)
      (c.in_ok-text.ensures ∙ chars-from_test
      (codes "this is reserved and cannot be the basename of a common-type declaration: ") refl);
}
