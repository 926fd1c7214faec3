use Rattle.std.proofs.Common.{◌∙◌, ◌∷◌, ◌++◌, [], refl, codes, ap}
use Rattle.cedar_identifiers.specs.Words.{is_id}
use Rattle.cedar_identifiers.specs.Names.{texts_of}
use Rattle.cedar_data.proofs.Ascii.{chars-from_test}
use Rattle.schema_resolve_definitions.proofs.defined.under_cedar.Goals as goal

pub invariant_of-result : goal.invariant_of-result
invariant_of-result c = record { word = ap is_id (c.in_ok-text.ensures ∙ chars-from_test (codes "__cedar") refl) }

pub returns : goal.returns
returns c = λ k. (c.in_ok-text.ensures ∙ chars-from_test (codes "__cedar") refl) k ∷ texts_of
    ((c.in_ok-push.ensures.ok ∙ (λ j. c.new-others.ensures j ++ c.in_ok-clone_in.ensures j ∷ [])) k)
