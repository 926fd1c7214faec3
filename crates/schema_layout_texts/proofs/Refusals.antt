-- Why a text is not laid out is why it has no tree.
use Rattle.std.proofs.Common.{◌≡◌, ℕ, List, sym, subst}
use Rattle.schema_syntax_errors.specs.declared.parse_schema_error.ParseSchemaError.{ParseSchemaError}
use Rattle.schema_syntax_errors.specs.declared.parse_schema_error.ParseSchemaError.TheVariants as parsing
use Rattle.schema_syntax.specs.ParseAnswers.{IsRefusalOf}
use Rattle.schema_layout_texts.specs.declared.layout_error.LayoutError.{LayoutError}
use Rattle.schema_layout_texts.specs.Answers.{layout_error_of, IsLayoutRefusal}

here : (text : List ℕ) (e : ParseSchemaError) → IsRefusalOf text e → IsLayoutRefusal text (layout_error_of e)
here text (parsing.Errors errors) h = h
here text parsing.Memory h = tt

pub layout_refusal : (text : List ℕ) (e : ParseSchemaError) (r : LayoutError) → r ≡ layout_error_of e
    → IsRefusalOf text e → IsLayoutRefusal text r
layout_refusal text e r same h = subst (IsLayoutRefusal text) (sym same) (here text e h)
