-- What is said of each kind of type.
use Rattle.std.proofs.Common.{◌≡◌, ap, ◌∙◌, inl, inr}
use Rattle.std.specs.Prelude.{◌⊎◌}
use Rattle.cedar_names.specs.Meaning.{PlainType}
use Rattle.schema_build_types.specs.declared.types.Type.{«Type»}
use Rattle.schema_build_types.specs.declared.types.Type.TheVariants as built
use Rattle.schema_build_types.specs.Content.{TypeContent, type_content}
use Rattle.schema_build_types.proofs.Contents.{never_says, any_bool_says, true_says, false_says}
use Rattle.schema_build_text.specs.Readings.{plain_type}
use Rattle.schema_inclusion_types.specs.Kinds.{plain}

pub said_as : (t v : «Type») (said : TypeContent) → t ≡ v → type_content v ≡ said → plain t ≡ plain_type said
said_as t v said e f = ap plain e ∙ ap plain_type f

pub truth_said : (t : «Type»)
    → (t ≡ built.Never) ⊎ ((t ≡ built.AnyBool) ⊎ ((t ≡ built.True) ⊎ (t ≡ built.False))) → plain t ≡ PlainType.Bool
truth_said t (inl e) = said_as t built.Never _ e never_says
truth_said t (inr (inl e)) = said_as t built.AnyBool _ e any_bool_says
truth_said t (inr (inr (inl e))) = said_as t built.True _ e true_says
truth_said t (inr (inr (inr e))) = said_as t built.False _ e false_says
