-- Records within types, replaced.
use Rattle.std.proofs.Common.{◌≡◌, Option, ap, ◌∙◌}
use Rattle.cedar_data.specs.declared.loc.Loc.{Loc}
use Rattle.schema_json.specs.declared.types.Type.{«Type», Type-F, roll-Type}
use Rattle.schema_json.specs.declared.types.Type.TheVariants.{Variant, rolls-Variant}
use Rattle.schema_json.specs.declared.types.TypeVariant.TheVariants.{Record, rolls-Record}
use Rattle.schema_json.specs.declared.types.RecordType.{RecordType, out-RecordType, roll-RecordType}
use Rattle.schema_json.specs.declared.types.RecordType.{fold_out-RecordType}
use Rattle.schema_json.specs.declared.types.TypeOfAttribute.{TypeOfAttribute}
use Rattle.schema_json.proofs.Layers.{record_made}
use Rattle.schema_resolve.specs.Renamed.{Renaming, new_type, new_shape, new_record, new_attribute, renamed_at}
use Rattle.schema_resolve.specs.Renamed.{renamed_record, renamed_entries}

module _ {N M : Type 0} (f : Renaming N M) where
  pub record_renamed : (r : RecordType N)
      → renamed_record f r ≡ roll-RecordType M
      (record {
        attributes = renamed_entries f (out-RecordType N r).attributes;
        additional_attributes = (out-RecordType N r).additional_attributes;
      })
  record_renamed r = fold_out-RecordType N («Type» M) (Option Loc → «Type» M) (RecordType M) (TypeOfAttribute M)
      (new_type f) (new_shape f) (new_record f) (new_attribute f) r

  pub record_renamed_at : (r : RecordType N) (loc : Option Loc)
      → renamed_at f (Record r) loc ≡ Variant (Record (renamed_record f r)) loc
  record_renamed_at r loc =
      ap (λ (at : Option Loc → «Type» M). at loc)
      (record_made N (new_type f) (new_shape f) (new_record f) (new_attribute f) r)
      ∙ ap (λ v. roll-Type M (Type-F.Variant v loc)) (rolls-Record (renamed_record f r))
      ∙ rolls-Variant (Record (renamed_record f r)) loc
