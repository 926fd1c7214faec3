-- Reports as they are made of texts in memory.
use Rattle.std.specs.Prelude.{◌≡◌, ℕ, ◌+◌, ◌^◌, ◌<◌, true, All, List, Option, Some, None, ⊤}
use Rattle.std.specs.Str.{all_scalars}
use Rattle.schema_report.specs.declared.place.Place.{Place}
use Rattle.schema_report.specs.declared.report.Report.{Report}
use Rattle.schema_report.specs.declared.report.ReportPlace.{ReportPlace}

-- the counts of the place, with lines and columns from 1, fit 64 bits
pub record IsPlaceCounted (place : Place) : Type 0 where
  pub byte : place.byte < 2 ^ 64
  pub line : place.line + 1 < 2 ^ 64
  pub column : place.column + 1 < 2 ^ 64
  pub utf16 : place.utf16 + 1 < 2 ^ 64

-- both ends
pub record IsRangeCounted (place : ReportPlace) : Type 0 where
  pub start : IsPlaceCounted place.start
  pub end : IsPlaceCounted place.end

-- all places of the report
abbrev pub IsCounted : Report → Type 0
IsCounted report = All IsRangeCounted report.places

-- what may be there is of characters
abbrev pub IsSomeText : Option (List ℕ) → Type 0
IsSomeText None = ⊤
IsSomeText (Some text) = all_scalars text ≡ true

-- all texts of the report are of characters
pub record HasTexts (report : Report) : Type 0 where
  pub message : all_scalars report.message ≡ true
  pub help : IsSomeText report.help
  pub rule : IsSomeText report.rule
  pub places : All (λ p. IsSomeText p.text) report.places
