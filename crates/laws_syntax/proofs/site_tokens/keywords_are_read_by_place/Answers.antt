use Rattle.laws_syntax.proofs.Sites.KeywordReadings.{entity_type_reads, set_type_reads}
use Rattle.laws_syntax.proofs.site_tokens.keywords_are_read_by_place.Goals as goal

pub returns : goal.returns
returns c = record { entity = entity_type_reads; common = set_type_reads }
