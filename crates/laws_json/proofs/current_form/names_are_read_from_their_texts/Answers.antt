use Rattle.laws_json.proofs.Current.NamesRead.{internal_reads, name_reads, id_reads, key_reads}
use Rattle.laws_json.proofs.current_form.names_are_read_from_their_texts.Goals as goal

pub returns : goal.returns
returns c = record { names = internal_reads; declared = name_reads; words = id_reads; keys = key_reads }
