-- What a program is to do: its status, and what it is to write.
use Rattle.std.specs.Prelude.{◌≤◌, ◌<◌, ℕ, List, [], codes, length, IsUtf8}
use Rattle.std.specs.Str.{encode_utf8_all}
use Rattle.cedar_io.specs.Input.{max_input}
use Rattle.cedar_runs.specs.declared.reply.Reply.{Reply}
use Rattle.cedar_runs.specs.declared.status.Status.{Status}
use Rattle.cedar_runs.specs.declared.status.Status.TheVariants.{ReadFault, NotText, TooLong}

-- a status, and what goes to the output and to the error output, as bytes
pub record Report : Type 0 where
  pub status : Status
  pub out : List ℕ
  pub err : List ℕ

-- what a reply says: its status, and the bytes for both sinks
abbrev pub report_of : Reply → Report
report_of reply = record { status = reply.status; out = encode_utf8_all reply.out; err = encode_utf8_all reply.err }

-- the report where a read failed
abbrev pub read_fault_report : Report
read_fault_report = record { status = ReadFault; out = []; err = codes "error: reading failed\n" }

-- the report on an input that is longer than an input may be
abbrev pub too_long_report : Report
too_long_report = record { status = TooLong; out = []; err = codes "error: the input is longer than 16777216 bytes\n" }

-- the report on an input that is not UTF-8
abbrev pub not_text_report : Report
not_text_report = record { status = NotText; out = []; err = codes "error: the input is not UTF-8\n" }

-- the report on an input that is to be a text, by what a text is answered: one case for each cause
pub data IsTextReport (Answer : List ℕ → Report → Type 0) (bytes : List ℕ) : Report → Type 0 where
  too_long : max_input < length bytes → IsTextReport Answer bytes too_long_report
  not_text : length bytes ≤ max_input → (IsUtf8 bytes → ⊥) → IsTextReport Answer bytes not_text_report
  answered : length bytes ≤ max_input → IsUtf8 bytes → {report : Report} → Answer bytes report
      → IsTextReport Answer bytes report
