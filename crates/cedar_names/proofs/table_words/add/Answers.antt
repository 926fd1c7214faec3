use Rattle.std.proofs.Common.{ap, ◌∙◌, not}
use Rattle.std.specs.Str.{bytes_eq}
use Rattle.std.specs.List.{list_any}
use Rattle.cedar_names.specs.TableNames.{is_builtin}
use Rattle.cedar_names.proofs.Found.{found, inserted}
use Rattle.cedar_names.proofs.Members.{by_bytes, at_text, same_text}
use Rattle.cedar_names.proofs.table_words.add.Goals as goal

pub returns-clause-added : goal.returns-clause-added
returns-clause-added c = c.in_ok-added.ensures.added
    ∙ ap not (found _ (λ n. n.id.text) bytes_eq (at_text _ by_bytes) c.args.id c.args.seen.now.keys)

pub returns-clause-same : goal.returns-clause-same
returns-clause-same c = λ text. ap (list_any (λ n. bytes_eq text n.id.text)) c.in_ok-added.ensures.keys
    ∙ inserted _ (λ n. n.id.text) bytes_eq (at_text _ by_bytes) (bytes_eq text) (same_text (bytes_eq text))
    c.args.seen.now.keys c.args.id

pub returns-clause-builtin : goal.returns-clause-builtin
returns-clause-builtin c = ap (list_any (λ n. is_builtin n.id.text)) c.in_ok-added.ensures.keys
    ∙ inserted _ (λ n. n.id.text) bytes_eq (at_text _ by_bytes) is_builtin (same_text is_builtin)
    c.args.seen.now.keys c.args.id
