use Rattle.std.proofs.Common.{subst, map}
use Rattle.std.specs.Str.{encode_utf8_all}
use Rattle.schema_registry_entries.specs.Entries.{IsEntered}
use Rattle.schema_registry_entries.proofs.Entering.{is_entered}
use Rattle.schema_registry_entries.proofs.entries.Entries.enter.Goals as goal

pub returns-clause-entered : goal.returns-clause-entered
returns-clause-entered c =
    let place = c.in_ok-place.place in
    let new = map encode_utf8_all c.insert_full.new.self.keys in
    subst (λ old. IsEntered (encode_utf8_all c.args.text) old place new) c.self.view_is
    (is_entered c.self.inside.texts.keys c.insert_full.new.self.keys c.args.text place c.in_ok-place.ensures.keys
    c.in_ok-place.ensures.index c.in_ok-place.ensures.stored)
