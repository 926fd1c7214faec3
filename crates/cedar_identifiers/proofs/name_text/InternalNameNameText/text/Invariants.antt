use Rattle.std.proofs.Common.{◌≡◌, ◌∷◌, take, codes}
use Rattle.cedar_data.specs.Rows.{joined_by}
use Rattle.cedar_identifiers.specs.Names.{texts_of}
use Rattle.cedar_identifiers.proofs.name_text.InternalNameNameText.text.Given as goal

abbrev pub invariant-loop-id : goal.invariant-loop-id
invariant-loop-id l = l.text ≡ joined_by (codes "::") (texts_of (l.self.first ∷ take l.id-index l.id-items))
