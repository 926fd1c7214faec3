-- The tokens of sites.
use Rattle.std.specs.Prelude.{List, [], ◌∷◌}
use Rattle.std.specs.List.{flat_map}
use Rattle.schema_syntax_tokens.specs.declared.token.Token.{Token}
use Rattle.schema_syntax_reader.specs.Placed.{note_tokens}
use Rattle.schema_syntax_reader.specs.Sites.{Site, word, text, annotations, empty}

-- the tokens of a site: the name or the string, and of annotations each key and each value; a list without items has
-- none
abbrev pub site_tokens : Site → List Token
site_tokens (word t) = t ∷ []
site_tokens (text t) = t ∷ []
site_tokens (annotations notes) = note_tokens notes
site_tokens (empty brackets) = []

-- the tokens of the sites, in order: their words and strings
abbrev pub tokens_of_sites : List Site → List Token
tokens_of_sites sites = flat_map site_tokens sites
