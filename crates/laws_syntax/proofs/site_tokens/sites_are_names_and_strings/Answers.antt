use Rattle.laws_syntax.proofs.Sites.ExactSites.{exact_sites}
use Rattle.laws_syntax.proofs.site_tokens.sites_are_names_and_strings.Goals as goal

pub returns : goal.returns
returns c = exact_sites
