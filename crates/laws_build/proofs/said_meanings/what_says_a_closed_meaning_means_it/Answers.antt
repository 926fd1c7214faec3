use Rattle.laws_build.proofs.said_meanings.what_says_a_closed_meaning_means_it.Goals as goal

pub returns : goal.returns
returns c = record {
  means = λ g table m says closed. c.what_declares_a_closed_meaning_means_it.ensures.means g table m
      (c.what_says_a_meaning_declares_it.ensures g m says closed.open_names) closed;
  faultless = λ g table m says closed. c.what_declares_a_closed_meaning_means_it.ensures.faultless g table m
      (c.what_says_a_meaning_declares_it.ensures g m says closed.open_names) closed;
}
