use Rattle.cedar_data.proofs.messages.around.Goals as goal

pub returns : goal.returns
returns c = cc (c.in_ok-push_both.ensures, c.in_ok-whole.ensures)
