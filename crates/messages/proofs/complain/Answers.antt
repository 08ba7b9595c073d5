use borrow.Author.Rules.{rules}
use Rattle.script.proofs.Pages.{then}
use Rattle.messages.specs.Complaint.{complaint_of}
use Rattle.messages.proofs.complain.Goals as goal

pub returns : goal.returns
unfolding complaint_of
returns c =
    let w = then (then (then (then c.word.ensures c.decimal.ensures) c.word-2.ensures) c.word-3.ensures) c.put.ensures in
    search rules
