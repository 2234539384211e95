use Rattle.cards.proofs.Reasons.{scan_law}
use Rattle.cards.proofs.card.Card.scan.Goals as goal

pub returns-in_err-new-clause-law : goal.returns-in_err-new-clause-law
returns-in_err-new-clause-law g c = scan_law (g.B.Book.entries c.args.book.now) (g.B.Book.lawful c.args.book.now) (g.B.Book.apart c.args.book.now)

pub returns-clause-law : goal.returns-clause-law
returns-clause-law g c = scan_law (g.B.Book.entries c.args.book.now) (g.B.Book.lawful c.args.book.now) (g.B.Book.apart c.args.book.now)
