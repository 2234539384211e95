use Rattle.history.proofs.Halls.{law_of_the_halls, reads_back_anywhere}
use Rattle.history.proofs.settle.settle.Goals as goal

pub returns-in_err-check_room-clause-law : goal.returns-in_err-check_room-clause-law
returns-in_err-check_room-clause-law g c = law_of_the_halls (g.B.Book.entries c.args.book.now) (g.B.Book.lawful c.args.book.now) (g.B.Book.apart c.args.book.now)

pub returns-in_err-check_room-clause-reads : goal.returns-in_err-check_room-clause-reads
returns-in_err-check_room-clause-reads g c = reads_back_anywhere (g.B.Book.entries c.args.book.now) (g.B.Book.lawful c.args.book.now) (g.B.Book.apart c.args.book.now)

pub returns-in_err-check_room-2-clause-law : goal.returns-in_err-check_room-2-clause-law
returns-in_err-check_room-2-clause-law g c = law_of_the_halls (g.B.Book.entries c.args.book.now) (g.B.Book.lawful c.args.book.now) (g.B.Book.apart c.args.book.now)

pub returns-in_err-check_room-2-clause-reads : goal.returns-in_err-check_room-2-clause-reads
returns-in_err-check_room-2-clause-reads g c = reads_back_anywhere (g.B.Book.entries c.args.book.now) (g.B.Book.lawful c.args.book.now) (g.B.Book.apart c.args.book.now)

pub returns-clause-law : goal.returns-clause-law
returns-clause-law g c = law_of_the_halls (g.B.Book.entries c.args.book.now) (g.B.Book.lawful c.args.book.now) (g.B.Book.apart c.args.book.now)

pub returns-clause-reads : goal.returns-clause-reads
returns-clause-reads g c = reads_back_anywhere (g.B.Book.entries c.args.book.now) (g.B.Book.lawful c.args.book.now) (g.B.Book.apart c.args.book.now)
