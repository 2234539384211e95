use Rattle.books.proofs.Parts.{made_of}
use Rattle.books.proofs.row.RowSpelled.read.Goals as goal

pub returns : goal.returns
returns c =
    let row = c.args.self.now in
    let i = c.in_ok-new.ensures in
    made_of c.new-2.result c.in_ok-new.field-0 row.0 row.1 row.2 row.3 row.4 i.0 i.1 c.new-2.ensures
