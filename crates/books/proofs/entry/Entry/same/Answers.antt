use Rattle.std.proofs.Common.{◌≡◌, Bool, Decides, sym, subst}
use Rattle.books.proofs.Alike.{entries_alike}
use Rattle.books.proofs.entry.Entry.same.Goals as goal

pub returns : goal.returns
returns c =
    let P : Bool → Type 0 = λ r. Decides r (c.args.self.now ≡ c.args.other.now) in
    subst P (sym c.eq.ensures) (entries_alike c.args.self.now c.args.other.now)
