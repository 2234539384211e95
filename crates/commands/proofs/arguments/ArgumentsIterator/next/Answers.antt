use Rattle.std.proofs.Common.{ap, ◌∙◌, rules}
use Rattle.commands.specs.Words.{word, tail}
use Rattle.commands.proofs.Tails.{arguments-step}
use Rattle.commands.proofs.arguments.ArgumentsIterator.next.Goals as goal

pub returns-clause-steps : goal.returns-clause-steps
returns-clause-steps c =
    let first = c.split_word.ensures.front ∙ ap word c.behind.ensures in
    let others = c.split_word.ensures.back ∙ ap tail c.behind.ensures in
    rw (first, others) (arguments-step c.args.self.now.tail.now (search rules))
