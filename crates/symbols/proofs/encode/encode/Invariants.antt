use Rattle.std.proofs.Common.{◌≡◌, ◌++◌, length}
use Rattle.std.specs.List.{prefix_len}
use Rattle.buffers.specs.Shown.{shown}
use Rattle.forms.specs.Bytes.{allowed}
use Rattle.symbols.specs.Encoding.{values, set_after}
use Rattle.symbols.proofs.encode.encode.Given as goal

abbrev pub invariant-loop-coded : goal.invariant-loop-coded
invariant-loop-coded l = record {
  wrote : shown l.out ++ values l.set l.rest ≡ shown l.initial.out ++ values l.fn.start l.element;
  goes : set_after l.set l.rest ≡ set_after l.fn.start l.element;
  text : prefix_len allowed l.rest ≡ length l.rest;
}

abbrev pub decreases-loop-coded : goal.decreases-loop-coded
decreases-loop-coded l = length (values l.set l.rest)
