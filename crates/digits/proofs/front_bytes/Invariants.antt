-- `digits::front_bytes`, by a loop whose invariant is `Underway`: the bytes of the pairs passed stand at the room's front, and the iterator has the other pairs.
use Rattle.std.specs.Iterator.Adapters.{enumerate_count, enumerate_source}
use Rattle.std.specs.Slice.Iter.{chunks_exact_rest, chunks_exact_size}
use Rattle.rules.specs.Frames.{digit_of}
use Rattle.digits.specs.Tables.{Gives}
use Rattle.digits.proofs.Decoding.{PairsLeft, Underway}
use Rattle.digits.proofs.front_bytes.Given as goal

abbrev pub invariant-loop-i : goal.invariant-loop-i
invariant-loop-i l =
    let i = enumerate_count l.i-iterator in
    let pairs = enumerate_source l.i-iterator in
    record {
      can : (goal.iterator-loop-i).can_next l.i-iterator;
      left : PairsLeft l.line i (chunks_exact_size pairs) (chunks_exact_rest pairs);
      decoded : Underway l.line l.initial.bytes l.bytes i;
      table : Gives digit_of 256 l.table;
    }
