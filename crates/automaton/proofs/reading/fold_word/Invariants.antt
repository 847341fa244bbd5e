use Rattle.std.proofs.Common.{◌≡◌, ℕ, ◌<◌, false, map, length, slice_index_or, drop, ◌++◌}
use Rattle.std.specs.Iterator.Adapters.{rev_source}
use Rattle.std.specs.Slice.Iter.{iter_rest}
use Rattle.automaton.specs.Automaton.{answer}
use Rattle.automaton.specs.Edges.{edges_of}
use Rattle.automaton.specs.Rows.{at_place}
use Rattle.automaton.proofs.reading.fold_word.Given as goal

abbrev pub invariant-loop-symbol : goal.invariant-loop-symbol
invariant-loop-symbol g l =
    let s = g.S.Scale.values in
    let value = g.S.Scale.value in
    let rest = iter_rest (rev_source l.symbol-iterator) in
    let read = drop (length rest) l.word in
    (l.word ≡ rest ++ read)
    × ((k : ℕ) → k < l.states → at_place s (map value l.scratch) k ≡ answer s (edges_of s value l.edges) l.states (λ q. slice_index_or l.finals q false) k read)
