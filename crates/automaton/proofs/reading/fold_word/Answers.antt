use Rattle.std.proofs.Common.{ℕ, false, length, slice_index_or, drop, sym, ap, ◌∙◌, arith}
use Rattle.std.specs.Iterator.Adapters.{rev_source}
use Rattle.std.specs.Slice.Iter.{iter_rest}
use Rattle.automaton.specs.Automaton.{answer}
use Rattle.automaton.specs.Edges.{edges_of}
use Rattle.automaton.proofs.RowFacts.{answers_more, read_more}
use Rattle.automaton.proofs.reading.fold_word.Goals as goal

pub loop-symbol-preserved : goal.loop-symbol-preserved
loop-symbol-preserved g c =
    let a = c.args in
    let s = g.S.Scale.values in
    let value = g.S.Scale.value in
    let laws = g.met.S.Scale in
    let z = a.edges.now.sizes in
    let e = edges_of s value a.edges.now in
    let n = z.states in
    let final = λ (q : ℕ). slice_index_or a.finals.now q false in
    let w = a.word.now in
    let rest = iter_rest (rev_source c.loop-symbol.symbol-iterator) in
    let symbol = c.in-Some.symbol.now in
    let more = read_more w rest (iter_rest (rev_source c.next.new.self)) symbol c.loop-symbol.invariant.0 c.in-Some.ensures.steps in (
      more.1,
      λ k h. answers_more s laws.combines laws.distributes laws.absorbs value e n final symbol (drop (length rest) w)
          c.loop-symbol.scratch c.split_at_mut-row.result.0.now c.extend_row.new.next c.copy_from_slice.new.self
          c.split_at_mut-row.ensures.front c.copy_from_slice.ensures.after (omega arith)
          c.loop-symbol.invariant.1 c.extend_row.ensures k h
          ∙ ap (answer s e n final k) (sym more.0),
    )
