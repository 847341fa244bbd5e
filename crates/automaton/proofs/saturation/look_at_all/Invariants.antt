use Rattle.std.proofs.Common.{◌≡◌, ◌≤◌, map, drop}
use Rattle.automaton.specs.Limits.{edge_count}
use Rattle.automaton.specs.Layout.{saturated}
use Rattle.automaton.proofs.saturation.look_at_all.Given as goal

abbrev pub invariant-loop-to : goal.invariant-loop-to
invariant-loop-to g l =
    let value = g.S.Scale.value in
    let made = saturated g.S.Scale.values l.sizes l.rule (value l.weight) (map value l.initial.edges) l.to in
    record {
      edges : map value l.edges ≡ made.0;
      raises : l.raises ≡ made.1;
      few : l.raises ≤ l.to;
      rest : drop (edge_count l.sizes) l.edges ≡ drop (edge_count l.sizes) l.initial.edges;
    }
