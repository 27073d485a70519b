use Rattle.std.proofs.Common.{ℕ, ◌<◌, ◌≤◌, take}
use Rattle.std.specs.List.{All}
use Rattle.surface_damage.proofs.sweep.band_end.Given as goal

abbrev pub invariant-loop-area : goal.invariant-loop-area
invariant-loop-area l = record {
  height : l.end ≤ l.fn.height;
  active : All (λ area. l.end ≤ area.rows.end) (take l.area-index l.active);
  waiting : All (λ area. l.end ≤ area.rows.first) l.fn.waiting;
  least : (row : ℕ) → row < l.fn.height → All (λ area. row < area.rows.end) l.active → All (λ area. row < area.rows.first) l.fn.waiting → row < l.end;
}
