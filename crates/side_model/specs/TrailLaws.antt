-- The laws of a proxy with its records: each of its calls keeps what they keep; this project's own.
use Rattle.std.specs.Prelude.{◌≡◌, ℕ, ◌≤◌, List, length, None, Result, ◌⊎◌}
use Rattle.wp_outside.specs.declared.kinds.Side.{Side}
use Rattle.side_model.specs.declared.fault.ProxyFault.{ProxyFault}
use Rattle.side_model.specs.Events.{Event, Lent, Down, Gave}
use Rattle.side_model.specs.Sound.{Admits}
use Rattle.side_model.specs.Trails.{TrailState, no_records, Keeps, TrailCalls, trail_step, Sends}
use Rattle.side_model.specs.Trails.{Lends}

-- at first
abbrev pub KeepsAtFirst : Type 0
KeepsAtFirst = (side : Side) (token : List ℕ) → length token ≡ 16 → Keeps (no_records side token)

-- a call that may fail
abbrev pub CallsKeep : Type 0
CallsKeep = (event : Event) (result : Result Unit ProxyFault) (old new : TrailState)
    → Keeps old → Admits event old.now → TrailCalls event result old new → Keeps new

-- the connection goes down, an item is given, a copy is lent
abbrev pub StepsKeep : Type 0
StepsKeep = (event : Event) (old : TrailState) → (event ≡ Down) ⊎ ((event ≡ Gave) ⊎ (event ≡ Lent))
    → old.fault ≡ None → Keeps old → Keeps (trail_step event old)

-- bytes that were lent are sent
abbrev pub SendsKeep : Type 0
SendsKeep = (n : ℕ) (old new : TrailState) → old.fault ≡ None → Keeps old
    → n ≤ old.book.trail.lines.room → Sends n old new → Keeps new

-- bytes are lent
abbrev pub LendsKeep : Type 0
LendsKeep = (result : Result Unit ProxyFault) (old new : TrailState) → Keeps old
    → Lends result old new → Keeps new
