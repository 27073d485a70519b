use Rattle.std.proofs.Common.{IsSome}
use Rattle.part_speed.proofs.link_frames.accept_frames.Given as goal

-- the connection stays begun
abbrev pub invariant-loop : goal.invariant-loop
invariant-loop l = IsSome l.counts.connection
