use Rattle.std.proofs.Common.{IsSome}
use Rattle.reconnect.proofs.tests.judge_all.Given as goal

-- a connection stays begun
abbrev pub invariant-loop-what : goal.invariant-loop-what
invariant-loop-what g l = IsSome l.counts.connection
