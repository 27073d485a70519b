use Rattle.std.proofs.Common.{◌≡◌, ◌++◌, ◌-◌}
use Rattle.script_lang.specs.Trial.{rounds}
use Rattle.script_lang.proofs.trial.add_rounds.Given as goal

-- the rounds that are left complete the text
abbrev pub invariant-loop : goal.invariant-loop
invariant-loop l = l.text ++ rounds (l.count - l.counter) l.draws.state ≡ l.initial.text ++ rounds l.count l.count
