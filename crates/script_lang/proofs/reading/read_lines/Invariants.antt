use Rattle.std.proofs.Common.{◌≡◌, ◌+◌, ◌≤◌, length}
use Rattle.script_lang.specs.Grammar.{steps_from}
use Rattle.script_lang.specs.Names.{no_names}
use Rattle.script_lang.specs.Pieces.{lines}
use Rattle.script_lang.proofs.ReadingLemmas.{behind_steps}
use Rattle.script_lang.proofs.reading.read_lines.Given as goal

-- the lines that are left complete what was read
abbrev pub invariant-loop-rest : goal.invariant-loop-rest
invariant-loop-rest l = record {
  complete : behind_steps l.steps (steps_from l.peers l.line (lines l.rest)) ≡ steps_from no_names 1 (lines l.text);
  few : l.line + length (lines l.rest) ≤ 200001;
}

abbrev pub decreases-loop-rest : goal.decreases-loop-rest
decreases-loop-rest l = length l.rest
