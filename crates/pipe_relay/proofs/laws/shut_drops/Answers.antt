use Rattle.std.proofs.Common.{refl}
use Rattle.pipe_relay.specs.Laws.{behind_shut}
use Rattle.pipe_relay.specs.Pipes.{no_pipes}
use Rattle.pipe_relay.proofs.ReaderLemmas.{left-pieces, left-ends, left-behind, all-given}
use Rattle.pipe_relay.proofs.laws.shut_drops.Goals as goal

pub returns : goal.returns
returns c = record {
  before = λ steps rid stays. all-given rid no_pipes steps refl stays;
  pieces = λ front rest rid. left-pieces rid (behind_shut front rid) rest (left-behind rid no_pipes front);
  end = λ front rest rid. left-ends rid (behind_shut front rid) rest (left-behind rid no_pipes front);
}
