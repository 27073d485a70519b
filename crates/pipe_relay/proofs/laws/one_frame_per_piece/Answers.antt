use Rattle.std.proofs.Common.{refl}
use Rattle.pipe_relay.specs.Pipes.{no_pipes}
use Rattle.pipe_relay.proofs.WriterLemmas.{first-written, all-written, written-before_end}
use Rattle.pipe_relay.proofs.laws.one_frame_per_piece.Goals as goal

pub returns : goal.returns
returns c = record {
  first = λ steps rid. first-written rid no_pipes steps;
  all = λ steps rid silent. all-written rid no_pipes steps refl silent;
}
