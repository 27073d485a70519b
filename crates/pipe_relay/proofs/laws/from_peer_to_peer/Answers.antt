use Rattle.std.proofs.Common.{◌≡◌, ℤ, ℕ, List, ◌∷◌, ◌++◌, sym, ◌∙◌, ap, append_assoc, subst}
use Rattle.std.proofs.lemmas.List.Elements.{filter_map-append}
use Rattle.plain_lists.specs.Fronts.{IsFront}
use Rattle.plain_lists.proofs.FrontLemmas.{IsFront_trans}
use Rattle.wp_outside.specs.declared.pipe_items.PipeItem.{PipeItem}
use Rattle.wp_outside.specs.declared.pipe_items.PipeItem.TheVariants as items
use Rattle.transfer_frames.specs.declared.frame.Frame.{Frame}
use Rattle.transfer_frames.specs.declared.frame.Frame.TheVariants as frames
use Rattle.pipe_relay.specs.Laws.{Joined}
use Rattle.pipe_relay.specs.Pipes.{no_pipes}
use Rattle.pipe_relay.specs.Rows.{PipeStep, put_in, heard_in, made_in, given_in, pieces_in, transfer_of, transfers_in}
use Rattle.pipe_relay.proofs.ReaderLemmas.{first-given, given-before_end, EndAt}
use Rattle.pipe_relay.proofs.WriterLemmas.{first-written, written-before_end}
use Rattle.pipe_relay.proofs.laws.from_peer_to_peer.Goals as goal

-- the pieces of a front are a front of the pieces
IsFront-transfers : (rid : ℤ) (front whole : List Frame) → IsFront front whole → IsFront (transfers_in rid front) (transfers_in rid whole)
IsFront-transfers rid front whole is = record {
  rest = transfers_in rid is.rest;
  is = sym (filter_map-append (transfer_of rid) front is.rest) ∙ ap (transfers_in rid) is.is;
}

first_pieces : (writer reader : List PipeStep) (rid : ℤ) → Joined writer reader
    → IsFront (pieces_in rid (given_in no_pipes reader)) (pieces_in rid (put_in writer))
first_pieces writer reader rid joined =
    IsFront_trans (first-given rid no_pipes reader) (
    IsFront_trans (IsFront-transfers rid (heard_in reader) (made_in no_pipes writer) joined.link) (first-written rid no_pipes writer))

before_end : (writer reader : List PipeStep) (rid : ℤ) → Joined writer reader
    → (front rest : List PipeItem) → given_in no_pipes reader ≡ front ++ items.End rid ∷ rest
    → pieces_in rid front ≡ pieces_in rid (put_in writer)
before_end writer reader rid joined front rest is =
    let at = given-before_end rid no_pipes reader front rest is in
    let made : made_in no_pipes writer ≡ at.before ++ frames.PipeShutW rid ∷ (at.after ++ joined.link.rest) =
    sym joined.link.is
    ∙ ap (λ (l : List Frame). l ++ joined.link.rest) at.is
    ∙ append_assoc at.before (frames.PipeShutW rid ∷ at.after) joined.link.rest
    in
    at.pieces ∙ written-before_end rid no_pipes writer joined.writes at.before (at.after ++ joined.link.rest) made

pub returns : goal.returns
returns c = record { pieces = first_pieces; end = before_end }
