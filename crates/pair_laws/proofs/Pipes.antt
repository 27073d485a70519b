-- From peer to peer a pipe has what was written to it.
use Rattle.std.proofs.Common.{◌≡◌, List, [], ◌∷◌, ◌++◌, ℤ, refl, sym, ap, ◌∙◌, subst, append_assoc}
use Rattle.std.proofs.lemmas.List.{append_cancel_left}
use Rattle.std.proofs.lemmas.List.Elements.{filter-append, filter_map-append}
use Rattle.std.specs.List.{list_any}
use Rattle.plain_lists.specs.Fronts.{IsFront}
use Rattle.plain_lists.proofs.FrontLemmas.{IsFront_trans}
use Rattle.wp_outside.specs.declared.kinds.Side.{Side}
use Rattle.wp_outside.specs.declared.pipe_items.PipeItem.{PipeItem}
use Rattle.wp_outside.specs.declared.pipe_items.PipeItem.TheVariants as items
use Rattle.transfer_frames.specs.declared.frame.Frame.{Frame}
use Rattle.transfer_frames.specs.declared.frame.Frame.TheVariants.{PipeShutR}
use Rattle.half_model.specs.declared.items.PeerOut.{PeerOut}
use Rattle.half_model.specs.Log.{Mark, Grouped, LogState, log_new, Lawful, log_next, Logs, log_after}
use Rattle.half_model.specs.PairLaws.{Hears}
use Rattle.half_model.specs.Sides.{other_side}
use Rattle.half_model.specs.Story.{accepted_in, given_by, items_from}
use Rattle.half_model.specs.StoryLaws.{IsStory}
use Rattle.pipe_relay.specs.Laws as relay
use Rattle.pipe_relay.specs.Pipes.{PipesState, no_pipes, is_of_pipe}
use Rattle.pipe_relay.specs.Rows as rows
use Rattle.pipe_relay.specs.Rows.{PipeStep, Puts, after_steps, put_in, pieces_in, piece_of, is_end_of}
use Rattle.pair_laws.specs.PipeRuns.{of_pipes, pipe_items_in, IsPipeRun, HasPipeRun, SilentBehindShut, PipesReach}
use Rattle.pair_laws.proofs.Auditing.{other_hears}
use Rattle.pair_laws.proofs.PipeRows.{after_both, pipe_items-append}
use Rattle.pair_laws.proofs.PipeSteps.{steps_from, OwesPlain, runs_mark, runs_story}

-- ---- one side

run_of : (side : Side) (story : List Mark) → IsStory side story → IsPipeRun side story (steps_from (log_new side) story)
run_of side story logs =
    let r = runs_story (log_new side) story tt logs in
    record { happens = r.happens; made = r.made_is; heard = r.heard_is; gives = r.gives }

pub has_pipe_run : HasPipeRun
has_pipe_run side story logs = (steps_from (log_new side) story, run_of side story logs)

-- ---- behind a shut

-- a story in two parts
record Parts (s : LogState) (earlier : List Mark) (mark : Mark) (later : List Mark) : Type 0 where
  first : Logs s earlier
  here : Lawful (log_after s earlier) mark
  rest : Logs (log_next (log_after s earlier) mark) later
  items : items_from s (earlier ++ mark ∷ later) ≡ items_from s earlier ++ (given_by (log_after s earlier) mark ++ items_from (log_next (log_after s earlier) mark) later)

parts : (s : LogState) (earlier : List Mark) (mark : Mark) (later : List Mark) → Logs s (earlier ++ mark ∷ later) → Parts s earlier mark later
parts s [] mark later logs = record { first = tt; here = logs.0; rest = logs.1; items = refl }
parts s (m ∷ earlier) mark later logs =
    let p = parts (log_next s m) earlier mark later logs.1 in
    record {
      first = (logs.0, p.first);
      here = p.here;
      rest = p.rest;
      items = ap (λ (is : List PeerOut). given_by s m ++ is) p.items ∙ sym (append_assoc (given_by s m) (items_from (log_next s m) earlier) _);
    }

-- what is owed behind a story has no frame of an open pipe
plain_after : (s : LogState) (story : List Mark) → OwesPlain s.owes → Logs s story → OwesPlain (log_after s story).owes
plain_after s [] plain logs = plain
plain_after s (mark ∷ story) plain logs = plain_after (log_next s mark) story (runs_mark s mark plain logs.0).1 logs.1

pub silent_behind_shut : relay.ShutDrops → SilentBehindShut
silent_behind_shut drops side story earlier later rid behind logs split given =
    let mark : Mark = Grouped (PipeShutR rid ∷ []) [] in
    let s : LogState = log_new side in
    let p = parts s earlier mark later (subst (λ (marks : List Mark). Logs s marks) split logs) in
    let then : LogState = log_next (log_after s earlier) mark in
    let plain = plain_after s earlier tt p.first in
    let one = runs_mark (log_after s earlier) mark plain p.here in
    let before = runs_story s earlier tt p.first in
    let after = runs_story then later one.1 p.rest in
    let same : behind ≡ items_from then later =
    append_cancel_left (items_from s earlier) behind (items_from then later) (sym given ∙ ap (items_from s) split ∙ p.items) in
    let pipes : relay.behind_shut (steps_from s earlier) rid ≡ then.tables.pipes =
    after_both no_pipes (steps_from s earlier) (Puts (items.Shut rid) ∷ []) ∙ ap (λ (q : PipesState). after_steps q (Puts (items.Shut rid) ∷ [])) before.leaves ∙ one.0.leaves in
    let told : pipe_items_in behind ≡ rows.given_in (relay.behind_shut (steps_from s earlier) rid) (steps_from then later) =
    ap pipe_items_in same ∙ sym after.gives ∙ ap (λ (q : PipesState). rows.given_in q (steps_from then later)) (sym pipes) in
    record {
      pieces = ap (pieces_in rid) told ∙ drops.pieces (steps_from s earlier) (steps_from then later) rid;
      end = ap (list_any (is_end_of rid)) told ∙ drops.end (steps_from s earlier) (steps_from then later) rid;
    }

-- ---- both sides

of_pipes_front : {xs ys : List Frame} → IsFront xs ys → IsFront (of_pipes xs) (of_pipes ys)
of_pipes_front {xs} {ys} f = record { rest = of_pipes f.rest; is = sym (filter-append is_of_pipe xs f.rest) ∙ ap of_pipes f.is }

pieces_front : (rid : ℤ) {xs ys : List PipeItem} → IsFront xs ys → IsFront (pieces_in rid xs) (pieces_in rid ys)
pieces_front rid {xs} {ys} f = record { rest = pieces_in rid f.rest; is = sym (filter_map-append (piece_of rid) xs f.rest) ∙ ap (pieces_in rid) f.is }

items_front : {xs ys : List PeerOut} → IsFront xs ys → IsFront (pipe_items_in xs) (pipe_items_in ys)
items_front {xs} {ys} f = record { rest = pipe_items_in f.rest; is = sym (pipe_items-append xs f.rest) ∙ ap pipe_items_in f.is }

joined : (side : Side) (writer reader : List Mark) (puts takes : List PipeStep) → Hears reader writer → IsPipeRun side writer puts → IsPipeRun (other_side side) reader takes → relay.Joined puts takes
joined side writer reader puts takes hears p t = record {
  writes = p.happens;
  reads = t.happens;
  link = subst (λ (fs : List Frame). IsFront fs (rows.made_in no_pipes puts)) (sym t.heard) (subst (λ (fs : List Frame). IsFront (of_pipes (accepted_in reader)) fs) (sym p.made) (of_pipes_front hears));
}

pub pipes_reach : relay.FromPeerToPeer → PipesReach
pipes_reach laws side sender hearer both puts given rid run front =
    let reader : List Mark = both.other_law.story in
    let takes : List PipeStep = steps_from (log_new (other_side side)) reader in
    let taken : IsPipeRun (other_side side) reader takes = run_of (other_side side) reader both.other_law.log in
    let j = joined side both.one_law.story reader puts takes (other_hears both) run taken in
    let all : IsFront (pipe_items_in given) (rows.given_in no_pipes takes) =
    subst (λ (is : List PipeItem). IsFront (pipe_items_in given) is) (sym taken.gives) (items_front front) in
    record {
      pieces = IsFront_trans (pieces_front rid all) (laws.pieces puts takes rid j);
      end = λ first rest e.
          laws.end puts takes rid j first (rest ++ all.rest)
          (sym all.is ∙ ap (λ (is : List PipeItem). is ++ all.rest) e ∙ append_assoc first (items.End rid ∷ rest) all.rest);
    }
