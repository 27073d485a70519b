-- Why a fault is due where the records follow a proxy, or where an event is too heavy: the cause stands at what waits there, or the limit is passed.
use Rattle.std.proofs.Common.{◌≡◌, ℕ, ◌+◌, ◌<◌, ◌≤◌, List, [], ◌∷◌, Bool, true, false, Option, Some, None, length, refl, sym, ap, subst, ◌∙◌, arith, inl, inr, ◌⊎◌, if◌then◌else◌}
use Rattle.std.specs.Prelude.{is_none}
use Rattle.std.specs.Option.{MatchOption}
use Rattle.wp_outside.specs.declared.kinds.Side.{Side}
use Rattle.wp_outside.specs.declared.pipe_items.PipeItem.{PipeItem}
use Rattle.wp_outside.specs.declared.pipe_items.PipeItem.TheVariants as pieces
use Rattle.wl_tables.specs.declared.way.Way.{Way}
use Rattle.wl_wire.specs.Wire.{first}
use Rattle.wl_wire.proofs.FrontLemmas.{first-message}
use Rattle.transfer_frames.specs.declared.frame.Frame.{Frame}
use Rattle.transfer_frames.specs.declared.frame.Frame.TheVariants as frames
use Rattle.transfer_frames.specs.Grammar.{IsFrame}
use Rattle.transfer_frames.specs.Numbers.{IsWord}
use Rattle.transfer_frames.proofs.NumberLaws.{length-word_bytes}
use Rattle.half_model.specs.declared.causes.HalfFault.{HalfFault}
use Rattle.half_model.specs.declared.causes.HalfFault.TheVariants as halves
use Rattle.half_model.specs.declared.causes.Limit.{Limit}
use Rattle.half_model.specs.declared.causes.Limit.TheVariants as limits
use Rattle.half_model.specs.declared.causes.PeerCause.{PeerCause}
use Rattle.half_model.specs.declared.causes.PeerCause.TheVariants.{PipeUnknown}
use Rattle.half_model.specs.declared.items.PeerIn.{PeerIn}
use Rattle.half_model.specs.declared.items.PeerIn.TheVariants as inputs
use Rattle.half_model.specs.Group.{Owed}
use Rattle.half_model.specs.Log as marks
use Rattle.half_model.specs.Log.{Mark, LogState, Lawful, MayMake}
use Rattle.half_model.specs.PipeTurn as pipes
use Rattle.half_model.specs.PipeTurn.{PipeTurn, pipe_turn, named_turn, made_turn, item_by_rid, with_pipes}
use Rattle.half_model.specs.Story.{accepted_in, order_in}
use Rattle.half_model.specs.StoryLaws.{now}
use Rattle.half_model.specs.Turn as turns
use Rattle.half_model.specs.Turn.{Turn, turn, Treated, MadeGroup, group_due, waits_in, stands_in}
use Rattle.half_model.specs.TurnLaws.{log_of, IsTaken, taken_mark}
use Rattle.half_model.proofs.Shown.{order_is_tracked}
use Rattle.half_model.proofs.Turns.{turn_is_lawful}
use Rattle.pair_model.specs.Wire.{Wire}
use Rattle.pipe_relay.specs.Pipes.{is_unknown, after_item, frame_of_item}
use Rattle.side_model.specs.declared.fault.ProxyFault.{ProxyFault}
use Rattle.side_model.specs.declared.fault.ProxyFault.TheVariants as faults
use Rattle.side_model.specs.Books.{Book, weight, mark_cost, MOST_WEIGHT}
use Rattle.side_model.specs.Calls.{barred, barred_pipe}
use Rattle.side_model.specs.Due.{hear, group, treat, end, choose, work, next, fault_of}
use Rattle.side_model.specs.Events.{Event, Fed, Do, Halt, Rest, or_next}
use Rattle.side_model.specs.Follows.{Follows, Rests, ClosingFollows, log_state}
use Rattle.side_model.specs.Marks.{mark_of, mark_taken, mark_grouped, mark_ended, mark_pipe}
use Rattle.side_model.specs.Places.{places_in, side_of}
use Rattle.side_model.specs.Shows.{has_made_close, wants_peer}
use Rattle.side_model.specs.State.{Now, Closing, Asked}
use Rattle.side_model.proofs.Dues.{DueIn, InHear, InGroup, InTreat, InEnd, InChoose, due_in, or_next_halt, frame_refused, TurnRefused, turn_refused, no_halt_in_group, no_halt_in_end, no_halt_in_choose, is_quiet, frame_due, GroupDue, group_is_due, TurnDue, turn_due, EndDue, end_is_due, choice_due}
use Rattle.side_model.proofs.FollowsWork.{Owing, owing}
use Rattle.side_model.proofs.Links.{link_down}
use Rattle.pair_runs.specs.Causes.{HasCause, MessageHas, IsUnknown, TellsAbove}
use Rattle.pair_runs.specs.Leaving.{Leaves, Passes}
use Rattle.pair_runs.specs.Sides.{Inside, TOKEN}
use Rattle.pair_runs.specs.Whys.{Told, Waits, tracked_by, IsMade, AddsTooMuch, MakesTooMuch, PassesLimit, Why}
use Rattle.pair_runs.proofs.Tracking.{same_side, tracked_there, taken_before}
use Rattle.pair_runs.proofs.Refusals.{OnFault, refused_so_by}

-- ---- the story

rests_there : (s : Now) (book : Book) (f : Follows s book) → hear s ≡ Rest → Rests s.token (side_of book.trail (places_in f.story) None) (accepted_in f.story)
rests_there s book f q = link_down s.token (side_of book.trail (places_in f.story) None) (accepted_in f.story) s.live.here (is_quiet s q) f.link

wire_there : (s : Now) (book : Book) (f : Follows s book) → hear s ≡ Rest → s.token ≡ TOKEN → Wire TOKEN (side_of book.trail (places_in f.story) None)
wire_there s book f q e = subst (λ (token : List ℕ). Wire token (side_of book.trail (places_in f.story) None)) e (rests_there s book f q).wire

abbrev peer_told : (s : Now) (book : Book) → Follows s book → hear s ≡ Rest → s.token ≡ TOKEN → weight book.trail ≤ MOST_WEIGHT → (index : ℕ) (cause : PeerCause) → index ≡ length book.trail.taken → Told s.side (faults.Peer index cause) book
peer_told s book f q e w index cause is = record {
  story = f.story;
  tells = f.tells;
  log = f.log;
  stop = None;
  wire = wire_there s book f q e;
  heard = (rests_there s book f q).accepts;
  stops = refl;
  index = is;
  weighs = w;
}

abbrev limit_told : (s : Now) (book : Book) → Follows s book → hear s ≡ Rest → s.token ≡ TOKEN → weight book.trail ≤ MOST_WEIGHT → (which : Limit) → Told s.side (faults.Limit which) book
limit_told s book f q e w which = record {
  story = f.story;
  tells = f.tells;
  log = f.log;
  stop = None;
  wire = wire_there s book f q e;
  heard = (rests_there s book f q).accepts;
  stops = refl;
  index = tt;
  weighs = w;
}

-- ---- a message that is refused

module _ (hears : Bool) (item : Option PeerIn) (s : Now) (book : Book) (f : Follows s book) (token : s.token ≡ TOKEN) (w : weight book.trail ≤ MOST_WEIGHT) (took : List (List ℕ)) (inside : Inside) (ways : List Way) (left : Leaves took inside.inlet s.live.sending.inlet) (passes : Passes s.side left.uses inside.objects s.live.tables.objects.tracked ways book.order) where
  -- what waits there
  abbrev there : Waits s.side took inside ways book (tracked_by s.side f.story)
  there = record {
    waits = s.live.sending.inlet;
    left = left;
    passes = subst (λ (state : LogState). Passes s.side left.uses inside.objects state.tables.objects.tracked ways book.order) (sym f.after) passes;
  }

  by_message : hear s ≡ Rest → (fault : HalfFault) → turn s.live.tables s.live.sending ≡ turns.Refuses fault → Why s.side hears item (fault_of fault) took inside ways book
  by_message q (halves.Peer index cause) e =
      let found : OnFault s.live.tables s.live.sending s.live.taking (has_made_close s.kept.closing) (order_in s.side f.story) (tracked_there s book f) (halves.Peer index cause) =
      refused_so_by s.live.tables s.live.sending s.live.taking (has_made_close s.kept.closing) (order_in s.side f.story) (tracked_there s book f) (halves.Peer index cause) e in
      let has : MessageHas s.side f.story s.live.sending.inlet cause =
      subst (λ (state : LogState). HasCause s.side state (order_in s.side f.story) s.live.sending.inlet cause) (sym f.after)
      (subst (λ (side : Side). HasCause side (log_state s) (order_in s.side f.story) s.live.sending.inlet cause) (same_side s book f) found.1) in
      record {
        told = peer_told s book f q token w index cause (found.0 ∙ f.taken);
        index_is = found.0 ∙ f.taken;
        tracked = order_is_tracked.tracked s.side f.story f.log;
        at = inl (record { behind = there; has = has });
      }
  by_message q (halves.Limit which) e = by_which which tells
    where
      tells : TellsAbove which s.side (now s.side f.story) s.live.sending.inlet
      tells =
          subst (λ (state : LogState). TellsAbove which s.side state s.live.sending.inlet) (sym f.after)
          (subst (λ (side : Side). TellsAbove which side (log_state s) s.live.sending.inlet) (same_side s book f)
          (refused_so_by s.live.tables s.live.sending s.live.taking (has_made_close s.kept.closing) (order_in s.side f.story) (tracked_there s book f) (halves.Limit which) e))

      by_which : (which : Limit) → TellsAbove which s.side (now s.side f.story) s.live.sending.inlet → PassesLimit which s.side item took inside ways book
      by_which limits.File h = record { told = limit_told s book f q token w limits.File; behind = there; above = h }
      by_which limits.Files h = record { told = limit_told s book f q token w limits.Files; behind = there; above = h }
      by_which limits.Trail h = absurd h.above
      by_which limits.Connections h = absurd h.above
      by_which limits.Input h = absurd h.above
      by_which limits.Lines h = absurd h.above
  by_message q halves.Memory e = tt

  -- ---- a fault that is due

  pub halts_why : (fault : ProxyFault) → (hears ≡ true) ⊎ (hear s ≡ Rest) → next s ≡ Halt fault → Why s.side hears item fault took inside ways book
  unfolding next work
  halts_why fault may h = by_hear (or_next_halt (hear s) (work s) fault h)
    where
      by_end : (end s ≡ Halt fault) ⊎ ((end s ≡ Rest) × (choose s ≡ Halt fault)) → Why s.side hears item fault took inside ways book
      by_end (inl e) = absurd (no_halt_in_end s fault e)
      by_end (inr e) = absurd (no_halt_in_choose s fault e.1)

      by_treat : hear s ≡ Rest → (treat s ≡ Halt fault) ⊎ ((treat s ≡ Rest) × (or_next (end s) (choose s) ≡ Halt fault)) → Why s.side hears item fault took inside ways book
      by_treat q (inl e) =
          let t : TurnRefused s fault = turn_refused s fault e in
          subst (λ (x : ProxyFault). Why s.side hears item x took inside ways book) (sym t.is) (by_message q t.cause t.refuses)
      by_treat q (inr e) = by_end (or_next_halt (end s) (choose s) fault e.1)

      by_group : hear s ≡ Rest → (group s ≡ Halt fault) ⊎ ((group s ≡ Rest) × (or_next (treat s) (or_next (end s) (choose s)) ≡ Halt fault)) → Why s.side hears item fault took inside ways book
      by_group q (inl e) = absurd (no_halt_in_group s fault e)
      by_group q (inr e) = by_treat q (or_next_halt (treat s) (or_next (end s) (choose s)) fault e.1)

      by_frame : hear s ≡ Halt fault → (hears ≡ true) ⊎ (hear s ≡ Rest) → Why s.side hears item fault took inside ways book
      by_frame e (inl hearing) = subst (λ (x : ProxyFault). Why s.side hears item x took inside ways book) (sym (frame_refused s fault e).is) hearing
      by_frame e (inr quiet) = absurd (let never : Halt fault ≡ Rest = sym e ∙ quiet in cc)

      by_hear : (hear s ≡ Halt fault) ⊎ ((hear s ≡ Rest) × (work s ≡ Halt fault)) → Why s.side hears item fault took inside ways book
      by_hear (inl e) = by_frame e may
      by_hear (inr e) = by_group e.0 (or_next_halt (group s) (or_next (treat s) (or_next (end s) (choose s))) fault e.1)

  -- ---- an event that is too heavy

  abbrev Heavy : Option Mark → Type 0
  Heavy mark = MOST_WEIGHT < weight book.trail + mark_cost mark

  takes_heavy : hear s ≡ Rest → (it : Treated) → turn s.live.tables s.live.sending ≡ turns.Takes it → Heavy (Some (taken_mark it)) → AddsTooMuch s.side took inside ways book
  takes_heavy q it e heavy =
      let t : IsTaken s.live.tables s.live.sending s.live.taking it = turn_is_lawful s.live.tables s.live.sending s.live.taking it e in
      let before : now s.side f.story ≡ log_of s.live.tables s.live.sending s.live.taking false = taken_before s book f it e in
      record {
        told = limit_told s book f q token w limits.Trail;
        behind = there;
        mark = taken_mark it;
        lawful = subst (λ (state : LogState). Lawful state (taken_mark it)) (sym before) t.lawful;
        comes = ap first t.front ∙ first-message it.message it.sending.inlet.bytes t.lawful.whole;
        heavy = heavy;
      }

  group_heavy : hear s ≡ Rest → (made : MadeGroup) → group_due s.live.sending.owes s.kept.jobs ≡ Some made → Heavy (Some (marks.Grouped made.frames made.copies)) → AddsTooMuch s.side took inside ways book
  group_heavy q made e heavy =
      let o : Owing s made = owing s book f made e in
      let owes : (now s.side f.story).owes ≡ Some o.owed = ap (λ (state : LogState). state.owes) f.after ∙ o.owes in
      record {
        told = limit_told s book f q token w limits.Trail;
        behind = there;
        mark = marks.Grouped made.frames made.copies;
        lawful = subst (λ (owes : Option Owed). MayMake (now s.side f.story) owes made.frames made.copies) (sym owes) o.is_group;
        comes = subst (λ (owes : Option Owed). IsMade owes made.frames) (sym owes) tt;
        heavy = heavy;
      }

  close_heavy : hear s ≡ Rest → (reason : ℕ) → s.kept.closing ≡ Asked reason → s.live.sending.owes ≡ None → Heavy (Some (marks.Grouped (frames.Close reason ∷ []) [])) → AddsTooMuch s.side took inside ways book
  close_heavy q reason asked none heavy =
      let word : IsWord reason = subst (λ (c : Closing). ClosingFollows c (is_none s.live.sending.owes) (waits_in s.live.sending)) asked f.closes in
      let is_frame : IsFrame (frames.Close reason) = record { fields = word; fits = omega (arith, length-word_bytes reason) } in
      let owes : (now s.side f.story).owes ≡ None = ap (λ (state : LogState). state.owes) f.after ∙ none in
      let still : (now s.side f.story).closed ≡ false = ap (λ (state : LogState). state.closed) f.after ∙ ap has_made_close asked in
      record {
        told = limit_told s book f q token w limits.Trail;
        behind = there;
        mark = marks.Grouped (frames.Close reason ∷ []) [];
        lawful =
            subst (λ (owes : Option Owed). MayMake (now s.side f.story) owes (frames.Close reason ∷ []) []) (sym owes)
            (refl, record { goes_on = still; is_frame = is_frame; may = refl });
        comes = subst (λ (owes : Option Owed). IsMade owes (frames.Close reason ∷ [])) (sym owes) tt;
        heavy = heavy;
      }

  -- an event that is due
  pub heavy_why : (event : Event) → next s ≡ Do event → Heavy (mark_of event s) → AddsTooMuch s.side took inside ways book
  heavy_why event d heavy = by_phase (due_in s event d)
    where
      by_phase : DueIn s event → AddsTooMuch s.side took inside ways book
      by_phase (InHear h) =
          let nothing : mark_cost (mark_of event s) ≡ 0 = ap (λ (v : Event). mark_cost (mark_of v s)) (frame_due s event h).is in
          absurd (omega (arith, nothing, w, heavy))
      by_phase (InGroup q h) =
          let due : GroupDue s event = group_is_due s event h in
          let mark : mark_of event s ≡ Some (marks.Grouped due.made.frames due.made.copies) = ap (λ (v : Event). mark_of v s) due.is ∙ ap mark_grouped due.due in
          group_heavy q due.made due.due (subst (λ (m : Option Mark). Heavy m) mark heavy)
      by_phase (InTreat q a h) =
          let due : TurnDue s event = turn_due s event h in
          let mark : mark_of event s ≡ Some (taken_mark due.it) = ap (λ (v : Event). mark_of v s) due.is ∙ ap mark_taken due.takes in
          takes_heavy q due.it due.takes (subst (λ (m : Option Mark). Heavy m) mark heavy)
      by_phase (InEnd q a b h) =
          let due : EndDue s event = end_is_due s event h in
          let mark : mark_of event s ≡ Some (marks.Grouped (frames.Close due.reason ∷ []) []) = ap (λ (v : Event). mark_of v s) due.is ∙ ap mark_ended due.asked in
          close_heavy q due.reason due.asked due.owes_none (subst (λ (m : Option Mark). Heavy m) mark heavy)
      by_phase (InChoose q a b c h) =
          let nothing : mark_cost (mark_of event s) ≡ 0 = ap (λ (v : Event). mark_cost (mark_of v s)) (choice_due s event h).is in
          absurd (omega (arith, nothing, w, heavy))

-- ---- an item of the peer

module _ (s : Now) (book : Book) (f : Follows s book) (token : s.token ≡ TOKEN) (w : weight book.trail ≤ MOST_WEIGHT) (q : hear s ≡ Rest) (inside : Inside) (ways : List Way) (same : book.order ≡ ways) (calm : (wants_peer s ≡ true) → stands_in (first inside.inlet.bytes) ≡ false) where
  -- the frame of an item of a pipe is too heavy
  makes_heavy : (pipe : PipeItem) (it : PipeTurn) → pipe_turn s.live.tables s.live.taking pipe ≡ it → MOST_WEIGHT < weight book.trail + mark_cost (mark_pipe pipe it)
      → MakesTooMuch s.side (Some (inputs.Pipe pipe)) [] ways book
  makes_heavy pipe pipes.Barred e heavy = absurd (omega (arith, w, heavy))
  makes_heavy (pieces.Bytes rid bytes) (pipes.Drops tables) e heavy = absurd (omega (arith, w, heavy))
  makes_heavy (pieces.End rid) (pipes.Drops tables) e heavy = absurd (omega (arith, w, heavy))
  makes_heavy (pieces.Shut number) (pipes.Drops tables) e heavy = absurd (omega (arith, w, heavy))
  makes_heavy pipe (pipes.Makes frame tables) e heavy =
      record {
        told = limit_told s book f q token w limits.Trail;
        pipe = pipe;
        brought = refl;
        none = refl;
        same = same;
        frame = frame;
        tables = tables;
        makes = ap (λ (state : LogState). pipe_turn state.tables state.taking pipe) f.after ∙ e;
        heavy = omega (arith, heavy);
      }

  pub item_heavy : (item : PeerIn) → MOST_WEIGHT < weight book.trail + mark_cost (mark_of (Fed item) s) → MakesTooMuch s.side (Some item) [] ways book
  item_heavy (inputs.Bytes bytes) heavy = absurd (omega (arith, w, heavy))
  item_heavy (inputs.Handle handle) heavy = absurd (omega (arith, w, heavy))
  item_heavy (inputs.Note note) heavy = absurd (omega (arith, w, heavy))
  item_heavy (inputs.Pipe pipe) heavy = makes_heavy pipe (pipe_turn s.live.tables s.live.taking pipe) refl heavy

  -- an item is for a pipe that the peer doesn't hold
  unknown_named : (pipe : PipeItem) (named : Option PipeItem) → named_turn s.live.tables named ≡ pipes.Barred → MatchOption named (Unit {0}) (λ it. is_unknown s.live.tables.pipes it ≡ true)
  unknown_named pipe None e = tt
  unknown_named pipe (Some it) e = by_known (is_unknown s.live.tables.pipes it) refl e
    where
      never : (made : Option Frame) → made_turn (with_pipes (after_item s.live.tables.pipes it) s.live.tables) made ≡ pipes.Barred → ⊥
      never None d = absurd cc
      never (Some frame) d = absurd cc

      by_known : (b : Bool) → is_unknown s.live.tables.pipes it ≡ b
          → (if b then pipes.Barred else made_turn (with_pipes (after_item s.live.tables.pipes it) s.live.tables) (frame_of_item s.live.tables.pipes it)) ≡ pipes.Barred
          → is_unknown s.live.tables.pipes it ≡ true
      by_known true k d = k
      by_known false k d = absurd (never (frame_of_item s.live.tables.pipes it) d)

  pipe_bars : wants_peer s ≡ true → (pipe : PipeItem) (fault : ProxyFault) (it : PipeTurn) → pipe_turn s.live.tables s.live.taking pipe ≡ it → barred_pipe s.live.sending.taken it ≡ Some fault → Why s.side false (Some (inputs.Pipe pipe)) fault [] inside ways book
  pipe_bars wants pipe fault pipes.Barred e d =
      let is : faults.Peer s.live.sending.taken PipeUnknown ≡ fault = cc in
      let unknown : IsUnknown (log_state s) pipe = unknown_named pipe (item_by_rid s.live.tables.handles s.live.taking.held pipe) e in
      subst (λ (x : ProxyFault). Why s.side false (Some (inputs.Pipe pipe)) x [] inside ways book) is (record {
        told = peer_told s book f q token w s.live.sending.taken PipeUnknown f.taken;
        index_is = f.taken;
        tracked = order_is_tracked.tracked s.side f.story f.log;
        at = inr (record { pipe = pipe; brought = refl; cause_is = refl; none = refl; same = same; still = calm wants; unknown = subst (λ (state : LogState). IsUnknown state pipe) (sym f.after) unknown });
      })
  pipe_bars wants pipe fault (pipes.Drops tables) e d = absurd cc
  pipe_bars wants pipe fault (pipes.Makes frame tables) e d = absurd cc

  pub item_bars : wants_peer s ≡ true → (item : PeerIn) (fault : ProxyFault) → barred (Fed item) s ≡ Some fault → Why s.side false (Some item) fault [] inside ways book
  item_bars wants (inputs.Bytes bytes) fault d = absurd cc
  item_bars wants (inputs.Handle handle) fault d = absurd cc
  item_bars wants (inputs.Note note) fault d = absurd cc
  item_bars wants (inputs.Pipe pipe) fault d = pipe_bars wants pipe fault (pipe_turn s.live.tables s.live.taking pipe) refl d
