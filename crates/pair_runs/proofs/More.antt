-- That calls one after another are one move, and where a proxy begins and what it still has to give.
use Rattle.std.proofs.Common.{◌≡◌, ℕ, List, [], ◌∷◌, ◌++◌, Bool, true, Option, Some, None, Ok, refl, sym, ap, subst, ◌∙◌, append_assoc}
use Rattle.half_model.specs.declared.items.PeerIn.{PeerIn}
use Rattle.half_model.specs.declared.items.PeerIn.TheVariants as items
use Rattle.half_model.specs.PipeTurn as pipes
use Rattle.half_model.specs.PipeTurn.{PipeTurn, pipe_turn}
use Rattle.half_model.specs.Turn as turns
use Rattle.half_model.specs.Turn.{Turn, turn, MadeGroup, group_due}
use Rattle.pair_model.specs.Lines.{Line}
use Rattle.pair_model.specs.Steps.{on_last, with_written, with_read}
use Rattle.side_model.specs.Books.{Lined, with_rows}
use Rattle.side_model.specs.Calls.{Part}
use Rattle.side_model.specs.Due.{hear, next}
use Rattle.side_model.specs.Events.{Event, Fed, Handed, Asks, Do, Rest}
use Rattle.side_model.specs.State.{Now, Closing, Open, Asked, Made}
use Rattle.side_model.specs.Steps.{step, fed_pipe, took, grouped, ended}
use Rattle.side_model.specs.Trails.{TrailState, TrailCalls}
use Rattle.side_model.proofs.Dues.{DueIn, InHear, InGroup, InTreat, InEnd, InChoose, due_in, group_is_due, turn_due, end_is_due, choice_due}
use Rattle.pair_runs.specs.Linking.{read}
use Rattle.pair_runs.specs.MoreLaws.{WorksMore, ReadsMore, WritesMore, BeginsFirst, GivesNoMore, PartMore}
use Rattle.pair_runs.specs.Sides.{SideState, on_rows}
use Rattle.pair_runs.specs.WorkLaws.{RunsOn}
use Rattle.pair_runs.specs.Working.{Works}
use Rattle.pair_runs.proofs.Calling.{Ran, ran_by, quiet_still, fed_here}
use Rattle.pair_runs.proofs.Composing.{works_then}
use Rattle.pair_runs.proofs.Partly.{then_part, then_works}
use Rattle.pair_runs.proofs.Rowing.{stays_quiet}

pub works_more : WorksMore
works_more hears a b c h k = works_then hears a b c h k

-- ---- pieces

-- what a call changes it changes beside other bytes too
on_same : (change : List Line → List Line) (hears : Bool) (a b : SideState) → Works hears a b → Works hears (on_rows change a) (on_rows change b)
on_same change hears a b w = record {
  took = w.took;
  inside = w.inside;
  awaits = record { stay = w.awaits.stay; begin = w.awaits.begin };
  trail = record {
    side = w.trail.side;
    taken = w.trail.taken;
    made = w.trail.made;
    copies = w.trail.copies;
    lines = ap (λ (lines : Lined). with_rows (change lines.rows) lines) w.trail.lines;
    accepted = w.trail.accepted;
  };
  order = w.order;
  passes = record { order = w.passes.order; tracked = w.passes.tracked; uses_are = w.passes.uses_are; ways_are = w.passes.ways_are };
  silent = λ e. record { accepted = (w.silent e).accepted; acknowledged = (w.silent e).acknowledged; given = (w.silent e).given; order = (w.silent e).order; objects = (w.silent e).objects };
}

last_read : (one other : List ℕ) (rows : List Line) → on_last (with_read other) (on_last (with_read one) rows) ≡ on_last (with_read (one ++ other)) rows
last_read one other [] = refl
last_read one other (line ∷ []) = ap (λ (bytes : List ℕ). record line { read = bytes } ∷ []) (append_assoc line.read one other)
last_read one other (line ∷ next ∷ []) = ap (λ (bytes : List ℕ). line ∷ record next { read = bytes } ∷ []) (append_assoc next.read one other)
last_read one other (line ∷ next ∷ third ∷ rows) = ap (λ (lines : List Line). line ∷ lines) (last_read one other (next ∷ third ∷ rows))

last_written : (one other : List ℕ) (rows : List Line) → on_last (with_written other) (on_last (with_written one) rows) ≡ on_last (with_written (one ++ other)) rows
last_written one other [] = refl
last_written one other (line ∷ []) = ap (λ (bytes : List ℕ). record line { written = bytes } ∷ []) (append_assoc line.written one other)
last_written one other (line ∷ next ∷ []) = ap (λ (bytes : List ℕ). line ∷ record next { written = bytes } ∷ []) (append_assoc next.written one other)
last_written one other (line ∷ next ∷ third ∷ rows) = ap (λ (lines : List Line). line ∷ lines) (last_written one other (next ∷ third ∷ rows))

pub writes_more : WritesMore
writes_more one other a = ap (λ (rows : List Line). on_rows (λ _. rows) a) (last_written one other a.book.trail.lines.rows)

read_twice : (one other : List ℕ) (a : SideState) → read other (read one a) ≡ read (one ++ other) a
read_twice one other a = ap (λ (rows : List Line). on_rows (λ _. rows) a) (last_read one other a.book.trail.lines.rows)

pub reads_more : ReadsMore
reads_more one other a b c h k =
    works_then true (read (one ++ other) a) (read other b) c
    (subst (λ (x : SideState). Works true x (read other b)) (read_twice one other a) (on_same (on_last (with_read other)) true (read one a) b h)) k

pub part_more : PartMore
part_more = record {
  part = then_part;
  works = λ fault a b c w p. then_works true fault a b c w p;
  reads = λ fault one other a b c h p.
      then_works true fault (read (one ++ other) a) (read other b) c
      (subst (λ (x : SideState). Works true x (read other b)) (read_twice one other a) (on_same (on_last (with_read other)) true (read one a) b h)) p;
}

-- ---- at first

pub begins_first : BeginsFirst
begins_first half side token = refl

-- ---- items

took_items : (it : Turn) (s : Now) → (took it s).live.items ≡ s.live.items
took_items turns.Idle s = refl
took_items (turns.Refuses fault) s = refl
took_items (turns.Takes it) s = refl

grouped_items : (found : Option MadeGroup) (s : Now) → (grouped found s).live.items ≡ s.live.items
grouped_items None s = refl
grouped_items (Some it) s = refl

ended_items : (closing : Closing) (s : Now) → (ended closing s).live.items ≡ s.live.items
ended_items Open s = refl
ended_items (Asked reason) s = refl
ended_items Made s = refl

-- where no frame is heard nothing comes for the peer
due_items : (event : Event) (s : Now) → hear s ≡ Rest → DueIn s event → (step event s).live.items ≡ s.live.items
unfolding step
due_items event s quiet (InHear h) = absurd (let never : Do event ≡ Rest = sym h ∙ quiet in cc)
due_items event s quiet (InGroup a h) = ap (λ (v : Event). (step v s).live.items) (group_is_due s event h).is ∙ grouped_items (group_due s.live.sending.owes s.kept.jobs) s
due_items event s quiet (InTreat a b h) = ap (λ (v : Event). (step v s).live.items) (turn_due s event h).is ∙ took_items (turn s.live.tables s.live.sending) s
due_items event s quiet (InEnd a b c h) = ap (λ (v : Event). (step v s).live.items) (end_is_due s event h).is ∙ ended_items s.kept.closing s
due_items event s quiet (InChoose a b c d h) = ap (λ (v : Event). (step v s).live.items) (choice_due s event h).is

row_items : (s t : Now) (events : List Event) → hear s ≡ Rest → Part s events t → t.live.items ≡ s.live.items
row_items s t [] quiet p = ap (λ (u : Now). u.live.items) p
row_items s t (x ∷ xs) quiet p =
    row_items (step x s) t xs (stays_quiet x s quiet (due_in s x p.0)) p.1 ∙ due_items x s quiet (due_in s x p.0)

pipe_items : (it : PipeTurn) (s : Now) → (fed_pipe it s).live.items ≡ s.live.items
pipe_items pipes.Barred s = refl
pipe_items (pipes.Drops tables) s = refl
pipe_items (pipes.Makes frame tables) s = refl

fed_items : (item : PeerIn) (s : Now) → (step (Fed item) s).live.items ≡ s.live.items
unfolding step
fed_items (items.Bytes piece) s = refl
fed_items (items.Handle handle) s = refl
fed_items (items.Note note) s = refl
fed_items (items.Pipe item) s = pipe_items (pipe_turn s.live.tables s.live.taking item) s

call_items : (event : Event) (old new : TrailState) → RunsOn old → TrailCalls event (Ok tt) old new → hear (step event old.now) ≡ Rest → (step event old.now).live.items ≡ old.now.live.items → new.now.live.items ≡ old.now.live.items
call_items event old new r calls quiet e =
    let ran : Ran event old new = ran_by event old new r calls in
    ap (λ (s : Now). s.live.items) ran.now ∙ row_items (step event old.now) ran.last ran.events quiet ran.row.0 ∙ e

pub gives_no_more : GivesNoMore
unfolding step
gives_no_more = record {
  fed = λ item old new r calls. call_items (Fed item) old new r calls (quiet_still (Fed item) old.now (r.keeps.runs r.goes_on).rests (fed_here item old.now)) (fed_items item old.now);
  asks = λ reason old new r calls. call_items (Asks reason) old new r calls (quiet_still (Asks reason) old.now (r.keeps.runs r.goes_on).rests refl) refl;
  handed = λ done old new r calls. call_items (Handed done) old new r calls (quiet_still (Handed done) old.now (r.keeps.runs r.goes_on).rests refl) refl;
}
