-- What stays along a row of events, and that the records follow a proxy along it.
use Rattle.std.proofs.Common.{◌≡◌, ◌≤◌, List, [], ◌∷◌, ◌++◌, Option, Some, None, refl, sym, ap, subst, ◌∙◌, arith, append_assoc, inl, inr}
use Rattle.std.proofs.lemmas.List.{append-nil}
use Rattle.transfer_frames.specs.declared.frame.Frame.{Frame}
use Rattle.half_model.specs.declared.items.PeerIn.TheVariants as inputs
use Rattle.half_model.specs.Log as marks
use Rattle.half_model.specs.Log.{Mark}
use Rattle.half_model.specs.PipeTurn as pipes
use Rattle.half_model.specs.PipeTurn.{PipeTurn, pipe_turn}
use Rattle.half_model.specs.Turn as turns
use Rattle.half_model.specs.Turn.{Turn, turn, MadeGroup, group_due}
use Rattle.side_model.specs.Books.{Book, TrailRecord, marked_trail, grown, grow_all, weight, MOST_WEIGHT, Fit}
use Rattle.side_model.specs.Calls.{Part}
use Rattle.side_model.specs.Due.{hear}
use Rattle.side_model.specs.Events.{Event, Fed, Handed, Lent, Up, Down, Came, Went, Gave, Asks, Told, Heard, Took, Grouped, Ended, Chose, Rest}
use Rattle.side_model.specs.Follows.{Follows}
use Rattle.side_model.specs.Marks.{mark_of, mark_taken, mark_grouped, mark_ended}
use Rattle.side_model.specs.RowLaws.{IsWork}
use Rattle.side_model.specs.Sound.{Sound}
use Rattle.side_model.specs.State.{Now, Closing, Open, Asked, Made}
use Rattle.side_model.specs.Steps.{step, fed_pipe, took, grouped, ended}
use Rattle.side_model.specs.Trails.{step_all}
use Rattle.side_model.proofs.Dues.{hears_none, is_quiet}
use Rattle.side_model.proofs.FollowsAll.{follows_inside}
use Rattle.side_model.proofs.Quiets.{quiet_worked, quiet_chose}
use Rattle.side_model.proofs.RowProofs.{Working, Works, Chooses, working}
use Rattle.side_model.proofs.SoundsInside.{sound_inside}
use Rattle.side_model.proofs.Stopping.{group_fits}
use Rattle.side_model.proofs.Weighing.{weight_grows}

-- ---- what no event changes

pub record SameProxy (s t : Now) : Type 0 where
  pub side : t.side ≡ s.side
  pub token : t.token ≡ s.token
  pub fault : t.fault ≡ s.fault

same : (s : Now) → SameProxy s s
same s = record { side = refl; token = refl; fault = refl }

pub same_then : {s t u : Now} → SameProxy s t → SameProxy t u → SameProxy s u
same_then {s} {t} {u} h k = record { side = k.side ∙ h.side; token = k.token ∙ h.token; fault = k.fault ∙ h.fault }

same_pipe : (it : PipeTurn) (s : Now) → SameProxy s (fed_pipe it s)
same_pipe pipes.Barred s = record { side = refl; token = refl; fault = refl }
same_pipe (pipes.Drops tables) s = record { side = refl; token = refl; fault = refl }
same_pipe (pipes.Makes frame tables) s = record { side = refl; token = refl; fault = refl }

same_took : (it : Turn) (s : Now) → SameProxy s (took it s)
same_took turns.Idle s = record { side = refl; token = refl; fault = refl }
same_took (turns.Refuses fault) s = record { side = refl; token = refl; fault = refl }
same_took (turns.Takes it) s = record { side = refl; token = refl; fault = refl }

same_grouped : (found : Option MadeGroup) (s : Now) → SameProxy s (grouped found s)
same_grouped None s = record { side = refl; token = refl; fault = refl }
same_grouped (Some made) s = record { side = refl; token = refl; fault = refl }

same_ended : (closing : Closing) (s : Now) → SameProxy s (ended closing s)
same_ended Open s = record { side = refl; token = refl; fault = refl }
same_ended (Asked reason) s = record { side = refl; token = refl; fault = refl }
same_ended Made s = record { side = refl; token = refl; fault = refl }

pub same_step : (event : Event) (s : Now) → SameProxy s (step event s)
unfolding step
same_step (Fed (inputs.Bytes bytes)) s = record { side = refl; token = refl; fault = refl }
same_step (Fed (inputs.Handle handle)) s = record { side = refl; token = refl; fault = refl }
same_step (Fed (inputs.Note note)) s = record { side = refl; token = refl; fault = refl }
same_step (Fed (inputs.Pipe item)) s = same_pipe (pipe_turn s.live.tables s.live.taking item) s
same_step (Handed done) s = record { side = refl; token = refl; fault = refl }
same_step Lent s = record { side = refl; token = refl; fault = refl }
same_step (Up connection) s = record { side = refl; token = refl; fault = refl }
same_step Down s = record { side = refl; token = refl; fault = refl }
same_step (Came piece) s = record { side = refl; token = refl; fault = refl }
same_step (Went n) s = record { side = refl; token = refl; fault = refl }
same_step Gave s = record { side = refl; token = refl; fault = refl }
same_step (Asks reason) s = record { side = refl; token = refl; fault = refl }
same_step Told s = record { side = refl; token = refl; fault = refl }
same_step (Heard frame) s = record { side = refl; token = refl; fault = refl }
same_step Took s = same_took (turn s.live.tables s.live.sending) s
same_step Grouped s = same_grouped (group_due s.live.sending.owes s.kept.jobs) s
same_step Ended s = same_ended s.kept.closing s
same_step Chose s = record { side = refl; token = refl; fault = refl }

pub same_part : (s t : Now) (events : List Event) → Part s events t → SameProxy s t
same_part s t [] p = subst (λ (u : Now). SameProxy s u) (sym p) (same s)
same_part s t (x ∷ xs) p = same_then (same_step x s) (same_part (step x s) t xs p.1)

-- ---- parts of a row

pub part_at : (s t : Now) (before after : List Event) → Part s (before ++ after) t → Part s before (step_all before s) × Part (step_all before s) after t
part_at s t [] after p = (refl, p)
part_at s t (x ∷ before) after p =
    let rest : Part (step x s) before (step_all before (step x s)) × Part (step_all before (step x s)) after t = part_at (step x s) t before after p.1 in
    ((p.0, rest.0), rest.1)

pub grow_at : (before after : List Event) (s : Now) (book : Book) → grow_all (before ++ after) s book ≡ grow_all after (step_all before s) (grow_all before s book)
grow_at [] after s book = refl
grow_at (x ∷ before) after s book = grow_at before after (step x s) (grown x s book)

-- ---- the records along it

pub record FollowsOn (t : Now) (book : Book) : Type 0 where
  pub follows : Follows t book
  pub sound : Sound t

pub follows_part : (s t : Now) (book : Book) (events : List Event) → FollowsOn s book → Part s events t → FollowsOn t (grow_all events s book)
follows_part s t book [] f p = subst (λ (u : Now). FollowsOn u book) (sym p) f
follows_part s t book (x ∷ xs) f p =
    follows_part (step x s) t (grown x s book) xs (record { follows = follows_inside x s book f.follows p.0; sound = sound_inside x s f.sound (group_fits s book f.follows) p.0 }) p.1

pub fits_part : (s t : Now) (book : Book) (events : List Event) → FollowsOn s book → Part s events t → Fit events s book → weight book.trail ≤ MOST_WEIGHT → weight (grow_all events s book).trail ≤ MOST_WEIGHT
fits_part s t book [] f p fit w = w
fits_part s t book (x ∷ xs) f p fit w =
    fits_part (step x s) t (grown x s book) xs (record { follows = follows_inside x s book f.follows p.0; sound = sound_inside x s f.sound (group_fits s book f.follows) p.0 }) p.1 fit.1
    (omega (arith, weight_grows x s book f.follows, fit.0))

-- what is made is added
made_marked : (mark : Option Mark) (trail : TrailRecord) → (more : List Frame) × ((marked_trail mark trail).made ≡ trail.made ++ more)
made_marked None trail = ([], sym (append-nil trail.made))
made_marked (Some (marks.Taken message handle segments)) trail = ([], sym (append-nil trail.made))
made_marked (Some (marks.Heard frame)) trail = ([], sym (append-nil trail.made))
made_marked (Some (marks.Grouped frames copies)) trail = (frames, refl)
made_marked (Some (marks.Dropped rid)) trail = ([], sym (append-nil trail.made))

pub record MadeMore (before after : Book) : Type 0 where
  pub more : List Frame
  pub is : after.trail.made ≡ before.trail.made ++ more

pub made_more : (events : List Event) (s : Now) (book : Book) → MadeMore book (grow_all events s book)
made_more [] s book = record { more = []; is = sym (append-nil book.trail.made) }
made_more (x ∷ xs) s book =
    let one : (more : List Frame) × ((grown x s book).trail.made ≡ book.trail.made ++ more) = made_marked (mark_of x s) book.trail in
    let rest : MadeMore (grown x s book) (grow_all xs (step x s) (grown x s book)) = made_more xs (step x s) (grown x s book) in
    record { more = one.0 ++ rest.more; is = rest.is ∙ ap (λ fs. fs ++ rest.more) one.1 ∙ append_assoc book.trail.made one.0 rest.more }

-- no room is lent by an event
pub same_room : (events : List Event) (s : Now) (book : Book) → (grow_all events s book).trail.lines.room ≡ book.trail.lines.room
same_room [] s book = refl
same_room (x ∷ xs) s book = same_room xs (step x s) (grown x s book)

-- once all frames are heard, no more is acknowledged
acked_took : (it : Turn) (trail : TrailRecord) → (marked_trail (mark_taken it) trail).acknowledged ≡ trail.acknowledged
acked_took turns.Idle trail = refl
acked_took (turns.Refuses fault) trail = refl
acked_took (turns.Takes it) trail = refl

acked_grouped : (found : Option MadeGroup) (trail : TrailRecord) → (marked_trail (mark_grouped found) trail).acknowledged ≡ trail.acknowledged
acked_grouped None trail = refl
acked_grouped (Some made) trail = refl

acked_ended : (closing : Closing) (trail : TrailRecord) → (marked_trail (mark_ended closing) trail).acknowledged ≡ trail.acknowledged
acked_ended Open trail = refl
acked_ended (Asked reason) trail = refl
acked_ended Made trail = refl

acked_work : (event : Event) (s : Now) (book : Book) → IsWork event → (grown event s book).trail.acknowledged ≡ book.trail.acknowledged
acked_work event s book (inl e) = ap (λ (v : Event). (grown v s book).trail.acknowledged) e ∙ acked_took (turn s.live.tables s.live.sending) book.trail
acked_work event s book (inr (inl e)) = ap (λ (v : Event). (grown v s book).trail.acknowledged) e ∙ acked_grouped (group_due s.live.sending.owes s.kept.jobs) book.trail
acked_work event s book (inr (inr e)) = ap (λ (v : Event). (grown v s book).trail.acknowledged) e ∙ acked_ended s.kept.closing book.trail

record Quietly (event : Event) (s : Now) (book : Book) : Type 0 where
  quiet : hear (step event s) ≡ Rest
  same_count : (grown event s book).trail.acknowledged ≡ book.trail.acknowledged

quietly : (event : Event) (s : Now) (book : Book) → hear s ≡ Rest → Working s event → Quietly event s book
quietly event s book q (Works w) = record { quiet = hears_none (step event s) (quiet_worked event s w (is_quiet s q)); same_count = acked_work event s book w }
quietly event s book q (Chooses e a b c) =
    subst (λ (v : Event). Quietly v s book) (sym e) (record { quiet = hears_none (step Chose s) (quiet_chose s (is_quiet s q)); same_count = refl })

pub acked_same : (s t : Now) (book : Book) (events : List Event) → hear s ≡ Rest → Part s events t → (grow_all events s book).trail.acknowledged ≡ book.trail.acknowledged
acked_same s t book [] q p = refl
acked_same s t book (x ∷ xs) q p =
    let one : Quietly x s book = quietly x s book q (working s x q p.0) in
    acked_same (step x s) t (grown x s book) xs one.quiet p.1 ∙ one.same_count
