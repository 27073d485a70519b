-- What the events change that are due inside, one by one and in a row.
use Rattle.std.proofs.Common.{◌≡◌, ℕ, List, [], ◌∷◌, ◌++◌, map, Bool, true, false, not, Option, Some, None, refl, sym, ap, subst, ◌∙◌, arith, if◌then◌else◌, inl, inr}
use Rattle.std.proofs.lemmas.List.{append-nil}
use Rattle.std.specs.Prelude.{sum_by}
use Rattle.wp_outside.specs.declared.kinds.Side.{Side}
use Rattle.wl_tables.specs.declared.way.Way.{Way}
use Rattle.wl_tables.specs.Ways.{own_way}
use Rattle.wl_objects.specs.Entries.{Tracked}
use Rattle.half_model.specs.Group.{Owed}
use Rattle.half_model.specs.Jobs.{Job, all_back}
use Rattle.half_model.specs.Content.{heard}
use Rattle.half_model.specs.Log as marks
use Rattle.half_model.specs.Log.{Mark, LogState, log_next}
use Rattle.half_model.specs.Turn as turns
use Rattle.half_model.specs.Turn.{Turn, turn, Treated, MadeGroup, made_of, group_due}
use Rattle.half_model.specs.TurnLaws.{IsTaken}
use Rattle.half_model.proofs.Turns.{turn_is_lawful}
use Rattle.pair_model.specs.RingState.{RingState}
use Rattle.side_model.specs.Books.{Book, marked_trail, marked_order, grown, grow_all}
use Rattle.side_model.specs.Calls.{Part}
use Rattle.side_model.specs.Due.{hear, is_free}
use Rattle.side_model.specs.Events.{Event, Heard, Chose, Do, Rest}
use Rattle.side_model.specs.Follows.{Follows}
use Rattle.side_model.specs.Marks.{mark_taken, mark_grouped, mark_ended}
use Rattle.side_model.specs.Shows.{is_open}
use Rattle.side_model.specs.State.{Now, Closing, Open, Asked, Made}
use Rattle.side_model.specs.Steps.{step, took, grouped, ended}
use Rattle.side_model.proofs.Dues.{DueIn, InHear, InGroup, InTreat, InEnd, InChoose, due_in, FrameDue, frame_due, GroupDue, group_is_due, TurnDue, turn_due, EndDue, end_is_due, ChoiceDue, choice_due, is_quiet, hears_none}
use Rattle.side_model.proofs.Parts.{FollowsOn, follows_part}
use Rattle.side_model.proofs.Quiets.{quiet_worked, quiet_chose}
use Rattle.pair_runs.specs.Leaving.{Use, use_of, Passes}
use Rattle.pair_runs.specs.Sides.{awaited, loaded_in, words_in, seen}
use Rattle.pair_runs.specs.Working.{Works}
use Rattle.pair_runs.proofs.Composing.{leaves_same, takes_same, works_same, works_then, may_hear}
use Rattle.pair_runs.proofs.Ends.{front_same, front_more}
use Rattle.pair_runs.proofs.Tracking.{passes_same, heard_passes, took_passes}
use Rattle.pair_runs.proofs.Turning.{LeftBy, left_by}

-- the records with one more mark
abbrev pub marked_book : Side → Option Mark → Book → Book
marked_book side mark book = record {
  trail = record (marked_trail mark book.trail) { lines = book.trail.lines; given = book.trail.given };
  order = marked_order side mark book.order;
}

-- the side is that of the records
pub by_side : (s : Now) (book : Book) → Follows s book → (uses : List Use) (objects after : Tracked) (ways more : List Way) → Passes s.side uses objects after ways more → Passes book.trail.side uses objects after ways more
by_side s book f uses objects after ways more p = subst (λ (side : Side). Passes side uses objects after ways more) (sym f.tells.side_is) p

-- ---- a frame is heard

heard_works : (half : ℕ) (s : Now) (book : Book) (f : Follows s book) (event : Event) (d : FrameDue s event) → Works true (seen half s book) (seen half (step (Heard d.frame) s) (grown (Heard d.frame) s book))
unfolding step
heard_works half s book f event d = record {
  took = [];
  inside = record { messages = tt; inlet = leaves_same s.live.sending.inlet; asked = refl; none = λ e. refl };
  awaits = record { stay = λ e. (refl, refl); begin = λ n. absurd (n refl) };
  trail = record { side = refl; taken = sym (append-nil book.trail.taken); made = front_same book.trail.made; copies = front_same book.trail.copies; lines = refl; accepted = omega arith };
  order = front_more book.order _;
  passes =
      by_side s book f [] s.live.tables.objects.tracked (heard s.live.tables s.live.taking d.frame).tables.objects.tracked book.order (marked_order s.side (Some (marks.Heard d.frame)) book.order)
      (subst (λ (state : LogState). Passes s.side [] s.live.tables.objects.tracked (log_next state (marks.Heard d.frame)).tables.objects.tracked book.order (marked_order s.side (Some (marks.Heard d.frame)) book.order)) f.after
      (heard_passes s book f event d));
  silent = λ e. absurd cc;
}

-- ---- a group is made

-- what is made is awaited no more
group_awaits : (owes : Option Owed) (jobs : List Job) (made : MadeGroup) → group_due owes jobs ≡ Some made → awaited owes jobs ≡ []
group_awaits None jobs made e = absurd cc
group_awaits (Some owed) jobs made e = go (all_back jobs) e
  where
    go : (b : Bool) → (if b then Some (made_of owed jobs) else None) ≡ Some made → (if b then [] else jobs) ≡ []
    go true d = refl
    go false d = absurd cc

grouped_works : (half : ℕ) (s : Now) (book : Book) (found : Option MadeGroup) → awaited s.live.sending.owes s.kept.jobs ≡ []
    → Works false (seen half s book) (seen half (grouped found s) (marked_book s.side (mark_grouped found) book))
grouped_works half s book None e = works_same false (seen half s book)
grouped_works half s book (Some it) e = record {
  took = [];
  inside = takes_same (seen half s book).inside;
  awaits = record { stay = λ n. (sym (ap (map words_in) e), sym (ap (sum_by (loaded_in half)) e)); begin = λ n. absurd (n refl) };
  trail = record { side = refl; taken = sym (append-nil book.trail.taken); made = front_more book.trail.made it.frames; copies = front_more book.trail.copies it.copies; lines = refl; accepted = omega arith };
  order = front_same book.order;
  passes = passes_same book.trail.side s.live.tables.objects.tracked book.order;
  silent = λ n. record { accepted = refl; acknowledged = refl; given = refl; order = λ m. refl; objects = λ m. refl };
}

-- ---- a message is taken

free_owes : (owes : Option Owed) (ring : RingState) → is_free owes ring ≡ true → owes ≡ None
free_owes None ring e = refl
free_owes (Some owed) ring e = absurd cc

-- of copies that are all awaited, or back, nothing is loaded where nothing is of all
loaded_none : (half : ℕ) (owes : Option Owed) (jobs : List Job) → sum_by (loaded_in half) jobs ≡ 0 → sum_by (loaded_in half) (awaited owes jobs) ≡ 0
loaded_none half None jobs e = refl
loaded_none half (Some owed) jobs e = go (all_back jobs)
  where
    go : (b : Bool) → sum_by (loaded_in half) (if b then [] else jobs) ≡ 0
    go true = refl
    go false = e

took_works : (half : ℕ) (s : Now) (book : Book) (f : Follows s book) (it : Treated) → s.live.sending.owes ≡ None → turn s.live.tables s.live.sending ≡ turns.Takes it
    → Works false (seen half s book) (seen half (took (turns.Takes it) s) (marked_book s.side (mark_taken (turns.Takes it)) book))
took_works half s book f it none takes =
    let taken : IsTaken s.live.tables s.live.sending s.live.taking it = turn_is_lawful s.live.tables s.live.sending s.live.taking it takes in
    let left : LeftBy s.live.tables s.live.sending it = left_by s.live.tables s.live.sending it takes in
    let uses : List Use = use_of (own_way s.live.tables.handles.side) it.message left.done ∷ [] in
    record {
      took = it.message ∷ [];
      inside = record {
        messages = (taken.lawful.whole, tt);
        inlet = record {
          uses = uses;
          took_is = refl;
          left_is = left.inlet;
          bytes = taken.front ∙ ap (λ (front : List ℕ). front ++ it.sending.inlet.bytes) (sym (append-nil it.message));
        };
        asked = refl;
        none = λ e. absurd cc;
      };
      awaits = record {
        stay = λ e. absurd cc;
        begin = λ n. (ap (λ (owes : Option Owed). map words_in (awaited owes s.kept.jobs)) none, loaded_none half it.sending.owes it.jobs (left.fresh half));
      };
      trail = record { side = refl; taken = refl; made = front_same book.trail.made; copies = front_same book.trail.copies; lines = refl; accepted = omega arith };
      order = front_more book.order _;
      passes = by_side s book f uses s.live.tables.objects.tracked it.tables.objects.tracked book.order (book.order ++ own_way s.side ∷ []) (took_passes s book f it takes left);
      silent = λ n. record { accepted = refl; acknowledged = refl; given = refl; order = λ m. absurd cc; objects = λ m. absurd cc };
    }

-- ---- CLOSE is made

ended_works : (half : ℕ) (s : Now) (book : Book) (closing : Closing) → s.kept.closing ≡ closing
    → Works false (seen half s book) (seen half (ended closing s) (marked_book s.side (mark_ended closing) book))
ended_works half s book Open e = works_same false (seen half s book)
ended_works half s book Made e = works_same false (seen half s book)
ended_works half s book (Asked reason) e = record {
  took = [];
  inside = record {
    messages = tt;
    inlet = leaves_same s.live.sending.inlet;
    asked = sym (ap (λ closing. not (is_open closing)) e);
    none = λ n. refl;
  };
  awaits = record { stay = λ n. (refl, refl); begin = λ n. absurd (n refl) };
  trail = record { side = refl; taken = sym (append-nil book.trail.taken); made = front_more book.trail.made _; copies = front_more book.trail.copies []; lines = refl; accepted = omega arith };
  order = front_same book.order;
  passes = passes_same book.trail.side s.live.tables.objects.tracked book.order;
  silent = λ n. record { accepted = refl; acknowledged = refl; given = refl; order = λ m. refl; objects = λ m. refl };
}

-- ---- any event that is due

-- that hears no frame
works_quiet : (half : ℕ) (event : Event) (s : Now) (book : Book) → Follows s book → hear s ≡ Rest → DueIn s event → Works false (seen half s book) (seen half (step event s) (grown event s book))
unfolding step
works_quiet half event s book f quiet (InHear h) = absurd (let never : Do event ≡ Rest = sym h ∙ quiet in cc)
works_quiet half event s book f quiet (InGroup a h) =
    let due : GroupDue s event = group_is_due s event h in
    subst (λ (v : Event). Works false (seen half s book) (seen half (step v s) (grown v s book))) (sym due.is)
    (grouped_works half s book (group_due s.live.sending.owes s.kept.jobs) (group_awaits s.live.sending.owes s.kept.jobs due.made due.due))
works_quiet half event s book f quiet (InTreat a b h) =
    let due : TurnDue s event = turn_due s event h in
    let taken : Works false (seen half s book) (seen half (took (turns.Takes due.it) s) (marked_book s.side (mark_taken (turns.Takes due.it)) book)) =
    took_works half s book f due.it (free_owes s.live.sending.owes s.kept.ring due.free) due.takes in
    subst (λ (v : Event). Works false (seen half s book) (seen half (step v s) (grown v s book))) (sym due.is)
    (subst (λ (it : Turn). Works false (seen half s book) (seen half (took it s) (marked_book s.side (mark_taken it) book))) (sym due.takes) taken)
works_quiet half event s book f quiet (InEnd a b c h) =
    let due : EndDue s event = end_is_due s event h in
    subst (λ (v : Event). Works false (seen half s book) (seen half (step v s) (grown v s book))) (sym due.is) (ended_works half s book s.kept.closing refl)
works_quiet half event s book f quiet (InChoose a b c d h) =
    let due : ChoiceDue s event = choice_due s event h in
    subst (λ (v : Event). Works false (seen half s book) (seen half (step v s) (grown v s book))) (sym due.is) (works_same false (seen half s book))

works_due : (half : ℕ) (event : Event) (s : Now) (book : Book) → Follows s book → DueIn s event → Works true (seen half s book) (seen half (step event s) (grown event s book))
works_due half event s book f (InHear h) =
    let due : FrameDue s event = frame_due s event h in
    subst (λ (v : Event). Works true (seen half s book) (seen half (step v s) (grown v s book))) (sym due.is) (heard_works half s book f event due)
works_due half event s book f (InGroup a h) = may_hear _ _ (works_quiet half event s book f a (InGroup a h))
works_due half event s book f (InTreat a b h) = may_hear _ _ (works_quiet half event s book f a (InTreat a b h))
works_due half event s book f (InEnd a b c h) = may_hear _ _ (works_quiet half event s book f a (InEnd a b c h))
works_due half event s book f (InChoose a b c d h) = may_hear _ _ (works_quiet half event s book f a (InChoose a b c d h))

-- and no frame is to be heard behind it
pub stays_quiet : (event : Event) (s : Now) → hear s ≡ Rest → DueIn s event → hear (step event s) ≡ Rest
stays_quiet event s quiet (InHear h) = absurd (let never : Do event ≡ Rest = sym h ∙ quiet in cc)
stays_quiet event s quiet (InGroup a h) = hears_none (step event s) (quiet_worked event s (inr (inl (group_is_due s event h).is)) (is_quiet s quiet))
stays_quiet event s quiet (InTreat a b h) = hears_none (step event s) (quiet_worked event s (inl (turn_due s event h).is) (is_quiet s quiet))
stays_quiet event s quiet (InEnd a b c h) = hears_none (step event s) (quiet_worked event s (inr (inr (end_is_due s event h).is)) (is_quiet s quiet))
stays_quiet event s quiet (InChoose a b c d h) =
    subst (λ (v : Event). hear (step v s) ≡ Rest) (sym (choice_due s event h).is) (hears_none (step Chose s) (quiet_chose s (is_quiet s quiet)))

-- ---- a row of them

pub row_works : (half : ℕ) (s t : Now) (book : Book) (events : List Event) → FollowsOn s book → Part s events t → Works true (seen half s book) (seen half t (grow_all events s book))
row_works half s t book [] f p = subst (λ (u : Now). Works true (seen half s book) (seen half u book)) (sym p) (works_same true (seen half s book))
row_works half s t book (x ∷ xs) f p =
    works_then true _ _ _ (works_due half x s book f.follows (due_in s x p.0)) (row_works half (step x s) t (grown x s book) xs (follows_part s (step x s) book (x ∷ []) f (p.0, refl)) p.1)

pub quiet_row : (half : ℕ) (s t : Now) (book : Book) (events : List Event) → FollowsOn s book → hear s ≡ Rest → Part s events t → Works false (seen half s book) (seen half t (grow_all events s book))
quiet_row half s t book [] f quiet p = subst (λ (u : Now). Works false (seen half s book) (seen half u book)) (sym p) (works_same false (seen half s book))
quiet_row half s t book (x ∷ xs) f quiet p =
    let due : DueIn s x = due_in s x p.0 in
    works_then false _ _ _ (works_quiet half x s book f.follows quiet due) (quiet_row half (step x s) t (grown x s book) xs (follows_part s (step x s) book (x ∷ []) f (p.0, refl)) (stays_quiet x s quiet due) p.1)
