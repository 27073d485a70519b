-- When nothing is due, and what stays so.
use Rattle.std.proofs.Common.{◌≡◌, ◌≢◌, ℕ, ◌+◌, ◌-◌, ◌≤◌, suc, zero, cond, List, [], ◌∷◌, Option, Some, None, Result, Ok, Err, Bool, true, false, ◌&&◌, nat_lt, nat_le, length, map, refl, sym, ap, subst, ◌∙◌, arith, inl, inr, ◌⊎◌, if◌then◌else◌}
use Rattle.std.proofs.lemmas.Bool.{ltb-false, leb-false, le-ltb, lt-leb}
use Rattle.std.proofs.lemmas.Option.{slice_get_past}
use Rattle.std.specs.Option.{MatchOption}
use Rattle.std.specs.Prelude.{slice_get, option_map}
use Rattle.transfer_frames.specs.declared.frame.Frame.TheVariants.{Restart}
use Rattle.transfer_frames.specs.Front.{front}
use Rattle.transfer_frames.proofs.FrontLaws.{front-short}
use Rattle.wl_wire.specs.declared.faults.ObjectFault.{ObjectFault}
use Rattle.wl_wire.specs.declared.faults.WireFault.{WireFault}
use Rattle.wl_wire.specs.Wire.{first}
use Rattle.wl_objects.specs.Tracking.{Admission}
use Rattle.wl_objects.specs.Tracking as tracking
use Rattle.half_model.specs.declared.deeds.Deed.{Deed}
use Rattle.half_model.specs.declared.items.PeerOut.{PeerOut}
use Rattle.handle_table.specs.declared.handles.Handle.{Handle}
use Rattle.half_model.specs.Deeds.{deed_of}
use Rattle.half_model.specs.Group.{Owed, note_refusal}
use Rattle.half_model.specs.Inlet.{Inlet, handle_for, note_for, inlet_after, eyes_in}
use Rattle.half_model.specs.Jobs.{Job, IsOut, lent, all_back, is_back, waits}
use Rattle.half_model.specs.Planning.{Plan, Refusal, kind_carried, plan_passed}
use Rattle.wl_tables.specs.Ways.{own_way}
use Rattle.pool_words.specs.Views.{EyeState}
use Rattle.wl_tables.specs.declared.way.Way.{Way}
use Rattle.wp_outside.specs.declared.kinds.HandleKind.{HandleKind}
use Rattle.half_model.specs.Tables.{Tables}
use Rattle.half_model.specs.Turn as turns
use Rattle.half_model.specs.Turn.{Turn, turn, turn_unless, turn_front, Sending, Treated, MadeGroup, group_due, made_of, waits_in, stands_in}
use Rattle.pair_model.specs.RingState.{RingState, ring_made, ring_room, ring_held, ring_at}
use Rattle.pair_model.specs.Steps.{Here, Pick, Nothing, Tell, send_next, pick_after, pick_behind, picks, here_up, here_sent}
use Rattle.pair_model.proofs.Rows.{spelling_long}
use Rattle.side_model.specs.Calls.{Part}
use Rattle.side_model.specs.Due.{hear, group, treat, end, choose, next, has_room, is_free, end_on, ROOM_WANTED, HELD_MOST}
use Rattle.side_model.specs.Events.{Event, Up, Down, Went, Gave, Told, Lent, Chose, Next, Do, Rest}
use Rattle.side_model.specs.Resting.{MustWait, Owes, Crowded, Heavy, ClosesThen, NothingToSend, Calm}
use Rattle.side_model.specs.RowLaws.{AtMostChose, WentThenChooses, StillRests, RestsAfter, UpRests, RestIsCalm}
use Rattle.side_model.specs.Sound.{Sound, SoundHere}
use Rattle.side_model.specs.State.{Now, Closing, Open, Asked, Made}
use Rattle.side_model.specs.Steps.{step, gone, with_live}
use Rattle.side_model.proofs.Dues.{DueIn, InHear, InGroup, InTreat, InEnd, InChoose, due_in, choice_due, IsQuiet, is_quiet, hears_none, no_group_due, groups_none, turn_idle, treats_none, is_still, picks_none, chooses_none, AllRest, all_rest, rests}
use Rattle.side_model.proofs.Picking.{behind_some}
use Rattle.side_model.proofs.Quiets.{chose_rests}
use Rattle.side_model.proofs.RowProofs.{none_after}
use Rattle.side_model.proofs.Sounds.{sound_outside}

-- ---- what waits at a sending half

-- a message or a bad size never leaves it idle
refused_or_taken : (index : ℕ) (refusal : Option Refusal) (it : Treated) → turns.unless_refused index refusal it ≢ turns.Idle
refused_or_taken index None it e = cc
refused_or_taken index (Some refusal) it e = cc

planned_busy : (s : Sending) (message : List ℕ) (handle : Option Handle) (inlet : Inlet) (deed : Deed) (plan : Result Plan Refusal) → turns.turn_planned s message handle inlet deed plan ≢ turns.Idle
planned_busy s message handle inlet deed (Ok it) e =
    let eyes : List EyeState = eyes_in it.filling.file.number (note_for deed message s.inlet) in
    refused_or_taken s.taken (note_refusal it (map (λ eye. eye.words) eyes)) (turns.treated_by s message handle inlet it eyes) e
planned_busy s message handle inlet deed (Err refusal) e = cc

tracked_busy : (tables : Tables) (s : Sending) (message : List ℕ) (done : Result Admission ObjectFault) → turns.turn_step tables s message done ≢ turns.Idle
tracked_busy tables s message (Ok done) e =
    let way : Way = own_way tables.handles.side in
    let kind : Option HandleKind = kind_carried way done.passed in
    let deed : Deed = deed_of way done.passed in
    let handle : Option Handle = handle_for kind message s.inlet in
    planned_busy s message handle (inlet_after kind deed message s.inlet) deed (plan_passed tables s.shm message handle done) e
tracked_busy tables s message (Err fault) e = cc

front_idle : (tables : Tables) (s : Sending) (read : Result (Option (List ℕ)) WireFault) → turn_front tables s read ≡ turns.Idle → stands_in read ≡ false
front_idle tables s (Ok None) e = refl
front_idle tables s (Ok (Some message)) e = absurd (tracked_busy tables s message (tracking.step (own_way tables.handles.side) tables.objects.tracked message) e)
front_idle tables s (Err fault) e = absurd cc

pub idle_waits : (tables : Tables) (s : Sending) → turn tables s ≡ turns.Idle → s.owes ≡ None → waits_in s ≡ false
unfolding turn
idle_waits tables s e none = front_idle tables s (first s.inlet.bytes) (sym (ap (λ (o : Option Owed). turn_unless o (turn_front tables s (first s.inlet.bytes))) none) ∙ e)

idle_front : (tables : Tables) (s : Sending) (read : Result (Option (List ℕ)) WireFault) → stands_in read ≡ false → turn_front tables s read ≡ turns.Idle
idle_front tables s (Ok None) e = refl
idle_front tables s (Ok (Some message)) e = absurd cc
idle_front tables s (Err fault) e = absurd cc

unless_idle : (owes : Option Owed) (it : Turn) → it ≡ turns.Idle → turn_unless owes it ≡ turns.Idle
unless_idle None it e = e
unless_idle (Some owed) it e = refl

pub waits_idle : (tables : Tables) (s : Sending) → waits_in s ≡ false → turn tables s ≡ turns.Idle
unfolding turn
waits_idle tables s e = unless_idle s.owes (turn_front tables s (first s.inlet.bytes)) (idle_front tables s (first s.inlet.bytes) e)

-- ---- what stays at rest

still_down : RestsAfter Down
unfolding step hear group treat end choose
still_down s r =
    let h : AllRest s = all_rest s r in
    rests (step Down s) (record { hears = refl; groups = h.groups; treats = h.treats; ends = h.ends; chooses = refl })

gone_rests : (s : Now) (items : List PeerOut) → AllRest s → AllRest (with_live (λ live. gone items live) s)
unfolding hear group treat end choose
gone_rests s [] h = record { hears = h.hears; groups = h.groups; treats = h.treats; ends = h.ends; chooses = h.chooses }
gone_rests s (item ∷ items) h = record { hears = h.hears; groups = h.groups; treats = h.treats; ends = h.ends; chooses = h.chooses }

still_gave : RestsAfter Gave
unfolding step
still_gave s r = rests (step Gave s) (gone_rests s s.live.items (all_rest s r))

still_told : RestsAfter Told
unfolding step hear group treat end choose
still_told s r =
    let h : AllRest s = all_rest s r in
    rests (step Told s) (record { hears = h.hears; groups = h.groups; treats = h.treats; ends = h.ends; chooses = h.chooses })

lent_if : (b : Bool) (job : Job) (jobs : List Job) → waits job.state ≡ b → all_back (job ∷ jobs) ≡ false → (all_back jobs ≡ false → all_back (lent jobs) ≡ false)
    → all_back (cond b (record job { state = IsOut } ∷ jobs) (job ∷ lent jobs)) ≡ false
lent_if true job jobs e h again = refl
lent_if false job jobs e h again = go (is_back job.state) h
  where
    go : (b : Bool) → (b && all_back jobs) ≡ false → (b && all_back (lent jobs)) ≡ false
    go true d = again d
    go false d = refl

lent_back : (jobs : List Job) → all_back jobs ≡ false → all_back (lent jobs) ≡ false
lent_back [] h = absurd cc
lent_back (job ∷ jobs) h = lent_if (waits job.state) job jobs refl h (lent_back jobs)

not_due : (owed : Owed) (jobs : List Job) → group_due (Some owed) jobs ≡ None → all_back jobs ≡ false
not_due owed jobs h = go (all_back jobs) h
  where
    go : (b : Bool) → (if b then Some (made_of owed jobs) else None) ≡ None → b ≡ false
    go true d = absurd cc
    go false d = refl

lent_due : (owes : Option Owed) (jobs : List Job) → group_due owes jobs ≡ None → group_due owes (lent jobs) ≡ None
lent_due None jobs h = refl
lent_due (Some owed) jobs h = go (all_back (lent jobs)) (lent_back jobs (not_due owed jobs h))
  where
    go : (b : Bool) → b ≡ false → (if b then Some (made_of owed (lent jobs)) else None) ≡ None
    go true e = absurd cc
    go false e = refl

still_lent : RestsAfter Lent
unfolding step hear treat end choose
still_lent s r =
    let h : AllRest s = all_rest s r in
    rests (step Lent s) (record {
      hears = h.hears;
      groups = groups_none (step Lent s) (lent_due s.live.sending.owes s.kept.jobs (no_group_due s h.groups));
      treats = h.treats;
      ends = h.ends;
      chooses = h.chooses;
    })

pub still_rests : StillRests
still_rests = record { down = still_down; gave = still_gave; told = still_told; lent = still_lent }

pub up_rests : UpRests
unfolding step group treat end
up_rests s connection none r =
    let h : AllRest s = all_rest s r in
    let here : Here = here_up s.token connection s.kept.accepted in
    let waits : front [] ≡ Ok None = front-short [] (omega arith) in
    rests (step (Up connection) s) (record {
      hears = hears_none (step (Up connection) s) waits;
      groups = h.groups;
      treats = h.treats;
      ends = h.ends;
      chooses = chooses_none (step (Up connection) s)
          (behind_some here.front (pick_after here.answer here.told s.kept.accepted (ring_at here.next s.kept.ring)) (spelling_long (Restart s.token connection s.kept.accepted)));
    })

-- a front that is sent on leads to a choice at most
went_quiet : (n : ℕ) (here : Option Here) → IsQuiet here → IsQuiet (option_map (here_sent n) here)
went_quiet n None q = tt
went_quiet n (Some here) q = q

went_same : (s : Now) (n : ℕ) → AllRest s → (hear (step (Went n) s) ≡ Rest) × (group (step (Went n) s) ≡ Rest) × (treat (step (Went n) s) ≡ Rest) × (end (step (Went n) s) ≡ Rest)
unfolding step group treat end
went_same s n h = (hears_none (step (Went n) s) (went_quiet n s.live.here (is_quiet s h.hears)), h.groups, h.treats, h.ends)

quiet_then_chooses : (s t : Now) (events : List Event) → Sound s → hear s ≡ Rest → group s ≡ Rest → treat s ≡ Rest → end s ≡ Rest → Part s events t → AtMostChose events
quiet_then_chooses s t [] sound a b c d p = inl refl
quiet_then_chooses s t (x ∷ xs) sound a b c d p = by_phase (due_in s x p.0)
  where
    never : (at : Next) → at ≡ Rest → at ≡ Do x → ⊥
    never at e k = let no : Rest ≡ Do x = sym e ∙ k in cc

    by_phase : DueIn s x → AtMostChose (x ∷ xs)
    by_phase (InHear e) = absurd (never (hear s) a e)
    by_phase (InGroup f e) = absurd (never (group s) b e)
    by_phase (InTreat f g e) = absurd (never (treat s) c e)
    by_phase (InEnd f g h e) = absurd (never (end s) d e)
    by_phase (InChoose f g h i e) =
        let chose : x ≡ Chose = (choice_due s x e).is in
        let rest : next (step x s) ≡ Rest = subst (λ (v : Event). next (step v s) ≡ Rest) (sym chose) (chose_rests s sound a b c d (is_quiet s a)) in
        let none : xs ≡ [] = none_after (step x s) t xs rest p.1 in
        inr (cc (chose, none))

pub went_then_chooses : WentThenChooses
went_then_chooses s t n events sound admits r p =
    let same : (hear (step (Went n) s) ≡ Rest) × (group (step (Went n) s) ≡ Rest) × (treat (step (Went n) s) ≡ Rest) × (end (step (Went n) s) ≡ Rest) = went_same s n (all_rest s r) in
    quiet_then_chooses (step (Went n) s) t events (sound_outside (Went n) s sound admits) same.0 same.1 same.2 same.3 p.0

-- ---- when nothing is due

-- where there is no room, a message must wait
room_lacks : (ring : RingState) → has_room ring ≡ false → (owes : Option Owed) → MustWait owes ring
room_lacks ring e owes = go (nat_le ROOM_WANTED (ring_room ring)) refl (nat_lt (ring_held ring) HELD_MOST) refl e
  where
    go : (a : Bool) → nat_le ROOM_WANTED (ring_room ring) ≡ a → (b : Bool) → nat_lt (ring_held ring) HELD_MOST ≡ b → (a && b) ≡ false → MustWait owes ring
    go false k b l d = Crowded (leb-false ROOM_WANTED (ring_room ring) k)
    go true k true l d = absurd cc
    go true k false l d = Heavy (ltb-false (ring_held ring) HELD_MOST l)

must_wait : (owes : Option Owed) (ring : RingState) → is_free owes ring ≡ false → MustWait owes ring
must_wait None ring e = room_lacks ring e None
must_wait (Some owed) ring e = Owes owed refl

not_free : (owes : Option Owed) (ring : RingState) → MustWait owes ring → is_free owes ring ≡ false
not_free None ring (Owes owed e) = absurd cc
not_free None ring (Crowded l) = ap (λ b. b && nat_lt (ring_held ring) HELD_MOST) (lt-leb ROOM_WANTED (ring_room ring) l)
not_free None ring (Heavy l) =
    let k : nat_lt (ring_held ring) HELD_MOST ≡ false = le-ltb (ring_held ring) HELD_MOST l in
    ap (λ b. nat_le ROOM_WANTED (ring_room ring) && b) k ∙ either (nat_le ROOM_WANTED (ring_room ring))
  where
    either : (b : Bool) → (b && false) ≡ false
    either true = refl
    either false = refl
not_free (Some owed) ring w = refl

treated_calm : (s : Now) → treat s ≡ Rest → waits_in s.live.sending ≡ true → MustWait s.live.sending.owes s.kept.ring
treated_calm s r w = by_idle (turn_idle s r)
  where
    by_owes : (owes : Option Owed) → s.live.sending.owes ≡ owes → turn s.live.tables s.live.sending ≡ turns.Idle → MustWait s.live.sending.owes s.kept.ring
    by_owes None e i = absurd (let none : waits_in s.live.sending ≡ false = idle_waits s.live.tables s.live.sending i e in cc)
    by_owes (Some owed) e i = Owes owed e

    by_idle : (is_free s.live.sending.owes s.kept.ring ≡ false) ⊎ (turn s.live.tables s.live.sending ≡ turns.Idle) → MustWait s.live.sending.owes s.kept.ring
    by_idle (inl f) = must_wait s.live.sending.owes s.kept.ring f
    by_idle (inr i) = by_owes s.live.sending.owes refl i

calm_treats : (s : Now) → (waits_in s.live.sending ≡ true → MustWait s.live.sending.owes s.kept.ring) → treat s ≡ Rest
calm_treats s h = treats_none s (go (waits_in s.live.sending) refl)
  where
    go : (b : Bool) → waits_in s.live.sending ≡ b → (is_free s.live.sending.owes s.kept.ring ≡ false) ⊎ (turn s.live.tables s.live.sending ≡ turns.Idle)
    go true e = inl (not_free s.live.sending.owes s.kept.ring (h e))
    go false e = inr (waits_idle s.live.tables s.live.sending e)

closes_then : (closing : Closing) (owes : Option Owed) (waiting : Bool) → end_on closing (is_still owes waiting) ≡ Rest → ClosesThen closing owes (waiting ≡ true)
closes_then Open owes waiting e = tt
closes_then (Asked reason) None true e = refl
closes_then (Asked reason) None false e = absurd cc
closes_then (Asked reason) (Some owed) waiting e = tt
closes_then Made owes waiting e = tt

then_closes : (closing : Closing) (owes : Option Owed) (waiting : Bool) → ClosesThen closing owes (waiting ≡ true) → end_on closing (is_still owes waiting) ≡ Rest
then_closes Open owes waiting h = refl
then_closes (Asked reason) None true h = refl
then_closes (Asked reason) None false h = absurd cc
then_closes (Asked reason) (Some owed) waiting h = refl
then_closes Made owes waiting h = refl

get_past : {X : Type 0} (xs : List X) (i : ℕ) → slice_get xs i ≡ None → length xs ≤ i
get_past [] i e = omega arith
get_past (x ∷ xs) zero e = absurd cc
get_past (x ∷ xs) (suc i) e = omega (arith, get_past xs i e)

-- nothing is picked just where there is nothing to send
nothing_then : (ring : RingState) (accepted last : ℕ) (here : Here) → SoundHere ring accepted last here → picks accepted (ring_at here.next ring) here ≡ Nothing → NothingToSend ring accepted here
nothing_then ring accepted last here h e empty = by_answer here.answer refl (front_pick here.front (pick_after here.answer here.told accepted (ring_at here.next ring)) empty e)
  where
    front_pick : (front : List ℕ) (pick : Pick) → front ≡ [] → pick_behind front pick ≡ Nothing → pick ≡ Nothing
    front_pick [] pick k d = d
    front_pick (byte ∷ front) pick k d = absurd cc

    by_next : (p : ℕ) → here.answer ≡ Some p → (found : Option (List ℕ)) → ring_at here.next ring ≡ found → send_next found ≡ Nothing → here.next ≡ ring_made ring
    by_next p a None k d =
        let counts : (p + here.whole + cond here.counts 1 0 ≡ here.next) × (here.next ≤ ring_made ring) × (ring.acknowledged ≤ p + here.whole) = h.counts.answered p a in
        omega (arith, counts.0, counts.1, counts.2, get_past ring.frames (here.next - ring.acknowledged) k)
    by_next p a (Some bytes) k d = absurd cc

    by_test : (p : ℕ) → here.answer ≡ Some p → (b : Bool) → nat_lt here.told accepted ≡ b → (if b then Tell accepted else send_next (ring_at here.next ring)) ≡ Nothing → (here.next ≡ ring_made ring) × (here.told ≡ accepted)
    by_test p a true k d = absurd cc
    by_test p a false k d = (by_next p a (ring_at here.next ring) refl d, omega (arith, ltb-false here.told accepted k, h.told))

    by_answer : (answer : Option ℕ) → here.answer ≡ answer → pick_after answer here.told accepted (ring_at here.next ring) ≡ Nothing → MatchOption answer (Unit {0}) (λ p. (here.next ≡ ring_made ring) × (here.told ≡ accepted))
    by_answer None a d = tt
    by_answer (Some p) a d = by_test p a (nat_lt here.told accepted) refl d

then_nothing : (ring : RingState) (accepted : ℕ) (here : Here) → NothingToSend ring accepted here → picks accepted (ring_at here.next ring) here ≡ Nothing
then_nothing ring accepted here h = by_front here.front refl
  where
    by_answer : (answer : Option ℕ) → MatchOption answer (Unit {0}) (λ p. (here.next ≡ ring_made ring) × (here.told ≡ accepted)) → pick_after answer here.told accepted (ring_at here.next ring) ≡ Nothing
    by_answer None k = refl
    by_answer (Some p) k =
        let test : nat_lt here.told accepted ≡ false = le-ltb here.told accepted (omega (arith, k.1)) in
        let none : ring_at here.next ring ≡ None = slice_get_past ring.frames (here.next - ring.acknowledged) (omega (arith, k.0)) in
        rw (test, none) refl

    by_front : (front : List ℕ) → here.front ≡ front → pick_behind front (pick_after here.answer here.told accepted (ring_at here.next ring)) ≡ Nothing
    by_front [] e = by_answer here.answer (h e)
    by_front (byte ∷ front) e = refl

sent_calm : (ring : RingState) (accepted last : ℕ) (here : Option Here) → MatchOption here (Unit {0}) (SoundHere ring accepted last) → MatchOption here (Unit {0}) (λ h. picks accepted (ring_at h.next ring) h ≡ Nothing)
    → MatchOption here (Unit {0}) (NothingToSend ring accepted)
sent_calm ring accepted last None h e = tt
sent_calm ring accepted last (Some here) h e = nothing_then ring accepted last here h e

calm_sent : (ring : RingState) (accepted : ℕ) (here : Option Here) → MatchOption here (Unit {0}) (NothingToSend ring accepted) → MatchOption here (Unit {0}) (λ h. picks accepted (ring_at h.next ring) h ≡ Nothing)
calm_sent ring accepted None h = tt
calm_sent ring accepted (Some here) h = then_nothing ring accepted here h

calm_of : (s : Now) → Sound s → AllRest s → Calm s
unfolding end
calm_of s sound h = record {
  heard = is_quiet s h.hears;
  made = no_group_due s h.groups;
  treated = treated_calm s h.treats;
  closes = closes_then s.kept.closing s.live.sending.owes (waits_in s.live.sending) h.ends;
  sent = sent_calm s.kept.ring s.kept.accepted s.kept.last s.live.here sound.here (picks_none s h.chooses);
}

of_calm : (s : Now) → Calm s → AllRest s
unfolding end
of_calm s h = record {
  hears = hears_none s h.heard;
  groups = groups_none s h.made;
  treats = calm_treats s h.treated;
  ends = then_closes s.kept.closing s.live.sending.owes (waits_in s.live.sending) h.closes;
  chooses = chooses_none s (calm_sent s.kept.ring s.kept.accepted s.live.here h.sent);
}

pub rest_is_calm : RestIsCalm
rest_is_calm s sound = (λ r. calm_of s sound (all_rest s r), λ h. rests s (of_calm s h))
