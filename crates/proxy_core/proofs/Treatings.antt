-- A message that is taken, and its frames where no copy is awaited for them: what is due, and what holds behind it.
use Rattle.std.proofs.Common.{◌≡◌, ℕ, ◌+◌, ◌<◌, ◌≤◌, Bool, true, List, [], ◌∷◌, ◌++◌, Option, Some, None, Ok, ◌⊎◌, length, map, refl, sym, ap, subst, ◌∙◌, inl, inr, arith, length-append}
use Rattle.std.proofs.lemmas.List.{length-map}
use Rattle.std.specs.List.{AllByRecursion}
use Rattle.transfer_frames.specs.declared.frame.Frame.{Frame}
use Rattle.transfer_frames.specs.declared.frame.TheConstants.{LARGEST_FRAME}
use Rattle.transfer_frames.specs.Grammar.{IsFrame, spelling}
use Rattle.half_model.specs.Group.{Owed}
use Rattle.half_model.specs.Tables.{Tables}
use Rattle.half_model.specs.Turn as turns
use Rattle.half_model.specs.Turn.{Turn, Treated, MadeGroup, turn, group_due, settled}
use Rattle.half_model.specs.TurnLaws.{IsTaken}
use Rattle.half_model.proofs.Turns.{turn_is_lawful}
use Rattle.send_half.specs.SendState.{SendState, turn_while, next_turn, noted_taken, taken_by, with_made, with_group}
use Rattle.send_half.specs.Treating.{Refused}
use Rattle.half_model.specs.declared.causes.HalfFault.{HalfFault}
use Rattle.half_model.specs.declared.causes.HalfFault.TheVariants as halves
use Rattle.side_model.specs.declared.fault.ProxyFault.TheVariants as faults
use Rattle.side_model.specs.Books.{grown, marked_trail}
use Rattle.side_model.specs.Follows.{Follows}
use Rattle.side_model.specs.Marks.{mark_taken}
use Rattle.side_model.proofs.FollowsAll.{follows_inside}
use Rattle.side_model.specs.Due.{hear, group, group_found, treat, treat_on, is_free, fault_of, next}
use Rattle.side_model.specs.Events as events
use Rattle.side_model.specs.Events.{Do, Halt, Rest, Grouped}
use Rattle.side_model.specs.Sound.{IsKept, MOST_GROUP, reserved_group}
use Rattle.side_model.specs.State.{Now}
use Rattle.side_model.specs.Steps.{step, took, grouped}
use Rattle.side_model.proofs.Dues.{is_quiet, hears_none, groups_none}
use Rattle.side_model.proofs.Quiets.{quiet_worked}
use Rattle.side_model.proofs.Sounds.{all_kept}
use Rattle.proxy_core.specs.Doing.{Goes}
use Rattle.proxy_core.specs.Keeping.{Keeps, MOST_MADE}
use Rattle.proxy_core.specs.Making.{HasPlaces}
use Rattle.proxy_core.specs.Treating.{IsStill, GoesOn, Treats}
use Rattle.proxy_core.proofs.Keepings.{keeps_inside, fits}
use Rattle.proxy_core.proofs.Partings.{goes_one, goes_then, treat_does, treat_halts, group_does}

-- what is due, of a half that made nothing that is not taken
pub turn_of : (tables : Tables) (sending : SendState) → sending.frames ≡ [] → next_turn tables sending ≡ turn tables sending.sending
turn_of tables sending e = ap (λ (fs : List Frame). turn_while fs (turn tables sending.sending)) e

pub treat_due : (s : Now) (t : Treated) → is_free s.live.sending.owes s.kept.ring ≡ true → turn s.live.tables s.live.sending ≡ turns.Takes t → treat s ≡ Do events.Took
unfolding treat
treat_due s t free e = ap (λ (b : Bool). treat_on b (turn s.live.tables s.live.sending)) free ∙ ap (treat_on true) e

-- ---- a message is taken

-- it owes something then
pub owes_some : (s : Now) (t : Treated) → turn s.live.tables s.live.sending ≡ turns.Takes t → (owed : Owed) × (t.sending.owes ≡ Some owed)
owes_some s t e =
    let it : IsTaken s.live.tables s.live.sending s.live.taking t = turn_is_lawful s.live.tables s.live.sending s.live.taking t e in
    (it.owed, it.owes)

-- and fewer bytes wait
pub fewer : (s : Now) (t : Treated) → turn s.live.tables s.live.sending ≡ turns.Takes t → length t.sending.inlet.bytes < length s.live.sending.inlet.bytes
fewer s t e =
    let it : IsTaken s.live.tables s.live.sending s.live.taking t = turn_is_lawful s.live.tables s.live.sending s.live.taking t e in
    omega (arith, it.some, ap length it.front, length-append t.message t.sending.inlet.bytes)

-- the half behind it: what it owes is still owed, or its frames are made
pub data Behind (t : Treated) (old new : SendState) : Type 0 where
  Owes : group_due t.sending.owes t.jobs ≡ None → new ≡ noted_taken t old → Behind t old new
  Makes : (made : MadeGroup) → group_due t.sending.owes t.jobs ≡ Some made → new ≡ with_made made (noted_taken t old) → Behind t old new

pub behind_of : (t : Treated) (old new : SendState) → new ≡ taken_by t old → Behind t old new
behind_of t old new e = go (group_due t.sending.owes t.jobs) refl
  where
    go : (found : Option MadeGroup) → group_due t.sending.owes t.jobs ≡ found → Behind t old new
    go None d = Owes d (e ∙ ap (λ (f : Option MadeGroup). with_group f (noted_taken t old)) d)
    go (Some made) d = Makes made d (e ∙ ap (λ (f : Option MadeGroup). with_group f (noted_taken t old)) d)

-- a message was taken
abbrev pub took_now : Treated → Now → Now
took_now t s = took (turns.Takes t) s

took_is : (s : Now) (t : Treated) → turn s.live.tables s.live.sending ≡ turns.Takes t → step events.Took s ≡ took_now t s
unfolding step
took_is s t e = ap (λ (it : Turn). took it s) e

pub record Taking (s : Now) (t : Treated) : Type 0 where
  pub due : next s ≡ Do events.Took
  pub keeps : Keeps (took_now t s)
  pub goes : Goes s (took_now t s)
  pub hears : hear (took_now t s) ≡ Rest

pub taking_of : (s : Now) (t : Treated) → Keeps s → IsStill s → is_free s.live.sending.owes s.kept.ring ≡ true → turn s.live.tables s.live.sending ≡ turns.Takes t → Taking s t
taking_of s t k still free e =
    let due : next s ≡ Do events.Took = treat_does s events.Took still.hears still.groups (treat_due s t free e) in
    let is : step events.Took s ≡ took_now t s = took_is s t e in
    record {
      due = due;
      keeps = subst (λ (u : Now). Keeps u) is (keeps_inside events.Took s k due);
      goes = subst (λ (u : Now). Goes s u) is (goes_one s events.Took due);
      hears = subst (λ (u : Now). hear u ≡ Rest) is (hears_none (step events.Took s) (quiet_worked events.Took s (inl refl) (is_quiet s still.hears)));
    }

-- one message more is taken
pub one_more : (s : Now) (t : Treated) → Keeps s → next s ≡ Do events.Took → turn s.live.tables s.live.sending ≡ turns.Takes t → t.sending.taken ≡ s.live.sending.taken + 1
unfolding step
one_more s t k due e =
    let after : Follows (step events.Took s) (grown events.Took s k.book) = follows_inside events.Took s k.book k.follows due in
    let taken : t.sending.taken ≡ length (k.book.trail.taken ++ t.message ∷ []) =
    subst (λ (it : Turn). (took it s).live.sending.taken ≡ length (marked_trail (mark_taken it) k.book.trail).taken) e after.taken in
    omega (arith, taken, k.follows.taken, length-append k.book.trail.taken (t.message ∷ []))

groups_of : (s : Now) (t : Treated) → group_due t.sending.owes t.jobs ≡ None → group (took_now t s) ≡ Rest
groups_of s t e = groups_none (took_now t s) e

pub took_alone : (s : Now) (t : Treated) → Taking s t → group_due t.sending.owes t.jobs ≡ None → GoesOn s (took_now t s)
took_alone s t k e = record { goes = k.goes; keeps = k.keeps; still = record { hears = k.hears; groups = groups_of s t e }; acknowledged = refl }

-- ---- its frames are made

abbrev pub made_now : MadeGroup → Now → Now
made_now made s = grouped (Some made) s

grouped_is : (s : Now) (made : MadeGroup) → group_due s.live.sending.owes s.kept.jobs ≡ Some made → step Grouped s ≡ made_now made s
unfolding step
grouped_is s made e = ap (λ (found : Option MadeGroup). grouped found s) e

group_due_is : (s : Now) (made : MadeGroup) → group_due s.live.sending.owes s.kept.jobs ≡ Some made → group s ≡ Do Grouped
unfolding group
group_due_is s made e = ap (λ (found : Option MadeGroup). group_found found) e

pub made_goes : (s : Now) (made : MadeGroup) → Keeps s → hear s ≡ Rest → group_due s.live.sending.owes s.kept.jobs ≡ Some made → GoesOn s (made_now made s)
made_goes s made k hears e =
    let due : next s ≡ Do Grouped = group_does s Grouped hears (group_due_is s made e) in
    let is : step Grouped s ≡ made_now made s = grouped_is s made e in
    record {
      goes = subst (λ (u : Now). Goes s u) is (goes_one s Grouped due);
      keeps = subst (λ (u : Now). Keeps u) is (keeps_inside Grouped s k due);
      still = record {
        hears = subst (λ (u : Now). hear u ≡ Rest) is (hears_none (step Grouped s) (quiet_worked Grouped s (inr (inl refl)) (is_quiet s hears)));
        groups = groups_none (made_now made s) refl;
      };
      acknowledged = refl;
    }

-- and there are places for them
pub made_places : (s : Now) (made : MadeGroup) → Keeps s → group_due s.live.sending.owes s.kept.jobs ≡ Some made → s.kept.ring.acknowledged < MOST_MADE
    → AllByRecursion IsFrame made.frames × HasPlaces s.kept.ring (map spelling made.frames)
made_places s made k e few =
    let fit : (length made.frames ≤ MOST_GROUP) × AllByRecursion IsFrame made.frames = fits s k made e in
    let reserved : reserved_group s.live.sending.owes ≡ MOST_GROUP = by_owes s.live.sending.owes e in (
      fit.1,
      record {
        places = omega (arith, k.sound.places, fit.0, reserved, length-map made.frames spelling);
        counted = omega (arith, k.sound.places, fit.0, reserved, few, length-map made.frames spelling);
        sizes = all_sizes (map spelling made.frames) (all_kept made.frames fit.1);
      },
    )
  where
    by_owes : (owes : Option Owed) → group_due owes s.kept.jobs ≡ Some made → reserved_group owes ≡ MOST_GROUP
    by_owes None d = absurd cc
    by_owes (Some owed) d = refl

    all_sizes : (bs : List (List ℕ)) → AllByRecursion IsKept bs → AllByRecursion (λ (b : List ℕ). length b ≤ LARGEST_FRAME) bs
    all_sizes [] h = tt
    all_sizes (b ∷ bs) h = (h.0.1, all_sizes bs h.1)

-- ---- none is taken

-- a message is refused, or memory ran out
refused_due : (s : Now) (f : HalfFault) → is_free s.live.sending.owes s.kept.ring ≡ true → turn s.live.tables s.live.sending ≡ turns.Refuses f → treat s ≡ Halt (fault_of f)
unfolding treat
refused_due s f free e = ap (λ (b : Bool). treat_on b (turn s.live.tables s.live.sending)) free ∙ ap (treat_on true) e

pub halts_due : (s : Now) (f : HalfFault) (tables after : Tables) → IsStill s → is_free s.live.sending.owes s.kept.ring ≡ true → Refused f (turn s.live.tables s.live.sending) tables after
    → (next s ≡ Halt (fault_of f)) ⊎ (fault_of f ≡ faults.Memory)
halts_due s (halves.Peer index cause) tables after still free r = inl (treat_halts s (fault_of (halves.Peer index cause)) still.hears still.groups (refused_due s (halves.Peer index cause) free r.refuses))
halts_due s (halves.Limit which) tables after still free r = inl (treat_halts s (fault_of (halves.Limit which)) still.hears still.groups (refused_due s (halves.Limit which) free r.refuses))
halts_due s halves.Memory tables after still free r = inr refl

-- ---- the whole phase

-- a message is taken, and what it owes waits for copies
pub treats_alone : (s new : Now) (t : Treated) → Keeps s → IsStill s → is_free s.live.sending.owes s.kept.ring ≡ true → turn s.live.tables s.live.sending ≡ turns.Takes t
    → group_due t.sending.owes t.jobs ≡ None → new ≡ took_now t s → Treats (Ok true) s new
treats_alone s new t k still free e none is =
    let taking : Taking s t = taking_of s t k still free e in
    subst (λ (u : Now). Treats (Ok true) s u) (sym is) (took_alone s t taking none, fewer s t e)

-- or its frames are made
pub treats_all : (s new : Now) (t : Treated) (made : MadeGroup) → Keeps s → IsStill s → is_free s.live.sending.owes s.kept.ring ≡ true → turn s.live.tables s.live.sending ≡ turns.Takes t
    → group_due t.sending.owes t.jobs ≡ Some made → new ≡ made_now made (took_now t s) → Treats (Ok true) s new
treats_all s new t made k still free e due is =
    let taking : Taking s t = taking_of s t k still free e in
    let after : GoesOn (took_now t s) (made_now made (took_now t s)) = made_goes (took_now t s) made taking.keeps taking.hears due in
    let all : GoesOn s (made_now made (took_now t s)) = record {
      goes = goes_then s (took_now t s) (made_now made (took_now t s)) taking.goes after.goes;
      keeps = after.keeps;
      still = after.still;
      acknowledged = after.acknowledged;
    } in
    subst (λ (u : Now). Treats (Ok true) s u) (sym is) (all, fewer s t e)
