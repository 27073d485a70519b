-- A pair that is drained, or in which each side accepted the other's CLOSE, has received everything.
use Rattle.std.proofs.Common.{◌≡◌, true, List, [], ◌∷◌, ◌++◌, Option, Some, None, length, refl, sym, ap, ◌∙◌, subst, arith, inl, inr, ◌⊎◌, ⊎_elim}
use Rattle.std.proofs.lemmas.Bool.{false≢true, or_cases}
use Rattle.std.specs.Option.{MatchOption}
use Rattle.std.proofs.lemmas.List.{append-nil, length-map, take_all}
use Rattle.plain_lists.specs.Fronts.{IsFront}
use Rattle.wp_outside.specs.declared.kinds.Side.{Side}
use Rattle.wp_outside.specs.declared.kinds.Side.TheVariants.{Near, Far}
use Rattle.transfer_frames.specs.declared.frame.Frame.{Frame}
use Rattle.transfer_frames.specs.declared.frame.Frame.TheVariants.{Close}
use Rattle.wl_objects.specs.Registry.{first_state, visible}
use Rattle.half_model.specs.declared.notes.CopyRecord.{CopyRecord}
use Rattle.half_model.specs.Group.{Owed}
use Rattle.half_model.specs.Log.{Mark, Taken, Heard, Grouped, Dropped, LogState, log_new, MayMake, after_group, after_lone, log_next, Logs, log_after}
use Rattle.half_model.specs.Sides.{other_side}
use Rattle.half_model.specs.Story.{Sent, accepted_in, made_in, messages_in, owed_messages, shown_of}
use Rattle.half_model.specs.StoryLaws.{now}
use Rattle.half_model.proofs.Made.{made_is_good}
use Rattle.half_model.proofs.Owing.{OwedGood, group_fits}
use Rattle.half_model.proofs.ShownLaws.{shown_in_order}
use Rattle.half_model.proofs.Sound.{Sound, sound_now, sound_next, sound_new}
use Rattle.pair_model.specs.LinkFaults.{has_closed, ClosesLast}
use Rattle.pair_model.specs.Wire.{Accepts}
use Rattle.pair_model.proofs.Judging.{has_closed-append}
use Rattle.pair_model.proofs.Once.{drained_has_all}
use Rattle.pair_model.proofs.Passing.{closes_last}
use Rattle.pair_model.proofs.Seen.{one_accepted}
use Rattle.pair_laws.specs.Everything.{GaveAll, HasAll, DrainedHasEverything, ClosedHasEverything}
use Rattle.pair_laws.specs.Pairs.{OneSide, IsLawful, IsPair, Sends, link_of}
use Rattle.pair_laws.specs.Received.{meant_in, received_by, messages, sent_by}
use Rattle.pair_laws.proofs.Auditing.{swapped, other_hears}
use Rattle.pair_laws.proofs.Passing.{order_is_told}
use Rattle.pair_laws.proofs.Places.{front_all}
use Rattle.pair_laws.proofs.Receiving.{received_front}
use Rattle.pair_laws.proofs.Saying.{meant_messages, meant_length}
use Rattle.pair_laws.proofs.Sending.{sent_is_shown}

-- ---- one direction

-- all frames made were accepted, nothing is owed, and all was given
record AllCame (side : Side) (sender hearer : OneSide) (both : Sends side sender hearer) : Type 0 where
  frames : accepted_in both.other_law.story ≡ sender.book.trail.made
  owes : (now side both.one_law.story).owes ≡ None
  gave : GaveAll (other_side side) hearer both.other_law

module _ (side : Side) (sender hearer : OneSide) (both : Sends side sender hearer) (all : AllCame side sender hearer both) where
  all_given : received_by (other_side side) hearer both.other_law ≡ meant_in (other_side side) both.other_law.story
  all_given =
      take_all hearer.book.trail.given (meant_in (other_side side) both.other_law.story)
      (omega (arith, all.gave, meant_length (other_side side) both.other_law.story both.other_law.log))

  all_messages : messages (received_by (other_side side) hearer both.other_law) ≡ shown_of side both.one_law.story
  all_messages =
      ap messages all_given
      ∙ meant_messages (other_side side) both.other_law.story both.other_law.log
      ∙ ap messages_in (all.frames ∙ both.one_law.tells.made)
      ∙ sym (append-nil (messages_in (made_in both.one_law.story)))
      ∙ ap (λ (o : Option Owed). messages_in (made_in both.one_law.story) ++ owed_messages o) (sym all.owes)
      ∙ shown_in_order side both.one_law.story both.one_law.log

  all_sent : received_by (other_side side) hearer both.other_law ≡ sent_by side sender both.one_law
  all_sent =
      let same : messages (received_by (other_side side) hearer both.other_law) ≡ messages (sent_by side sender both.one_law) =
      all_messages ∙ sym (sent_is_shown side both.one_law.story both.one_law.log) in
      front_all (received_front side sender hearer both)
      (omega (arith, ap length same, length-map (received_by (other_side side) hearer both.other_law) (λ (it : Sent). it.0), length-map (sent_by side sender both.one_law) (λ (it : Sent). it.0)))

-- both directions
has_all : (near far : OneSide) (pair : IsPair near far) → AllCame Near near far pair → AllCame Far far near (swapped pair) → HasAll near far pair
has_all near far pair up down = record {
  up = all_messages Near near far pair up ∙ sym pair.one_law.tells.taken;
  up_rids = all_sent Near near far pair up;
  up_frames = up.frames;
  down = all_messages Far far near (swapped pair) down ∙ ap (visible first_state) (sym (order_is_told Far far pair.other_law));
  down_rids = all_sent Far far near (swapped pair) down;
  down_frames = down.frames;
}

-- ---- drained

-- what a side accepted is one thing
same_accepted : (side : Side) (it : OneSide) (law : IsLawful side it) (frames : List Frame) → Accepts (link_of side it law) frames → accepted_in law.story ≡ frames
same_accepted side it law frames a = law.heard.frames_are ∙ one_accepted law.heard.sees a.sees ∙ sym a.frames_are

pub drained_has_everything : DrainedHasEverything
drained_has_everything near far pair d =
    let all : Accepts (link_of Far far pair.other_law) near.book.trail.made × Accepts (link_of Near near pair.one_law) far.book.trail.made =
    drained_has_all near.token far.token (link_of Near near pair.one_law) (link_of Far far pair.other_law) pair.one_law.wire pair.other_law.wire pair.agrees (record { near_known = d.near_drained.known; far_known = d.far_drained.known }) in
    has_all near far pair
    (record { frames = same_accepted Far far pair.other_law near.book.trail.made all.0; owes = d.near_drained.owes; gave = d.far_drained.gave })
    (record { frames = same_accepted Near near pair.one_law far.book.trail.made all.1; owes = d.far_drained.owes; gave = d.near_drained.gave })

-- ---- each side accepted the other's CLOSE

-- CLOSE is last, so frames that have it are all
all_by_close : (xs ys : List Frame) → ClosesLast (xs ++ ys) → has_closed xs ≡ true → ys ≡ []
all_by_close xs [] h e = refl
all_by_close xs (y ∷ ys) h e = absurd (false≢true (sym (closes_last xs y ys h) ∙ e))

closed_front : {xs ys : List Frame} → IsFront xs ys → ClosesLast ys → has_closed xs ≡ true → xs ≡ ys
closed_front {xs} {ys} f h e =
    let none : f.rest ≡ [] = all_by_close xs f.rest (subst (λ (fs : List Frame). ClosesLast fs) (sym f.is) h) e in
    sym (append-nil xs) ∙ ap (λ (fs : List Frame). xs ++ fs) (sym none) ∙ f.is

lone_closes : (s : LogState) (frame : Frame) → (s.closed ≡ true) ⊎ (has_closed (frame ∷ []) ≡ true) → (after_lone s frame).closed ≡ true
lone_closes s (Close reason) e = refl
lone_closes s _ (inl e) = e
lone_closes s _ (inr e) = absurd (false≢true e)

group_closes : (s : LogState) (owes : Option Owed) (frames : List Frame) (copies : List CopyRecord) → MatchOption owes (Unit {0}) OwedGood → MayMake s owes frames copies
    → (s.closed ≡ true) ⊎ (has_closed frames ≡ true) → (after_group s owes frames).closed ≡ true
group_closes s (Some owed) frames copies good may (inl e) = e
group_closes s (Some owed) frames copies good may (inr e) = absurd (false≢true (sym ((group_fits owed copies frames good may).goes_on refl) ∙ e))
group_closes s None [] copies good may e = absurd may
group_closes s None (frame ∷ []) copies good may e = lone_closes s frame e
group_closes s None (frame ∷ next ∷ frames) copies good may e = absurd may

-- a side that made CLOSE knows that it did
closed_from : (side : Side) (s : LogState) (story : List Mark) → Sound side s → Logs s story → (s.closed ≡ true) ⊎ (has_closed (made_in story) ≡ true) → (log_after s story).closed ≡ true
closed_from side s [] h logs (inl e) = e
closed_from side s [] h logs (inr e) = absurd (false≢true e)
closed_from side s (Taken message handle segments ∷ story) h logs (inl e) = absurd (false≢true (sym logs.0.goes_on ∙ e))
closed_from side s (Taken message handle segments ∷ story) h logs (inr e) =
    closed_from side (log_next s (Taken message handle segments)) story (sound_next side s (Taken message handle segments) h logs.0) logs.1 (inr e)
closed_from side s (Heard frame ∷ story) h logs e = closed_from side (log_next s (Heard frame)) story (sound_next side s (Heard frame) h logs.0) logs.1 e
closed_from side s (Dropped rid ∷ story) h logs e = closed_from side (log_next s (Dropped rid)) story (sound_next side s (Dropped rid) h logs.0) logs.1 e
closed_from side s (Grouped frames copies ∷ story) h logs e =
    let next = sound_next side s (Grouped frames copies) h logs.0 in
    ⊎_elim
    (λ closes. closed_from side (log_next s (Grouped frames copies)) story next logs.1 (inl (group_closes s s.owes frames copies h.owes logs.0 closes)))
    (λ later. closed_from side (log_next s (Grouped frames copies)) story next logs.1 (inr later))
    (parts e)
  where
    parts : (s.closed ≡ true) ⊎ (has_closed (frames ++ made_in story) ≡ true) → ((s.closed ≡ true) ⊎ (has_closed frames ≡ true)) ⊎ (has_closed (made_in story) ≡ true)
    parts (inl k) = inl (inl k)
    parts (inr k) =
        ⊎_elim (λ first. inl (inr first)) (λ later. inr later) (or_cases (has_closed frames) (has_closed (made_in story)) (sym (has_closed-append frames (made_in story)) ∙ k))

-- and owes nothing
owes_closed : (side : Side) (it : OneSide) (law : IsLawful side it) → has_closed it.book.trail.made ≡ true → (now side law.story).owes ≡ None
owes_closed side it law e =
    (sound_now side law.story law.log).still (closed_from side (log_new side) law.story (sound_new side) law.log (inr (ap has_closed (sym law.tells.made) ∙ e)))

came_closed : (side : Side) (sender hearer : OneSide) (both : Sends side sender hearer) → has_closed (accepted_in both.other_law.story) ≡ true → GaveAll (other_side side) hearer both.other_law → AllCame side sender hearer both
came_closed side sender hearer both e gave =
    let all : accepted_in both.other_law.story ≡ made_in both.one_law.story = closed_front (other_hears both) (made_is_good.last side both.one_law.story both.one_law.log) e in
    let frames : accepted_in both.other_law.story ≡ sender.book.trail.made = all ∙ sym both.one_law.tells.made in
    record { frames = frames; owes = owes_closed side sender both.one_law (ap has_closed (sym frames) ∙ e); gave = gave }

pub closed_has_everything : ClosedHasEverything
closed_has_everything near far pair c = has_all near far pair (came_closed Near near far pair c.far_heard.heard c.far_heard.gave) (came_closed Far far near (swapped pair) c.near_heard.heard c.near_heard.gave)
