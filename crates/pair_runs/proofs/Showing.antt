-- What a proxy shows of itself between two calls is what its side in a run is said to do.
use Rattle.std.proofs.Common.{◌≡◌, ℕ, List, [], ◌∷◌, ◌++◌, map, drop, length, Bool, true, false, not, ◌&&◌, is_none, Option, Some, None, refl, sym, ap, subst, ◌∙◌, arith, length-drop, inl, inr, if◌then◌else◌}
use Rattle.std.proofs.lemmas.List.{append-nil, length-map}
use Rattle.std.specs.Prelude.{count_by}
use Rattle.std.specs.Option.{MatchOption}
use Rattle.transfer_frames.specs.declared.frame.Frame.{Frame}
use Rattle.transfer_frames.specs.Grammar.{spelling}
use Rattle.half_model.specs.Filling.{Part}
use Rattle.half_model.specs.Group.{Owed}
use Rattle.half_model.specs.ItemLaws.{given_in}
use Rattle.half_model.specs.declared.items.PeerOut.{PeerOut}
use Rattle.half_model.specs.Jobs.{Job, all_back}
use Rattle.half_model.specs.Log.{LogState}
use Rattle.half_model.specs.Story.{accepted_in}
use Rattle.half_model.specs.StoryLaws.{now}
use Rattle.half_model.specs.Turn as turns
use Rattle.half_model.specs.Turn.{turn, waits_in, made_of, group_due}
use Rattle.pair_model.specs.Lines.{Line, SideRecord}
use Rattle.pair_model.specs.Quiet.{NoFront}
use Rattle.pair_model.specs.RingState.{RingState, IsRingOf, ring_made}
use Rattle.pair_model.specs.Steps.{Here, Idle}
use Rattle.pair_model.specs.Wire.{Wire}
use Rattle.pair_model.proofs.Idling.{idle_no_front}
use Rattle.side_model.specs.declared.fault.ProxyFault.{ProxyFault}
use Rattle.side_model.specs.Books.{TrailRecord, closed}
use Rattle.side_model.specs.Due as due
use Rattle.side_model.specs.Due.{has_room, treat, end, end_on, next}
use Rattle.side_model.specs.Events.{Rest}
use Rattle.side_model.specs.Follows.{Follows, JobsFollow, LinkFollows, Rests, is_message}
use Rattle.side_model.specs.Places.{places_in, side_of}
use Rattle.side_model.specs.Resting.{Calm, NothingToSend}
use Rattle.side_model.specs.Shows.{has_made_close, front_here, unless_fault, is_open, is_empty}
use Rattle.side_model.specs.State.{Now, Closing, Open, Asked, Made}
use Rattle.side_model.specs.Trails.{TrailState}
use Rattle.side_model.proofs.Calms.{rest_is_calm, idle_waits}
use Rattle.side_model.proofs.Dues.{all_rest, is_quiet, IsQuiet, no_group_due, turn_idle}
use Rattle.side_model.proofs.Links.{link_down}
use Rattle.side_model.proofs.TrailParts.{follows_room, same_weight}
use Rattle.pair_laws.proofs.Receiving.{meant_count}
use Rattle.pair_laws.proofs.Saying.{meant_length}
use Rattle.pair_runs.specs.Kept.{owed_words}
use Rattle.pair_runs.specs.Sides.{TOKEN, is_free, awaited, words_in, side_seen, ring_in, last_number, link_record}
use Rattle.pair_runs.specs.WorkLaws.{RunsOn, WantsIs, NothingLent, KeptByCalls}
use Rattle.pair_runs.proofs.Tracking.{tracked_there}

-- ---- copies

-- copies are awaited just where a message is owed
awaits_is : (owes : Option Owed) (jobs : List Job) → group_due owes jobs ≡ None → is_empty (map words_in (awaited owes jobs)) ≡ is_none owes
awaits_is None jobs e = refl
awaits_is (Some owed) [] e = absurd cc
awaits_is (Some owed) (job ∷ jobs) e = go (all_back (job ∷ jobs)) e
  where
    go : (b : Bool) → (if b then Some (made_of owed (job ∷ jobs)) else None) ≡ None → is_empty (map words_in (if b then [] else job ∷ jobs)) ≡ false
    go true d = absurd cc
    go false d = refl

words_parts : (jobs : List Job) → map words_in jobs ≡ map (λ part. part.count) (map (λ job. job.part) jobs)
words_parts [] = refl
words_parts (job ∷ jobs) = ap (λ words. job.part.count ∷ words) (words_parts jobs)

-- those of what is owed
awaits_owed : (owes : Option Owed) (jobs : List Job) → group_due owes jobs ≡ None → JobsFollow owes jobs → map words_in (awaited owes jobs) ≡ owed_words owes
awaits_owed None jobs e f = refl
awaits_owed (Some owed) jobs e f = go (all_back jobs) e
  where
    go : (b : Bool) → (if b then Some (made_of owed jobs) else None) ≡ None → map words_in (if b then [] else jobs) ≡ owed_words (Some owed)
    go true d = absurd cc
    go false d = words_parts jobs ∙ ap (λ (parts : List Part). map (λ part. part.count) parts) f.0.parts

none_owed : (owes : Option Owed) → is_none owes ≡ true → owes ≡ None
none_owed None e = refl
none_owed (Some owed) e = absurd cc

-- ---- the ring

ring_told : (trail : TrailRecord) (ring : RingState) → IsRingOf trail.made ring → trail.acknowledged ≡ ring.acknowledged → ring_in trail ≡ ring
ring_told trail ring r e =
    ap (λ (n : ℕ). record { acknowledged = n; frames = map spelling (drop n trail.made) }) e
    ∙ ap (λ (frames : List (List ℕ)). record { acknowledged = ring.acknowledged; frames = frames }) (sym r.frames_are)

made_told : (made : List Frame) (ring : RingState) → IsRingOf made ring → ring_made ring ≡ length made
made_told made ring r =
    omega (arith, ap length r.frames_are, length-map (drop ring.acknowledged made) spelling, length-drop ring.acknowledged made, r.within)

-- ---- it takes from its peer

not_not : (b : Bool) → not (not b) ≡ b
not_not true = refl
not_not false = refl

-- it may take a message just where its proxy is free to
free_is : (half : ℕ) (t : TrailState) → RunsOn t → is_free (side_seen half t) ≡ due.is_free t.now.live.sending.owes t.now.kept.ring
free_is half t r =
    let on = r.keeps.runs r.goes_on in
    let s : Now = t.now in
    let none : group_due s.live.sending.owes s.kept.jobs ≡ None = no_group_due s (all_rest s on.rests).groups in
    ap (λ (b : Bool). b && has_room (ring_in t.book.trail)) (awaits_is s.live.sending.owes s.kept.jobs none)
    ∙ ap (λ (ring : RingState). is_none s.live.sending.owes && has_room ring) (ring_told t.book.trail s.kept.ring on.follows.ring on.follows.acknowledged)

pub wants_is : WantsIs
wants_is half t r =
    let on = r.keeps.runs r.goes_on in
    let s : Now = t.now in
    ap (λ (b : Bool). b && is_free (side_seen half t)) (not_not (is_open s.kept.closing))
    ∙ ap (λ (b : Bool). is_open s.kept.closing && b) (free_is half t r)
    ∙ sym (ap (λ (fault : Option ProxyFault). is_none fault && (is_open s.kept.closing && due.is_free s.live.sending.owes s.kept.ring)) on.fault)

-- ---- there is nothing to be sent

pub last_push : (earlier : List Line) (line : Line) → last_number (earlier ++ line ∷ []) ≡ line.connection
last_push [] line = refl
last_push (one ∷ []) line = refl
last_push (one ∷ next ∷ earlier) line = last_push (next ∷ earlier) line

idle_so : (s : Now) (side : SideRecord) (here : Here) → here.front ≡ [] → NothingToSend s.kept.ring s.kept.accepted here → ring_made s.kept.ring ≡ length side.made → side.accepted ≡ s.kept.accepted → Idle side here
idle_so s side here front nothing made accepted = record { empty = front; all = by_answer here.answer (nothing front) }
  where
    by_answer : (answer : Option ℕ) → MatchOption answer (Unit {0}) (λ p. (here.next ≡ ring_made s.kept.ring) × (here.told ≡ s.kept.accepted)) → MatchOption answer (Unit {0}) (λ p. (here.next ≡ length side.made) × (here.told ≡ side.accepted))
    by_answer None h = tt
    by_answer (Some p) h = (h.0 ∙ made, h.1 ∙ sym accepted)

pub nothing_lent : NothingLent
nothing_lent half here t r token up front =
    let on = r.keeps.runs r.goes_on in
    let s : Now = t.now in
    let f : Follows s t.book = on.follows in
    let side : SideRecord = side_of t.book.trail (places_in f.story) None in
    let link = subst (λ (it : Option Here). LinkFollows s.token side (accepted_in f.story) it) up f.link in
    let quiet : IsQuiet (Some here) = subst (λ (it : Option Here). IsQuiet it) up (is_quiet s (all_rest s on.rests).hears) in
    let calm : Calm s = (rest_is_calm s on.sound).0 on.rests in
    let nothing : NothingToSend s.kept.ring s.kept.accepted here = subst (λ (it : Option Here). MatchOption it (Unit {0}) (NothingToSend s.kept.ring s.kept.accepted)) up calm.sent in
    let empty : here.front ≡ [] = sym (ap (λ (fault : Option ProxyFault). unless_fault fault (front_here s.live.here) []) on.fault ∙ ap front_here up) ∙ front in
    let idle : Idle side here = idle_so s side here empty nothing (made_told t.book.trail.made s.kept.ring f.ring) f.accepted in
    let none : NoFront s.token here.connection side = idle_no_front s.token side here (record { stands = link.stands; waits = quiet }) idle in
    let number : last_number t.book.trail.lines.rows ≡ here.connection = ap last_number link.stands.lines ∙ last_push link.stands.earlier link.stands.line ∙ link.stands.number in
    let told : NoFront TOKEN here.connection side = subst (λ (it : List ℕ). NoFront it here.connection side) token none in
    subst (λ (c : ℕ). NoFront TOKEN c (link_record (side_seen half t))) (sym number)
    (record { seen = told.seen; bound = told.bound; sees = record { reads = told.sees.reads; past = told.sees.past }; sent = told.sent; frames = told.frames; bytes = told.bytes; done = told.done })

-- ---- the records are kept

-- a whole message waits only where it must
pub treated_so : (s : Now) → treat s ≡ Rest → waits_in s.live.sending ≡ true → due.is_free s.live.sending.owes s.kept.ring ≡ false
treated_so s rest w = elim (turn_idle s rest) [
  | inl held ↦ held
  | inr idle ↦ by_owes s.live.sending.owes refl idle
]
  where
    by_owes : (owes : Option Owed) → s.live.sending.owes ≡ owes → turn s.live.tables s.live.sending ≡ turns.Idle → due.is_free s.live.sending.owes s.kept.ring ≡ false
    by_owes None e idle = absurd (let never : true ≡ false = sym w ∙ idle_waits s.live.tables s.live.sending idle e in cc)
    by_owes (Some owed) e idle = ap (λ (owes : Option Owed). due.is_free owes s.kept.ring) e

-- CLOSE is made once it can be
closed_so : (s : Now) → end s ≡ Rest → not (is_open s.kept.closing) ≡ true → waits_in s.live.sending ≡ false → s.live.sending.owes ≡ None → has_made_close s.kept.closing ≡ true
unfolding end
closed_so s rest asked w none = by_closing s.kept.closing refl rest
  where
    by_closing : (closing : Closing) → s.kept.closing ≡ closing → end_on closing (is_none s.live.sending.owes && not (waits_in s.live.sending)) ≡ Rest → has_made_close s.kept.closing ≡ true
    by_closing Open e d = absurd (let never : false ≡ true = sym (ap (λ (c : Closing). not (is_open c)) e) ∙ asked in cc)
    by_closing Made e d = ap has_made_close e
    by_closing (Asked reason) e d =
        let still : is_none s.live.sending.owes && not (waits_in s.live.sending) ≡ true = ap (λ (owes : Option Owed). is_none owes && not (waits_in s.live.sending)) none ∙ ap not w in
        absurd (let never : end_on (Asked reason) true ≡ Rest = ap (end_on (Asked reason)) (sym still) ∙ d in cc)

pub kept_by_calls : KeptByCalls
kept_by_calls half t r token items =
    let on = r.keeps.runs r.goes_on in
    let s : Now = t.now in
    let f : Follows s (closed t.book) = follows_room 0 s t.book on.follows in
    let dues : group_due s.live.sending.owes s.kept.jobs ≡ None = no_group_due s (all_rest s on.rests).groups in
    let rests : Rests s.token (side_of t.book.trail (places_in f.story) None) (accepted_in f.story) =
    link_down s.token (side_of t.book.trail (places_in f.story) None) (accepted_in f.story) s.live.here (is_quiet s (all_rest s on.rests).hears) f.link in
    let wire : Wire TOKEN (side_of t.book.trail (places_in f.story) None) = subst (λ (it : List ℕ). Wire it (side_of t.book.trail (places_in f.story) None)) token rests.wire in
    let owes : (now s.side f.story).owes ≡ s.live.sending.owes = ap (λ (log : LogState). log.owes) f.after in
    let gone : f.items.gone ≡ given_in s.side f.story = sym (append-nil f.items.gone) ∙ ap (λ (is : List PeerOut). f.items.gone ++ is) (sym items) ∙ f.items.row in
    record {
      law = record { story = f.story; tells = f.tells; log = f.log; stop = None; wire = wire; heard = rests.accepts; stops = refl; index = tt; weighs = omega (arith, same_weight 0 t.book, r.keeps.law.weighs) };
      gave = f.items.counts ∙ ap (count_by is_message) gone ∙ sym (meant_count s.side f.story f.log) ∙ meant_length s.side f.story f.log;
      awaits = awaits_owed s.live.sending.owes s.kept.jobs dues f.jobs ∙ ap owed_words (sym owes);
      tracked = tracked_there s (closed t.book) f;
      treated = λ w. free_is half t r ∙ treated_so s (all_rest s on.rests).treats w;
      closes = λ asked w none.
          let owed : s.live.sending.owes ≡ None = none_owed s.live.sending.owes (sym (awaits_is s.live.sending.owes s.kept.jobs dues) ∙ ap is_empty none) in
          ap (λ (log : LogState). log.closed) f.after ∙ closed_so s (all_rest s on.rests).ends asked w owed;
      owes = λ none. owes ∙ none_owed s.live.sending.owes (sym (awaits_is s.live.sending.owes s.kept.jobs dues) ∙ ap is_empty none);
    }
