-- The frames accepted so far, step by step; what is kept of the connection that is up; and what is refused where reading stops.
use Rattle.std.proofs.Common.{◌≡◌, ℕ, ◌+◌, ◌≤◌, suc, cond, List, [], ◌∷◌, ◌++◌, Err, Option, Some, None, length, refl, sym, ap, subst, ◌∙◌, arith, append_assoc, min, inl, ◌⊎◌}
use Rattle.std.proofs.lemmas.List.{append-nil, append_cancel_left}
use Rattle.std.proofs.lemmas.List.Elements.{filter-append}
use Rattle.std.specs.Option.{MatchOption}
use Rattle.transfer_frames.specs.declared.frame.Frame.{Frame}
use Rattle.transfer_frames.specs.declared.cause.FrameCause.{FrameCause}
use Rattle.transfer_frames.specs.Front.{front}
use Rattle.transfer_frames.specs.Grammar.{role}
use Rattle.transfer_frames.proofs.FrontLaws.{front-short}
use Rattle.pair_model.specs.Lines.{SideRecord}
use Rattle.pair_model.specs.Rows.{spellings, counted, is_counted, reply}
use Rattle.pair_model.specs.LinkFaults.{Judge, judge_of}
use Rattle.pair_model.specs.Wire.{Sees, accepted_below}
use Rattle.pair_model.specs.Steps.{Here, Stands, HeardBy, Pick, Nothing, Tell, Send, picked, picks, judge_here, MOST_PLACE, side_up, here_up, side_sent, here_sent, side_fed, here_fed, side_read, here_read}
use Rattle.pair_model.specs.Refusals.{RefusedFrame}
use Rattle.pair_model.specs.StepLaws.{BeginsWire, HeardUp, HeardSent, HeardFed, HeardRead, HeardChosen, HeardMade, HeardAll, HeardStopped, HeardOnce, HereCounts, WholeIsSent, HerePlace, StoppedRefused}
use Rattle.pair_model.proofs.Seen.{one_accepted}
use Rattle.pair_model.proofs.LastLine.{read_none}
use Rattle.pair_model.proofs.Wholes.{one_whole, none_counted, next_counted}
use Rattle.pair_model.proofs.Standing.{up_stands, sent_stands, fed_stands, read_stands}
use Rattle.pair_model.proofs.Seeing.{all_seen, accepted_all, sees_stopped, sees_between, place_is, none_read, none_refused}
use Rattle.pair_model.proofs.Due.{bytes_here, wrote_wholly, answer_here}

-- ---- what was accepted

-- those of the earlier connections, and those seen on this one
heard_of : (token : List ℕ) (side : SideRecord) (here : Here) (st : Stands token side here) (accepted : List Frame) → accepted ≡ accepted_below st.past_seen here.connection ++ counted st.seen → HeardBy side here accepted
heard_of token side here st accepted e =
    record { seen = all_seen token side here st; bound = suc here.connection; sees = sees_stopped token side here st None; frames_are = e ∙ sym (accepted_all token side here st) }

heard_is : (token : List ℕ) (side : SideRecord) (here : Here) (accepted : List Frame) (st : Stands token side here) → HeardBy side here accepted → accepted ≡ accepted_below st.past_seen here.connection ++ counted st.seen
heard_is token side here accepted st h = h.frames_are ∙ one_accepted h.sees (sees_stopped token side here st None) ∙ accepted_all token side here st

pub heard_up : HeardUp
unfolding up_stands
heard_up token side connection accepted wire goes_on first numbers is_greeting h =
    let sees : Sees side connection wire.seen = record { reads = wire.sees.reads; past = λ c l. read_none side.lines connection c numbers l } in
    heard_of token (side_up connection side) (here_up token connection side.accepted) (up_stands token side connection wire goes_on first numbers is_greeting) accepted
    (h.frames_are ∙ one_accepted h.sees sees ∙ sym (append-nil (accepted_below wire.seen connection)))

pub heard_sent : HeardSent
unfolding sent_stands
heard_sent token side here n accepted st l h =
    heard_of token (side_sent n here side) (here_sent n here) (sent_stands token side here n st l) accepted (heard_is token side here accepted st h)

pub heard_fed : HeardFed
unfolding fed_stands
heard_fed token side here piece accepted st h =
    heard_of token (side_fed piece side) (here_fed piece here) (fed_stands token side here piece st) accepted (heard_is token side here accepted st h)

pub heard_read : HeardRead
unfolding read_stands
heard_read token side here frame more accepted st f e none h =
    let before : accepted ≡ accepted_below st.past_seen here.connection ++ counted st.seen = heard_is token side here accepted st h in
    let after : accepted ++ counted (frame ∷ []) ≡ accepted_below st.past_seen here.connection ++ counted (st.seen ++ frame ∷ []) =
    ap (λ fs. fs ++ counted (frame ∷ [])) before ∙ append_assoc (accepted_below st.past_seen here.connection) (counted st.seen) (counted (frame ∷ []))
    ∙ ap (λ fs. accepted_below st.past_seen here.connection ++ fs) (sym (filter-append (λ f. is_counted (role f)) st.seen (frame ∷ []))) in
    heard_of token (side_read (role frame) side) (here_read frame more here) (read_stands token side here frame more st f e none) (accepted ++ counted (frame ∷ [])) after

heard_picked : (side : SideRecord) (here : Here) (pick : Pick) (accepted : List Frame) → HeardBy side here accepted → HeardBy side (picked pick here) accepted
heard_picked side here Nothing accepted h = h
heard_picked side here (Tell n) accepted h = h
heard_picked side here (Send bytes) accepted h = h

pub heard_chosen : HeardChosen
heard_chosen side here count bytes accepted h = heard_picked side here (picks count bytes here) accepted h

pub heard_made : HeardMade
heard_made side here more counts accepted h = record { seen = h.seen; bound = h.bound; sees = record { reads = h.sees.reads; past = h.sees.past }; frames_are = h.frames_are }

pub heard_stopped : HeardStopped
heard_stopped side here cause accepted h = record { seen = h.seen; bound = h.bound; sees = record { reads = h.sees.reads; past = h.sees.past }; frames_are = h.frames_are }

pub heard_all : HeardAll
heard_all token side here accepted b h = record {
  seen = all_seen token side here b.stands;
  bound = suc here.connection;
  sees = sees_between token side here b.stands b.waits;
  frames_are = heard_is token side here accepted b.stands h ∙ sym (accepted_all token side here b.stands);
}

pub heard_once : HeardOnce
heard_once side here one other h k = h.frames_are ∙ one_accepted h.sees k.sees ∙ sym k.frames_are

-- ---- what is kept of the connection

match_some : (P : ℕ → Type 0) (answer : Option ℕ) (p : ℕ) → answer ≡ Some p → MatchOption answer (Unit {0}) P → P p
match_some P None p e h = cc
match_some P (Some q) p e h = let same : q ≡ p = cc in subst P same h

pub here_counts : HereCounts
here_counts token side here st = record {
  unanswered = none_counted st.here_is;
  answered = λ p e.
      let n : (p + here.whole + cond here.counts 1 0 ≡ here.next) × (here.next ≤ length side.made) = next_counted st.here_is p e in
      (n.0, n.1, match_some (λ q. side.acknowledged ≤ q + here.whole) here.answer p e st.acked);
}

pub whole_is_sent : WholeIsSent
whole_is_sent token side here whole st h = ap (λ (fs : List Frame). length (counted fs)) (one_whole whole st.here_is.whole h (wrote_wholly token side here st)) ∙ sym st.here_is.wholes

pub here_place : HerePlace
here_place token side here st = st.here_is.placed ∙ ap (λ n. min n MOST_PLACE) (sym (place_is token side here st))

-- ---- where reading stops

same_refused : {content : Frame → Option FrameCause} (judge other : Judge) (answer reply : Option ℕ) (bytes rest : List ℕ) (cause : FrameCause) → judge ≡ other → answer ≡ reply → bytes ≡ rest
    → (front bytes ≡ Err cause) ⊎ RefusedFrame content judge answer bytes cause → (front rest ≡ Err cause) ⊎ RefusedFrame content other reply rest cause
same_refused {content} judge other answer reply bytes rest cause ej ea eb h =
    subst (λ (bs : List ℕ). (front bs ≡ Err cause) ⊎ RefusedFrame content other reply bs cause) eb
    (subst (λ (a : Option ℕ). (front bytes ≡ Err cause) ⊎ RefusedFrame content other a bytes cause) ea
    (subst (λ (j : Judge). (front bytes ≡ Err cause) ⊎ RefusedFrame content j answer bytes cause) ej h))

pub stopped_refused : StoppedRefused
stopped_refused content token side here accepted cause st h because = record {
  stops = refl;
  seen = all_seen token side here st;
  bound = suc here.connection;
  sees = sees_stopped token side here st (Some cause);
  whole = st.here_is.whole;
  wrote = wrote_wholly token side here st;
  because = λ rest e.
      let same : here.unread ≡ rest = append_cancel_left (spellings (all_seen token side here st here.connection)) here.unread rest (sym (bytes_here token side here st) ∙ e) in
      let known : accepted ≡ accepted_below (all_seen token side here st) (suc here.connection) = heard_is token side here accepted st h ∙ sym (accepted_all token side here st) in
      subst (λ (fs : List Frame). (front rest ≡ Err cause) ⊎ RefusedFrame (content fs) (judge_of token side here.connection (length (counted st.here_is.whole))) (reply (all_seen token side here st here.connection)) rest cause) known
      (same_refused {content = content accepted} (judge_here token side here) (judge_of token side here.connection (length (counted st.here_is.whole))) here.answer (reply (all_seen token side here st here.connection)) here.unread rest cause
      (ap (judge_of token side here.connection) st.here_is.wholes) (sym (answer_here token side here st)) same because);
}

-- ---- at first

pub begins_wire : BeginsWire
begins_wire token = record {
  seen = λ c. [];
  bound = 0;
  numbers = tt;
  sees = record { reads = λ c. none_read; past = λ c l. refl };
  waits = λ c rest e. front-short rest (omega (arith, ap length e));
  ends = tt;
  passes = λ c. none_refused token c 0 _ _;
  late = λ c. tt;
  accepted = refl;
  ahead_accepted = refl;
  closed = refl;
  acknowledged = refl;
  known = omega arith;
  wrote = λ c. inl refl;
  due_made = refl;
  due_accepted = tt;
}
