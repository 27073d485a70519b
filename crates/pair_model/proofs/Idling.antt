-- Where nothing is chosen there is nothing to send.
use Rattle.std.proofs.Common.{◌≡◌, ℕ, ◌≤◌, suc, zero, List, [], ◌∷◌, ◌++◌, Option, Some, None, Bool, true, false, nat_lt, drop, length, refl, sym, ap, subst, ◌∙◌, arith, length-append, if◌then◌else◌}
use Rattle.std.proofs.lemmas.Bool.{ltb-false, le-ltb}
use Rattle.std.proofs.lemmas.List.{append-nil, drop_all}
use Rattle.std.proofs.lemmas.Option.{slice_get_past}
use Rattle.std.specs.List.{AllByRecursion}
use Rattle.std.specs.Option.{MatchOption}
use Rattle.std.specs.Prelude.{slice_get, option_map}
use Rattle.transfer_frames.specs.declared.frame.Frame.{Frame}
use Rattle.transfer_frames.specs.declared.frame.Frame.TheVariants.{Restart}
use Rattle.transfer_frames.specs.Grammar.{IsFrame, spelling}
use Rattle.pair_model.specs.Lines.{SideRecord, written_on}
use Rattle.pair_model.specs.Rows.{spellings, counted, acks, reply}
use Rattle.pair_model.specs.Wire.{Sees, accepted_below}
use Rattle.pair_model.specs.Quiet.{NoFront, last_told}
use Rattle.pair_model.specs.Steps.{Here, InOrder, Stands, Idle, Pick, Nothing, Tell, pick_after, pick_behind, send_next, bytes_at}
use Rattle.pair_model.specs.StepLaws.{IdleNoFront, ChosenIdle}
use Rattle.pair_model.proofs.Moves.{all_whole, no_part}
use Rattle.pair_model.proofs.Wholes.{next_counted}
use Rattle.pair_model.proofs.Seeing.{all_seen, written_here, accepted_all, accepted_with, with_here, sees_between}

-- ---- what is chosen

-- what is chosen where there is no front, and what it means that nothing is
nothing_next : (made : List Frame) (next : ℕ) → next ≤ length made → (frame : Option Frame) → slice_get made next ≡ frame → send_next (option_map spelling frame) ≡ Nothing → next ≡ length made
nothing_next made next l None e k = omega (arith, none_left made next e)
  where
    none_left : (made : List Frame) (next : ℕ) → slice_get made next ≡ None → length made ≤ next
    none_left [] next e = omega arith
    none_left (x ∷ xs) zero e = cc
    none_left (x ∷ xs) (suc n) e = omega (arith, none_left xs n e)
nothing_next made next l (Some f) e k = cc

idle_by : (answer : Option ℕ) (told accepted next : ℕ) (made : List Frame) → told ≤ accepted → ((p : ℕ) → answer ≡ Some p → next ≤ length made)
    → pick_after answer told accepted (bytes_at made next) ≡ Nothing → MatchOption answer (Unit {0}) (λ p. (next ≡ length made) × (told ≡ accepted))
idle_by None told accepted next made l n e = tt
idle_by (Some p) told accepted next made l n e = go (nat_lt told accepted) refl e
  where
    go : (b : Bool) → nat_lt told accepted ≡ b → (if b then Tell accepted else send_next (bytes_at made next)) ≡ Nothing → (next ≡ length made) × (told ≡ accepted)
    go true t k = cc
    go false t k = (nothing_next made next (n p refl) (slice_get made next) refl k, omega (arith, ltb-false told accepted t))

nothing_by : (answer : Option ℕ) (told accepted next : ℕ) (made : List Frame) → MatchOption answer (Unit {0}) (λ p. (next ≡ length made) × (told ≡ accepted))
    → pick_after answer told accepted (bytes_at made next) ≡ Nothing
nothing_by None told accepted next made h = refl
nothing_by (Some p) told accepted next made h =
    let test : nat_lt told accepted ≡ false = le-ltb told accepted (omega (arith, h.1)) in
    let none : slice_get made next ≡ None = slice_get_past made next (omega (arith, h.0)) in
    rw (test, none) refl

behind_none : (front : List ℕ) (pick : Pick) → front ≡ [] → pick_behind front pick ≡ pick
behind_none [] pick e = refl
behind_none (x ∷ xs) pick e = cc

pub chosen_idle : ChosenIdle
chosen_idle token side here st e = (
  λ none. record {
    empty = e;
    all = idle_by here.answer here.told side.accepted here.next side.made st.told_known (λ p k. (next_counted st.here_is p k).1) (sym (behind_none here.front (pick_after here.answer here.told side.accepted (bytes_at side.made here.next)) e) ∙ none);
  },
  λ idle. behind_none here.front (pick_after here.answer here.told side.accepted (bytes_at side.made here.next)) e ∙ nothing_by here.answer here.told side.accepted here.next side.made idle.all,
)

-- ---- nothing to send

idle_done : (answer : Option ℕ) (next told_last accepted : ℕ) (made sent : List Frame) → MatchOption answer (Unit {0}) (λ p. (next ≡ length made) × (told_last ≡ accepted)) → InOrder answer next made sent
    → MatchOption answer (sent ≡ []) (λ p. (counted sent ≡ drop p made) × (told_last ≡ accepted))
idle_done None next t accepted made sent i h = h
idle_done (Some p) next t accepted made sent i h =
    (sym (append-nil (counted sent)) ∙ ap (λ fs. counted sent ++ fs) (sym (drop_all next made (omega (arith, i.0)))) ∙ h.2, i.1)

no_front : (token : List ℕ) (side : SideRecord) (here : Here) (st : Stands token side here) → Sees side (suc here.connection) (all_seen token side here st) → Idle side here → NoFront token here.connection side
unfolding all_seen
no_front token side here st sees idle =
    let sent : List Frame = st.here_is.sent in
    let received : here.received ≡ length (accepted_below (all_seen token side here st) here.connection) =
    st.received ∙ sym (ap length (accepted_with here.connection st.seen st.past_seen here.connection (omega arith))) in
    let accepted : side.accepted ≡ length (accepted_below (all_seen token side here st) (suc here.connection)) =
    omega (arith, st.accepted, st.received, ap length (accepted_all token side here st), length-append (accepted_below st.past_seen here.connection) (counted st.seen)) in
    let answer : here.answer ≡ reply (all_seen token side here st here.connection) = sym st.here_is.answered ∙ sym (ap reply (with_here here.connection st.seen st.past_seen here.connection refl)) in
    let written : written_on here.connection side.lines ≡ spellings (Restart token here.connection here.received ∷ sent) =
    written_here token side here st here.connection refl ∙ st.here_is.written_is ∙ ap (λ bytes. spellings st.here_is.whole ++ bytes) (no_part st.here_is idle.empty) ∙ append-nil (spellings st.here_is.whole) ∙ ap spellings (all_whole st.here_is idle.empty) in
    let all : MatchOption here.answer (Unit {0}) (λ p. (here.next ≡ length side.made) × (last_told here.received (acks sent) ≡ side.accepted)) =
    subst (λ (t : ℕ). MatchOption here.answer (Unit {0}) (λ p. (here.next ≡ length side.made) × (t ≡ side.accepted))) (sym st.here_is.told_last) idle.all in
    let done : MatchOption here.answer (sent ≡ []) (λ p. (counted sent ≡ drop p side.made) × (last_told here.received (acks sent) ≡ side.accepted)) =
    idle_done here.answer here.next (last_told here.received (acks sent)) side.accepted side.made sent all st.here_is.order in
    record {
      seen = all_seen token side here st;
      bound = suc here.connection;
      sees = sees;
      sent = sent;
      frames = subst (λ (n : ℕ). AllByRecursion IsFrame (Restart token here.connection n ∷ sent)) received st.here_is.row_frames;
      bytes = subst (λ (n : ℕ). written_on here.connection side.lines ≡ spellings (Restart token here.connection n ∷ sent)) received written;
      done = subst (λ (a : Option ℕ). MatchOption a (sent ≡ []) (λ p. (counted sent ≡ drop p side.made) × (last_told (length (accepted_below (all_seen token side here st) here.connection)) (acks sent) ≡ length (accepted_below (all_seen token side here st) (suc here.connection))))) answer
          (subst (λ (n : ℕ). MatchOption here.answer (sent ≡ []) (λ p. (counted sent ≡ drop p side.made) × (last_told n (acks sent) ≡ length (accepted_below (all_seen token side here st) (suc here.connection))))) received
          (subst (λ (n : ℕ). MatchOption here.answer (sent ≡ []) (λ p. (counted sent ≡ drop p side.made) × (last_told here.received (acks sent) ≡ n))) accepted done));
    }

pub idle_no_front : IdleNoFront
idle_no_front token side here b idle = no_front token side here b.stands (sees_between token side here b.stands b.waits) idle
