-- Which front is chosen, read off the fields of a proxy.
use Rattle.std.proofs.Common.{◌≡◌, ℕ, zero, suc, ◌+◌, ◌-◌, ◌<◌, ◌≤◌, Bool, true, false, ◌&&◌, cond, List, [], ◌∷◌, Option, Some, None, length, refl, sym, ap, subst, ◌∙◌, arith}
use Rattle.std.proofs.lemmas.Bool.{lt-ltb, le-ltb}
use Rattle.std.specs.Option.{MatchOption}
use Rattle.std.specs.Prelude.{slice_get, option_map, unwrap_or, nat_lt, is_some, if◌then◌else◌}
use Rattle.transfer_frames.specs.declared.frame.Frame.TheVariants.{Ack}
use Rattle.transfer_frames.specs.Grammar.{spelling}
use Rattle.pair_model.specs.RingState.{ring_at, ring_made}
use Rattle.pair_model.specs.Steps.{Here, Pick, Nothing, Tell, Send, picks, picked, pick_after, pick_behind, send_next, here_next, chosen}
use Rattle.side_model.specs.Due.{choose, choose_on, choose_pick}
use Rattle.side_model.specs.Events.{Chose, Do, Rest}
use Rattle.side_model.specs.Shows.{is_empty}
use Rattle.side_model.specs.Sound.{Sound, SoundHere}
use Rattle.side_model.specs.State.{Now}
use Rattle.side_model.specs.Steps.{step}
use Rattle.proxy_core.specs.declared.link.Front.TheVariants as fronts
use Rattle.proxy_core.specs.declared.link.Link.{Link}
use Rattle.proxy_core.specs.declared.machine.Machine.TheInside.{Inside}
use Rattle.proxy_core.specs.Inside.{here_of, now_of}
use Rattle.proxy_core.specs.Treating.{may_choose}

-- no front, and the count that the other's RESTART told
record IsOpen (here : Here) : Type 0 where
  empty : here.front ≡ []
  answer : ℕ
  answered : here.answer ≡ Some answer

is_open : (here : Here) → may_choose (Some here) ≡ true → IsOpen here
is_open here e = by_front here.front here.answer refl refl e
  where
    by_front : (front : List ℕ) (answer : Option ℕ) → here.front ≡ front → here.answer ≡ answer → (is_empty front && is_some answer) ≡ true → IsOpen here
    by_front [] None a b d = absurd cc
    by_front [] (Some p) a b d = record { empty = a; answer = p; answered = b }
    by_front (byte ∷ front) answer a b d = absurd cc

picks_open : (here : Here) (accepted : ℕ) (bytes : Option (List ℕ)) → IsOpen here → picks accepted bytes here ≡ (if nat_lt here.told accepted then Tell accepted else send_next bytes)
picks_open here accepted bytes o =
    ap (λ (front : List ℕ). pick_behind front (pick_after here.answer here.told accepted bytes)) o.empty
    ∙ ap (λ (answer : Option ℕ). pick_after answer here.told accepted bytes) o.answered

-- what is due where that is picked, and what it leaves
record Picks (it : Inside) (link : Link) (pick : Pick) : Type 0 where
  due : choose (now_of it) ≡ choose_pick pick
  leaves : step Chose (now_of it) ≡ record (now_of it) { live = record (now_of it).live { here = Some (picked pick (here_of it.ring it.counts link)) } }

picks_is : (it : Inside) (link : Link) (pick : Pick) → it.link ≡ Some link → picks it.counts.accepted (ring_at link.next it.ring) (here_of it.ring it.counts link) ≡ pick → Picks it link pick
unfolding choose step
picks_is it link pick e p = record {
  due = ap (λ (l : Option Link). choose_on it.counts.accepted it.ring (option_map (here_of it.ring it.counts) l)) e ∙ ap choose_pick p;
  leaves = ap (λ (here : Option Here). record (now_of it) { live = record (now_of it).live { here = here } })
      (ap (λ (l : Option Link). option_map (λ (h : Here). chosen it.counts.accepted (ring_at h.next it.ring) h) (option_map (here_of it.ring it.counts) l)) e
      ∙ ap (λ (q : Pick). Some (picked q (here_of it.ring it.counts link))) p);
}

open_at : (it : Inside) (link : Link) → it.link ≡ Some link → may_choose (now_of it).live.here ≡ true → IsOpen (here_of it.ring it.counts link)
open_at it link e may = is_open (here_of it.ring it.counts link) (sym (ap (λ (l : Option Link). may_choose (option_map (here_of it.ring it.counts) l)) e) ∙ may)

sound_at : (it : Inside) (link : Link) → it.link ≡ Some link → Sound (now_of it) → SoundHere it.ring it.counts.accepted it.last (here_of it.ring it.counts link)
sound_at it link e sound = subst (λ (l : Option Link). MatchOption (option_map (here_of it.ring it.counts) l) (Unit {0}) (SoundHere it.ring it.counts.accepted it.last)) e sound.here

found_at : {X : Type 0} (xs : List X) (i : ℕ) → i < length xs → (x : X) × (slice_get xs i ≡ Some x)
found_at [] i l = absurd (omega arith)
found_at (x ∷ xs) zero l = (x, refl)
found_at (x ∷ xs) (suc i) l = found_at xs i (omega arith)

past_end : {X : Type 0} (xs : List X) (i : ℕ) → length xs ≤ i → slice_get xs i ≡ None
past_end [] i l = refl
past_end (x ∷ xs) zero l = absurd (omega arith)
past_end (x ∷ xs) (suc i) l = past_end xs i (omega arith)

-- an ACK
pub chose_ack : (it : Inside) (link : Link) (bytes : List ℕ) → it.link ≡ Some link → may_choose (now_of it).live.here ≡ true → link.told < it.counts.accepted → bytes ≡ spelling (Ack it.counts.accepted)
    → (choose (now_of it) ≡ Do Chose) × (now_of (record it { link = Some (record link { front = fronts.Small bytes; told = it.counts.accepted }) }) ≡ step Chose (now_of it))
chose_ack it link bytes e may less spelled =
    let here : Here = here_of it.ring it.counts link in
    let test : nat_lt link.told it.counts.accepted ≡ true = lt-ltb link.told it.counts.accepted less in
    let pick : picks it.counts.accepted (ring_at link.next it.ring) here ≡ Tell it.counts.accepted =
    picks_open here it.counts.accepted (ring_at link.next it.ring) (open_at it link e may) ∙ ap (λ (b : Bool). if b then Tell it.counts.accepted else send_next (ring_at link.next it.ring)) test in
    let k : Picks it link (Tell it.counts.accepted) = picks_is it link (Tell it.counts.accepted) e pick in (
      k.due,
      ap (λ (b : List ℕ). now_of (record it { link = Some (record link { front = fronts.Small b; told = it.counts.accepted }) })) spelled ∙ sym k.leaves,
    )

-- the next frame of the ring
pub chose_kept : (it : Inside) (link : Link) → it.link ≡ Some link → may_choose (now_of it).live.here ≡ true → it.counts.accepted ≤ link.told → link.next < ring_made it.ring → Sound (now_of it)
    → (choose (now_of it) ≡ Do Chose) × (now_of (record it { link = Some (record link { front = fronts.Kept 0; next = link.next + 1 }) }) ≡ step Chose (now_of it))
chose_kept it link e may more less sound =
    let here : Here = here_of it.ring it.counts link in
    let o : IsOpen here = open_at it link e may in
    let h : SoundHere it.ring it.counts.accepted it.last here = sound_at it link e sound in
    let counts : (o.answer + here.whole + cond here.counts 1 0 ≡ here.next) × (here.next ≤ ring_made it.ring) × (it.ring.acknowledged ≤ o.answer + here.whole) = h.counts.answered o.answer o.answered in
    let found : (bytes : List ℕ) × (ring_at link.next it.ring ≡ Some bytes) = found_at it.ring.frames (link.next - it.ring.acknowledged) (omega (arith, counts.0, counts.2)) in
    let test : nat_lt link.told it.counts.accepted ≡ false = le-ltb link.told it.counts.accepted more in
    let pick : picks it.counts.accepted (ring_at link.next it.ring) here ≡ Send found.0 =
    picks_open here it.counts.accepted (ring_at link.next it.ring) o ∙ ap (λ (b : Bool). if b then Tell it.counts.accepted else send_next (ring_at link.next it.ring)) test ∙ ap send_next found.1 in
    let k : Picks it link (Send found.0) = picks_is it link (Send found.0) e pick in
    let back : (link.next + 1) - 1 ≡ link.next = omega arith in
    let bytes : unwrap_or (ring_at ((link.next + 1) - 1) it.ring) [] ≡ found.0 = ap (λ (n : ℕ). unwrap_or (ring_at n it.ring) []) back ∙ ap (λ (b : Option (List ℕ)). unwrap_or b []) found.1 in (
      k.due,
      ap (λ (b : List ℕ). record (now_of it) { live = record (now_of it).live { here = Some (here_next b here) } }) bytes ∙ sym k.leaves,
    )

-- nothing
pub chose_none : (it : Inside) (link : Link) → it.link ≡ Some link → may_choose (now_of it).live.here ≡ true → it.counts.accepted ≤ link.told → ring_made it.ring ≤ link.next → choose (now_of it) ≡ Rest
chose_none it link e may more less =
    let here : Here = here_of it.ring it.counts link in
    let test : nat_lt link.told it.counts.accepted ≡ false = le-ltb link.told it.counts.accepted more in
    let none : ring_at link.next it.ring ≡ None = past_end it.ring.frames (link.next - it.ring.acknowledged) (omega arith) in
    let pick : picks it.counts.accepted (ring_at link.next it.ring) here ≡ Nothing =
    picks_open here it.counts.accepted (ring_at link.next it.ring) (open_at it link e may) ∙ ap (λ (b : Bool). if b then Tell it.counts.accepted else send_next (ring_at link.next it.ring)) test ∙ ap send_next none in
    (picks_is it link Nothing e pick).due

-- and nothing where none may be chosen
pub may_not : (s : Now) → may_choose s.live.here ≡ false → choose s ≡ Rest
unfolding choose
may_not s e = by_here s.live.here e
  where
    by_parts : (here : Here) (front : List ℕ) (answer : Option ℕ) → (is_empty front && is_some answer) ≡ false → choose_pick (pick_behind front (pick_after answer here.told s.kept.accepted (ring_at here.next s.kept.ring))) ≡ Rest
    by_parts here [] None d = refl
    by_parts here [] (Some p) d = absurd cc
    by_parts here (byte ∷ front) answer d = refl

    by_here : (here : Option Here) → may_choose here ≡ false → choose_on s.kept.accepted s.kept.ring here ≡ Rest
    by_here None d = refl
    by_here (Some here) d = by_parts here here.front here.answer d
