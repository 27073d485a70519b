-- The frame of the ring that is being sent stays in the ring as it is, while others are made and while those before it are acknowledged.
use Rattle.std.proofs.Common.{◌≡◌, ℕ, zero, suc, ◌+◌, ◌-◌, ◌<◌, ◌≤◌, Bool, true, false, cond, List, [], ◌∷◌, ◌++◌, Option, Some, None, length, drop, refl, ap, ◌∙◌, arith}
use Rattle.std.specs.Option.{MatchOption}
use Rattle.std.specs.Prelude.{slice_get, option_map, unwrap_or}
use Rattle.pair_model.specs.RingState.{RingState, ring_ack, ring_push_all, ring_made}
use Rattle.pair_model.specs.Steps.{Here}
use Rattle.pair_model.specs.Tally.{Tally}
use Rattle.pair_model.proofs.Fronts.{slice_get_drop}
use Rattle.side_model.specs.Sound.{SoundHere}
use Rattle.proxy_core.specs.declared.link.Front.{Front}
use Rattle.proxy_core.specs.declared.link.Front.TheVariants.{Nothing, Small, Kept}
use Rattle.proxy_core.specs.declared.link.Link.{Link}
use Rattle.proxy_core.specs.Fronts.{front_bytes, is_kept}
use Rattle.proxy_core.specs.Inside.{here_of}

abbrev one_if : Bool → ℕ
one_if b = cond b 1 0

pub slice_get_append : {X : Type 0} (xs ys : List X) (i : ℕ) → i < length xs → slice_get (xs ++ ys) i ≡ slice_get xs i
slice_get_append [] ys i l = absurd (omega arith)
slice_get_append (x ∷ xs) ys zero l = refl
slice_get_append (x ∷ xs) ys (suc i) l = slice_get_append xs ys i (omega arith)

-- where the frame before the next one is in the ring
abbrev pub Within : RingState → ℕ → Type 0
Within ring next = (ring.acknowledged < next) × (next ≤ ring_made ring)

pub front_acked : (front : Front) (next n : ℕ) (ring : RingState) → ring.acknowledged ≤ n → (is_kept front ≡ true → n < next) → front_bytes front next (ring_ack n ring) ≡ front_bytes front next ring
front_acked Nothing next n ring l h = refl
front_acked (Small left) next n ring l h = refl
front_acked (Kept sent) next n ring l h =
    let k : n < next = h refl in
    let e : (n - ring.acknowledged) + ((next - 1) - n) ≡ (next - 1) - ring.acknowledged = omega arith in
    ap (λ (o : Option (List ℕ)). drop sent (unwrap_or o [])) (slice_get_drop (n - ring.acknowledged) ring.frames ((next - 1) - n) ∙ ap (slice_get ring.frames) e)

pub front_pushed : (front : Front) (next : ℕ) (more : List (List ℕ)) (ring : RingState) → (is_kept front ≡ true → Within ring next) → front_bytes front next (ring_push_all more ring) ≡ front_bytes front next ring
front_pushed Nothing next more ring h = refl
front_pushed (Small left) next more ring h = refl
front_pushed (Kept sent) next more ring h =
    let k : Within ring next = h refl in
    ap (λ (o : Option (List ℕ)). drop sent (unwrap_or o [])) (slice_get_append ring.frames more ((next - 1) - ring.acknowledged) (omega (arith, k.0, k.1)))

-- the counts of the connection say that it is
pub kept_within : (ring : RingState) (accepted last : ℕ) (here : Here) → SoundHere ring accepted last here → here.counts ≡ true → Within ring here.next
kept_within ring accepted last here h e = go here.answer refl
  where
    go : (answer : Option ℕ) → here.answer ≡ answer → Within ring here.next
    go None d = absurd (let none : here.counts ≡ false = (h.counts.unanswered d).0 in cc)
    go (Some p) d =
        let k : (p + here.whole + cond here.counts 1 0 ≡ here.next) × (here.next ≤ ring_made ring) × (ring.acknowledged ≤ p + here.whole) = h.counts.answered p d in
        let one : one_if here.counts ≡ 1 = ap one_if e in
        (omega (arith, k.0, k.2, one), k.1)

-- so the connection that is up is seen alike
pub here_pushed : (ring : RingState) (more : List (List ℕ)) (counts : Tally) (accepted last : ℕ) (link : Option Link)
    → MatchOption (option_map (here_of ring counts) link) (Unit {0}) (SoundHere ring accepted last)
    → option_map (here_of (ring_push_all more ring) counts) link ≡ option_map (here_of ring counts) link
here_pushed ring more counts accepted last None h = refl
here_pushed ring more counts accepted last (Some link) h =
    ap (λ (bytes : List ℕ). Some (record (here_of ring counts link) { front = bytes }))
    (front_pushed link.front link.next more ring (λ e. kept_within ring accepted last (here_of ring counts link) h e))

-- a frame of the ring that is being sent is not acknowledged by a count of the frames wholly sent
pub here_acked : (ring : RingState) (n : ℕ) (counts : Tally) (accepted last : ℕ) (link : Option Link)
    → MatchOption (option_map (here_of ring counts) link) (Unit {0}) (SoundHere ring accepted last)
    → ring.acknowledged ≤ n → ((p : ℕ) → counts.answer ≡ Some p → n ≤ p + counts.whole)
    → option_map (here_of (ring_ack n ring) counts) link ≡ option_map (here_of ring counts) link
here_acked ring n counts accepted last None h low high = refl
here_acked ring n counts accepted last (Some link) h low high =
    ap (λ (bytes : List ℕ). Some (record (here_of ring counts link) { front = bytes })) (front_acked link.front link.next n ring low (λ e. before e counts.answer refl))
  where
    before : is_kept link.front ≡ true → (answer : Option ℕ) → counts.answer ≡ answer → n < link.next
    before e None d = absurd (let none : is_kept link.front ≡ false = (h.counts.unanswered d).0 in cc)
    before e (Some p) d =
        let k : (p + counts.whole + cond (is_kept link.front) 1 0 ≡ link.next) × (link.next ≤ ring_made ring) × (ring.acknowledged ≤ p + counts.whole) = h.counts.answered p d in
        let one : one_if (is_kept link.front) ≡ 1 = ap one_if e in
        omega (arith, k.0, one, high p d)
