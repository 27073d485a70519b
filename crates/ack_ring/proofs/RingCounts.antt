-- A ring whose count of bytes is that of its frames stays one as a frame comes and as the oldest one goes.
use Rattle.std.proofs.Common.{◌≡◌, ℕ, ◌+◌, ◌-◌, ◌*◌, ◌<◌, ◌≤◌, List, [], ◌∷◌, length, drop, sum_by, slice_get, Some, ap, sym, ◌∙◌, arith, length-drop}
use Rattle.std.proofs.lemmas.List.{drop-drop}
use Rattle.std.proofs.lemmas.List.Elements.{All-tail}
use Rattle.std.proofs.lemmas.List.Sums.{sum_by-le, sum_by-cons}
use Rattle.circular_buffer.specs.Buffer.{Buffer, buffer}
use Rattle.transfer_frames.specs.declared.frame.TheConstants.{LARGEST_FRAME}
use Rattle.pair_model.specs.RingState.{RingState, ring_made, ring_held, ring_ack}
use Rattle.ack_ring.specs.Sound.{IsSound, IsCounted}

-- a frame is no longer than any may be
abbrev Fits : List ℕ → Type 0
Fits frame = length frame ≤ LARGEST_FRAME

-- all places full of the longest frames hold 8 GiB
pub held_bound : (ring : RingState) → IsSound ring → ring_held ring ≤ 8589934592
held_bound ring sound =
    let each : ring_held ring ≤ length ring.frames * 1048576 = sum_by-le length LARGEST_FRAME ring.frames sound.sizes in
    let places : length ring.frames ≤ 8192 = sound.places in
    omega arith

-- a ring with these frames behind so many acknowledged ones
abbrev pub ring_of : ℕ → List (List ℕ) → RingState
ring_of acknowledged frames = record { acknowledged = acknowledged; frames = frames }

-- behind the oldest frame
gone_first : (capacity held acknowledged : ℕ) (frames : List (List ℕ)) (frame : List ℕ) → IsCounted capacity held (ring_of acknowledged frames)
    → slice_get frames 0 ≡ Some frame → IsCounted capacity (held - length frame) (ring_of (acknowledged + 1) (drop 1 frames))
gone_first capacity held acknowledged [] frame is first = cc
gone_first capacity held acknowledged (x ∷ xs) frame is first =
    let same : x ≡ frame = cc in
    let sum : held ≡ length x + sum_by length xs = is.held_is ∙ sum_by-cons length x xs in
    record {
      capacity_is = is.capacity_is;
      held_is = rw (← same) (omega (arith, sum));
      sound = record {
        places = omega (arith, is.sound.places);
        made = omega (arith, is.sound.made);
        sizes = All-tail Fits x xs is.sound.sizes;
      };
    }

-- the same for a buffer whose first frame was taken, and the length that was read of it
pub gone : (held size acknowledged : ℕ) (frame : List ℕ) (old new : Buffer (List ℕ)) → IsCounted old.capacity held (ring_of acknowledged old.items)
    → slice_get old.items 0 ≡ Some frame → size ≡ length frame → new ≡ buffer (drop 1 old.items) old.capacity
    → IsCounted new.capacity (held - size) (ring_of (acknowledged + 1) new.items)
gone held size acknowledged frame old new is first size_is new_is =
    rw (new_is, size_is) (gone_first old.capacity held acknowledged old.items frame is first)

-- on the way to a count, the frames below that of now have gone
pub record HasGone (count : ℕ) (first ring : RingState) : Type 0 where
  pub is : ring ≡ ring_ack ring.acknowledged first
  pub from : first.acknowledged ≤ ring.acknowledged
  pub until : ring.acknowledged ≤ count

-- letting go as far as one count and then as far as the next is letting go as far as the next
ring_ack-ring_ack : (m n : ℕ) (ring : RingState) → ring.acknowledged ≤ m → m ≤ n → ring_ack n (ring_ack m ring) ≡ ring_ack n ring
ring_ack-ring_ack m n ring low high =
    let steps : (m - ring.acknowledged) + (n - m) ≡ n - ring.acknowledged = omega arith in
    ap (ring_of n) (drop-drop (n - m) (m - ring.acknowledged) ring.frames ∙ ap (λ k. drop k ring.frames) steps)

-- nothing has gone at first
pub none_gone : (count : ℕ) (ring : RingState) → ring.acknowledged ≤ count → HasGone count ring ring
none_gone count ring low = record {
  is = let none : 0 ≡ ring.acknowledged - ring.acknowledged = omega arith in ap (λ k. ring_of ring.acknowledged (drop k ring.frames)) none;
  from = omega arith;
  until = low;
}

-- one more goes
pub gone_more : (count : ℕ) (first ring next : RingState) → HasGone count first ring → ring.acknowledged < count
    → next ≡ ring_ack (ring.acknowledged + 1) ring → HasGone count first next
gone_more count first ring next gone more step =
    let counts : ring.acknowledged + 1 ≡ next.acknowledged = ap (λ r. r.acknowledged) (sym step) in
    let is : next ≡ ring_ack (ring.acknowledged + 1) first =
    step ∙ ap (ring_ack (ring.acknowledged + 1)) gone.is ∙ ring_ack-ring_ack ring.acknowledged (ring.acknowledged + 1) first gone.from (omega arith) in
    record { is = is ∙ ap (λ n. ring_ack n first) counts; from = omega arith; until = omega arith }

-- one is left to go
pub some_left : (count : ℕ) (first ring : RingState) → HasGone count first ring → ring.acknowledged < count
    → count ≤ ring_made first → 0 < length ring.frames
some_left count first ring gone more made = omega (arith, ap (λ r. length r.frames) gone.is, length-drop (ring.acknowledged - first.acknowledged) first.frames)

-- all have gone
pub all_gone : (count : ℕ) (first ring : RingState) → HasGone count first ring → count ≤ ring.acknowledged → ring ≡ ring_ack count first
all_gone count first ring gone done =
    let counts : ring.acknowledged ≡ count = omega arith in
    gone.is ∙ ap (λ n. ring_ack n first) counts
