-- What is left of a frame of the ring of which a part is written.
use Rattle.std.proofs.Common.{◌≡◌, ℕ, zero, suc, ◌+◌, ◌-◌, ◌<◌, ◌≤◌, Bool, true, cond, List, [], ◌∷◌, Option, Some, length, drop, refl, sym, ap, subst, ◌∙◌, arith, length-drop}
use Rattle.std.specs.Option.{MatchOption}
use Rattle.std.specs.Prelude.{option_map, unwrap_or}
use Rattle.pair_model.specs.LinkFaults.{MOST_FRAMES}
use Rattle.pair_model.specs.RingState.{ring_at, ring_made}
use Rattle.pair_model.specs.Steps.{Here, here_left, here_sent}
use Rattle.side_model.specs.Events.{Went}
use Rattle.side_model.specs.Sound.{Sound, SoundHere}
use Rattle.side_model.specs.Steps.{step}
use Rattle.proxy_core.specs.declared.link.Front.{Front}
use Rattle.proxy_core.specs.declared.link.Front.TheVariants as fronts
use Rattle.proxy_core.specs.declared.link.Link.{Link}
use Rattle.proxy_core.specs.declared.machine.Machine.TheInside.{Inside}
use Rattle.proxy_core.specs.Fronts.{front_bytes, kept_bytes, is_kept}
use Rattle.proxy_core.specs.Inside.{here_of, now_of}

abbrev one_if : Bool → ℕ
one_if b = cond b 1 0

abbrev nothing : List ℕ
nothing = []

drop_none : (k : ℕ) → drop k nothing ≡ nothing
drop_none zero = refl
drop_none (suc k) = refl

drop_drop : (n m : ℕ) (xs : List ℕ) → drop n (drop m xs) ≡ drop (m + n) xs
drop_drop n zero xs = let e : n ≡ zero + n = omega arith in ap (λ (k : ℕ). drop k xs) e
drop_drop n (suc m) [] = drop_none n ∙ sym (drop_none (suc m + n))
drop_drop n (suc m) (x ∷ xs) = let e : suc (m + n) ≡ suc m + n = omega arith in drop_drop n m xs ∙ ap (λ (k : ℕ). drop k (x ∷ xs)) e

left_part : (rest : List ℕ) (here : Here) → 0 < length rest → here_left rest here ≡ record here { front = rest }
left_part [] here l = absurd (omega arith)
left_part (byte ∷ rest) here l =
    let same : here.whole + 0 ≡ here.whole = omega arith in
    ap (λ (n : ℕ). record here { front = byte ∷ rest; whole = n }) same

pub wrote_part : (it : Inside) (link : Link) (sent n : ℕ) (bytes : List ℕ) → it.link ≡ Some link → link.front ≡ fronts.Kept sent → ring_at (link.next - 1) it.ring ≡ Some bytes → n < length bytes - sent
    → now_of (record it { link = Some (record link { front = fronts.Kept (sent + n) }) }) ≡ step (Went n) (now_of it)
unfolding step
wrote_part it link sent n bytes e front at less =
    let here : Here = here_of it.ring it.counts link in
    let kept : kept_bytes link.next it.ring ≡ bytes = ap (λ (b : Option (List ℕ)). unwrap_or b []) at in
    let is_front : here.front ≡ drop sent bytes = ap (λ (f : Front). front_bytes f link.next it.ring) front ∙ ap (drop sent) kept in
    let rest : drop n here.front ≡ drop (sent + n) bytes = ap (drop n) is_front ∙ drop_drop n sent bytes in
    let some : 0 < length (drop n here.front) = omega (arith, ap length rest, length-drop (sent + n) bytes) in
    let counts : is_kept link.front ≡ true = ap is_kept front in
    let after : Some (here_of it.ring it.counts (record link { front = fronts.Kept (sent + n) })) ≡ Some (here_sent n here) =
    ap (λ (b : List ℕ). Some (record here { front = drop (sent + n) b; counts = true })) kept
    ∙ ap (λ (b : Bool). Some (record here { front = drop (sent + n) bytes; counts = b })) (sym counts)
    ∙ ap (λ (b : List ℕ). Some (record here { front = b })) (sym rest) ∙ ap (λ (h : Here). Some h) (sym (left_part (drop n here.front) here some)) in
    ap (λ (h : Option Here). record (now_of it) { live = record (now_of it).live { here = h } })
    (after ∙ sym (ap (λ (l : Option Link). option_map (here_sent n) (option_map (here_of it.ring it.counts) l)) e))

-- a counted frame that is wholly sent can be counted
pub few_sent : (it : Inside) (link : Link) (sent : ℕ) → it.link ≡ Some link → link.front ≡ fronts.Kept sent → Sound (now_of it) → ring_made it.ring ≤ MOST_FRAMES
    → (p : ℕ) → it.counts.answer ≡ Some p → p + it.counts.whole < MOST_FRAMES
few_sent it link sent e front sound made p a =
    let h : SoundHere it.ring it.counts.accepted it.last (here_of it.ring it.counts link) =
    subst (λ (l : Option Link). MatchOption (option_map (here_of it.ring it.counts) l) (Unit {0}) (SoundHere it.ring it.counts.accepted it.last)) e sound.here in
    let counts : (p + it.counts.whole + one_if (is_kept link.front) ≡ link.next) × (link.next ≤ ring_made it.ring) × (it.ring.acknowledged ≤ p + it.counts.whole) = h.counts.answered p a in
    let one : one_if (is_kept link.front) ≡ 1 = ap (λ (f : Front). one_if (is_kept f)) front in
    omega (arith, counts.0, counts.1, one, made)
