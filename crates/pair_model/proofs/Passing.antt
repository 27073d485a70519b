-- Frames that are not refused: CLOSE is last, and what is read next follows in the row that the other side sent.
use Rattle.std.proofs.Common.{◌≡◌, ℕ, ◌+◌, ◌<◌, ◌≤◌, List, [], ◌∷◌, ◌++◌, Some, None, Bool, true, false, max, length, refl, sym, ap, subst, ◌∙◌, arith, append_assoc, length-append, inl, inr, ◌⊎◌}
use Rattle.std.proofs.lemmas.Bool.{le-ltb, lt-leb, eq-eqb}
use Rattle.std.proofs.lemmas.List.{append-nil}
use Rattle.std.proofs.lemmas.List.Elements.{filter-append}
use Rattle.std.proofs.lemmas.Slice.Eq.{bytes_eq-Decides}
use Rattle.std.specs.List.{AllByRecursion, cons_option}
use Rattle.plain_lists.specs.Fronts.{IsFront}
use Rattle.transfer_frames.specs.declared.frame.Frame.{Frame}
use Rattle.transfer_frames.specs.declared.frame.FrameRole.{FrameRole}
use Rattle.transfer_frames.specs.declared.frame.FrameRole.TheVariants.{Counted, Tells, Greets}
use Rattle.transfer_frames.specs.Grammar.{IsFrame, spelling, role}
use Rattle.pair_model.proofs.Rows.{one_spelling}
use Rattle.pair_model.specs.Rows.{spellings, counted, acks, told, NoGreeting, Rise, is_counted, is_greeting, count_in, ack_in}
use Rattle.pair_model.specs.LinkFaults.{MOST_FRAMES, Judge, link_fault, ClosesLast, has_closed}
use Rattle.transfer_frames.specs.Laws.{NoFrame}
use Rattle.pair_model.proofs.Rows.{same_rest}

-- where CLOSE is last, a frame that another follows is none
pub closes_last : (fs : List Frame) (f : Frame) (rest : List Frame) → ClosesLast (fs ++ f ∷ rest) → has_closed fs ≡ false
closes_last [] f rest h = refl
closes_last (g ∷ []) f rest h = rw h.0 refl
closes_last (g ∷ (k ∷ fs)) f rest h = rw (h.0, closes_last (k ∷ fs) f rest h.1) refl

-- all whole frames written hold those that the other has seen
pub whole_holds : (seen whole : List Frame) (x y : List ℕ) → AllByRecursion IsFrame seen → AllByRecursion IsFrame whole → NoFrame y → spellings seen ++ x ≡ spellings whole ++ y → IsFront seen whole
whole_holds [] whole x y hs hw hy e = record { rest = whole; is = refl }
whole_holds (f ∷ fs) [] x y hs hw hy e = absurd (hy f (spellings fs ++ x) hs.0 (sym e ∙ append_assoc (spelling f) (spellings fs) x))
whole_holds (f ∷ fs) (g ∷ gs) x y hs hw hy e =
    let whole : spelling f ++ (spellings fs ++ x) ≡ spelling g ++ (spellings gs ++ y) = sym (append_assoc (spelling f) (spellings fs) x) ∙ e ∙ append_assoc (spelling g) (spellings gs) y in
    let same : f ≡ g = one_spelling f g (spellings fs ++ x) (spellings gs ++ y) hs.0 hw.0 whole in
    let rest : IsFront fs gs = whole_holds fs gs x y hs.1 hw.1 hy (same_rest f g _ _ same whole) in
    record { rest = rest.rest; is = cc (rest.is, same) }

-- ---- the causes, one part at a time

-- the other's RESTART
pub greeting_passes : (judge : Judge) (token : List ℕ) (connection received : ℕ) → token ≡ judge.token → connection ≡ judge.connection → judge.acknowledged ≤ received → received ≤ judge.made
    → link_fault judge None (Greets token connection received) ≡ None
greeting_passes judge token connection received t c low high =
    rw ((bytes_eq-Decides token judge.token).1 t, eq-eqb connection judge.connection c, le-ltb received judge.acknowledged low, le-ltb judge.made received high) refl

pub ack_passes : (judge : Judge) (received count : ℕ) → judge.acknowledged ≤ count → count ≤ received + judge.whole → link_fault judge (Some received) (Tells count) ≡ None
ack_passes judge received count low high = rw (le-ltb count judge.acknowledged low, le-ltb (received + judge.whole) count high) refl

pub counted_passes : (judge : Judge) (received : ℕ) (closes : Bool) → judge.closed ≡ false → judge.accepted < MOST_FRAMES → link_fault judge (Some received) (Counted closes) ≡ None
counted_passes judge received closes c l = rw (c, lt-leb MOST_FRAMES judge.accepted l) refl

-- ---- the frame read next, in the row that the other sent

-- it is the first one and so RESTART, or it follows the frames seen after RESTART
pub record Behind (seen : List Frame) (frame : Frame) (greeting : Frame) (sent : List Frame) : Type 0 where
  pub before : List Frame
  pub after : List Frame
  pub seen_is : seen ≡ greeting ∷ before
  pub sent_is : sent ≡ before ++ frame ∷ after

pub place_of : (seen : List Frame) (frame : Frame) (rest : List Frame) (greeting : Frame) (sent : List Frame) → (seen ++ frame ∷ []) ++ rest ≡ greeting ∷ sent
    → ((seen ≡ []) × (frame ≡ greeting)) ⊎ Behind seen frame greeting sent
place_of [] frame rest greeting sent e = inl (refl, cc)
place_of (f ∷ fs) frame rest greeting sent e =
    let head : f ≡ greeting = cc in
    let tail : (fs ++ frame ∷ []) ++ rest ≡ sent = cc in
    inr (record { before = fs; after = rest; seen_is = ap (λ g. g ∷ fs) head; sent_is = sym tail ∙ append_assoc fs (frame ∷ []) rest })

pub all_push : (fs : List Frame) (f : Frame) → AllByRecursion IsFrame fs → IsFrame f → AllByRecursion IsFrame (fs ++ f ∷ [])
all_push [] f h k = (k, tt)
all_push (g ∷ fs) f h k = (h.0, all_push fs f h.1 k)

pub none_greets : (before : List Frame) (frame : Frame) (after : List Frame) → NoGreeting (before ++ frame ∷ after) → is_greeting (role frame) ≡ false
none_greets [] frame after h = h.0
none_greets (f ∷ fs) frame after h = none_greets fs frame after h.1

-- the count of an ACK among the frames sent, and those told before it
pub record Told (low high count before : ℕ) : Type 0 where
  pub above : low < count
  pub most : count ≤ high
  pub last : before ≤ count

told_next : (part : FrameRole) (low high count rest : ℕ) (counts : List ℕ) → is_greeting part ≡ false → Rise low (cons_option (ack_in part) counts) high
    → ((least : ℕ) → Rise least counts high → Told least high count rest) → Told low high count (max (count_in part) rest)
told_next (Counted closes) low high count rest counts e k again = let t : Told low high count rest = again low k in record { above = t.above; most = t.most; last = omega (arith, t.last) }
told_next (Tells n) low high count rest counts e k again = let t : Told n high count rest = again n k.2 in record { above = omega (arith, t.above, k.0); most = t.most; last = omega (arith, t.last, t.above) }
told_next (Greets token connection received) low high count rest counts e k again = cc

pub told_at : (low high count : ℕ) (before : List Frame) (frame : Frame) (after : List Frame) → role frame ≡ Tells count → NoGreeting (before ++ frame ∷ after) → Rise low (acks (before ++ frame ∷ after)) high
    → Told low high count (told before)
told_at low high count [] frame after e g r =
    let k : Rise low (cons_option (ack_in (Tells count)) (acks after)) high = subst (λ (part : FrameRole). Rise low (cons_option (ack_in part) (acks after)) high) e r in
    record { above = k.0; most = k.1; last = omega arith }
told_at low high count (f ∷ fs) frame after e g r = told_next (role f) low high count (told fs) (acks (fs ++ frame ∷ after)) g.0 r (λ least k. told_at least high count fs frame after e g.1 k)

pub counted_push : (fs : List Frame) (f : Frame) → is_counted (role f) ≡ true → counted (fs ++ f ∷ []) ≡ counted fs ++ f ∷ []
counted_push fs f e = filter-append (λ frame. is_counted (role frame)) fs (f ∷ []) ∙ rw e refl

pub counted_longer : {fs gs : List Frame} → IsFront fs gs → length (counted fs) ≤ length (counted gs)
counted_longer {fs} {gs} h = omega (arith, ap (λ (ks : List Frame). length (counted ks)) h.is, ap length (filter-append (λ frame. is_counted (role frame)) fs h.rest), length-append (counted fs) (counted h.rest))

pub spellings_push : (fs : List Frame) (f : Frame) (more : List ℕ) → spellings fs ++ (spelling f ++ more) ≡ spellings (fs ++ f ∷ []) ++ more
spellings_push [] f more = ap (λ bytes. bytes ++ more) (sym (append-nil (spelling f)))
spellings_push (g ∷ fs) f more = append_assoc (spelling g) (spellings fs) (spelling f ++ more) ∙ ap (λ bytes. spelling g ++ bytes) (spellings_push fs f more) ∙ sym (append_assoc (spelling g) (spellings (fs ++ f ∷ [])) more)
