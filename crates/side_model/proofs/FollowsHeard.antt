-- The records follow a proxy through a frame that it hears.
use Rattle.std.proofs.Common.{◌≡◌, ℕ, ◌+◌, ◌≤◌, suc, List, [], ◌∷◌, ◌++◌, Option, Some, None, Bool, false, ◌||◌, not, nat_lt, ◌==◌, cond, max, length, drop, refl, sym, ap, subst, ◌∙◌, arith}
use Rattle.std.proofs.lemmas.Bool.{ltb-false}
use Rattle.std.proofs.lemmas.List.{drop_at}
use Rattle.std.specs.Option.{MatchOption}
use Rattle.std.specs.Prelude.{option_map}
use Rattle.std.specs.Str.{bytes_eq}
use Rattle.transfer_frames.specs.declared.frame.Frame.{Frame}
use Rattle.transfer_frames.specs.declared.frame.FrameRole.{FrameRole}
use Rattle.transfer_frames.specs.declared.frame.FrameRole.TheVariants.{Counted, Tells, Greets}
use Rattle.transfer_frames.specs.Grammar.{role, IsFrame, spelling}
use Rattle.transfer_frames.specs.Numbers.{IsBytes}
use Rattle.transfer_frames.proofs.FrontLaws.{front-is_frame}
use Rattle.half_model.specs.Content.{Hearing, content_fault, heard}
use Rattle.half_model.specs.Log as marks
use Rattle.half_model.specs.Log.{Mark, LogState, Lawful, log_next}
use Rattle.half_model.specs.Story.{accepted_in}
use Rattle.pair_model.specs.Lines.{SideRecord}
use Rattle.pair_model.specs.LinkFaults.{Judge, link_fault, is_close}
use Rattle.pair_model.specs.RingState.{RingState, ring_made, IsRingOf}
use Rattle.pair_model.specs.Rows.{counted, is_counted, count_in}
use Rattle.pair_model.specs.Steps.{Here, judge_here, side_read, here_read}
use Rattle.pair_model.proofs.Judging.{FourFail, four_fail, two_fail}
use Rattle.pair_model.proofs.RingProofs.{made_in_ring, acked}
use Rattle.pair_model.proofs.Standing.{read_stands}
use Rattle.side_model.specs.Books.{Book, grown, marked_trail}
use Rattle.side_model.specs.Due.{judge_in}
use Rattle.side_model.specs.Events.{Event, Heard}
use Rattle.side_model.specs.Follows.{Follows, GoesOn, LinkFollows}
use Rattle.side_model.specs.Places.{placed, places_in, side_of}
use Rattle.side_model.specs.State.{Now}
use Rattle.side_model.specs.Steps.{step, here_heard, acked_by}
use Rattle.side_model.proofs.Dues.{FrameDue}
use Rattle.side_model.proofs.FollowsFed.{items_marked, places_closed}
use Rattle.side_model.proofs.Links.{link_marked, link_heard}
use Rattle.side_model.proofs.SoundsInside.{first_none, few_counted}
use Rattle.side_model.proofs.Stories.{now_push, story_push, accepted_push}
use Rattle.side_model.proofs.Tells.{places_made, tells_mark}

-- ---- what a frame is judged by

same_judge : (token : List ℕ) (connection whole : ℕ) (a b m n k l : ℕ) (s t : Bool) (answer : Option ℕ) (part : FrameRole) → a ≡ b → m ≡ n → k ≡ l → s ≡ t
    → link_fault (record { token = token; connection = connection; acknowledged = a; made = m; whole = whole; accepted = k; closed = s }) answer part ≡ None
    → link_fault (record { token = token; connection = connection; acknowledged = b; made = n; whole = whole; accepted = l; closed = t }) answer part ≡ None
same_judge token connection whole a b m n k l s t answer part ea em ek es h =
    subst (λ (x : ℕ). link_fault (record { token = token; connection = connection; acknowledged = x; made = n; whole = whole; accepted = l; closed = t }) answer part ≡ None) ea
    (subst (λ (x : ℕ). link_fault (record { token = token; connection = connection; acknowledged = a; made = x; whole = whole; accepted = l; closed = t }) answer part ≡ None) em
    (subst (λ (x : ℕ). link_fault (record { token = token; connection = connection; acknowledged = a; made = m; whole = whole; accepted = x; closed = t }) answer part ≡ None) ek
    (subst (λ (x : Bool). link_fault (record { token = token; connection = connection; acknowledged = a; made = m; whole = whole; accepted = k; closed = x }) answer part ≡ None) es h)))

-- the ring behind a frame that is not refused
record RingHeard (made : List Frame) (ring after : RingState) (known : ℕ) : Type 0 where
  is : IsRingOf made after
  acknowledged : after.acknowledged ≡ known

ring_heard : (made : List Frame) (ring : RingState) (judge : Judge) (answer : Option ℕ) (part : FrameRole) → IsRingOf made ring → judge.acknowledged ≡ ring.acknowledged → link_fault judge answer part ≡ None
    → max ring.acknowledged (count_in part) ≤ length made → RingHeard made ring (acked_by part ring) (max ring.acknowledged (count_in part))
ring_heard made ring judge answer (Counted closes) r e h l = record { is = r; acknowledged = omega arith }
ring_heard made ring judge None (Tells n) r e h l = absurd cc
ring_heard made ring judge (Some p) (Tells n) r e h l =
    let f : (nat_lt n judge.acknowledged ≡ false) × (nat_lt (p + judge.whole) n ≡ false) = two_fail (nat_lt n judge.acknowledged) (nat_lt (p + judge.whole) n) h in
    let low : ring.acknowledged ≤ n = omega (arith, e, ltb-false n judge.acknowledged f.0) in
    record { is = acked made ring n r low (omega arith); acknowledged = omega arith }
ring_heard made ring judge None (Greets t c n) r e h l =
    let f : FourFail (not (bytes_eq t judge.token)) (not (c == judge.connection)) (nat_lt n judge.acknowledged) (nat_lt judge.made n) =
    four_fail (not (bytes_eq t judge.token)) (not (c == judge.connection)) (nat_lt n judge.acknowledged) (nat_lt judge.made n) h in
    let low : ring.acknowledged ≤ n = omega (arith, e, ltb-false n judge.acknowledged f.third) in
    record { is = acked made ring n r low (omega arith); acknowledged = omega arith }
ring_heard made ring judge (Some p) (Greets t c n) r e h l = absurd cc

-- ---- its bytes

bytes_left : (xs ys : List ℕ) → IsBytes (xs ++ ys) → IsBytes ys
bytes_left [] ys h i = h i
bytes_left (x ∷ xs) ys h i = bytes_left xs ys (λ j. h (suc j)) i

bytes_behind : (unread : List ℕ) (frame : Frame) (more : List ℕ) → unread ≡ spelling frame ++ more → IsBytes unread → IsBytes (drop (length (spelling frame)) unread)
bytes_behind unread frame more e h =
    let rest : drop (length (spelling frame)) unread ≡ more = ap (drop (length (spelling frame))) e ∙ drop_at (spelling frame) more (length (spelling frame)) refl in
    subst (λ (bytes : List ℕ). IsBytes bytes) (sym rest) (bytes_left (spelling frame) more (subst (λ (bytes : List ℕ). IsBytes bytes) e h))

-- ---- all of it

-- what is known where a frame is heard
record Coming (s : Now) (book : Book) (f : Follows s book) (here : Here) (frame : Frame) : Type 0 where
  is_here : s.live.here ≡ Some here
  goes_on : GoesOn s.token (side_of book.trail (places_in f.story) None) (accepted_in f.story) here
  bytes : IsBytes here.unread
  is_frame : IsFrame frame
  more : List ℕ
  unread : here.unread ≡ spelling frame ++ more
  passes : link_fault (judge_in s.token s.kept.ring s.kept.accepted s.kept.heard_close here) here.answer (role frame) ≡ None
  judged : link_fault (judge_here s.token (side_of book.trail (places_in f.story) None) here) here.answer (role frame) ≡ None
  accepted : content_fault s.live.tables s.live.taking frame ≡ None

coming : (s : Now) (book : Book) (f : Follows s book) (event : Event) (d : FrameDue s event) → Coming s book f d.here d.frame
coming s book f event d =
    let goes : GoesOn s.token (side_of book.trail (places_in f.story) None) (accepted_in f.story) d.here = subst (λ (here : Option Here). LinkFollows s.token (side_of book.trail (places_in f.story) None) (accepted_in f.story) here) d.is_here f.link in
    let bytes : IsBytes d.here.unread = subst (λ (here : Option Here). MatchOption here (Unit {0}) (λ h. IsBytes h.unread)) d.is_here f.bytes in
    let found : IsFrame d.frame × ((more : List ℕ) × (d.here.unread ≡ spelling d.frame ++ more)) = front-is_frame d.here.unread d.frame bytes d.stands in
    let none : (link_fault (judge_in s.token s.kept.ring s.kept.accepted s.kept.heard_close d.here) d.here.answer (role d.frame) ≡ None) × (content_fault s.live.tables s.live.taking d.frame ≡ None) =
    first_none (link_fault (judge_in s.token s.kept.ring s.kept.accepted s.kept.heard_close d.here) d.here.answer (role d.frame)) (content_fault s.live.tables s.live.taking d.frame) d.passes in
    record {
      is_here = d.is_here;
      goes_on = goes;
      bytes = bytes;
      is_frame = found.0;
      more = found.1.0;
      unread = found.1.1;
      passes = none.0;
      judged = same_judge s.token d.here.connection d.here.whole s.kept.ring.acknowledged book.trail.acknowledged (ring_made s.kept.ring) (length book.trail.made) s.kept.accepted book.trail.accepted s.kept.heard_close (places_in f.story).closed d.here.answer (role d.frame)
          (sym f.acknowledged) (made_in_ring book.trail.made s.kept.ring f.ring) (sym f.accepted) (sym f.closed) none.0;
      accepted = none.1;
    }

-- the link then
link_after : (s : Now) (book : Book) (f : Follows s book) (here : Here) (frame : Frame) → Coming s book f here frame
    → LinkFollows s.token (side_of (marked_trail (Some (marks.Heard frame)) book.trail) (places_in (f.story ++ marks.Heard frame ∷ [])) None) (accepted_in (f.story ++ marks.Heard frame ∷ [])) (Some (here_heard frame here))
link_after s book f here frame c =
    let side : SideRecord = side_of book.trail (places_in f.story) None in
    let rest : c.more ≡ drop (length (spelling frame)) here.unread = sym (ap (drop (length (spelling frame))) c.unread ∙ drop_at (spelling frame) c.more (length (spelling frame)) refl) in
    let heard_on : GoesOn s.token (side_read (role frame) side) (accepted_in f.story ++ counted (frame ∷ [])) (here_heard frame here) =
    subst (λ (more : List ℕ). GoesOn s.token (side_read (role frame) side) (accepted_in f.story ++ counted (frame ∷ [])) (here_read frame more here)) rest
    (link_heard s.token side (accepted_in f.story) here frame c.more c.is_frame c.unread c.judged c.goes_on) in
    let made : length book.trail.made ≡ (places_in f.story).made = ap length f.tells.made ∙ sym (places_made f.story) in
    let placed_on : GoesOn s.token (side_of (marked_trail (Some (marks.Heard frame)) book.trail) (placed (marks.Heard frame) (places_in f.story)) None) (accepted_in f.story ++ counted (frame ∷ [])) (here_heard frame here) =
    subst (λ (n : ℕ). GoesOn s.token (record (side_read (role frame) side) { ahead = side.ahead ++ cond (is_counted (role frame)) (n ∷ []) [] }) (accepted_in f.story ++ counted (frame ∷ [])) (here_heard frame here)) made heard_on in
    link_marked s.token (marked_trail (Some (marks.Heard frame)) book.trail) (Some (here_heard frame here)) f.story (marks.Heard frame) (accepted_in f.story ++ counted (frame ∷ [])) (accepted_push f.story (marks.Heard frame)) placed_on

follows_frame : (s : Now) (book : Book) (f : Follows s book) (here : Here) (frame : Frame) → Coming s book f here frame → Follows (step (Heard frame) s) (grown (Heard frame) s book)
unfolding step
follows_frame s book f here frame c =
    let side : SideRecord = side_of book.trail (places_in f.story) None in
    let part : FrameRole = role frame in
    let judge : Judge = judge_in s.token s.kept.ring s.kept.accepted s.kept.heard_close here in
    let it : Hearing = heard s.live.tables s.live.taking frame in
    let most : max book.trail.acknowledged (count_in part) ≤ length book.trail.made = (read_stands s.token side here frame c.more c.goes_on.stands c.is_frame c.unread c.judged).known in
    let ring : RingHeard book.trail.made s.kept.ring (acked_by part s.kept.ring) (max s.kept.ring.acknowledged (count_in part)) =
    ring_heard book.trail.made s.kept.ring judge here.answer part f.ring refl c.passes (omega (arith, f.acknowledged, most)) in
    record {
      story = f.story ++ marks.Heard frame ∷ [];
      tells = tells_mark s.side f.story (marks.Heard frame) book f.tells;
      log = story_push s.side f.story (marks.Heard frame) f.log (subst (λ (state : LogState). Lawful state (marks.Heard frame)) (sym f.after) (record { is_frame = c.is_frame; accepted = c.accepted }));
      after = now_push s.side f.story (marks.Heard frame) ∙ ap (λ state. log_next state (marks.Heard frame)) f.after;
      jobs = f.jobs;
      closes = f.closes;
      link = subst (λ (h : Option Here). LinkFollows s.token (side_of (marked_trail (Some (marks.Heard frame)) book.trail) (places_in (f.story ++ marks.Heard frame ∷ [])) None) (accepted_in (f.story ++ marks.Heard frame ∷ [])) (option_map (here_heard frame) h)) (sym c.is_here)
          (link_after s book f here frame c);
      ring = ring.is;
      accepted = ap (λ n. n + cond (is_counted part) 1 0) f.accepted;
      acknowledged = ap (λ n. max n (count_in part)) f.acknowledged ∙ sym ring.acknowledged;
      closed = places_closed f.story (marks.Heard frame) _ (ap (λ b. b || is_close part) f.closed);
      few = few_counted judge here.answer part c.passes f.few;
      taken = f.taken;
      token = f.token;
      numbers = f.numbers;
      bytes = subst (λ (h : Option Here). MatchOption (option_map (here_heard frame) h) (Unit {0}) (λ x. IsBytes x.unread)) (sym c.is_here) (bytes_behind here.unread frame c.more c.unread c.bytes);
      items = items_marked s f.story (marks.Heard frame) it.given s.live.items book.trail.given (ap (λ (state : LogState). (heard state.tables state.taking frame).given) f.after) f.items;
      receipts = f.receipts;
    }

pub follows_heard : (s : Now) (book : Book) (event : Event) → Follows s book → FrameDue s event → Follows (step event s) (grown event s book)
follows_heard s book event f d = subst (λ (e : Event). Follows (step e s) (grown e s book)) (sym d.is) (follows_frame s book f d.here d.frame (coming s book f event d))
