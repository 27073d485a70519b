-- With agreement no cause of the link is met by the frame that is read next.
use Rattle.std.proofs.Common.{◌≡◌, ℕ, Ok, Err, ◌+◌, ◌<◌, ◌≤◌, suc, List, [], ◌∷◌, ◌++◌, Option, Some, None, Bool, true, false, max, drop, length, refl, sym, ap, subst, ◌∙◌, arith, append_assoc, length-append, inl, inr}
use Rattle.std.specs.List.{AllByRecursion}
use Rattle.std.specs.Option.{MatchOption}
use Rattle.plain_lists.specs.Fronts.{IsFront}
use Rattle.plain_lists.proofs.FrontLemmas.{IsFront_behind, IsFront_length, IsFront_longer}
use Rattle.transfer_frames.specs.declared.frame.Frame.{Frame}
use Rattle.transfer_frames.specs.declared.frame.Frame.TheVariants.{Restart}
use Rattle.transfer_frames.specs.declared.frame.FrameRole.{FrameRole}
use Rattle.transfer_frames.specs.declared.frame.FrameRole.TheVariants.{Counted, Tells, Greets}
use Rattle.transfer_frames.specs.Grammar.{IsFrame, spelling, role}
use Rattle.transfer_frames.specs.declared.cause.FrameCause.{FrameCause}
use Rattle.transfer_frames.specs.Front.{front}
use Rattle.transfer_frames.proofs.FrontLaws.{front-short, front-proper, front-spelled}
use Rattle.std.proofs.lemmas.Bool.{cases_lt}
use Rattle.std.proofs.lemmas.List.{append_cancel_left}
use Rattle.pair_model.specs.Lines.{SideRecord, Agrees, read_on, written_on}
use Rattle.pair_model.specs.Rows.{spellings, counted, acks, told, reply, NoGreeting, Rise, is_counted, is_greeting, Reads}
use Rattle.pair_model.specs.LinkFaults.{MOST_FRAMES, link_fault, judge_of, ClosesLast, has_closed}
use Rattle.pair_model.specs.Wire.{Sees, Wire, accepted_below, told_below, stop_on}
use Rattle.pair_model.specs.Laws.{Countable}
use Rattle.pair_model.proofs.Came.{Came, came, came_counted, came_reply, no_bytes, Row, row_behind}
use Rattle.pair_model.proofs.Seen.{one_accepted, one_seen, one_told}
use Rattle.pair_model.proofs.Inductions.{Both, accepted_begin, told_accepted}
use Rattle.pair_model.proofs.Once.{both}
use Rattle.pair_model.proofs.Passing.{closes_last, whole_holds, greeting_passes, ack_passes, counted_passes, Behind, place_of, all_push, none_greets, Told, told_at, counted_push, counted_longer, spellings_push}

-- The frame that a side reads next, on its last connection: it stands behind those seen.
pub record Next (side : SideRecord) (seen : List Frame) (connection : ℕ) (frame : Frame) : Type 0 where
  pub is_frame : IsFrame frame
  pub more : List ℕ
  pub bytes : read_on connection side.lines ≡ spellings seen ++ (spelling frame ++ more)
  pub last : (c : ℕ) → connection < c → read_on c side.lines ≡ []

-- what is known where a reader comes to a frame
pub record Moment (token : List ℕ) (reader writer : SideRecord) (connection : ℕ) (frame : Frame) (sent : List Frame) : Type 0 where
  pub r : Wire token reader
  pub w : Wire token writer
  pub there : Both token token writer.made reader.made r.seen w.seen
  pub back : Both token token reader.made writer.made w.seen r.seen
  pub next : Next reader (r.seen connection) connection frame
  pub came_next : Came token connection (length (accepted_below w.seen connection)) (length (accepted_below w.seen (suc connection))) writer.made (w.seen connection) (r.seen connection ++ frame ∷ [])
  pub answered : IsFront (w.seen connection) sent
  pub counts : Countable writer

-- all that was accepted was accepted up to this connection, and all that was told was told there
accepted_here : {token : List ℕ} {reader writer : SideRecord} {c : ℕ} {frame : Frame} {sent : List Frame} (m : Moment token reader writer c frame sent) → accepted_below m.r.seen m.r.bound ≡ accepted_below m.r.seen (suc c)
accepted_here {token} {reader} {writer} {c} {frame} {sent} m =
    let here : Sees reader (suc c) m.r.seen = record { reads = m.r.sees.reads; past = m.next.last } in
    one_accepted m.r.sees here

acknowledged_here : {token : List ℕ} {reader writer : SideRecord} {c : ℕ} {frame : Frame} {sent : List Frame} (m : Moment token reader writer c frame sent) → reader.acknowledged ≡ max (told_below m.r.seen c) (told (m.r.seen c))
acknowledged_here {token} {reader} {writer} {c} {frame} {sent} m =
    let here : Sees reader (suc c) m.r.seen = record { reads = m.r.sees.reads; past = m.next.last } in
    m.r.acknowledged ∙ one_told m.r.sees here

reply_of : (fs before : List Frame) (token : List ℕ) (c received : ℕ) → fs ≡ Restart token c received ∷ before → reply fs ≡ Some received
reply_of fs before token c received e = ap reply e

judged : List ℕ → SideRecord → ℕ → List Frame → Option ℕ → FrameRole → Type 0
judged token reader c sent answer part = link_fault (judge_of token reader c (length (counted sent))) answer part ≡ None

-- the first frame is the other's RESTART
first_passes : {token : List ℕ} {reader writer : SideRecord} {c : ℕ} {frame : Frame} {sent : List Frame} (m : Moment token reader writer c frame sent)
    → m.r.seen c ≡ [] → frame ≡ Restart token c (length (accepted_below m.w.seen c))
    → judged token reader c sent (reply (m.r.seen c)) (role frame)
unfolding judged
first_passes {token} {reader} {writer} {c} {frame} {sent} m e f =
    let nothing : told (m.r.seen c) ≡ 0 = ap told e in
    let low : reader.acknowledged ≤ length (accepted_below m.w.seen c) = omega (arith, acknowledged_here m, nothing, told_accepted m.back c) in
    let high : length (accepted_below m.w.seen c) ≤ length reader.made = IsFront_length (accepted_begin m.back c) in
    rw (e, f) (greeting_passes (judge_of token reader c (length (counted sent))) token c (length (accepted_below m.w.seen c)) refl refl low high)

-- an ACK
ack_is_due : {token : List ℕ} {reader writer : SideRecord} {c : ℕ} {frame : Frame} {sent : List Frame} (m : Moment token reader writer c frame sent)
    → (p : Behind (m.r.seen c) frame (Restart token c (length (accepted_below m.w.seen c))) m.came_next.sent) → (count : ℕ) → role frame ≡ Tells count
    → judged token reader c sent (reply (m.r.seen c)) (Tells count)
unfolding judged
ack_is_due {token} {reader} {writer} {c} {frame} {sent} m p count e =
    let received : ℕ = length (accepted_below m.w.seen c) in
    let upto : ℕ = length (accepted_below m.w.seen (suc c)) in
    let t : Told received upto count (told p.before) = told_at received upto count p.before frame p.after e
    (subst (λ (fs : List Frame). NoGreeting fs) p.sent_is m.came_next.greets) (subst (λ (fs : List Frame). Rise received (acks fs) upto) p.sent_is m.came_next.tells) in
    let here : told (m.r.seen c) ≡ max received (told p.before) = ap told p.seen_is in
    let low : reader.acknowledged ≤ count = omega (arith, acknowledged_here m, here, told_accepted m.back c, t.above, t.last) in
    let high : count ≤ received + length (counted sent) = omega (arith, t.most, length-append (accepted_below m.w.seen c) (counted (m.w.seen c)), counted_longer m.answered) in
    rw (reply_of (m.r.seen c) p.before token c received p.seen_is) (ack_passes (judge_of token reader c (length (counted sent))) received count low high)

-- a counted frame is one more of those made
one_more : {token : List ℕ} {reader writer : SideRecord} {c : ℕ} {frame : Frame} {sent : List Frame} (m : Moment token reader writer c frame sent)
    → (p : Behind (m.r.seen c) frame (Restart token c (length (accepted_below m.w.seen c))) m.came_next.sent) → is_counted (role frame) ≡ true
    → IsFront (accepted_below m.r.seen (suc c) ++ frame ∷ []) writer.made
one_more {token} {reader} {writer} {c} {frame} {sent} m p e = go (reply (m.w.seen c)) refl
  where
    nothing : (before after : List Frame) → before ++ frame ∷ after ≡ [] → ⊥
    nothing [] after k = cc
    nothing (f ∷ fs) after k = cc

    go : (answer : Option ℕ) → reply (m.w.seen c) ≡ answer → IsFront (accepted_below m.r.seen (suc c) ++ frame ∷ []) writer.made
    go None k =
        let none : m.came_next.sent ≡ [] = subst (λ (r : Option ℕ). MatchOption r (m.came_next.sent ≡ []) (λ q. IsFront (counted m.came_next.sent) (drop q writer.made))) k m.came_next.order in
        absurd (nothing p.before p.after (sym p.sent_is ∙ none))
    go (Some q) k =
        let at : q ≡ length (accepted_below m.r.seen c) = came_reply (m.back.there c) q k in
        let more : IsFront (counted (m.r.seen c ++ frame ∷ [])) (drop (length (accepted_below m.r.seen c)) writer.made) = subst (λ (n : ℕ). IsFront (counted (m.r.seen c ++ frame ∷ [])) (drop n writer.made)) at (came_counted m.came_next q k) in
        let all : IsFront (accepted_below m.r.seen c ++ counted (m.r.seen c ++ frame ∷ [])) writer.made = IsFront_behind _ _ writer.made (accepted_begin m.there c) more in
        let same : accepted_below m.r.seen c ++ counted (m.r.seen c ++ frame ∷ []) ≡ accepted_below m.r.seen (suc c) ++ frame ∷ [] =
        ap (λ fs. accepted_below m.r.seen c ++ fs) (counted_push (m.r.seen c) frame e) ∙ sym (append_assoc (accepted_below m.r.seen c) (counted (m.r.seen c)) (frame ∷ [])) in
        subst (λ (fs : List Frame). IsFront fs writer.made) same all

counted_is_due : {token : List ℕ} {reader writer : SideRecord} {c : ℕ} {frame : Frame} {sent : List Frame} (m : Moment token reader writer c frame sent)
    → (p : Behind (m.r.seen c) frame (Restart token c (length (accepted_below m.w.seen c))) m.came_next.sent) → (closes : Bool) → role frame ≡ Counted closes
    → judged token reader c sent (reply (m.r.seen c)) (Counted closes)
unfolding judged
counted_is_due {token} {reader} {writer} {c} {frame} {sent} m p closes e =
    let here : accepted_below m.r.seen m.r.bound ≡ accepted_below m.r.seen (suc c) = accepted_here m in
    let front : IsFront (accepted_below m.r.seen (suc c) ++ frame ∷ []) writer.made = one_more m p (ap is_counted e) in
    let whole : writer.made ≡ accepted_below m.r.seen (suc c) ++ frame ∷ front.rest = sym front.is ∙ append_assoc (accepted_below m.r.seen (suc c)) (frame ∷ []) front.rest in
    let open_yet : reader.closed ≡ false = m.r.closed ∙ ap has_closed here ∙ closes_last (accepted_below m.r.seen (suc c)) frame front.rest (subst (λ (fs : List Frame). ClosesLast fs) whole m.counts.closes) in
    let few : reader.accepted < MOST_FRAMES = omega (arith, m.r.accepted, IsFront_length front, length-append (accepted_below m.r.seen (suc c)) (frame ∷ []), m.counts.most, ap length here) in
    rw (reply_of (m.r.seen c) p.before token c (length (accepted_below m.w.seen c)) p.seen_is) (counted_passes (judge_of token reader c (length (counted sent))) (length (accepted_below m.w.seen c)) closes open_yet few)

-- the frame read next is one that the other may send
next_passes : {token : List ℕ} {reader writer : SideRecord} {c : ℕ} {frame : Frame} {sent : List Frame} (m : Moment token reader writer c frame sent)
    → judged token reader c sent (reply (m.r.seen c)) (role frame)
next_passes {token} {reader} {writer} {c} {frame} {sent} m =
    elim (place_of (m.r.seen c) frame m.came_next.begins.rest (Restart token c (length (accepted_below m.w.seen c))) m.came_next.sent m.came_next.begins.is) [
      | inl first ↦ first_passes m first.0 first.1
      | inr p ↦ go p (role frame) refl
    ]
  where
    go : (p : Behind (m.r.seen c) frame (Restart token c (length (accepted_below m.w.seen c))) m.came_next.sent) → (part : FrameRole) → role frame ≡ part
        → judged token reader c sent (reply (m.r.seen c)) part
    go p (Counted closes) e = counted_is_due m p closes e
    go p (Tells count) e = ack_is_due m p count e
    go p (Greets t n received) e =
        let never : is_greeting (role frame) ≡ false = none_greets p.before frame p.after (subst (λ (fs : List Frame). NoGreeting fs) p.sent_is m.came_next.greets) in
        let always : is_greeting (role frame) ≡ true = ap is_greeting e in
        cc

-- the frame, put behind those seen
read_with : {stop : Option ℕ} {read : List ℕ} (seen : List Frame) (frame : Frame) (more : List ℕ) → Reads stop read seen → IsFrame frame → read ≡ spellings seen ++ (spelling frame ++ more)
    → Reads (Some (length (spellings (seen ++ frame ∷ [])))) read (seen ++ frame ∷ [])
read_with seen frame more h f e = record { frames = all_push seen frame h.frames f; rest = more; bytes = e ∙ spellings_push seen frame more; ends = refl }

-- what is known, from what both sides keep
moment : {token : List ℕ} {reader writer : SideRecord} (r : Wire token reader) (w : Wire token writer) → Agrees writer.lines reader.lines → Countable writer
    → (c : ℕ) (frame : Frame) (sent : List Frame) → Next reader (r.seen c) c frame → Reads None (written_on c reader.lines) sent → Moment token reader writer c frame sent
moment {token} {reader} {writer} r w agrees counts c frame sent next whole =
    let heard : spellings (w.seen c) ++ ((w.sees.reads c).rest ++ (agrees.down c).rest) ≡ spellings sent ++ whole.rest =
    sym (append_assoc (spellings (w.seen c)) (w.sees.reads c).rest (agrees.down c).rest) ∙ ap (λ bytes. bytes ++ (agrees.down c).rest) (sym (w.sees.reads c).bytes) ∙ (agrees.down c).is ∙ whole.bytes in
    record {
      r = r;
      w = w;
      there = both r w agrees.up agrees.down;
      back = both w r agrees.down agrees.up;
      next = next;
      came_next = came w c (read_with (r.seen c) frame next.more (r.sees.reads c) next.is_frame next.bytes) (agrees.up c);
      answered = whole_holds (w.seen c) sent ((w.sees.reads c).rest ++ (agrees.down c).rest) whole.rest (w.sees.reads c).frames whole.frames whole.ends heard;
      counts = counts;
    }

-- where the frames seen are told in another way
seen_so : {token : List ℕ} {reader : SideRecord} (r : Wire token reader) {bound : ℕ} {seen : ℕ → List Frame} (c : ℕ) (frame : Frame) → Sees reader bound seen → Next reader (seen c) c frame → Next reader (r.seen c) c frame
seen_so {token} {reader} r {bound} {seen} c frame sees next =
    let one : seen c ≡ r.seen c = one_seen (stop_on c reader.stop) (read_on c reader.lines) (seen c) (r.seen c) (sees.reads c) (r.sees.reads c) in
    record { is_frame = next.is_frame; more = next.more; bytes = subst (λ (fs : List Frame). read_on c reader.lines ≡ spellings fs ++ (spelling frame ++ next.more)) one next.bytes; last = next.last }

pub refuses_none : {token : List ℕ} {reader writer : SideRecord} (r : Wire token reader) (w : Wire token writer) → Agrees writer.lines reader.lines → Countable writer
    → {bound : ℕ} {seen : ℕ → List Frame} → Sees reader bound seen → (c : ℕ) (frame : Frame) (sent : List Frame) → Next reader (seen c) c frame → Reads None (written_on c reader.lines) sent
    → link_fault (judge_of token reader c (length (counted sent))) (reply (seen c)) (role frame) ≡ None
unfolding judged moment
refuses_none {token} {reader} {writer} r w agrees counts {bound} {seen} sees c frame sent next whole =
    let one : seen c ≡ r.seen c = one_seen (stop_on c reader.stop) (read_on c reader.lines) (seen c) (r.seen c) (sees.reads c) (r.sees.reads c) in
    rw one (next_passes (moment r w agrees counts c frame sent (seen_so r c frame sees next) whole))

-- and where it is counted, it is the next one that the other made
next_made : {token : List ℕ} {reader writer : SideRecord} {c : ℕ} {frame : Frame} {sent : List Frame} (m : Moment token reader writer c frame sent) → is_counted (role frame) ≡ true
    → IsFront (accepted_below m.r.seen (suc c) ++ frame ∷ []) writer.made
next_made {token} {reader} {writer} {c} {frame} {sent} m e =
    elim (place_of (m.r.seen c) frame m.came_next.begins.rest (Restart token c (length (accepted_below m.w.seen c))) m.came_next.sent m.came_next.begins.is) [
      | inl first ↦ let none : is_counted (role frame) ≡ false = ap (λ (f : Frame). is_counted (role f)) first.1 in absurd cc
      | inr p ↦ one_more m p e
    ]

pub is_next_made : {token : List ℕ} {reader writer : SideRecord} (r : Wire token reader) (w : Wire token writer) → Agrees writer.lines reader.lines → Countable writer
    → {bound : ℕ} {seen : ℕ → List Frame} → Sees reader bound seen → (c : ℕ) (frame : Frame) (sent : List Frame) → Next reader (seen c) c frame → Reads None (written_on c reader.lines) sent
    → is_counted (role frame) ≡ true → IsFront (accepted_below seen bound ++ frame ∷ []) writer.made
unfolding moment
is_next_made {token} {reader} {writer} r w agrees counts {bound} {seen} sees c frame sent next whole e =
    let m : Moment token reader writer c frame sent = moment r w agrees counts c frame sent (seen_so r c frame sees next) whole in
    let here : Sees reader (suc c) r.seen = record { reads = r.sees.reads; past = next.last } in
    subst (λ (fs : List Frame). IsFront (fs ++ frame ∷ []) writer.made) (one_accepted here sees) (next_made m e)

-- ---- the grammar

-- bytes that begin a row of frames show no fault
pub no_fault : (row : List Frame) (rest more : List ℕ) → AllByRecursion IsFrame row → rest ++ more ≡ spellings row → (cause : FrameCause) → front rest ≡ Err cause → ⊥
no_fault [] rest more h e cause k =
    let none : rest ≡ [] = no_bytes rest more e in
    let waits : front rest ≡ Ok None = front-short rest (omega (arith, ap length none)) in
    cc
no_fault (f ∷ fs) rest more h e cause k = elim (cases_lt (length rest) (length (spelling f))) [
  | inl short ↦
      let b : IsFront rest (spelling f) = IsFront_longer (spelling f) rest (spellings fs) more (sym e) (omega arith) in
      let waits : front rest ≡ Ok None = front-proper f rest b.rest h.0 (sym b.is) (λ none. omega (arith, ap length none, length-append rest b.rest, ap length b.is, short)) in
      cc
  | inr long ↦
      let b : IsFront (spelling f) rest = IsFront_longer rest (spelling f) more (spellings fs) e long in
      let whole : front rest ≡ Ok (Some f) = ap front (sym b.is) ∙ front-spelled f b.rest h.0 in
      cc
]

-- the bytes that are read behind some frames
pub grammar_kept : {token : List ℕ} {reader writer : SideRecord} → Wire token writer → Agrees writer.lines reader.lines → {bound : ℕ} {seen : ℕ → List Frame} → (sees : Sees reader bound seen)
    → (c : ℕ) (rest : List ℕ) → read_on c reader.lines ≡ spellings (seen c) ++ rest → (cause : FrameCause) → front rest ≡ Err cause → ⊥
grammar_kept {token} {reader} {writer} w agrees {bound} {seen} sees c rest e cause k =
    let same : rest ≡ (sees.reads c).rest = append_cancel_left (spellings (seen c)) rest (sees.reads c).rest (sym e ∙ (sees.reads c).bytes) in
    let t : Row (sees.reads c).rest = row_behind w c (sees.reads c) (agrees.up c) in
    no_fault t.row (sees.reads c).rest t.more t.frames t.bytes cause (sym (ap front same) ∙ k)
