-- Where nothing is left to send and all was read, all is acknowledged.
use Rattle.std.proofs.Common.{◌≡◌, ℕ, ◌+◌, ◌≤◌, suc, zero, List, [], ◌∷◌, ◌++◌, Option, Some, None, drop, false, length, refl, sym, ap, subst, ◌∙◌, arith, length-append, length-drop}
use Rattle.std.proofs.lemmas.List.{append-nil, drop_all}
use Rattle.std.specs.List.{AllByRecursion}
use Rattle.std.specs.Option.{MatchOption}
use Rattle.transfer_frames.specs.declared.frame.Frame.{Frame}
use Rattle.transfer_frames.specs.declared.frame.Frame.TheVariants.{Restart}
use Rattle.transfer_frames.specs.Grammar.{IsFrame}
use Rattle.transfer_frames.proofs.FrontLaws.{one_row}
use Rattle.pair_model.specs.Lines.{SideRecord, Stop, read_on, written_on}
use Rattle.pair_model.specs.Rows.{spellings, counted, acks, told, reply, Reads}
use Rattle.pair_model.specs.Wire.{Sees, Wire, Kept, accepted_below, told_below, stop_on}
use Rattle.pair_model.specs.Quiet.{NoFront, last_told}
use Rattle.pair_model.specs.Laws.{QuietIsDone, KeepsRest, AcceptedFirst}
use Rattle.transfer_frames.specs.Laws.{NoFrame}
use Rattle.pair_model.proofs.Rows.{spelling_some}
use Rattle.pair_model.proofs.Seen.{one_told, told_past}
use Rattle.pair_model.proofs.Came.{last_among}
use Rattle.pair_model.proofs.Once.{each_once, none_lost}

-- no frame stands in no bytes
nothing_there : NoFrame []
nothing_there frame more h e = spelling_some frame more (sym e)

-- all that was read is seen
all_seen : (side : SideRecord) (c : ℕ) (seen row : List Frame) (read : List ℕ) → side.stop ≡ None → Reads (stop_on c side.stop) read seen → AllByRecursion IsFrame row → read ≡ spellings row → seen ≡ row
all_seen side c seen row read s h k e =
    let reads : Reads None read seen = subst (λ (stop : Option Stop). Reads (stop_on c stop) read seen) s h in
    (one_row seen row reads.rest [] reads.frames k reads.ends nothing_there (sym reads.bytes ∙ e ∙ sym (append-nil (spellings row)))).0

told_grows : (seen : ℕ → List Frame) (c more : ℕ) → told_below seen c ≤ told_below seen (c + more)
told_grows seen c zero = let e : c + zero ≡ c = omega arith in omega (arith, ap (told_below seen) e)
told_grows seen c (suc more) = let e : c + suc more ≡ suc (c + more) = omega arith in omega (arith, ap (told_below seen) e, told_grows seen c more)

told_at_most : {side : SideRecord} {bound : ℕ} {seen : ℕ → List Frame} → Sees side bound seen → (c : ℕ) → told_below seen c ≤ told_below seen bound
told_at_most {side} {bound} {seen} h c =
    let e : c + bound ≡ bound + c = omega arith in
    omega (arith, told_grows seen c bound, ap (told_below seen) e, told_past h c)

-- what one side wrote, and the other read
pub record Heard (writer reader : SideRecord) (c : ℕ) : Type 0 where
  pub read : read_on c reader.lines ≡ written_on c writer.lines
  pub reads : reader.stop ≡ None

-- the reader's frames seen are what the writer sent
heard : {token : List ℕ} {writer reader : SideRecord} {c : ℕ} (w : NoFront token c writer) → Heard writer reader c → {bound : ℕ} {seen : ℕ → List Frame} → Sees reader bound seen
    → seen c ≡ Restart token c (length (accepted_below w.seen c)) ∷ w.sent
heard {token} {writer} {reader} {c} w h {bound} {seen} s =
    all_seen reader c (seen c) (Restart token c (length (accepted_below w.seen c)) ∷ w.sent) (read_on c reader.lines) h.reads (s.reads c) w.frames (h.read ∙ w.bytes)

-- the writer's frames are all acknowledged, in the words of what both sides have seen
acknowledges : {token other : List ℕ} {writer reader : SideRecord} {c : ℕ} (w : NoFront token c writer) (r : NoFront other c reader) → Heard writer reader c → Heard reader writer c
    → length writer.made ≤ told_below w.seen w.bound
acknowledges {token} {other} {writer} {reader} {c} w r there back =
    let seen_there : r.seen c ≡ Restart token c (length (accepted_below w.seen c)) ∷ w.sent = heard w there r.sees in
    let seen_back : w.seen c ≡ Restart other c (length (accepted_below r.seen c)) ∷ r.sent = heard r back w.sees in
    let received : ℕ = length (accepted_below r.seen c) in
    let answer : reply (w.seen c) ≡ Some received = ap reply seen_back in
    let reply_back : reply (r.seen c) ≡ Some (length (accepted_below w.seen c)) = ap reply seen_there in
    let sent : (counted w.sent ≡ drop received writer.made) × (last_told (length (accepted_below w.seen c)) (acks w.sent) ≡ length (accepted_below w.seen (suc c))) =
    subst (λ (a : Option ℕ). MatchOption a (w.sent ≡ []) (λ p. (counted w.sent ≡ drop p writer.made) × (last_told (length (accepted_below w.seen c)) (acks w.sent) ≡ length (accepted_below w.seen (suc c))))) answer w.done in
    let told_back : (counted r.sent ≡ drop (length (accepted_below w.seen c)) reader.made) × (last_told received (acks r.sent) ≡ length (accepted_below r.seen (suc c))) =
    subst (λ (a : Option ℕ). MatchOption a (r.sent ≡ []) (λ p. (counted r.sent ≡ drop p reader.made) × (last_told received (acks r.sent) ≡ length (accepted_below r.seen (suc c))))) reply_back r.done in
    let came : counted (r.seen c) ≡ drop received writer.made = ap counted seen_there ∙ sent.0 in
    omega (arith, ap length came, length-drop received writer.made, length-append (accepted_below r.seen c) (counted (r.seen c)), told_back.1, last_among received r.sent, ap told seen_back, told_at_most w.sees (suc c))

-- one side, once what was acknowledged is known to be at most what was made
all_acknowledged : {token other : List ℕ} {writer reader : SideRecord} {c : ℕ} → Wire token writer → NoFront token c writer → NoFront other c reader → Heard writer reader c → Heard reader writer c
    → AcceptedFirst reader writer → KeepsRest writer reader → writer.acknowledged ≡ length writer.made
all_acknowledged {token} {other} {writer} {reader} {c} wire w r there back first rest =
    omega (arith, acknowledges w r there back, wire.acknowledged, one_told wire.sees w.sees, first.count, rest.known)

none_kept : {writer : SideRecord} → writer.acknowledged ≡ length writer.made → (kept : List Frame) → Kept writer false kept → kept ≡ []
none_kept {writer} e kept k = k.kept_is ∙ ap (λ fs. fs ++ k.further) (drop_all writer.acknowledged writer.made (omega arith)) ∙ k.none refl

pub quiet_is_done : QuietIsDone
quiet_is_done token other near far c n f a all no_near no_far =
    let up : Heard near far c = record { read = all.up; reads = all.far_reads } in
    let down : Heard far near c = record { read = all.down; reads = all.near_reads } in
    let first : AcceptedFirst far near × AcceptedFirst near far = each_once token other near far n f a in
    let rest : KeepsRest near far × KeepsRest far near = none_lost token other near far n f a in
    let near_done : near.acknowledged ≡ length near.made = all_acknowledged n no_near no_far up down first.0 rest.0 in
    let far_done : far.acknowledged ≡ length far.made = all_acknowledged f no_far no_near down up first.1 rest.1 in
    (record { near_known = near_done; far_known = far_done }, none_kept near_done, none_kept far_done)
