-- The first two laws: each frame once, and none lost.
use Rattle.std.proofs.Common.{◌≡◌, ℕ, ◌+◌, ◌-◌, ◌≤◌, suc, zero, List, [], ◌++◌, drop, take, length, refl, sym, ap, subst, ◌∙◌, arith, append_assoc, length-drop}
use Rattle.std.proofs.lemmas.List.{append-nil, drop-drop, take-append-drop, take-append-le, take_all}
use Rattle.plain_lists.specs.Fronts.{IsFront}
use Rattle.plain_lists.proofs.FrontLemmas.{IsFront_first, IsFront_length}
use Rattle.transfer_frames.specs.declared.frame.Frame.{Frame}
use Rattle.pair_model.specs.Lines.{SideRecord, read_on, written_on}
use Rattle.pair_model.specs.Wire.{accepted_below, Accepts, Sees, Wire}
use Rattle.pair_model.specs.Laws.{AcceptedFirst, EachOnce, KeepsRest, NoneLost, DrainedHasAll}
use Rattle.pair_model.proofs.Came.{came}
use Rattle.pair_model.proofs.Seen.{one_accepted, accepted_past}
use Rattle.pair_model.proofs.Inductions.{Both, accepted_begin, told_accepted, accepted_longer}

-- what two sides that agree have seen of each other
pub both : {token other : List ℕ} {reader writer : SideRecord} (r : Wire other reader) (w : Wire token writer)
    → ((c : ℕ) → IsFront (read_on c reader.lines) (written_on c writer.lines)) → ((c : ℕ) → IsFront (read_on c writer.lines) (written_on c reader.lines))
    → Both token other writer.made reader.made r.seen w.seen
both r w there back = record { there = λ c. came w c (r.sees.reads c) (there c); back_again = λ c. came r c (w.sees.reads c) (back c) }

accepted_first : {token other : List ℕ} {reader writer : SideRecord} (r : Wire other reader) (w : Wire token writer)
    → Both token other writer.made reader.made r.seen w.seen → AcceptedFirst reader writer
accepted_first {token} {other} {reader} {writer} r w b =
    let front : IsFront (accepted_below r.seen r.bound) writer.made = accepted_begin b r.bound in
    record {
      count = omega (arith, IsFront_length front, r.accepted);
      accepts = record { seen = r.seen; bound = r.bound; sees = r.sees; frames_are = sym (IsFront_first front ∙ ap (λ n. take n writer.made) (sym r.accepted)) };
      frames = λ accepted k. k.frames_are ∙ one_accepted k.sees r.sees ∙ IsFront_first front ∙ ap (λ n. take n writer.made) (sym r.accepted);
    }

-- no more was accepted on the connections up to any than on all
accepted_grows : (seen : ℕ → List Frame) (c more : ℕ) → length (accepted_below seen c) ≤ length (accepted_below seen (c + more))
accepted_grows seen c zero = let e : c + zero ≡ c = omega arith in omega (arith, ap (λ n. length (accepted_below seen n)) e)
accepted_grows seen c (suc more) =
    let e : c + suc more ≡ suc (c + more) = omega arith in
    omega (arith, ap (λ n. length (accepted_below seen n)) e, accepted_longer seen (c + more), accepted_grows seen c more)

pub accepted_at_most : {side : SideRecord} {bound : ℕ} {seen : ℕ → List Frame} → Sees side bound seen → (c : ℕ) → length (accepted_below seen c) ≤ length (accepted_below seen bound)
accepted_at_most {side} {bound} {seen} h c =
    let e : c + bound ≡ bound + c = omega arith in
    omega (arith, accepted_grows seen c bound, ap (λ n. length (accepted_below seen n)) e, ap length (accepted_past h c))

-- a list from some place on, and from a later one
later : (n m : ℕ) (made : List Frame) → n ≤ m → drop n made ≡ take (m - n) (drop n made) ++ drop m made
later n m made l =
    let e : n + (m - n) ≡ m = omega arith in
    sym (take-append-drop (m - n) (drop n made)) ∙ ap (λ fs. take (m - n) (drop n made) ++ fs) (drop-drop (m - n) n made ∙ ap (λ k. drop k made) e)

-- what is kept from some place on begins with what is there before a later one
still_kept : (n m : ℕ) (made further : List Frame) → n ≤ m → m ≤ length made → (frames : List Frame) → frames ≡ drop n made ++ further → frames ≡ take (m - n) frames ++ (drop m made ++ further)
still_kept n m made further l k frames e =
    let short : m - n ≤ length (drop n made) = omega (arith, length-drop n made) in
    let front : take (m - n) frames ≡ take (m - n) (drop n made) = ap (take (m - n)) e ∙ take-append-le (m - n) (drop n made) further short in
    e ∙ ap (λ fs. fs ++ further) (later n m made l) ∙ append_assoc (take (m - n) (drop n made)) (drop m made) further
    ∙ ap (λ fs. fs ++ (drop m made ++ further)) (sym front)

keeps_rest : {token other : List ℕ} {reader writer : SideRecord} (r : Wire other reader) (w : Wire token writer)
    → Both token other writer.made reader.made r.seen w.seen → KeepsRest writer reader
keeps_rest {token} {other} {reader} {writer} r w b =
    let known : writer.acknowledged ≤ reader.accepted = omega (arith, told_accepted b w.bound, accepted_at_most r.sees w.bound, r.accepted, w.acknowledged) in
    let count : reader.accepted ≤ length writer.made = omega (arith, IsFront_length (accepted_begin b r.bound), r.accepted) in
    record {
      known = known;
      keeps = record { further = []; kept_is = sym (append-nil (drop writer.acknowledged writer.made)); none = λ e. refl };
      unaccepted = λ failed frames k. still_kept writer.acknowledged reader.accepted writer.made k.further known count frames k.kept_is;
    }

pub each_once : EachOnce
each_once token other near far n f a = (accepted_first f n (both f n a.up a.down), accepted_first n f (both n f a.down a.up))

pub none_lost : NoneLost
none_lost token other near far n f a = (keeps_rest f n (both f n a.up a.down), keeps_rest n f (both n f a.down a.up))

-- ---- where all is known to be accepted

all_accepted : {reader writer : SideRecord} → AcceptedFirst reader writer → KeepsRest writer reader → writer.acknowledged ≡ length writer.made → Accepts reader writer.made
all_accepted {reader} {writer} first rest e =
    let all : reader.accepted ≡ length writer.made = omega (arith, first.count, rest.known) in
    subst (λ (fs : List Frame). Accepts reader fs) (take_all reader.accepted writer.made (omega arith)) first.accepts

pub drained_has_all : DrainedHasAll
drained_has_all token other near far n f a d =
    let first : AcceptedFirst far near × AcceptedFirst near far = each_once token other near far n f a in
    let rest : KeepsRest near far × KeepsRest far near = none_lost token other near far n f a in
    (all_accepted first.0 rest.0 d.near_known, all_accepted first.1 rest.1 d.far_known)
