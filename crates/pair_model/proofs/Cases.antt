-- One rest still to be written, and the three cases, mean the same.
use Rattle.std.proofs.Common.{◌≡◌, ℕ, ◌<◌, ◌≤◌, List, [], ◌∷◌, ◌++◌, Option, Some, None, false, max, drop, length, refl, sym, ap, subst, ◌∙◌, arith, append_assoc, length-append, inl, inr, ◌⊎◌}
use Rattle.std.proofs.lemmas.Bool.{cases_lt}
use Rattle.std.proofs.lemmas.List.{append-nil, append_cancel_left}
use Rattle.std.proofs.lemmas.List.Elements.{filter-append, filter_map-append}
use Rattle.std.specs.List.{AllByRecursion}
use Rattle.std.specs.Option.{MatchOption}
use Rattle.plain_lists.specs.Fronts.{IsFront}
use Rattle.plain_lists.proofs.FrontLemmas.{IsFront_longer, IsFront_trans}
use Rattle.transfer_frames.specs.declared.frame.Frame.{Frame}
use Rattle.transfer_frames.specs.declared.frame.Frame.TheVariants.{Restart}
use Rattle.transfer_frames.specs.Grammar.{IsFrame, spelling, role}
use Rattle.pair_model.specs.Rows.{spellings, counted, acks, told, reply, NoGreeting, Rise, is_counted, is_greeting, ack_in}
use Rattle.pair_model.specs.Order.{told_before, Within, InTime}
use Rattle.pair_model.specs.Wire.{Wrote}
use Rattle.pair_model.specs.Cases.{MayFollow, PartOf, IsRest, Whole, ByCases}
use Rattle.pair_model.specs.Laws.{SameByCases}
use Rattle.pair_model.proofs.Orders.{told_before-append, within_front, none_early}
use Rattle.pair_model.proofs.Came.{nothing_sent, no_bytes}
use Rattle.pair_model.proofs.Passing.{spellings_push}

-- ---- from the front of a row of frames to the cases

-- some bytes of the first of these frames, not all
record Part (after : List Frame) (rest : List ℕ) : Type 0 where
  frame : Frame
  frames : List Frame
  more : List ℕ
  after_is : after ≡ frame ∷ frames
  bytes : rest ++ more ≡ spelling frame
  proper : 0 < length more

record Cut (row : List Frame) (written : List ℕ) : Type 0 where
  before : List Frame
  after : List Frame
  rest : List ℕ
  row_is : row ≡ before ++ after
  bytes : written ≡ spellings before ++ rest
  ends : (rest ≡ []) ⊎ Part after rest

part_first : (f : Frame) (fs : List Frame) (written left : List ℕ) → written ++ left ≡ spelling f ++ spellings fs → length written < length (spelling f) → Cut (f ∷ fs) written
part_first f fs written left e l =
    let b : IsFront written (spelling f) = IsFront_longer (spelling f) written (spellings fs) left (sym e) (omega arith) in
    record {
      before = [];
      after = f ∷ fs;
      rest = written;
      row_is = refl;
      bytes = refl;
      ends = inr (record { frame = f; frames = fs; more = b.rest; after_is = refl; bytes = b.is; proper = omega (arith, length-append written b.rest, ap length b.is) });
    }

-- what is behind the first frame
behind : (f : Frame) (x : List ℕ) (written left : List ℕ) → written ++ left ≡ spelling f ++ x → (b : IsFront (spelling f) written) → b.rest ++ left ≡ x
behind f x written left e b =
    append_cancel_left (spelling f) (b.rest ++ left) x (sym (append_assoc (spelling f) b.rest left) ∙ ap (λ bytes. bytes ++ left) b.is ∙ e)

cut_more : (f : Frame) (fs : List Frame) (written : List ℕ) (b : IsFront (spelling f) written) → Cut fs b.rest → Cut (f ∷ fs) written
cut_more f fs written b c = record {
  before = f ∷ c.before;
  after = c.after;
  rest = c.rest;
  row_is = ap (λ ks. f ∷ ks) c.row_is;
  bytes = sym b.is ∙ ap (λ bytes. spelling f ++ bytes) c.bytes ∙ sym (append_assoc (spelling f) (spellings c.before) c.rest);
  ends = c.ends;
}

cut_row : (row : List Frame) (written left : List ℕ) → written ++ left ≡ spellings row → Cut row written
cut_row [] written left e = record { before = []; after = []; rest = written; row_is = refl; bytes = refl; ends = inl (no_bytes written left e) }
cut_row (f ∷ fs) written left e = go (cases_lt (length written) (length (spelling f))) (λ w l k. cut_row fs w l k)
  where
    go : (length written < length (spelling f)) ⊎ (length (spelling f) ≤ length written) → ((w l : List ℕ) → w ++ l ≡ spellings fs → Cut fs w) → Cut (f ∷ fs) written
    go (inl short) again = part_first f fs written left e short
    go (inr long) again =
        let b : IsFront (spelling f) written = IsFront_longer written (spelling f) left (spellings fs) e long in
        cut_more f fs written b (again b.rest left (behind f (spellings fs) written left e b))

-- ---- what may follow, by its front

all_front : (P : Frame → Type 0) (xs ys : List Frame) → AllByRecursion P (xs ++ ys) → AllByRecursion P xs
all_front P [] ys h = tt
all_front P (x ∷ xs) ys h = (h.0, all_front P xs ys h.1)

rise_front : (low high : ℕ) (xs ys : List ℕ) → Rise low (xs ++ ys) high → Rise low xs high
rise_front low high [] ys h = tt
rise_front low high (x ∷ xs) ys h = (h.0, h.1, rise_front x high xs ys h.2)

order_front : (answer : Option ℕ) (made xs ys : List Frame) → MatchOption answer (xs ++ ys ≡ []) (λ p. IsFront (counted (xs ++ ys)) (drop p made)) → MatchOption answer (xs ≡ []) (λ p. IsFront (counted xs) (drop p made))
order_front None made [] ys h = refl
order_front None made (x ∷ xs) ys h = cc
order_front (Some p) made xs ys h =
    let front : IsFront (counted xs) (counted (xs ++ ys)) = record { rest = counted ys; is = sym (filter-append (λ frame. is_counted (role frame)) xs ys) } in
    IsFront_trans front h

time_front : (answer : Option ℕ) (due : List ℕ) (received : ℕ) (xs ys : List Frame) → MatchOption answer (Unit {0}) (λ p. InTime due received p (xs ++ ys)) → MatchOption answer (Unit {0}) (λ p. InTime due received p xs)
time_front None due received xs ys h = tt
time_front (Some p) due received xs ys h =
    within_front (λ count taken_after. taken_after ≤ count) (told_before received xs) (told_before (max received (told xs)) ys) (drop p due)
    (subst (λ (counts : List ℕ). Within (λ count taken_after. taken_after ≤ count) counts (drop p due)) (told_before-append received xs ys) h)

may_front : {received upto : ℕ} {made : List Frame} {due : List ℕ} {seen : List Frame} (xs ys sent : List Frame) → sent ≡ xs ++ ys → MayFollow received upto made due seen sent → MayFollow received upto made due seen xs
may_front {received} {upto} {made} {due} {seen} xs ys sent e h = record {
  frames = all_front IsFrame xs ys (subst (λ (fs : List Frame). AllByRecursion IsFrame fs) e h.frames);
  greets = all_front (λ frame. is_greeting (role frame) ≡ false) xs ys (subst (λ (fs : List Frame). NoGreeting fs) e h.greets);
  order = order_front (reply seen) made xs ys (subst (λ (fs : List Frame). MatchOption (reply seen) (fs ≡ []) (λ p. IsFront (counted fs) (drop p made))) e h.order);
  tells = rise_front received upto (acks xs) (acks ys) (subst (λ (counts : List ℕ). Rise received counts upto) (ap acks e ∙ filter_map-append (λ frame. ack_in (role frame)) xs ys) h.tells);
  in_time = time_front (reply seen) due received xs ys (subst (λ (fs : List Frame). MatchOption (reply seen) (Unit {0}) (λ p. InTime due received p fs)) e h.in_time);
}

to_part : {received upto : ℕ} {made : List Frame} {due : List ℕ} {seen sent : List Frame} (before after : List Frame) (rest : List ℕ) → sent ≡ before ++ after → MayFollow received upto made due seen sent → Part after rest → PartOf received upto made due seen before rest
to_part {received} {upto} {made} {due} {seen} {sent} before after rest e h p = record {
  frame = p.frame;
  more = p.more;
  bytes = p.bytes;
  proper = p.proper;
  follows = may_front (before ++ p.frame ∷ []) p.frames sent (e ∙ ap (λ fs. before ++ fs) p.after_is ∙ sym (append_assoc before (p.frame ∷ []) p.frames)) h;
}

to_cases : (token : List ℕ) (connection received upto : ℕ) (made : List Frame) (due : List ℕ) (seen : List Frame) (written : List ℕ) → Wrote token connection received upto made due seen written → ByCases token connection received upto made due seen written
to_cases token connection received upto made due seen written w = record { greeting = w.frames.0; cases = go (cases_lt (length written) (length (spelling greeting))) }
  where
    greeting : Frame
    greeting = Restart token connection received

    may : MayFollow received upto made due seen w.sent
    may = record { frames = w.frames.1; greets = w.greets; order = w.order; tells = w.tells; in_time = w.in_time }

    go : (length written < length (spelling greeting)) ⊎ (length (spelling greeting) ≤ length written) → IsFront written (spelling greeting) ⊎ Whole (spelling greeting) received upto made due seen written
    go (inl short) = inl (IsFront_longer (spelling greeting) written (spellings w.sent) w.left (sym w.bytes) (omega arith))
    go (inr long) =
        let b : IsFront (spelling greeting) written = IsFront_longer written (spelling greeting) w.left (spellings w.sent) w.bytes long in
        let c : Cut w.sent b.rest = cut_row w.sent b.rest w.left (behind greeting (spellings w.sent) written w.left w.bytes b) in
        inr (record {
          sent = c.before;
          rest = c.rest;
          bytes = sym b.is ∙ ap (λ bytes. spelling greeting ++ bytes) c.bytes;
          follows = may_front c.before c.after w.sent c.row_is may;
          ends = elim c.ends [ inl none ↦ inl none | inr p ↦ inr (to_part c.before c.after c.rest c.row_is may p) ];
        })

-- ---- from the cases to a front of a row

from_greeting : (token : List ℕ) (connection received upto : ℕ) (made : List Frame) (due : List ℕ) (seen : List Frame) (written : List ℕ) → IsFrame (Restart token connection received) → IsFront written (spelling (Restart token connection received))
    → Wrote token connection received upto made due seen written
from_greeting token connection received upto made due seen written h b = record {
  sent = [];
  left = b.rest;
  bytes = b.is ∙ sym (append-nil (spelling (Restart token connection received)));
  frames = (h, tt);
  greets = tt;
  order = nothing_sent (reply seen) made;
  tells = tt;
  in_time = none_early (reply seen) due received;
}

from_whole : (token : List ℕ) (connection received upto : ℕ) (made : List Frame) (due : List ℕ) (seen : List Frame) (written : List ℕ) → IsFrame (Restart token connection received)
    → Whole (spelling (Restart token connection received)) received upto made due seen written → Wrote token connection received upto made due seen written
from_whole token connection received upto made due seen written h w = go w.ends
  where
    greeting : Frame
    greeting = Restart token connection received

    go : IsRest received upto made due seen w.sent w.rest → Wrote token connection received upto made due seen written
    go (inl none) = record {
      sent = w.sent;
      left = [];
      bytes = append-nil written ∙ w.bytes ∙ ap (λ bytes. spelling greeting ++ bytes) (ap (λ rest. spellings w.sent ++ rest) none ∙ append-nil (spellings w.sent));
      frames = (h, w.follows.frames);
      greets = w.follows.greets;
      order = w.follows.order;
      tells = w.follows.tells;
      in_time = w.follows.in_time;
    }
    go (inr p) = record {
      sent = w.sent ++ p.frame ∷ [];
      left = p.more;
      bytes = ap (λ bytes. bytes ++ p.more) w.bytes ∙ append_assoc (spelling greeting) (spellings w.sent ++ w.rest) p.more
          ∙ ap (λ bytes. spelling greeting ++ bytes) (append_assoc (spellings w.sent) w.rest p.more ∙ ap (λ bytes. spellings w.sent ++ bytes) (p.bytes ∙ sym (append-nil (spelling p.frame)))
          ∙ spellings_push w.sent p.frame [] ∙ append-nil (spellings (w.sent ++ p.frame ∷ [])));
      frames = (h, p.follows.frames);
      greets = p.follows.greets;
      order = p.follows.order;
      tells = p.follows.tells;
      in_time = p.follows.in_time;
    }

pub same_by_cases : SameByCases
same_by_cases token connection received upto made due seen written = (
  to_cases token connection received upto made due seen written,
  λ c. elim c.cases [ inl b ↦ from_greeting token connection received upto made due seen written c.greeting b | inr w ↦ from_whole token connection received upto made due seen written c.greeting w ],
)
