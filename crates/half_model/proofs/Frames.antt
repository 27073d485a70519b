-- The frames of a message are in the grammar, counted, and few.
use Rattle.std.proofs.Common.{◌≡◌, ℕ, ◌+◌, ◌-◌, ◌*◌, ◌<◌, ◌≤◌, false, List, [], ◌∷◌, ◌++◌, length, take, drop, All, ℤ, pos, negsuc, Option, Some, None, refl, sym, ap, ◌∙◌, arith, length-drop}
use Rattle.std.proofs.lemmas.Bool.{or_parts, or_from}
use Rattle.std.proofs.lemmas.List.{append-nil, length-take-le}
use Rattle.std.proofs.lemmas.List.Elements.{All-cons, All-nil}
use Rattle.std.proofs.lemmas.Int.{fits_signed_from_abs}
use Rattle.std.specs.Int.{w32}
use Rattle.std.specs.List.{AllByRecursion}
use Rattle.std.specs.Option.{MatchOption}
use Rattle.block_intervals.specs.declared.run.Run.{Run}
use Rattle.wl_wire.specs.Wire.{IsMessage, cut_rest}
use Rattle.wl_wire.proofs.CuttingLaws.{joined-cuts}
use Rattle.wp_outside.specs.declared.kinds.Side.{Side}
use Rattle.wp_outside.specs.declared.kinds.Side.TheVariants.{Near, Far}
use Rattle.handle_table.specs.Table.{most_handles, rid_at}
use Rattle.transfer_frames.specs.declared.frame.Frame.{Frame}
use Rattle.transfer_frames.specs.declared.frame.Frame.TheVariants.{Protocol, Inject, OpenFile, ExtendFile, Fill, OpenPipe, PipeTransfer, PipeShutR, PipeShutW}
use Rattle.transfer_frames.specs.declared.frame.TheConstants.{LARGEST_FRAME}
use Rattle.transfer_frames.specs.Grammar.{IsFrame, HasFields, role, body_length}
use Rattle.transfer_frames.specs.Numbers.{IsRid, IsWord}
use Rattle.transfer_frames.proofs.BodyLaws.{body_length_is}
use Rattle.pair_model.specs.LinkFaults.{is_close, has_closed}
use Rattle.half_model.specs.Filling.{fills, ending, Ascends}
use Rattle.half_model.specs.StoryLaws.{AreGood}
use Rattle.half_model.proofs.Pieces.{AreShort, blocks_in}

-- frames of the grammar, all counted, of which none is CLOSE
pub record GoOn (frames : List Frame) : Type 0 where
  pub good : AreGood frames
  pub goes_on : has_closed frames ≡ false

pub no_frames : GoOn []
no_frames = record { good = record { are_frames = tt; count = tt }; goes_on = refl }

pub all_append : {X : Type 0} (P : X → Type 0) (xs ys : List X) → AllByRecursion P xs → AllByRecursion P ys → AllByRecursion P (xs ++ ys)
all_append P [] ys h k = k
all_append P (x ∷ xs) ys h k = (h.0, all_append P xs ys h.1 k)

pub good_append : (xs ys : List Frame) → AreGood xs → AreGood ys → AreGood (xs ++ ys)
good_append xs ys h k = record {
  are_frames = all_append IsFrame xs ys h.are_frames k.are_frames;
  count = all_append _ xs ys h.count k.count;
}

open_append : (xs ys : List Frame) → has_closed xs ≡ false → has_closed ys ≡ false → has_closed (xs ++ ys) ≡ false
open_append [] ys h k = k
open_append (x ∷ xs) ys h k =
    let both = or_parts (is_close (role x)) (has_closed xs) h in
    or_from (is_close (role x)) (has_closed (xs ++ ys)) both.0 (open_append xs ys both.1 k)

pub on_append : (xs ys : List Frame) → GoOn xs → GoOn ys → GoOn (xs ++ ys)
on_append xs ys h k = record { good = good_append xs ys h.good k.good; goes_on = open_append xs ys h.goes_on k.goes_on }

-- ---- one frame

one_frame : (frame : Frame) → HasFields frame → 4 + body_length frame ≤ LARGEST_FRAME → IsFrame frame
one_frame frame fields few =
    let len = body_length_is frame fields in
    record { fields = fields; fits = omega (arith, few, len) }

pub rid-rid_at : (side : Side) (place : ℕ) → place < most_handles → IsRid (rid_at side place)
rid-rid_at Near place l =
    ((λ e. let n : place + 1 ≡ 0 = same_number (place + 1) 0 e in omega (arith, n)), fits_signed_from_abs w32 (pos (place + 1)) (omega arith))
  where
    same_number : (a b : ℕ) → pos a ≡ pos b → a ≡ b
    same_number a b e = cc
rid-rid_at Far place l = ((λ e. absurd cc), fits_signed_from_abs w32 (negsuc place) (omega arith))

pub open_frame : (rid : ℤ) (size : ℕ) → IsRid rid → IsWord size → GoOn (OpenFile rid size ∷ [])
open_frame rid size r w = record { good = record { are_frames = (one_frame (OpenFile rid size) (r, w) (omega arith), tt); count = (refl, tt) }; goes_on = refl }

pub extend_frame : (rid : ℤ) (size : ℕ) → IsRid rid → IsWord size → GoOn (ExtendFile rid size ∷ [])
extend_frame rid size r w = record { good = record { are_frames = (one_frame (ExtendFile rid size) (r, w) (omega arith), tt); count = (refl, tt) }; goes_on = refl }

pub pipe_frame : (rid : ℤ) → IsRid rid → GoOn (OpenPipe rid ∷ [])
pipe_frame rid r = record { good = record { are_frames = (one_frame (OpenPipe rid) r (omega arith), tt); count = (refl, tt) }; goes_on = refl }

pub inject_frame : (rid : ℤ) → IsRid rid → GoOn (Inject (rid ∷ []) ∷ [])
inject_frame rid r =
    record { good = record { are_frames = (one_frame (Inject (rid ∷ [])) (omega arith, (r, tt)) (omega arith), tt); count = (refl, tt) }; goes_on = refl }

pub pipe_transfer_frame : (rid : ℤ) (bytes : List ℕ) → IsRid rid → 1 ≤ length bytes → length bytes ≤ 65536 → IsFrame (PipeTransfer rid bytes)
pipe_transfer_frame rid bytes r l m = one_frame (PipeTransfer rid bytes) (r, l, m) (omega (arith, m))

pub pipe_shut_r_frame : (rid : ℤ) → IsRid rid → IsFrame (PipeShutR rid)
pipe_shut_r_frame rid r = one_frame (PipeShutR rid) r (omega arith)

pub pipe_shut_w_frame : (rid : ℤ) → IsRid rid → IsFrame (PipeShutW rid)
pipe_shut_w_frame rid r = one_frame (PipeShutW rid) r (omega arith)

message_frame : (message : List ℕ) → IsMessage message → IsFrame (Protocol message)
message_frame message h =
    let one : All IsMessage (message ∷ []) = All-cons IsMessage message [] h (All-nil IsMessage) in
    let whole : cut_rest message ≡ [] = ap cut_rest (sym (append-nil message)) ∙ (joined-cuts (message ∷ []) one).1 in
    one_frame (Protocol message) (h.has_header, whole) (omega (arith, h.is_bounded))

pub ending_frames : (shown : Option (List ℕ)) → MatchOption shown (Unit {0}) IsMessage → GoOn (ending shown)
ending_frames None h = no_frames
ending_frames (Some message) h = record { good = record { are_frames = (message_frame message h, tt); count = (refl, tt) }; goes_on = refl }

-- ---- the fills

fill_frame : (rid : ℤ) (first end : ℕ) (bytes : List ℕ) → IsRid rid → first < end → end ≤ 1048576 → end ≤ first + 16383 → length bytes ≡ 64 * (end - first)
    → IsFrame (Fill rid (64 * first) (64 * end) bytes)
fill_frame rid first end bytes r l m s e =
    one_frame (Fill rid (64 * first) (64 * end) bytes) (r, omega (arith, m), (omega arith, omega arith, omega (arith, l), omega (arith, e, l))) (omega (arith, e, s))

pub fill_frames : (rid : ℤ) (low high : ℕ) (pieces : List Run) (bytes : List ℕ) → high ≤ 1048576 → Ascends low pieces high → AreShort pieces
    → (0 < length pieces → IsRid rid) → length bytes ≡ 64 * blocks_in pieces → GoOn (fills rid pieces bytes)
fill_frames rid low high [] bytes m asc short r e = no_frames
fill_frames rid low high (piece ∷ pieces) bytes m asc short r e =
    let count : ℕ = 64 * (piece.end - piece.first) in
    let enough : count ≤ length bytes = omega (arith, e) in
    let taken = length-take-le count bytes enough in
    let left = length-drop count bytes in
    let under : piece.end ≤ high = by_end piece.end pieces high asc.2 in
    let rest = fill_frames rid piece.end high pieces (drop count bytes) m asc.2 short.1 (λ some. r (omega arith)) (omega (arith, e, left)) in
    let one : IsFrame (Fill rid (64 * piece.first) (64 * piece.end) (take count bytes)) =
    fill_frame rid piece.first piece.end (take count bytes) (r (omega arith)) asc.1 (omega (arith, under, m)) short.0 (omega (arith, taken)) in
    record { good = record { are_frames = (one, rest.good.are_frames); count = (refl, rest.good.count) }; goes_on = rest.goes_on }
  where
    by_end : (low : ℕ) (pieces : List Run) (high : ℕ) → Ascends low pieces high → low ≤ high
    by_end low [] high h = h
    by_end low (piece ∷ pieces) high h = let later = by_end piece.end pieces high h.2 in omega (arith, h.0, h.1, later)

pub length-fills : (rid : ℤ) (pieces : List Run) (bytes : List ℕ) → length (fills rid pieces bytes) ≡ length pieces
length-fills rid [] bytes = refl
length-fills rid (piece ∷ pieces) bytes = let e = length-fills rid pieces (drop (64 * (piece.end - piece.first)) bytes) in omega (arith, e)
