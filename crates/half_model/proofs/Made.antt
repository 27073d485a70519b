-- The frames that a side makes along a story: all in the grammar and counted, in short groups, and CLOSE last.
use Rattle.std.proofs.Common.{◌≡◌, true, false, List, [], ◌∷◌, ◌++◌, Option, Some, None, refl, sym, ◌∙◌, subst, arith}
use Rattle.std.proofs.lemmas.Bool.{false≢true, or_parts}
use Rattle.std.specs.Option.{MatchOption}
use Rattle.wp_outside.specs.declared.kinds.Side.{Side}
use Rattle.transfer_frames.specs.declared.frame.Frame.{Frame}
use Rattle.transfer_frames.specs.declared.frame.Frame.TheVariants.{Protocol, Inject, OpenFile, ExtendFile, Fill, OpenPipe, PipeTransfer, PipeShutR, PipeShutW, Ack, Restart, Close}
use Rattle.transfer_frames.specs.Grammar.{role}
use Rattle.pair_model.specs.LinkFaults.{is_close, has_closed, ClosesLast}
use Rattle.pair_model.specs.Rows.{is_counted}
use Rattle.half_model.specs.declared.notes.CopyRecord.{CopyRecord}
use Rattle.half_model.specs.Content.{Taking}
use Rattle.half_model.specs.Group.{Owed}
use Rattle.half_model.specs.Log.{Mark, Taken, Heard, Grouped, Dropped, LogState, log_new, is_lone, IsLone, MayMake, after_lone, after_group, log_next, Logs}
use Rattle.half_model.specs.Story.{made_in}
use Rattle.half_model.specs.StoryLaws.{now, AreGood, MadeIsGood, IsFit, GroupsFit, SizesAreBounded}
use Rattle.half_model.specs.Tables.{Tables}
use Rattle.half_model.proofs.Frames.{good_append}
use Rattle.half_model.proofs.Owing.{OwedGood, group_fits}
use Rattle.half_model.proofs.Sound.{Sound, sound_next, sound_new, sound_now}

-- ---- one group

lone_counted : (tables : Tables) (taking : Taking) (frame : Frame) → is_lone tables taking frame ≡ true → is_counted (role frame) ≡ true
lone_counted tables taking (Close reason) e = refl
lone_counted tables taking (PipeTransfer rid bytes) e = refl
lone_counted tables taking (PipeShutR rid) e = refl
lone_counted tables taking (PipeShutW rid) e = refl
lone_counted tables taking _ e = absurd (false≢true e)

lone_good : (s : LogState) (frame : Frame) → IsLone s frame → AreGood (frame ∷ [])
lone_good s frame h = record { are_frames = (h.is_frame, tt); count = (lone_counted s.tables s.taking frame h.may, tt) }

fits : (side : Side) (s : LogState) (owes : Option Owed) (frames : List Frame) (copies : List CopyRecord)
    → MatchOption owes (Unit {0}) OwedGood → MayMake s owes frames copies → IsFit owes frames
fits side s (Some owed) frames copies good may = group_fits owed copies frames good may
fits side s None [] copies good may = absurd may
fits side s None (frame ∷ []) copies good may =
    record { short = omega arith; good = lone_good s frame may.1; goes_on = λ some. absurd (false≢true some) }
fits side s None (frame ∷ next ∷ frames) copies good may = absurd may

pub groups_fit : GroupsFit
groups_fit side story frames copies logs may =
    let sound = sound_now side story logs in
    fits side (now side story) (now side story).owes frames copies sound.owes may

-- ---- all that is made

good_from : (side : Side) (s : LogState) (story : List Mark) → Sound side s → Logs s story → AreGood (made_in story)
good_from side s [] h logs = record { are_frames = tt; count = tt }
good_from side s (Taken message handle segments ∷ story) h logs =
    good_from side (log_next s (Taken message handle segments)) story (sound_next side s (Taken message handle segments) h logs.0) logs.1
good_from side s (Heard frame ∷ story) h logs = good_from side (log_next s (Heard frame)) story (sound_next side s (Heard frame) h logs.0) logs.1
good_from side s (Dropped rid ∷ story) h logs = good_from side (log_next s (Dropped rid)) story (sound_next side s (Dropped rid) h logs.0) logs.1
good_from side s (Grouped frames copies ∷ story) h logs =
    let fit = fits side s s.owes frames copies h.owes logs.0 in
    good_append frames (made_in story) fit.good (good_from side (log_next s (Grouped frames copies)) story (sound_next side s (Grouped frames copies) h logs.0) logs.1)

-- ---- CLOSE is last

closes_append : (xs ys : List Frame) → has_closed xs ≡ false → ClosesLast ys → ClosesLast (xs ++ ys)
closes_append [] ys h k = k
closes_append (x ∷ []) [] h k = tt
closes_append (x ∷ []) (y ∷ ys) h k = ((or_parts (is_close (role x)) false h).0, k)
closes_append (x ∷ next ∷ xs) ys h k =
    let both = or_parts (is_close (role x)) (has_closed (next ∷ xs)) h in
    (both.0, closes_append (next ∷ xs) ys both.1 k)

-- once CLOSE is made no frame is
none_made : (s : LogState) (owes : Option Owed) (frames : List Frame) (copies : List CopyRecord) → owes ≡ None → s.closed ≡ true → MayMake s owes frames copies → ⊥
none_made s (Some owed) frames copies none closed may = absurd cc
none_made s None [] copies none closed may = may
none_made s None (frame ∷ []) copies none closed may = absurd (false≢true (sym may.1.goes_on ∙ closed))
none_made s None (frame ∷ next ∷ frames) copies none closed may = may

made_closed : (side : Side) (s : LogState) (story : List Mark) → Sound side s → s.closed ≡ true → Logs s story → made_in story ≡ []
made_closed side s [] h closed logs = refl
made_closed side s (Taken message handle segments ∷ story) h closed logs = absurd (false≢true (sym logs.0.goes_on ∙ closed))
made_closed side s (Heard frame ∷ story) h closed logs = made_closed side (log_next s (Heard frame)) story (sound_next side s (Heard frame) h logs.0) closed logs.1
made_closed side s (Dropped rid ∷ story) h closed logs = made_closed side (log_next s (Dropped rid)) story (sound_next side s (Dropped rid) h logs.0) closed logs.1
made_closed side s (Grouped frames copies ∷ story) h closed logs = absurd (none_made s s.owes frames copies (h.still closed) closed logs.0)

closes_alone : (frame : Frame) (frames : List Frame) → frames ≡ [] → ClosesLast (frame ∷ frames)
closes_alone frame [] e = tt
closes_alone frame (next ∷ frames) e = absurd cc

-- a group, and then what is made behind it
closes_group : (side : Side) (s : LogState) (owes : Option Owed) (frames : List Frame) (copies : List CopyRecord) (later : List Mark)
    → s.owes ≡ owes → Sound side s → MayMake s owes frames copies
    → Sound side (after_group s owes frames) → Logs (after_group s owes frames) later → ClosesLast (made_in later) → ClosesLast (frames ++ made_in later)
closes_group side s (Some owed) frames copies later is h may after logs rest =
    let P : Option Owed → Type 0 = λ o. MatchOption o (Unit {0}) OwedGood in
    let good : OwedGood owed = subst P is h.owes in
    closes_append frames (made_in later) ((group_fits owed copies frames good may).goes_on refl) rest
closes_group side s None [] copies later is h may after logs rest = absurd may
closes_group side s None (frame ∷ next ∷ frames) copies later is h may after logs rest = absurd may
closes_group side s None (Close reason ∷ []) copies later is h may after logs rest =
    closes_alone (Close reason) (made_in later) (made_closed side (after_lone s (Close reason)) later after refl logs)
closes_group side s None (Protocol bytes ∷ []) copies later is h may after logs rest = closes_append (Protocol bytes ∷ []) (made_in later) refl rest
closes_group side s None (Inject rids ∷ []) copies later is h may after logs rest = closes_append (Inject rids ∷ []) (made_in later) refl rest
closes_group side s None (OpenFile rid size ∷ []) copies later is h may after logs rest = closes_append (OpenFile rid size ∷ []) (made_in later) refl rest
closes_group side s None (ExtendFile rid size ∷ []) copies later is h may after logs rest = closes_append (ExtendFile rid size ∷ []) (made_in later) refl rest
closes_group side s None (Fill rid start end bytes ∷ []) copies later is h may after logs rest = closes_append (Fill rid start end bytes ∷ []) (made_in later) refl rest
closes_group side s None (OpenPipe rid ∷ []) copies later is h may after logs rest = closes_append (OpenPipe rid ∷ []) (made_in later) refl rest
closes_group side s None (PipeTransfer rid bytes ∷ []) copies later is h may after logs rest = closes_append (PipeTransfer rid bytes ∷ []) (made_in later) refl rest
closes_group side s None (PipeShutR rid ∷ []) copies later is h may after logs rest = closes_append (PipeShutR rid ∷ []) (made_in later) refl rest
closes_group side s None (PipeShutW rid ∷ []) copies later is h may after logs rest = closes_append (PipeShutW rid ∷ []) (made_in later) refl rest
closes_group side s None (Ack count ∷ []) copies later is h may after logs rest = closes_append (Ack count ∷ []) (made_in later) refl rest
closes_group side s None (Restart token connection received ∷ []) copies later is h may after logs rest =
    closes_append (Restart token connection received ∷ []) (made_in later) refl rest

closes_from : (side : Side) (s : LogState) (story : List Mark) → Sound side s → Logs s story → ClosesLast (made_in story)
closes_from side s [] h logs = tt
closes_from side s (Taken message handle segments ∷ story) h logs =
    closes_from side (log_next s (Taken message handle segments)) story (sound_next side s (Taken message handle segments) h logs.0) logs.1
closes_from side s (Heard frame ∷ story) h logs = closes_from side (log_next s (Heard frame)) story (sound_next side s (Heard frame) h logs.0) logs.1
closes_from side s (Dropped rid ∷ story) h logs = closes_from side (log_next s (Dropped rid)) story (sound_next side s (Dropped rid) h logs.0) logs.1
closes_from side s (Grouped frames copies ∷ story) h logs =
    let next = sound_next side s (Grouped frames copies) h logs.0 in
    closes_group side s s.owes frames copies story refl h logs.0 next logs.1 (closes_from side (log_next s (Grouped frames copies)) story next logs.1)

pub made_is_good : MadeIsGood
made_is_good = record {
  good = λ side story logs. good_from side (log_new side) story (sound_new side) logs;
  last = λ side story logs. closes_from side (log_new side) story (sound_new side) logs;
}

pub sizes_are_bounded : SizesAreBounded
sizes_are_bounded = record {
  each = λ side story logs. (sound_now side story logs).tables.1.sizes.each;
  sum = λ side story logs. (sound_now side story logs).tables.1.sizes.sum;
}
