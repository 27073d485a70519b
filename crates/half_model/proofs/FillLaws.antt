-- The bytes of all fills that a side makes are those of the words of all its copies.
use Rattle.std.proofs.Common.{◌≡◌, ℕ, true, List, [], ◌∷◌, ◌++◌, flat_map, Option, Some, None, refl, sym, ap, ◌∙◌, append-nil}
use Rattle.std.proofs.lemmas.Bool.{false≢true}
use Rattle.std.proofs.lemmas.Grind.{flat_map-append}
use Rattle.std.specs.Option.{MatchOption}
use Rattle.wp_outside.specs.declared.kinds.Side.{Side}
use Rattle.transfer_frames.specs.declared.frame.Frame.{Frame}
use Rattle.transfer_frames.specs.declared.frame.Frame.TheVariants.{PipeTransfer, PipeShutR, PipeShutW, Close}
use Rattle.transfer_frames.specs.Numbers.{long_bytes}
use Rattle.half_model.specs.declared.notes.CopyRecord.{CopyRecord}
use Rattle.half_model.specs.Content.{Taking}
use Rattle.half_model.specs.Filling.{words_bytes, fills, ending}
use Rattle.half_model.specs.Group.{Owed, IsGroup, words_in}
use Rattle.half_model.specs.Log.{Mark, Taken, Heard, Grouped, Dropped, LogState, log_new, is_lone, MayMake, log_next, Logs}
use Rattle.half_model.specs.Story.{made_in, copies_in}
use Rattle.half_model.specs.StoryLaws.{filled_by, FillsAreCopies}
use Rattle.half_model.specs.Tables.{Tables}
use Rattle.half_model.proofs.Copies.{copied_bytes, filled-fills}
use Rattle.half_model.proofs.Owing.{OwedGood}
use Rattle.half_model.proofs.Sound.{Sound, sound_next, sound_new}

lone_unfilled : (tables : Tables) (taking : Taking) (frame : Frame) → is_lone tables taking frame ≡ true → filled_by frame ≡ []
lone_unfilled tables taking (Close reason) e = refl
lone_unfilled tables taking (PipeTransfer rid bytes) e = refl
lone_unfilled tables taking (PipeShutR rid) e = refl
lone_unfilled tables taking (PipeShutW rid) e = refl
lone_unfilled tables taking _ e = absurd (false≢true e)

ending_unfilled : (shown : Option (List ℕ)) → flat_map filled_by (ending shown) ≡ []
ending_unfilled None = refl
ending_unfilled (Some message) = refl

group_filled : (owed : Owed) (copies : List CopyRecord) (frames : List Frame) → OwedGood owed → IsGroup owed copies frames
    → flat_map filled_by frames ≡ words_bytes (words_in copies)
group_filled owed copies frames good group =
    let bytes : List ℕ = words_bytes (words_in copies) in
    let len = copied_bytes owed copies good.high good.ascend good.covered group.are_parts in
    ap (flat_map filled_by) group.is
    ∙ flat_map-append filled_by owed.before (fills owed.rid owed.pieces bytes ++ ending owed.shown)
    ∙ ap (λ (xs : List ℕ). xs ++ flat_map filled_by (fills owed.rid owed.pieces bytes ++ ending owed.shown)) good.unfilled
    ∙ flat_map-append filled_by (fills owed.rid owed.pieces bytes) (ending owed.shown)
    ∙ ap (λ (xs : List ℕ). flat_map filled_by (fills owed.rid owed.pieces bytes) ++ xs) (ending_unfilled owed.shown)
    ∙ append-nil (flat_map filled_by (fills owed.rid owed.pieces bytes))
    ∙ filled-fills owed.rid owed.pieces bytes len

filled_once : (s : LogState) (owes : Option Owed) (frames : List Frame) (copies : List CopyRecord)
    → MatchOption owes (Unit {0}) OwedGood → MayMake s owes frames copies → flat_map filled_by frames ≡ words_bytes (words_in copies)
filled_once s (Some owed) frames copies good may = group_filled owed copies frames good may
filled_once s None [] copies good may = absurd may
filled_once s None (frame ∷ []) copies good may =
    ap (λ (xs : List ℕ). xs ++ []) (lone_unfilled s.tables s.taking frame may.1.may) ∙ ap (λ (cs : List CopyRecord). words_bytes (words_in cs)) (sym may.0)
filled_once s None (frame ∷ next ∷ frames) copies good may = absurd may

copies_bytes : (xs ys : List CopyRecord) → words_bytes (words_in (xs ++ ys)) ≡ words_bytes (words_in xs) ++ words_bytes (words_in ys)
copies_bytes xs ys = ap words_bytes (flat_map-append (λ (copy : CopyRecord). copy.words) xs ys) ∙ flat_map-append long_bytes (words_in xs) (words_in ys)

filled_from : (side : Side) (s : LogState) (story : List Mark) → Sound side s → Logs s story
    → flat_map filled_by (made_in story) ≡ words_bytes (words_in (copies_in story))
filled_from side s [] h logs = refl
filled_from side s (Taken message handle segments ∷ story) h logs =
    filled_from side (log_next s (Taken message handle segments)) story (sound_next side s (Taken message handle segments) h logs.0) logs.1
filled_from side s (Heard frame ∷ story) h logs = filled_from side (log_next s (Heard frame)) story (sound_next side s (Heard frame) h logs.0) logs.1
filled_from side s (Dropped rid ∷ story) h logs = filled_from side (log_next s (Dropped rid)) story (sound_next side s (Dropped rid) h logs.0) logs.1
filled_from side s (Grouped frames copies ∷ story) h logs =
    let rest = filled_from side (log_next s (Grouped frames copies)) story (sound_next side s (Grouped frames copies) h logs.0) logs.1 in
    flat_map-append filled_by frames (made_in story)
    ∙ ap (λ (xs : List ℕ). xs ++ flat_map filled_by (made_in story)) (filled_once s s.owes frames copies h.owes logs.0)
    ∙ ap (λ (xs : List ℕ). words_bytes (words_in copies) ++ xs) rest
    ∙ sym (copies_bytes copies (copies_in story))

pub fills_are_copies : FillsAreCopies
fills_are_copies side story logs = filled_from side (log_new side) story (sound_new side) logs
